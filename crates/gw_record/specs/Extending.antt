-- What the steps that are added to a recorded run come to. (Our own.)
use Rattle.std.specs.Prelude.{◌≡◌, ◌⊎◌, ℕ, zero, suc, ◌+◌, ◌≤◌, Err}
use Rattle.gw_expr.specs.declared.halt.End.{End}
use Rattle.gw_meaning.specs.Listing.{Listing}
use Rattle.gw_meaning.specs.Machine.{raised}
use Rattle.gw_meaning.specs.Step.{step}
use Rattle.gw_scan.specs.declared.steps.Turn.{Turn}
use Rattle.gw_scan.specs.declared.steps.Turn.TheVariants as turns
use Rattle.gw_record.specs.Tape.{Tape}

-- a tally after so many steps more
abbrev pub tallied : ℕ → ℕ → ℕ
tallied old zero = old
tallied old (suc steps) = raised (tallied old steps)

-- one step further, or the run ends at the tip
abbrev pub Goes : Listing → ℕ → Turn → Tape → Tape → Type 0
Goes t seed turns.Moved old new = new.moment ≡ old.moment + 1
Goes t seed (turns.Ended end) old new = (new.moment ≡ old.moment) × (step t seed new.tip ≡ Err end)

-- the run ends at the tip
abbrev pub EndsAtTip : Listing → ℕ → Tape → Type 0
EndsAtTip t seed r = (end : End) × (step t seed r.tip ≡ Err end)

-- so many steps more: all that were wanted, or those up to the step limit or to the run's end
pub record Extends (t : Listing) (seed wanted made : ℕ) (old new : Tape) : Type 0 where
  pub moment : new.moment ≡ old.moment + made
  pub bound : made ≤ wanted
  pub whole : (made ≡ wanted) ⊎ ((new.moment ≡ t.limit) ⊎ EndsAtTip t seed new)
