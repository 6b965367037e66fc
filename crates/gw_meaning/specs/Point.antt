-- The point of START k: the first moment at which k STARTs are complete, or at which the run ends during the k-th; and
-- how the run stands there. (Our own.)
use Rattle.std.specs.Prelude.{◌≡◌, ℕ, ◌+◌, ◌<◌, ◌≤◌, Option, Some, None, Ok, Err}
use Rattle.gw_expr.specs.declared.halt.End.{End}
use Rattle.gw_expr.specs.declared.halt.End.TheVariants as ends
use Rattle.gw_meaning.specs.declared.item.Outcome.{Outcome}
use Rattle.gw_meaning.specs.declared.item.Outcome.TheVariants as outcomes
use Rattle.gw_meaning.specs.Listing.{Listing}
use Rattle.gw_meaning.specs.Machine.{Machine}
use Rattle.gw_meaning.specs.Step.{step, run}

-- how a run stands at its end, where the end comes with a START under way or in its priming
abbrev pub outcome_of : End → Option Outcome
outcome_of ends.CommandsDone = None
outcome_of ends.Horizon = Some outcomes.Horizon
outcome_of ends.Dry = Some outcomes.Dry
outcome_of (ends.Error stop) = Some (outcomes.Error stop)

-- at no moment before n are k STARTs complete
abbrev pub IsFirst : Listing → ℕ → ℕ → ℕ → Type 0
IsFirst t seed k n = (m : ℕ) (u : Machine) → m < n → run t seed m ≡ Ok u → u.complete ≡ k → ⊥

-- n is the point of START k, counted from 1, with this outcome and in this state: the first moment at which k STARTs
-- are complete, or the moment at which the run ends with one fewer complete, during the k-th
pub data IsPoint (t : Listing) (seed k n : ℕ) (o : Outcome) (s : Machine) : Type 0 where
  complete : 1 ≤ k → n ≤ t.limit → run t seed n ≡ Ok s → s.complete ≡ k → IsFirst t seed k n → o ≡ outcomes.Complete →
      IsPoint t seed k n o s
  ended : (end : End) → n ≤ t.limit → run t seed n ≡ Ok s → s.complete + 1 ≡ k → step t seed s ≡ Err end →
      outcome_of end ≡ Some o → IsPoint t seed k n o s
