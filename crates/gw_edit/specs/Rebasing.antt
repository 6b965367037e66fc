-- The recorded run that an edit leaves: it is of the edited version, and goes as far as it went, or, where a step read
-- something touched, to the last kept moment at or before the first such step. Where that step comes before the run's
-- start, the run is lost. (Our own.)
use Rattle.std.specs.Prelude.{◌≡◌, ℕ, Some, Ok}
use Rattle.gw_meaning.specs.Listing.{Listing, seed_at}
use Rattle.gw_record.specs.Tape.{Tape, Records}
use Rattle.gw_meaning.specs.declared.edit.Edit.{Edit}
use Rattle.gw_touch.specs.Touching.{touch_of}
use Rattle.gw_touch.specs.Touched.{touched_step, IsKeptOf}
use Rattle.gw_edit.specs.Applied.{applied}

-- the run of a replication after an edit of t to u
pub record IsRebased (t : Listing) (e : Edit) (u : Listing) (replication : ℕ) (old new : Tape) : Type 0 where
  pub records : (a b : ℕ) → applied t e ≡ Ok u → seed_at t replication ≡ Some a → seed_at u replication ≡ Some b →
      Records t a old → Records u b new
  pub kept : (a : ℕ) → Records t a old → IsKeptOf t a old (touched_step (touch_of t e u replication) t a old) new.moment
  pub every : new.every ≡ old.every
  pub start : new.start ≡ old.start
