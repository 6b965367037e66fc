-- How far a recorded run comes on its way to the end of a START. (Our own.)
use Rattle.std.specs.Prelude.{◌≡◌, ℕ, ◌<◌, ◌≤◌, Ok, Err}
use Rattle.gw_meaning.specs.Listing.{Listing}
use Rattle.gw_meaning.specs.Machine.{Machine}
use Rattle.gw_meaning.specs.Step.{step, run}
use Rattle.gw_record.specs.declared.reach.Reach.{Reach}
use Rattle.gw_record.specs.declared.reach.Reach.TheVariants as reaches
use Rattle.gw_record.specs.Tape.{Tape}

-- what stops it: k STARTs are complete at the tip, or the run ends there, or the step limit is reached and the run goes
-- on
abbrev pub Reaches : Listing → ℕ → ℕ → Tape → Reach → Type 0
Reaches t seed k r reaches.Complete = k ≤ r.tip.complete
Reaches t seed k r (reaches.Ended end) = (r.tip.complete < k) × (step t seed r.tip ≡ Err end)
Reaches t seed k r reaches.Limit =
    (r.tip.complete < k) × (t.limit ≤ r.moment) × ((u : Machine) × (step t seed r.tip ≡ Ok u))

-- from each moment left after a step was wanted: fewer than k STARTs were complete
abbrev pub AreWanted : Listing → ℕ → ℕ → ℕ → ℕ → Type 0
AreWanted t seed k from to = (m : ℕ) (s : Machine) → from ≤ m → m < to → run t seed m ≡ Ok s → s.complete < k
