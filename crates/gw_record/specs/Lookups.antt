-- What a recorded run answers. (Our own.)
use Rattle.std.specs.Prelude.{◌≡◌, ℕ, ◌≤◌, Option, Some, None, Ok}
use Rattle.gw_meaning.specs.Listing.{Listing}
use Rattle.gw_meaning.specs.Machine.{Machine}
use Rattle.gw_meaning.specs.Step.{run}
use Rattle.gw_record.specs.Tape.{Tape, IsStartEnd, IsKept}

-- the state at a moment, where it is kept: the run's
abbrev pub IsStateAt : Listing → ℕ → Tape → ℕ → Option Machine → Type 0
IsStateAt t seed r m None = IsKept t seed r m → ⊥
IsStateAt t seed r m (Some s) = IsKept t seed r m × (run t seed m ≡ Ok s)

-- the moment at which the k-th START was complete, if it was
abbrev pub IsEndOf : Listing → ℕ → Tape → ℕ → Option ℕ → Type 0
IsEndOf t seed r k None = (m : ℕ) (s : Machine) → 1 ≤ k → m ≤ r.moment → run t seed m ≡ Ok s → s.complete ≡ k → ⊥
IsEndOf t seed r k (Some m) = (m ≤ r.moment) × IsStartEnd t seed k m
