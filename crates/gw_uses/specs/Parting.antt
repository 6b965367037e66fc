-- Where clock steps in order are parted: so many of the first lie before a bound, and none of the rest does. (Our own.)
use Rattle.std.specs.Prelude.{◌≡◌, ℕ, List, true, false, nat_le, nat_lt}
use Rattle.std.specs.List.Sorted.{IsPartitionPoint}
use Rattle.gw_uses.specs.declared.clock_steps.ClockStep.{ClockStep}

-- just the first n of these clock steps are to a time or to one before it
abbrev pub AreUpTo : List ClockStep → ℕ → ℕ → Type 0
AreUpTo steps time n =
    IsPartitionPoint (λ (s : ClockStep). nat_le s.time time ≡ true) (λ s. nat_le s.time time ≡ false) steps n

-- just the first n of these clock steps lie below a step
abbrev pub AreFirst : List ClockStep → ℕ → ℕ → Type 0
AreFirst steps step n =
    IsPartitionPoint (λ (s : ClockStep). nat_lt s.step step ≡ true) (λ s. nat_lt s.step step ≡ false) steps n
