-- What is noted of the first steps that use something. (Our own.)
use Rattle.std.specs.Prelude.{◌≡◌, ℕ, ◌-◌, ◌^◌, ◌<◌, ◌≤◌, List, [], ◌∷◌, Option, Some, None, if◌then◌else◌, nat_lt, get_or, All, Any}
use Rattle.std.specs.List.Sorted.{IsNonDecreasingBy}
use Rattle.std.specs.Map.{lookup}
use Rattle.gw_meaning.specs.declared.item.Item.{Item}
use Rattle.gw_meaning.specs.Reads.{same_item}
use Rattle.gw_uses.specs.declared.clock_steps.ClockStep.{ClockStep}

-- what stands for "no step"
abbrev pub never : ℕ
never = 2 ^ 64 - 1

abbrev pub known : ℕ → Option ℕ
known step = if nat_lt step never then Some step else None

-- the step that is noted for a number
abbrev pub step_at : List ℕ → ℕ → Option ℕ
step_at steps number = known (get_or steps number never)

-- the least step that is noted for a number from one on
abbrev pub IsLeastFrom : List ℕ → ℕ → Option ℕ → Type 0
IsLeastFrom steps number None = (k : ℕ) → number ≤ k → step_at steps k ≡ None
IsLeastFrom steps number (Some least) =
    ((k : ℕ) × (number ≤ k) × (step_at steps k ≡ Some least)) ×
    ((k n : ℕ) → number ≤ k → step_at steps k ≡ Some n → least ≤ n)

-- the step that is noted with an item
abbrev pub step_of : List (Item × ℕ) → Item → Option ℕ
step_of noted item = lookup (same_item item) noted

-- a step, where it lies below a bound
abbrev pub below_of : ℕ → ℕ → Option ℕ
below_of n step = if nat_lt step n then Some step else None

abbrev pub below : ℕ → Option ℕ → Option ℕ
below n None = None
below n (Some step) = below_of n step

-- the first of these clock steps to a time later than another
abbrev pub first_beyond : ℕ → List ClockStep → Option ℕ
first_beyond time [] = None
first_beyond time (s ∷ steps) = if nat_lt time s.time then Some s.step else first_beyond time steps

-- they rise, in the run and on the clock
pub record AreRising (steps : List ClockStep) : Type 0 where
  pub in_run : IsNonDecreasingBy (λ (s : ClockStep). s.step) steps
  pub on_clock : IsNonDecreasingBy (λ (s : ClockStep). s.time) steps

-- all of them lie below a step
abbrev pub AreBelow : ℕ → List ClockStep → Type 0
AreBelow n steps = All (λ (s : ClockStep). s.step < n) steps

-- the clock was set to a time or beyond it
abbrev pub IsReached : ℕ → List ClockStep → Type 0
IsReached time steps = Any (λ (s : ClockStep). time ≤ s.time) steps
