-- The clock, over every run from zero. (Manual.)
use Rattle.std.specs.Prelude.{◌≡◌, ℕ, suc, ◌≤◌, ◌<◌, List, [], None, Ok, All, Any}
use Rattle.gw_meaning.specs.declared.transaction.Event.{Event}
use Rattle.gw_meaning.specs.Listing.{Listing}
use Rattle.gw_meaning.specs.Machine.{Machine}
use Rattle.gw_meaning.specs.declared.statement.Command.TheVariants as commands
use Rattle.gw_meaning.specs.Step.{step, run}
use Rattle.gw_laws.specs.Anew.{NoneBetween}

-- it never goes back, unless a CLEAR sets it to 0; a RESET leaves it
abbrev pub ClockNeverGoesBack : Type 0
ClockNeverGoesBack =
    (t : Listing) (seed m n : ℕ) (s v : Machine) → m ≤ n → run t seed m ≡ Ok s → run t seed n ≡ Ok v →
    NoneBetween commands.Clear t seed m n → s.clock ≤ v.clock

-- it stays within the horizon
abbrev pub ClockStaysWithin : Type 0
ClockStaysWithin = (t : Listing) (seed n : ℕ) (s : Machine) → run t seed n ≡ Ok s → s.clock ≤ t.horizon

-- no time on the future chain lies before it
abbrev pub NothingIsOverdue : Type 0
NothingIsOverdue =
    (t : Listing) (seed n : ℕ) (s : Machine) → run t seed n ≡ Ok s → All (λ (e : Event). s.clock ≤ e.time) s.future

-- a time is the least of the future chain
abbrev pub IsLeast : ℕ → List Event → Type 0
IsLeast time future = All (λ (e : Event). time ≤ e.time) future × Any (λ (e : Event). e.time ≡ time) future

-- it moves on only when it must: a START is under way, no transaction is active or on the current chain, and it goes to
-- the least time of the future chain
abbrev pub ClockMovesOnlyWhenItMust : Type 0
ClockMovesOnlyWhenItMust =
    (t : Listing) (seed n : ℕ) (s v : Machine) → run t seed n ≡ Ok s → run t seed (suc n) ≡ Ok v → s.clock < v.clock →
    (1 ≤ s.remaining) × (s.active ≡ None) × (s.current ≡ []) × IsLeast v.clock s.future

-- and when it must it does, where that time lies within the horizon
abbrev pub ClockMovesWhenItMust : Type 0
ClockMovesWhenItMust =
    (t : Listing) (seed : ℕ) (s : Machine) (time : ℕ) → 1 ≤ s.remaining → s.active ≡ None → s.current ≡ [] →
    IsLeast time s.future → time ≤ t.horizon → (v : Machine) × (step t seed s ≡ Ok v) × (v.clock ≡ time)
