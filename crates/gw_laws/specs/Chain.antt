-- The current chain over every run from zero: by priority, and first in first out within a priority; and the future
-- chain, in the order of coming onto it. (Manual.)
use Rattle.std.specs.Prelude.{◌≡◌, ℕ, suc, ◌≤◌, ◌<◌, ◌==◌, ◌⊎◌, ℤ, Bool, false, List, ◌++◌, ◌∷◌, Some, None, Ok, All, Contains, drop, filter, map}
use Rattle.std.specs.List.{list_any}
use Rattle.std.specs.Ordering.{int_eq}
use Rattle.gw_meaning.specs.declared.transaction.Transaction.{Transaction}
use Rattle.gw_meaning.specs.declared.transaction.Event.{Event}
use Rattle.gw_meaning.specs.Listing.{Listing}
use Rattle.gw_meaning.specs.Machine.{Machine, AreInOrder}
use Rattle.gw_meaning.specs.Step.{step, run}
use Rattle.gw_model.specs.Well.{Well}
use Rattle.gw_laws.specs.Anew.{IsNoClear}

-- no transaction stands after one of lower priority
abbrev pub ChainIsInOrder : Type 0
ChainIsInOrder = (t : Listing) (seed n : ℕ) (s : Machine) → run t seed n ≡ Ok s → AreInOrder s.current

-- the numbers of the transactions of a priority, in the order of the chain
abbrev pub numbers_of : ℤ → List Transaction → List ℕ
numbers_of priority chain =
    map (λ (x : Transaction). x.number) (filter (λ (x : Transaction). int_eq x.priority priority) chain)

-- whether a number is among these
abbrev pub is_in : List ℕ → ℕ → Bool
is_in numbers number = list_any (λ other. other == number) numbers

-- first in first out: the first ones go, those after them keep their order, and others come after these
abbrev pub IsFirstInFirstOut : List ℕ → List ℕ → Type 0
IsFirstInFirstOut before after =
    (gone : ℕ) × (come : List ℕ) × (after ≡ drop gone before ++ come) × All (λ number. is_in before number ≡ false) come

-- so it is, for each priority, of the chain before and after each step. (Within the step limit, since numbers tell
-- transactions apart there.)
abbrev pub ChainIsFirstInFirstOut : Type 0
ChainIsFirstInFirstOut =
    (t : Listing) (seed n : ℕ) (s v : Machine) → Well t → n ≤ t.limit →
    run t seed n ≡ Ok s → run t seed (suc n) ≡ Ok v →
    (priority : ℤ) → IsFirstInFirstOut (numbers_of priority s.current) (numbers_of priority v.current)

-- whoever becomes active was the first of the chain
abbrev pub FirstBecomesActive : Type 0
FirstBecomesActive =
    (t : Listing) (seed n : ℕ) (s v : Machine) (x : Transaction) → run t seed n ≡ Ok s → run t seed (suc n) ≡ Ok v →
    s.active ≡ None → v.active ≡ Some x → s.current ≡ x ∷ v.current

-- and where a START is under way and none is active, the first of the chain becomes so, and nothing else changes
abbrev pub TheFirstIsPicked : Type 0
TheFirstIsPicked =
    (t : Listing) (seed : ℕ) (s : Machine) (x : Transaction) (xs : List Transaction) →
    1 ≤ s.remaining → s.active ≡ None → s.current ≡ x ∷ xs →
    step t seed s ≡ Ok (record s { active = Some x; current = xs })

-- the transactions of a time on the future chain, in the order of coming onto it
abbrev pub coming_at : ℕ → List Event → List Transaction
coming_at time future =
    map (λ (e : Event). e.transaction) (filter (λ (e : Event). e.time == time) future)

-- where the clock moves on, all transactions of its new time come onto the chain, those of a priority in this order
abbrev pub AllOfATimeCome : Type 0
AllOfATimeCome =
    (t : Listing) (seed n : ℕ) (s v : Machine) → run t seed n ≡ Ok s → run t seed (suc n) ≡ Ok v → s.clock < v.clock →
    (All (λ (e : Event). v.clock < e.time) v.future) × ((priority : ℤ) →
    numbers_of priority v.current ≡ numbers_of priority s.current ++ numbers_of priority (coming_at v.clock s.future))

-- places are kept: some stay, in the order in which they were there, and others come after these
abbrev pub KeepPlaces : List ℕ → List ℕ → Type 0
KeepPlaces before after =
    (stays : ℕ → Bool) × (come : List ℕ) × (after ≡ filter stays before ++ come)
    × All (λ number. is_in before number ≡ false) come

-- the numbers of the transactions on the future chain, in its order
abbrev pub numbers_coming : List Event → List ℕ
numbers_coming future = map (λ (e : Event). e.transaction.number) future

-- the future chain is in the order of coming onto it: in a step whoever stays on it keeps his place, and whoever comes
-- stands after
abbrev pub FutureKeepsItsOrder : Type 0
FutureKeepsItsOrder =
    (t : Listing) (seed n : ℕ) (s v : Machine) → Well t → n ≤ t.limit →
    run t seed n ≡ Ok s → run t seed (suc n) ≡ Ok v →
    KeepPlaces (numbers_coming s.future) (numbers_coming v.future)

-- nobody leaves the future chain but at his time, unless a CLEAR removes all; a RESET moves nobody
abbrev pub NobodyLeavesBeforeHisTime : Type 0
NobodyLeavesBeforeHisTime =
    (t : Listing) (seed n : ℕ) (s v : Machine) → run t seed n ≡ Ok s → run t seed (suc n) ≡ Ok v → IsNoClear t s →
    (e : Event) → Contains s.future e → Contains v.future e ⊎ (e.time ≡ v.clock)
