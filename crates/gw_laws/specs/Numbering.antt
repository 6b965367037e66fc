-- The numbers of transactions over every run from zero. (Our own. The next number stays at 2^64 - 1 once it is there:
-- hence the step limit, within which no run comes so far.)
use Rattle.std.specs.Prelude.{◌≡◌, ◌≢◌, ℕ, suc, ◌≤◌, ◌<◌, ◌==◌, ◌⊎◌, Bool, true, false, Some, Ok, All, AllPairs}
use Rattle.std.specs.List.{list_any}
use Rattle.gw_meaning.specs.declared.transaction.Transaction.{Transaction}
use Rattle.gw_meaning.specs.Listing.{Listing}
use Rattle.gw_meaning.specs.Machine.{Machine}
use Rattle.gw_meaning.specs.Step.{run}
use Rattle.gw_model.specs.Well.{Well}
use Rattle.gw_laws.specs.Living.{living}
use Rattle.gw_meaning.specs.declared.statement.Command.TheVariants as commands
use Rattle.gw_laws.specs.Anew.{IsNoClear, NoneBetween}

-- no two transactions have one number
abbrev pub NumbersAreApart : Type 0
NumbersAreApart =
    (t : Listing) (seed n : ℕ) (s : Machine) → Well t → n ≤ t.limit → run t seed n ≡ Ok s →
    AllPairs (λ (x y : Transaction). x.number ≢ y.number) (living s)

-- each number was given: it is below that of the next transaction
abbrev pub NumbersAreGiven : Type 0
NumbersAreGiven =
    (t : Listing) (seed n : ℕ) (s : Machine) →
    Well t → n ≤ t.limit → run t seed n ≡ Ok s → All (λ (x : Transaction). x.number < s.next) (living s)

-- whether a transaction with this number lives
abbrev pub lives : Machine → ℕ → Bool
lives s number = list_any (λ (x : Transaction). x.number == number) (living s)

-- no number is given twice: one that was given, and whose transaction is gone, does not come back, unless a CLEAR lets
-- the numbering begin at 1 again; a RESET leaves it
abbrev pub NumbersAreGivenOnce : Type 0
NumbersAreGivenOnce =
    (t : Listing) (seed m n : ℕ) (s v : Machine) → Well t → m ≤ n → n ≤ t.limit →
    run t seed m ≡ Ok s → run t seed n ≡ Ok v → NoneBetween commands.Clear t seed m n →
    (number : ℕ) → number < s.next → lives s number ≡ false → lives v number ≡ false

-- in a step no transaction but the active one ceases to live, unless a CLEAR removes all; a RESET removes nobody
abbrev pub OnlyTheActiveGoes : Type 0
OnlyTheActiveGoes =
    (t : Listing) (seed n : ℕ) (s v : Machine) → run t seed n ≡ Ok s → run t seed (suc n) ≡ Ok v → IsNoClear t s →
    (number : ℕ) → lives s number ≡ true →
    (lives v number ≡ true) ⊎ ((x : Transaction) × (s.active ≡ Some x) × (x.number ≡ number))
