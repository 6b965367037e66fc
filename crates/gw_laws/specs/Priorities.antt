-- The priority and the mark time of transactions over every run from zero. (Manual: PRIORITY and MARK set those of the
-- transaction that enters them, GENERATE its mark time; a priority it has from the moment at which it is made.)
use Rattle.std.specs.Prelude.{◌≡◌, ℕ, suc, ◌≤◌, ◌⊎◌, Ok, Contains}
use Rattle.gw_meaning.specs.declared.transaction.Transaction.{Transaction}
use Rattle.gw_meaning.specs.Listing.{Listing}
use Rattle.gw_meaning.specs.Machine.{Machine}
use Rattle.gw_meaning.specs.Step.{run}
use Rattle.gw_model.specs.Well.{Well}
use Rattle.gw_laws.specs.Living.{living, IsActive}

-- in a step no priority and no mark time change but those of the active transaction: wherever another one stands before
-- and after the step, both are the same. (Within the step limit, since numbers tell transactions apart there.)
abbrev pub PrioritiesAreOnesOwn : Type 0
PrioritiesAreOnesOwn =
    (t : Listing) (seed n : ℕ) (s v : Machine) → Well t → n ≤ t.limit →
    run t seed n ≡ Ok s → run t seed (suc n) ≡ Ok v →
    (x y : Transaction) → Contains (living s) x → Contains (living v) y → y.number ≡ x.number →
    ((y.priority ≡ x.priority) × (y.mark ≡ x.mark)) ⊎ IsActive s x.number
