-- The delay chains over every run from zero: in which order transactions wait for a facility or a storage, and where
-- they stand who wait no longer. (Manual.)
use Rattle.std.specs.Prelude.{◌≡◌, ℕ, suc, ◌≤◌, ◌<◌, ◌⊎◌, ℤ, Bool, true, false, [], ◌∷◌, Some, None, Ok, All, Contains, length}
use Rattle.gw_names.specs.declared.key.Key.{Key}
use Rattle.gw_names.specs.declared.key.Key.TheVariants as keys
use Rattle.gw_meaning.specs.declared.transaction.Transaction.{Transaction}
use Rattle.gw_meaning.specs.Entities.{facility_at}
use Rattle.gw_meaning.specs.Listing.{Listing}
use Rattle.gw_meaning.specs.Machine.{Machine, AreInOrder, delay_at}
use Rattle.gw_meaning.specs.Changes.{placed}
use Rattle.gw_meaning.specs.Step.{run}
use Rattle.gw_model.specs.Well.{Well}
use Rattle.gw_laws.specs.Anew.{IsNoClear}
use Rattle.gw_laws.specs.Chain.{numbers_of, IsFirstInFirstOut, KeepPlaces}

-- no transaction stands after one of lower priority
abbrev pub DelaysAreInOrder : Type 0
DelaysAreInOrder =
    (t : Listing) (seed n : ℕ) (s : Machine) → run t seed n ≡ Ok s → (key : Key) → AreInOrder (delay_at s.delays key)

-- whether a key is that of a storage: no other entity has it
abbrev pub is_storage : Key → Bool
is_storage (keys.Defined name) = true
is_storage key = false

-- of a facility, for each priority, first in first out. (Within the step limit, since numbers tell transactions apart
-- there.)
abbrev pub DelaysAreFirstInFirstOut : Type 0
DelaysAreFirstInFirstOut =
    (t : Listing) (seed n : ℕ) (s v : Machine) → Well t → n ≤ t.limit →
    run t seed n ≡ Ok s → run t seed (suc n) ≡ Ok v → (key : Key) (priority : ℤ) → is_storage key ≡ false →
    IsFirstInFirstOut (numbers_of priority (delay_at s.delays key)) (numbers_of priority (delay_at v.delays key))

-- whoever goes on waiting keeps his place, for each priority, also where LEAVE lets in some from between them
abbrev pub WhoWaitsKeepsHisPlace : Type 0
WhoWaitsKeepsHisPlace =
    (t : Listing) (seed n : ℕ) (s v : Machine) → Well t → n ≤ t.limit →
    run t seed n ≡ Ok s → run t seed (suc n) ≡ Ok v → (key : Key) (priority : ℤ) →
    KeepPlaces (numbers_of priority (delay_at s.delays key)) (numbers_of priority (delay_at v.delays key))

-- on the way to a block
abbrev pub IsBound : Transaction → Type 0
IsBound x = (id : ℕ) × (x.destination ≡ Some id)

-- whoever waits has a block to go to
abbrev pub WhoWaitsIsBound : Type 0
WhoWaitsIsBound =
    (t : Listing) (seed n : ℕ) (s : Machine) → run t seed n ≡ Ok s → (key : Key) → All IsBound (delay_at s.delays key)

-- on the current chain, in the block that it waited to enter
abbrev pub IsLetIn : Transaction → Machine → Type 0
IsLetIn x v = (id : ℕ) × (x.destination ≡ Some id) × Contains v.current (placed x id)

-- in a step, whoever waits goes on waiting or is let in, unless a CLEAR removes all; a RESET moves nobody
abbrev pub WhoLeavesIsLetIn : Type 0
WhoLeavesIsLetIn =
    (t : Listing) (seed n : ℕ) (s v : Machine) → run t seed n ≡ Ok s → run t seed (suc n) ≡ Ok v → IsNoClear t s →
    (key : Key) (x : Transaction) → Contains (delay_at s.delays key) x →
    Contains (delay_at v.delays key) x ⊎ IsLetIn x v

-- the first of a delay chain has left it: now the first stands on the current chain, in the block that it waited to
-- enter, and owns the facility
pub record TakesOver (key : Key) (s v : Machine) : Type 0 where
  pub first : Transaction
  pub block : ℕ
  pub left : delay_at s.delays key ≡ first ∷ delay_at v.delays key
  pub bound : first.destination ≡ Some block
  pub stands : Contains v.current (placed first block)
  pub owns : (facility_at v.entities key).owner ≡ Some first.number

-- so it is where the chain of a facility gets shorter in a step, unless a CLEAR empties it; a RESET moves nobody
abbrev pub FirstTakesOver : Type 0
FirstTakesOver =
    (t : Listing) (seed n : ℕ) (s v : Machine) → run t seed n ≡ Ok s → run t seed (suc n) ≡ Ok v → IsNoClear t s →
    (key : Key) → is_storage key ≡ false → length (delay_at v.delays key) < length (delay_at s.delays key) →
    TakesOver key s v

-- nobody waits at a free facility
abbrev pub NobodyWaitsAtAFreeFacility : Type 0
NobodyWaitsAtAFreeFacility =
    (t : Listing) (seed n : ℕ) (s : Machine) → run t seed n ≡ Ok s →
    (key : Key) → is_storage key ≡ false → (facility_at s.entities key).owner ≡ None → delay_at s.delays key ≡ []
