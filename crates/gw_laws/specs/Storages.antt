-- The storages, over every run from zero. (Manual: the capacity. Our own: the limit of 1,000,000,000, at which a run
-- stops, and that units which fit go in, whoever waits.)
use Rattle.std.specs.Prelude.{◌≡◌, ℕ, ◌+◌, ◌≤◌, ◌<◌, List, Ok, All}
use Rattle.gw_names.specs.declared.key.Key.{Key}
use Rattle.gw_names.specs.declared.key.Key.TheVariants as keys
use Rattle.gw_meaning.specs.Records.{Store}
use Rattle.gw_meaning.specs.declared.transaction.Transaction.{Transaction}
use Rattle.gw_meaning.specs.Entities.{Entities, store_at}
use Rattle.gw_meaning.specs.Listing.{Listing, capacity_at}
use Rattle.gw_meaning.specs.Machine.{Machine, delay_at}
use Rattle.gw_meaning.specs.Step.{run}

-- how many units of the storage of a name are in use
abbrev pub content_at : Entities → List ℕ → ℕ
content_at e name = (store_at e (keys.Defined name)).level.content

-- no more units are in use, or ever were, than there are; what is in use lies between its least and its greatest; no
-- more units came into use than the limit; and it did not change later than now
pub record IsWithin (capacity clock : ℕ) (s : Store) : Type 0 where
  pub content : s.level.content ≤ capacity
  pub least : s.least ≤ s.level.content
  pub most : s.level.content ≤ s.greatest
  pub greatest : s.greatest ≤ capacity
  pub entries : s.entries ≤ 1000000000
  pub at : s.level.at ≤ clock

-- among the storages: the key is a name's, and the storage is within the capacity of this name
pub record IsStored (t : Listing) (clock : ℕ) (e : Key × Store) : Type 0 where
  pub name : List ℕ
  pub named : e.0 ≡ keys.Defined name
  pub within : IsWithin (capacity_at t name) clock e.1

abbrev pub StoragesAreWithin : Type 0
StoragesAreWithin =
    (t : Listing) (seed n : ℕ) (s : Machine) → run t seed n ≡ Ok s → All (IsStored t s.clock) s.entities.storages

-- nobody waits at a storage that has room for what he asks: the units with which he was refused
abbrev pub NobodyWaitsAtRoom : Type 0
NobodyWaitsAtRoom =
    (t : Listing) (seed n : ℕ) (s : Machine) → run t seed n ≡ Ok s → (name : List ℕ) →
    All (λ (x : Transaction). capacity_at t name < content_at s.entities name + x.asked)
    (delay_at s.delays (keys.Defined name))
