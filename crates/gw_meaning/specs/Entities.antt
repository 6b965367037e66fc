-- The entities of a run, what a block that is entered makes of the one that it names, and what a RESET makes of all.
-- (Manual. Our own: who came while the clock stands, in place of the clock of each transaction's last QUEUE; and that a
-- table keeps its values, so that its classes are counted when a report is printed.)
use Rattle.std.specs.Prelude.{ℕ, ℤ, Bool, false, ◌==◌, List, [], ◌∷◌, ◌++◌, Option, Some, None, if◌then◌else◌, unwrap_or, map}
use Rattle.gw_names.specs.declared.key.Key.{Key}
use Rattle.gw_meaning.specs.Records.{Ownership, never_owned, seized, released, facility_anew, Line, no_line, queued, departed, queue_anew, Store, never_used, entered, left, storage_anew}
use Rattle.gw_meaning.specs.Tables.{value_of, with_value}
use Rattle.gw_meaning.specs.QueueArrivals.{with_queue_arrival}
use Rattle.gw_meaning.specs.declared.entity_change.Update.{Update}
use Rattle.gw_meaning.specs.declared.entity_change.Update.TheVariants as updates
use Rattle.gw_meaning.specs.declared.entity_change.FacilityUpdate.{FacilityUpdate}
use Rattle.gw_meaning.specs.declared.entity_change.FacilityUpdate.TheVariants as of_facility
use Rattle.gw_meaning.specs.declared.entity_change.QueueUpdate.{QueueUpdate}
use Rattle.gw_meaning.specs.declared.entity_change.QueueUpdate.TheVariants as of_queue
use Rattle.gw_meaning.specs.declared.entity_change.StorageUpdate.{StorageUpdate}
use Rattle.gw_meaning.specs.declared.entity_change.StorageUpdate.TheVariants as of_storage
use Rattle.gw_meaning.specs.declared.moves.Change.{Change}
use Rattle.gw_meaning.specs.declared.moves.Change.TheVariants as changes

pub record Entities : Type 0 where
  -- the facilities, the queues, the storages, the savevalues, the switches and the tables, each in order of first touch
  pub facilities : List (Key × Ownership)
  pub queues : List (Key × Line)
  pub storages : List (Key × Store)
  pub savevalues : List (Key × ℤ)
  pub switches : List (Key × Bool)
  -- the values of each table, in the order in which they came
  pub tables : List (Key × List ℤ)
  -- which transaction came to which queue since the clock stands as it does
  pub queue_arrivals : List (Key × ℕ)

-- nothing is touched yet
abbrev pub no_entities : Entities
no_entities = record {
  facilities = [];
  queues = [];
  storages = [];
  savevalues = [];
  switches = [];
  tables = [];
  queue_arrivals = [];
}

-- a facility: one that nothing touched is free
abbrev pub facility_at : Entities → Key → Ownership
facility_at e key = unwrap_or (value_of e.facilities key) never_owned

-- a queue: one that nothing touched is empty
abbrev pub line_at : Entities → Key → Line
line_at e key = unwrap_or (value_of e.queues key) no_line

-- a storage: of one that nothing touched no unit is in use
abbrev pub store_at : Entities → Key → Store
store_at e key = unwrap_or (value_of e.storages key) never_used

-- a savevalue, where a block set it
abbrev pub savevalue_at : Entities → Key → Option ℤ
savevalue_at e key = value_of e.savevalues key

-- a switch: one that nothing touched is reset
abbrev pub switch_at : Entities → Key → Bool
switch_at e key = unwrap_or (value_of e.switches key) false

-- the values of a table: one that nothing touched has none
abbrev pub table_at : Entities → Key → List ℤ
table_at e key = unwrap_or (value_of e.tables key) []

-- a facility that its owner gives back: the next transaction takes it, where there is one
abbrev pub given_back : Option ℕ → ℕ → Ownership → Ownership
given_back None clock f = released clock f
given_back (Some number) clock f = seized number clock (released clock f)

-- a storage into which those of its delay chain who are let in come, one by one
abbrev pub all_entered : List (Option ℕ) → ℕ → Store → Store
all_entered [] clock s = s
all_entered (None ∷ grants) clock s = all_entered grants clock s
all_entered (Some units ∷ grants) clock s = all_entered grants clock (entered units clock s)

-- what an update makes of a facility, a queue and a storage, at a clock, where the transaction with a number enters the
-- block
abbrev pub done_to_facility : FacilityUpdate → ℕ → ℕ → Ownership → Ownership
done_to_facility of_facility.Seize clock number f = seized number clock f
done_to_facility (of_facility.Release next) clock number f = given_back next clock f

abbrev pub done_to_queue : QueueUpdate → ℕ → Line → Line
done_to_queue (of_queue.Queue units) clock q = queued units clock q
done_to_queue (of_queue.Depart units at_once) clock q = departed units clock at_once q

abbrev pub done_to_storage : StorageUpdate → ℕ → Store → Store
done_to_storage (of_storage.Enter units) clock s = entered units clock s
done_to_storage (of_storage.Leave units grants) clock s = all_entered grants clock (left units clock s)

-- who came to a queue, after an update
abbrev pub queue_arrivals_after : QueueUpdate → Key → ℕ → List (Key × ℕ) → List (Key × ℕ)
queue_arrivals_after (of_queue.Queue units) key number queue_arrivals = with_queue_arrival queue_arrivals key number
queue_arrivals_after update key number queue_arrivals = queue_arrivals

-- what an update makes of the entities: it sets the one of its kind with the key
abbrev pub done : Key → Update → ℕ → ℕ → Entities → Entities
done key (updates.Facility update) clock number e = record e {
  facilities = with_value e.facilities key (done_to_facility update clock number (facility_at e key));
}
done key (updates.Queue update) clock number e = record e {
  queues = with_value e.queues key (done_to_queue update clock (line_at e key));
  queue_arrivals = queue_arrivals_after update key number e.queue_arrivals;
}
done key (updates.Storage update) clock number e =
    record e { storages = with_value e.storages key (done_to_storage update clock (store_at e key)) }
done key (updates.Savevalue to) clock number e = record e { savevalues = with_value e.savevalues key to }
done key (updates.Switch set) clock number e = record e { switches = with_value e.switches key set }
done key (updates.Table value) clock number e =
    record e { tables = with_value e.tables key (table_at e key ++ value ∷ []) }

-- what the change of a block makes of them
abbrev pub touched : Change → ℕ → ℕ → Entities → Entities
touched (changes.Entity change) clock number e = done change.0 change.1 clock number e
touched change clock number e = e

-- the clock goes on: nobody has come at another time yet
abbrev pub later : ℕ → ℕ → Entities → Entities
later before now e = record e { queue_arrivals = if before == now then e.queue_arrivals else [] }

-- a RESET: each facility, queue and storage is counted anew, and each table loses its values. Savevalues and switches
-- stay.
abbrev pub all_anew : {K V : Type 0} → (V → V) → List (K × V) → List (K × V)
all_anew anew entries = map (λ e. (e.0, anew e.1)) entries

abbrev pub entities_anew : ℕ → Entities → Entities
entities_anew clock e = record e {
  facilities = all_anew (facility_anew clock) e.facilities;
  queues = all_anew (queue_anew clock) e.queues;
  storages = all_anew (storage_anew clock) e.storages;
  tables =
      all_anew (λ values. []) e.tables;
}
