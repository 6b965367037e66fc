-- What a contract sees of the parts of a state. (Our own.)
use Rattle.std.specs.Prelude.{ℕ, ℤ, Bool, List}
use Rattle.gw_names.specs.declared.key.Key.{Key}
use Rattle.gw_meaning.specs.Records.{Ownership, Line, Store}
use Rattle.gw_entities.specs.Keeping.{Arrivals}
use Rattle.gw_meaning.specs.Entities.{Entities}

-- the clocks
pub record Times : Type 0 where
  -- the absolute clock
  pub clock : ℕ
  -- the absolute clock at the last RESET or CLEAR
  pub since : ℕ

-- how far the commands are
pub record Standing : Type 0 where
  -- what is left of the termination count of the START under way; 0 where none is under way
  pub remaining : ℕ
  -- commands done, and STARTs complete
  pub commands : ℕ
  pub complete : ℕ
  -- whether the GENERATEs have their first transactions
  pub primed : Bool

-- the entities, with the arrivals at queues that there is room for
pub record Stock : Type 0 where
  pub facilities : List (Key × Ownership)
  pub queues : List (Key × Line)
  pub storages : List (Key × Store)
  pub savevalues : List (Key × ℤ)
  pub switches : List (Key × Bool)
  pub tables : List (Key × List ℤ)
  pub queue_arrivals : Arrivals

abbrev pub entities_of : Stock → Entities
entities_of e =
    record {
      facilities = e.facilities;
      queues = e.queues;
      storages = e.storages;
      savevalues = e.savevalues;
      switches = e.switches;
      tables = e.tables;
      queue_arrivals = e.queue_arrivals.queue_arrivals;
    }
