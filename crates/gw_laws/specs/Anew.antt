-- What a RESET and a CLEAR do, in each step from any state. (Manual: RESET and CLEAR.)
use Rattle.std.specs.Prelude.{◌≡◌, ◌≢◌, ◌≤◌, ◌<◌, ℕ, ℤ, List, [], ◌∷◌, ◌++◌, map, Some, Ok}
use Rattle.gw_names.specs.declared.key.Key.{Key}
use Rattle.gw_meaning.specs.Levels.{sum_up_to}
use Rattle.gw_streams.specs.declared.stream.Stream.{Stream}
use Rattle.gw_meaning.specs.declared.statement.Command.{Command}
use Rattle.gw_meaning.specs.declared.statement.Command.TheVariants as commands
use Rattle.gw_meaning.specs.declared.entity_change.Update.TheVariants as updates
use Rattle.gw_meaning.specs.declared.moves.Change.TheVariants as changes
use Rattle.gw_meaning.specs.declared.moves.Fate.TheVariants as fates
use Rattle.gw_meaning.specs.declared.moves.Move.{Move}
use Rattle.gw_meaning.specs.declared.moves.Move.TheVariants as moves
use Rattle.gw_meaning.specs.Entities.{Entities, facility_at, line_at, store_at, table_at}
use Rattle.gw_meaning.specs.Listing.{Listing, command_at}
use Rattle.gw_meaning.specs.Machine.{Machine, zero_state, raised, count_at, user_chain_at}
use Rattle.gw_meaning.specs.Questions.{result_of}
use Rattle.gw_meaning.specs.Step.{decide, step, run}

-- a step's move is a RESET, or a CLEAR
abbrev pub Resets : Move → Type 0
Resets moves.Reset = Unit {0}
Resets m = ⊥

abbrev pub Clears : Move → Type 0
Clears moves.Clear = Unit {0}
Clears m = ⊥

-- the next step is this command: no START is under way
pub record IsNextCommand (t : Listing) (s : Machine) (command : Command) : Type 0 where
  pub idle : s.remaining ≡ 0
  pub next : command_at t (raised s.commands) ≡ Some command

-- the next step is no CLEAR
abbrev pub IsNoClear : Listing → Machine → Type 0
IsNoClear t s = IsNextCommand t s commands.Clear → ⊥

-- no step between two moments is this command
abbrev pub NoneBetween : Command → Listing → ℕ → ℕ → ℕ → Type 0
NoneBetween command t seed m n =
    (k : ℕ) (u : Machine) → m ≤ k → k < n → run t seed k ≡ Ok u → IsNextCommand t u command → ⊥

-- right after a CLEAR the state is that before the first step, but for the streams and what is done of the commands
abbrev pub ClearBeginsAnew : Type 0
ClearBeginsAnew =
    (t : Listing) (seed : ℕ) (s v : Machine) → IsNextCommand t s commands.Clear → step t seed s ≡ Ok v →
    v ≡ record zero_state { commands = raised s.commands; complete = s.complete; streams = s.streams }

-- the keys of entities, in order of first touch
abbrev pub keys_of : {V : Type 0} → List (Key × V) → List Key
keys_of es = map (λ e. e.0) es

-- a RESET moves nobody: each transaction stands where it stood, as it was, and has what it had of its own; each
-- facility has the owner, each queue, storage and block the content, and each user chain the transactions that it had;
-- savevalues, switches, the clock, the numbering, the streams and what a GENERATE made stay. Each entity keeps its line
-- in the report
pub record NobodyMoved (s v : Machine) : Type 0 where
  pub clock : v.clock ≡ s.clock
  pub complete : v.complete ≡ s.complete
  pub primed : v.primed ≡ s.primed
  pub next : v.next ≡ s.next
  pub streams : v.streams ≡ s.streams
  pub active : v.active ≡ s.active
  pub current : v.current ≡ s.current
  pub future : v.future ≡ s.future
  pub delays : v.delays ≡ s.delays
  pub retry : v.retry ≡ s.retry
  pub linked : (key : Key) → (user_chain_at v.linked key).members ≡ (user_chain_at s.linked key).members
  pub parameters : v.parameters ≡ s.parameters
  pub contents : (id : ℕ) → (count_at v.counts id).content ≡ (count_at s.counts id).content
  pub made : (id : ℕ) → (count_at v.counts id).made ≡ (count_at s.counts id).made
  pub owners : (key : Key) → (facility_at v.entities key).owner ≡ (facility_at s.entities key).owner
  pub queues : (key : Key) → (line_at v.entities key).level.content ≡ (line_at s.entities key).level.content
  pub storages : (key : Key) → (store_at v.entities key).level.content ≡ (store_at s.entities key).level.content
  pub savevalues : v.entities.savevalues ≡ s.entities.savevalues
  pub switches : v.entities.switches ≡ s.entities.switches
  pub queue_arrivals : v.entities.queue_arrivals ≡ s.entities.queue_arrivals
  pub facility_lines : keys_of v.entities.facilities ≡ keys_of s.entities.facilities
  pub queue_lines : keys_of v.entities.queues ≡ keys_of s.entities.queues
  pub storage_lines : keys_of v.entities.storages ≡ keys_of s.entities.storages
  pub table_lines : keys_of v.entities.tables ≡ keys_of s.entities.tables

abbrev pub ResetMovesNobody : Type 0
ResetMovesNobody =
    (t : Listing) (seed : ℕ) (s v : Machine) → IsNextCommand t s commands.Reset → step t seed s ≡ Ok v → NobodyMoved s v

-- and what is counted begins at 0: entries of blocks, user chains, queues and storages, captures, zero entries, the
-- values of tables, and the relative clock. Times begin at 0, too, and the least and the greatest content are the
-- present one
pub record IsCountedAnew (v : Machine) : Type 0 where
  pub since : v.since ≡ v.clock
  pub blocks : (id : ℕ) → (count_at v.counts id).entries ≡ 0
  pub linked : (key : Key) → (user_chain_at v.linked key).entries ≡ 0
  pub captures : (key : Key) → (facility_at v.entities key).captures ≡ 0
  pub queues : (key : Key) → (line_at v.entities key).entries ≡ 0
  pub zero_entries : (key : Key) → (line_at v.entities key).zero_entries ≡ 0
  pub storages : (key : Key) → (store_at v.entities key).entries ≡ 0
  pub tables : (key : Key) → table_at v.entities key ≡ []
  pub owned : (key : Key) → sum_up_to (facility_at v.entities key).level v.clock ≡ 0
  pub stood : (key : Key) → sum_up_to (line_at v.entities key).level v.clock ≡ 0
  pub used : (key : Key) → sum_up_to (store_at v.entities key).level v.clock ≡ 0
  pub longest : (key : Key) → (line_at v.entities key).greatest ≡ (line_at v.entities key).level.content
  pub least : (key : Key) → (store_at v.entities key).least ≡ (store_at v.entities key).level.content
  pub most : (key : Key) → (store_at v.entities key).greatest ≡ (store_at v.entities key).level.content

abbrev pub ResetCountsAnew : Type 0
ResetCountsAnew =
    (t : Listing) (seed : ℕ) (s v : Machine) → IsNextCommand t s commands.Reset → step t seed s ≡ Ok v → IsCountedAnew v

-- a step's move is a TABULATE, which brings one value to a table
abbrev pub IsTabulate : Key → ℤ → Move → Type 0
IsTabulate key value m = (id : ℕ) × (m ≡ moves.Enter id (changes.Entity (key, updates.Table value)) fates.Active)

-- one value comes to a table, after its others, and no other entity changes
pub record OneValueMore (key : Key) (value : ℤ) (before after : Entities) : Type 0 where
  pub here : table_at after key ≡ table_at before key ++ value ∷ []
  pub elsewhere : (other : Key) → other ≢ key → table_at after other ≡ table_at before other
  pub facilities : after.facilities ≡ before.facilities
  pub queues : after.queues ≡ before.queues
  pub storages : after.storages ≡ before.storages
  pub savevalues : after.savevalues ≡ before.savevalues
  pub switches : after.switches ≡ before.switches
  pub queue_arrivals : after.queue_arrivals ≡ before.queue_arrivals

abbrev pub TabulateAddsOneValue : Type 0
TabulateAddsOneValue =
    (t : Listing) (seed : ℕ) (s v : Machine) (m : Move) (streams : List Stream) (key : Key) (value : ℤ) →
    result_of t seed (decide s) ≡ Ok (m, streams) → step t seed s ≡ Ok v → IsTabulate key value m →
    OneValueMore key value s.entities v.entities × (v.linked ≡ s.linked)
