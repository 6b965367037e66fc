-- Which statement ids a state and an item name: a state of a run names none but those of the version's blocks, and
-- its steps read no other. (Our own.)
use Rattle.std.specs.Prelude.{ℕ, ◌≡◌, ◌⊎◌, List, Option, Some, None, Ok}
use Rattle.std.specs.List.{AllByRecursion}
use Rattle.gw_names.specs.declared.key.Key.{Key}
use Rattle.gw_meaning.specs.declared.item.Item.{Item}
use Rattle.gw_meaning.specs.declared.item.Item.TheVariants as items
use Rattle.gw_meaning.specs.declared.statement.Block.{Block}
use Rattle.gw_meaning.specs.declared.transaction.Transaction.{Transaction}
use Rattle.gw_meaning.specs.declared.transaction.Event.{Event}
use Rattle.gw_meaning.specs.declared.transaction.Count.{Count}
use Rattle.gw_meaning.specs.declared.watched.Watched.{Watched}
use Rattle.gw_meaning.specs.declared.watched.Watched.TheVariants as watched
use Rattle.gw_meaning.specs.Listing.{Listing, block_at}
use Rattle.gw_meaning.specs.Watching.{Waiter}
use Rattle.gw_meaning.specs.Numbers.{AreNumbered}
use Rattle.gw_meaning.specs.Machine.{Machine, UserChain}
use Rattle.gw_meaning.specs.Step.{step, run}
use Rattle.gw_meaning.specs.Reads.{reads}

-- no block yet, or a block of the version
abbrev pub IsBlockId : Listing → ℕ → Type 0
IsBlockId t id = (id ≡ 0) ⊎ ((block : Block) × (block_at t id ≡ Some block))

-- what names no other id: an id that there may be, a transaction, an event, a delay chain, a user chain, what is watched,
-- who waits for a change of it, and a count
abbrev pub IsIdIfAny : Listing → Option ℕ → Type 0
IsIdIfAny t None = Unit {0}
IsIdIfAny t (Some id) = IsBlockId t id

pub record TransactionNames (t : Listing) (x : Transaction) : Type 0 where
  pub current : IsBlockId t x.current
  pub destination : IsIdIfAny t x.destination

abbrev pub ActiveNames : Listing → Option Transaction → Type 0
ActiveNames t None = Unit {0}
ActiveNames t (Some x) = TransactionNames t x

abbrev pub EventNames : Listing → Event → Type 0
EventNames t e = TransactionNames t e.transaction

abbrev pub DelayNames : Listing → Key × List Transaction → Type 0
DelayNames t d = AllByRecursion (TransactionNames t) d.1

abbrev pub LinkedNames : Listing → Key × UserChain → Type 0
LinkedNames t c = AllByRecursion (TransactionNames t) c.1.members

abbrev pub WatchedNames : Listing → Watched → Type 0
WatchedNames t (watched.Entity kind key) = Unit {0}
WatchedNames t (watched.Counts id) = IsBlockId t id

pub record WaiterNames (t : Listing) (w : Waiter) : Type 0 where
  pub transaction : TransactionNames t w.transaction
  pub read : AllByRecursion (WatchedNames t) w.read

abbrev pub CountNames : Listing → ℕ × Count → Type 0
CountNames t c = IsBlockId t c.0

-- a state
pub record StateNames (t : Listing) (s : Machine) : Type 0 where
  pub active : ActiveNames t s.active
  pub current : AllByRecursion (TransactionNames t) s.current
  pub future : AllByRecursion (EventNames t) s.future
  pub delays : AllByRecursion (DelayNames t) s.delays
  pub retry : AllByRecursion (WaiterNames t) s.retry
  pub linked : AllByRecursion (LinkedNames t) s.linked
  pub counts : AllByRecursion (CountNames t) s.counts

-- an item: those of a block name its id, and no other does
abbrev pub ItemNames : Listing → Item → Type 0
ItemNames t (items.Block id) = IsBlockId t id
ItemNames t (items.After id) = IsBlockId t id
ItemNames t item = Unit {0}

-- so it is of every state of every run, and of all that its steps read
abbrev pub StatesNameBlocks : Type 0
StatesNameBlocks = (t : Listing) (seed n : ℕ) (s : Machine) → AreNumbered t.lines → run t seed n ≡ Ok s → StateNames t s

abbrev pub StepsReadBlocks : Type 0
StepsReadBlocks =
    (t : Listing) (seed n : ℕ) (s v : Machine) → AreNumbered t.lines → run t seed n ≡ Ok s → step t seed s ≡ Ok v →
    AllByRecursion (ItemNames t) (reads t seed n)
