-- What is known of a move in the state in which it is decided: one line for each choice.
use Rattle.std.proofs.Common.{◌≡◌, ◌⊎◌, inr, ℕ, ◌+◌, ◌≤◌, nat_le, Bool, true, false, ◌&&◌, List, [], ◌∷◌, length, Option, Some, None, Ok, is_some, ◌-◌, sym, subst, arith}
use Rattle.std.specs.List.{AllByRecursion}
use Rattle.std.proofs.lemmas.Bool.Decides.{nat_tests}
use Rattle.gw_streams.specs.declared.stream.Stream.{Stream}
use Rattle.gw_meaning.specs.declared.item.Item.{Item}
use Rattle.gw_meaning.specs.declared.transaction.Transaction.{Transaction}
use Rattle.gw_meaning.specs.declared.moves.Arrival.{Arrival}
use Rattle.gw_meaning.specs.declared.entity_change.Update.{Update}
use Rattle.gw_meaning.specs.declared.entity_change.Update.TheVariants as updates
use Rattle.gw_meaning.specs.declared.entity_change.FacilityUpdate.TheVariants as of_facility
use Rattle.gw_meaning.specs.declared.entity_change.QueueUpdate.TheVariants as of_queue
use Rattle.gw_meaning.specs.declared.entity_change.StorageUpdate.TheVariants as of_storage
use Rattle.gw_meaning.specs.declared.moves.Change.{Change}
use Rattle.gw_meaning.specs.declared.moves.Change.TheVariants as changes
use Rattle.gw_meaning.specs.declared.transaction_change.TransactionChange.{TransactionChange}
use Rattle.gw_meaning.specs.declared.transaction_change.TransactionChange.TheVariants as own
use Rattle.gw_meaning.specs.declared.moves.Fate.{Fate}
use Rattle.gw_meaning.specs.declared.moves.Fate.TheVariants as fates
use Rattle.gw_meaning.specs.declared.moves.Move.{Move}
use Rattle.gw_meaning.specs.declared.moves.Move.TheVariants as moves
use Rattle.gw_meaning.specs.declared.watched.Watched.{Watched}
use Rattle.gw_meaning.specs.Listing.{Listing}
use Rattle.gw_meaning.specs.Numbers.{AreNumbered}
use Rattle.gw_names.specs.declared.key.Key.{Key}
use Rattle.gw_meaning.specs.Records.{Line}
use Rattle.gw_meaning.specs.Entities.{facility_at, line_at}
use Rattle.gw_meaning.specs.Machine.{Machine, raised, live, delay_at, user_chain_at}
use Rattle.gw_meaning.specs.Changes.{decided}
use Rattle.gw_meaning.specs.Step.{is_too_many, first_number, is_owner, least_time, meet_prog, decide}
use Rattle.gw_meaning.specs.Questions.{result_of}
use Rattle.gw_meaning.specs.Statements.{B, C, operand}
use Rattle.gw_meaning.specs.Listing.{block_at, after_at, or_next}
use Rattle.gw_meaning.specs.declared.statement.Block.{Block}
use Rattle.gw_expr.specs.declared.halt.End.{End}
use Rattle.gw_expr.specs.declared.halt.End.TheVariants as ends
use Rattle.gw_names.specs.declared.verb.BlockVerb.{BlockVerb}
use Rattle.gw_names.specs.declared.verb.BlockVerb.TheVariants as blocks
use Rattle.gw_expr.specs.declared.expr.Discipline.{Discipline}
use Rattle.gw_expr.specs.declared.expr.Expr.TheVariants.{Order}
use Rattle.gw_frame.specs.BlockIds.{IsBlockId, IsIdIfAny, WatchedNames, ActiveNames, ItemNames}
use Rattle.gw_names.specs.declared.key.Key.TheVariants as keys
use Rattle.gw_meaning.specs.Listing.{capacity_at, command_at}
use Rattle.gw_meaning.specs.declared.statement.Command.{Command}
use Rattle.gw_meaning.specs.declared.statement.Command.TheVariants as commands
use Rattle.gw_meaning.specs.Entities.{store_at}
use Rattle.gw_meaning.specs.Step.{beside, in_use, grant_of, all_granted}

-- what comes, comes to a block of the version and not before the clock
pub record IsQueueArrival (t : Listing) (s : Machine) (a : Arrival) : Type 0 where
  pub ahead : s.clock ≤ a.time
  pub id : IsBlockId t a.id

abbrev pub IsComingIfAny : Listing → Machine → Option Arrival → Type 0
IsComingIfAny t s None = Unit {0}
IsComingIfAny t s (Some a) = IsQueueArrival t s a

-- the first transactions of the GENERATEs
pub record AreFirst (t : Listing) (s : Machine) (arrivals : List Arrival) : Type 0 where
  pub coming : AllByRecursion (IsQueueArrival t s) arrivals
  pub few : length arrivals ≤ length t.lines

-- what comes to a queue and what leaves it at once stays within the limit of counts
pub record Fits (line : Line) (units : ℕ) : Type 0 where
  pub entries : line.entries + units ≤ 1000000000
  pub content : line.level.content + units ≤ 1000000000

abbrev pub Leaves : Line → ℕ → Bool → Type 0
Leaves line units at_once = at_once ≡ true → line.zero_entries + units ≤ 1000000000

pub within_limit : (n : ℕ) → is_too_many n ≡ false → n ≤ 1000000000
within_limit n h = grind (arith, nat_tests)

pub leaves : (line : Line) (units : ℕ) (at_once : Bool) → (at_once && is_too_many (line.zero_entries + units)) ≡ false → Leaves line units at_once
leaves line units true h = λ is. within_limit (line.zero_entries + units) h
leaves line units false h = λ is. absurd cc

-- whether so many units fit into the storage of a name
abbrev pub does_fit : Listing → List ℕ → ℕ → Bool
does_fit t name units = nat_le units (capacity_at t name)

-- the grants of those who wait, from the front of a delay chain, beside so many units in use
abbrev pub grants_of : Listing → List ℕ → ℕ → List Transaction → List (Option ℕ)
grants_of t name content [] = []
grants_of t name content (x ∷ xs) =
    let fits = does_fit t name (beside x.asked content) in grant_of x.asked fits ∷ grants_of t name (in_use content x.asked fits) xs

-- a storage has room for units that come into use, and its entries stay within the limit of counts
pub record ComesIn (t : Listing) (s : Machine) (key : Key) (units : ℕ) : Type 0 where
  pub name : List ℕ
  pub named : key ≡ keys.Defined name
  pub fits : does_fit t name (beside units (store_at s.entities key).level.content) ≡ true
  pub entries : (store_at s.entities key).entries + units ≤ 1000000000

-- a storage has the units in use that are given back, and those who wait have the grants that fit; its entries stay
-- within the limit of counts
pub record GoesOut (t : Listing) (s : Machine) (key : Key) (units : ℕ) (grants : List (Option ℕ)) : Type 0 where
  pub name : List ℕ
  pub named : key ≡ keys.Defined name
  pub in_use : units ≤ (store_at s.entities key).level.content
  pub shared : grants ≡ grants_of t name ((store_at s.entities key).level.content - units) (delay_at s.delays key)
  pub entries : (store_at s.entities key).entries + all_granted grants ≤ 1000000000

-- whether an entity is a storage
abbrev pub is_storage : Key → Bool
is_storage (keys.Defined name) = true
is_storage key = false

-- the active transaction owns a facility
abbrev pub ActiveOwns : Machine → Key → Type 0
ActiveOwns s key = (x : Transaction) → s.active ≡ Some x → is_owner (facility_at s.entities key).owner x.number ≡ true

-- what is known of an update, a change, a fate and a move
abbrev pub IsDecidedUpdate : Listing → Machine → Key → Update → Type 0
IsDecidedUpdate t s key (updates.Queue (of_queue.Queue units)) = Fits (line_at s.entities key) units
IsDecidedUpdate t s key (updates.Queue (of_queue.Depart units at_once)) = Leaves (line_at s.entities key) units at_once
IsDecidedUpdate t s key (updates.Facility of_facility.Seize) = (is_storage key ≡ false) × (is_some (facility_at s.entities key).owner ≡ false)
IsDecidedUpdate t s key (updates.Facility (of_facility.Release next)) = (is_storage key ≡ false) × (next ≡ first_number (delay_at s.delays key)) × ActiveOwns s key
IsDecidedUpdate t s key (updates.Storage (of_storage.Enter units)) = ComesIn t s key units
IsDecidedUpdate t s key (updates.Storage (of_storage.Leave units grants)) = GoesOut t s key units grants
IsDecidedUpdate t s key update = Unit {0}

abbrev pub IsDecidedOwn : Listing → TransactionChange → Type 0
IsDecidedOwn t (own.Transfer to) = AreNumbered t.lines → IsBlockId t to
IsDecidedOwn t (own.Loop key left to) = AreNumbered t.lines → IsBlockId t to
IsDecidedOwn t change = Unit {0}

-- where those go whom a block sends away: to a block of the version, or on from their own
abbrev pub IsSentTo : Listing → Option ℕ → Type 0
IsSentTo t to = AreNumbered t.lines → IsIdIfAny t to

-- as many copies as may live beside the others
pub record MayBeCopied (t : Listing) (s : Machine) (count : ℕ) (to : Option ℕ) : Type 0 where
  pub few : live s + count ≤ 100000
  pub named : IsSentTo t to

-- no more than are on the user chain
pub record MayBeUnlinked (t : Listing) (s : Machine) (key : Key) (count : ℕ) (to : Option ℕ) : Type 0 where
  pub there : count ≤ length (user_chain_at s.linked key).members
  pub named : IsSentTo t to

abbrev pub IsDecidedChange : Listing → Machine → Change → Type 0
IsDecidedChange t s (changes.Generate next) = IsComingIfAny t s next
IsDecidedChange t s (changes.Transaction change) = IsDecidedOwn t change
IsDecidedChange t s (changes.Split count to) = MayBeCopied t s count to
IsDecidedChange t s (changes.Unlink key count to) = MayBeUnlinked t s key count to
IsDecidedChange t s (changes.Entity change) = IsDecidedUpdate t s change.0 change.1
IsDecidedChange t s change = Unit {0}

-- a block that sends its transaction away changes nothing else
abbrev pub IsDecidedFate : Machine → Change → Fate → Type 0
IsDecidedFate s change fates.Active = Unit {0}
IsDecidedFate s change fates.Current = change ≡ changes.Nothing
IsDecidedFate s change (fates.Delayed until) = (change ≡ changes.Nothing) × (s.clock ≤ until)
IsDecidedFate s change (fates.Linked key discipline) = change ≡ changes.Nothing
IsDecidedFate s change (fates.Destroyed count) = change ≡ changes.Nothing

-- a facility refuses while it is owned, and a storage so many units that do not fit beside those in use
abbrev pub IsRefused : Listing → Machine → Key → ℕ → Type 0
IsRefused t s (keys.Defined name) units =
    does_fit t name (beside units (store_at s.entities (keys.Defined name)).level.content) ≡ false
IsRefused t s key units = is_some (facility_at s.entities key).owner ≡ true

-- the counts that were read are those of blocks
abbrev pub AreWatched : Listing → List Watched → Type 0
AreWatched t read = AreNumbered t.lines → AllByRecursion (WatchedNames t) read

-- a command is done where no START is under way
pub record IsNext (t : Listing) (s : Machine) (command : Command) : Type 0 where
  pub idle : s.remaining ≡ 0
  pub next : command_at t (raised s.commands) ≡ Some command

abbrev pub IsDecided : Listing → Machine → Move → Type 0
IsDecided t s (moves.Start count arrivals) = AreFirst t s arrivals
IsDecided t s moves.Command = Unit {0}
IsDecided t s moves.Reset = IsNext t s commands.Reset
IsDecided t s moves.Clear = IsNext t s commands.Clear
IsDecided t s (moves.Enter id change fate) = IsBlockId t id × IsDecidedChange t s change × IsDecidedFate s change fate
IsDecided t s (moves.Refuse id key units) = IsBlockId t id × IsRefused t s key units
IsDecided t s (moves.Watch read) = AreWatched t read
IsDecided t s moves.Pick = s.active ≡ None
IsDecided t s (moves.Clock time) = (least_time s.future ≡ Some time) × (nat_le time t.horizon ≡ true)

-- what is known of an item that is read: where the statements have numbers of their own, it names no id but those of
-- blocks
abbrev pub IsRead : Listing → Machine → Item → Type 0
IsRead t s i = AreNumbered t.lines → ActiveNames t s.active → ItemNames t i

-- ---- a block that is tried

-- a block at which whoever waits for a change may wait: a TEST or a GATE without a label
abbrev pub WaitsAtVerb : Block → BlockVerb → Type 0
WaitsAtVerb b blocks.Test = operand b C ≡ None
WaitsAtVerb b blocks.Gate = operand b B ≡ None
WaitsAtVerb b verb = ⊥

abbrev pub WaitsAtBlock : Option Block → Type 0
WaitsAtBlock None = ⊥
WaitsAtBlock (Some b) = WaitsAtVerb b b.verb

-- the discipline by which a block links: a LINK by that of its operand
abbrev pub LinksAtVerb : Block → BlockVerb → Discipline → Type 0
LinksAtVerb b blocks.Link discipline = operand b B ≡ Some (Order discipline)
LinksAtVerb b verb discipline = ⊥

abbrev pub LinksAtBlock : Option Block → Discipline → Type 0
LinksAtBlock None discipline = ⊥
LinksAtBlock (Some b) discipline = LinksAtVerb b b.verb discipline

abbrev pub never : Discipline → Type 0
never discipline = ⊥

-- where a transaction is linked, the discipline has the property L
abbrev pub LinksBy : (Discipline → Type 0) → Fate → Type 0
LinksBy L (fates.Linked key discipline) = L discipline
LinksBy L fate = Unit {0}

-- the block at id is entered, or refuses, or its transaction waits for a change as it came, and then it has the
-- property P
abbrev pub IsTried : Listing → Machine → Type 0 → (Discipline → Type 0) → ℕ → Move → Type 0
IsTried t s P L id (moves.Enter to change fate) = (to ≡ id) × LinksBy L fate × IsDecidedChange t s change × IsDecidedFate s change fate
IsTried t s P L id (moves.Refuse to key units) = (to ≡ id) × IsRefused t s key units
IsTried t s P L id (moves.Watch read) = P × AreWatched t read
IsTried t s P L id move = ⊥

-- the active transaction tries the block to which it goes, and this comes of it
pub record IsAttempt (t : Listing) (seed : ℕ) (s : Machine) (m : Move) : Type 0 where
  pub who : Transaction
  pub active : s.active ≡ Some who
  pub id : ℕ
  pub goes : or_next who.destination (after_at t who.current) ≡ Some id
  pub block : Block
  pub there : block_at t id ≡ Some block
  pub before : List Stream
  pub after : List Stream
  pub comes : result_of t seed (meet_prog s who id (Some block) before) ≡ Ok (m, after)
  pub tried : IsTried t s (WaitsAtBlock (Some block)) (LinksAtBlock (Some block)) id m

-- ---- a step

-- a START is under way, and nobody is active or on the current chain
pub record NobodyMoves (s : Machine) : Type 0 where
  pub started : 1 ≤ s.remaining
  pub active : s.active ≡ None
  pub current : s.current ≡ []

-- what a step does: a command, an attempt, or it picks one or moves the clock
abbrev pub IsStep : Listing → ℕ → Machine → Move → Type 0
IsStep t seed s (moves.Start count arrivals) = IsNext t s (commands.Start count) × AreFirst t s arrivals
IsStep t seed s moves.Command = (values : List (Option ℕ)) × IsNext t s (commands.Rmult values)
IsStep t seed s moves.Reset = IsNext t s commands.Reset
IsStep t seed s moves.Clear = IsNext t s commands.Clear
IsStep t seed s moves.Pick = (1 ≤ s.remaining) × (s.active ≡ None)
IsStep t seed s (moves.Clock time) = NobodyMoves s × (least_time s.future ≡ Some time) × (nat_le time t.horizon ≡ true)
IsStep t seed s move = (1 ≤ s.remaining) × IsAttempt t seed s move

-- why there is none: no command is left, nobody will move, the clock would go beyond the horizon; and an error comes in
-- an attempt, or where a START makes the first transactions
abbrev pub IsEnd : Listing → Machine → End → Type 0
IsEnd t s ends.CommandsDone = (s.remaining ≡ 0) × (command_at t (raised s.commands) ≡ None)
IsEnd t s ends.Dry = NobodyMoves s × (least_time s.future ≡ None)
IsEnd t s ends.Horizon = NobodyMoves s × (time : ℕ) × (least_time s.future ≡ Some time) × (nat_le time t.horizon ≡ false)
IsEnd t s (ends.Error stop) =
    ((1 ≤ s.remaining) × (x : Transaction) × (s.active ≡ Some x))
    ⊎ ((count : ℕ) × (s.primed ≡ false) × IsNext t s (commands.Start count))

module _ (t : Listing) (seed : ℕ) (s : Machine) where
  pub attempt_step : (m : Move) → 1 ≤ s.remaining → IsAttempt t seed s m → IsStep t seed s m
  attempt_step (moves.Enter id change fate) started a = (started, a)
  attempt_step (moves.Refuse id key units) started a = (started, a)
  attempt_step (moves.Watch read) started a = (started, a)
  attempt_step m started a = absurd a.tried

  is_block : (id to : ℕ) (b : Block) → block_at t id ≡ Some b → to ≡ id → IsBlockId t to
  is_block id to b there same = subst (IsBlockId t) (sym same) (inr (b, there))

  pub step_is_decided : (m : Move) → IsStep t seed s m → IsDecided t s m
  step_is_decided (moves.Start count arrivals) h = h.1
  step_is_decided moves.Command h = tt
  step_is_decided moves.Reset h = h
  step_is_decided moves.Clear h = h
  step_is_decided (moves.Enter to change fate) h =
      let tried = h.1.tried in (is_block h.1.id to h.1.block h.1.there tried.0, tried.2, tried.3)
  step_is_decided (moves.Refuse to key units) h =
      let tried = h.1.tried in (is_block h.1.id to h.1.block h.1.there tried.0, tried.1)
  step_is_decided (moves.Watch read) h = h.1.tried.1
  step_is_decided moves.Pick h = h.1
  step_is_decided (moves.Clock time) h = (h.1, h.2)

-- what is known of the state after a step
pub record IsAfter (t : Listing) (seed : ℕ) (s v : Machine) : Type 0 where
  pub move : Move
  pub streams : List Stream
  pub goes : result_of t seed (decide s) ≡ Ok (move, streams)
  pub is_step : IsStep t seed s move
  pub is_decided : IsDecided t s move
  pub is : v ≡ decided s move streams
