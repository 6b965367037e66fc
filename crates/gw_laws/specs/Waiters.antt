-- Those who wait at a TEST or a GATE for a change of something that they read, over every run from zero. (Manual: retry
-- chains.)
use Rattle.std.specs.Prelude.{◌≡◌, ◌<◌, ◌≤◌, ◌⊎◌, ℕ, ℤ, suc, Bool, true, false, ◌&&◌, List, [], ◌∷◌, ◌++◌, Option, Some, None, Ok, Contains, filter, slice_get, Result, Err}
use Rattle.std.specs.List.{list_any}
use Rattle.gw_nums.specs.Range.{magnitude}
use Rattle.gw_names.specs.declared.key.Key.{Key}
use Rattle.gw_names.specs.declared.key.Key.TheVariants as keys
use Rattle.gw_names.specs.declared.verb.BlockVerb.TheVariants as blocks
use Rattle.gw_expr.specs.declared.atom.Atom.TheVariants as atoms
use Rattle.gw_expr.specs.Term.{Term}
use Rattle.gw_expr.specs.declared.expr.Expr.TheVariants.{Value, Named, Defined}
use Rattle.gw_expr.specs.Evaluation.{Question, AttributeOf, PartOf, Reply, Evaluation, Yields, Stops, Wants, value_of}
use Rattle.gw_names.specs.declared.class.Class.{Class}
use Rattle.gw_names.specs.declared.class.Class.TheVariants as class
use Rattle.gw_streams.specs.declared.stream.Stream.{Stream}
use Rattle.gw_meaning.specs.declared.auxiliary.Auxiliary.TheVariants as auxiliaries
use Rattle.gw_meaning.specs.declared.auxiliary.Condition.{Condition}
use Rattle.gw_meaning.specs.declared.statement.Block.{Block}
use Rattle.gw_meaning.specs.declared.transaction.Transaction.{Transaction}
use Rattle.gw_meaning.specs.declared.moves.Change.{Change}
use Rattle.gw_meaning.specs.declared.moves.Change.TheVariants as changes
use Rattle.gw_meaning.specs.declared.moves.Fate.{Fate}
use Rattle.gw_meaning.specs.declared.moves.Fate.TheVariants as fates
use Rattle.gw_meaning.specs.declared.moves.Move.{Move}
use Rattle.gw_meaning.specs.declared.moves.Move.TheVariants as moves
use Rattle.gw_meaning.specs.declared.asker.Asker.{Asker}
use Rattle.gw_expr.specs.declared.halt.End.{End}
use Rattle.gw_meaning.specs.declared.item.Item.{Item}
use Rattle.gw_meaning.specs.declared.watched.EntityKind.{EntityKind}
use Rattle.gw_meaning.specs.declared.watched.EntityKind.TheVariants as kinds
use Rattle.gw_meaning.specs.declared.watched.Watched.{Watched}
use Rattle.gw_meaning.specs.declared.watched.Watched.TheVariants as watched
use Rattle.gw_meaning.specs.Statements.{A, B, operand}
use Rattle.gw_meaning.specs.Listing.{Listing, block_at, number_at, capacity_at}
use Rattle.gw_meaning.specs.Watching.{Waiter, kind_of, transactions_of}
use Rattle.gw_meaning.specs.Machine.{Machine, delay_at, waiting}
use Rattle.gw_meaning.specs.Questions.{result_of, items_of}
use Rattle.gw_meaning.specs.Changes.{written, is_woken}
use Rattle.gw_meaning.specs.Evaluation.{Eval, reply_prog, evaluated, value_there, value_traced}
use Rattle.gw_meaning.specs.Step.{for_one, holds, is_open, decide, step, run}
use Rattle.gw_model.specs.Well.{Well}
use Rattle.gw_laws.specs.Delays.{IsLetIn}
use Rattle.gw_laws.specs.Destinations.{goes_to, IsAtATestOrAGate}
use Rattle.gw_meaning.specs.declared.statement.Command.TheVariants as commands
use Rattle.gw_laws.specs.Anew.{Clears, IsNoClear, NoneBetween}

-- w waits for a change
abbrev pub Waits : Machine → Waiter → Type 0
Waits s w = Contains s.retry w

-- of a list, one stands in front of another
abbrev pub StandsInFront : {X : Type 0} → List X → X → X → Type 0
StandsInFront xs x y = (i j : ℕ) × (i < j) × (slice_get xs i ≡ Some x) × (slice_get xs j ≡ Some y)

-- nobody comes to wait but the active transaction, as it was
abbrev pub IsAtMostTheActive : Option Transaction → List Waiter → Type 0
IsAtMostTheActive active come =
    (come ≡ []) ⊎ ((w : Waiter) × (come ≡ w ∷ []) × (active ≡ Some w.transaction))

-- in a step some wait on, in the order in which they were there, and after these comes at most the one who was active,
-- as it was
abbrev pub WaitersKeepTheirOrder : Type 0
WaitersKeepTheirOrder =
    (t : Listing) (seed : ℕ) (s v : Machine) → step t seed s ≡ Ok v →
    (stays : Waiter → Bool) × (come : List Waiter) × (v.retry ≡ filter stays s.retry ++ come)
    × IsAtMostTheActive s.active come

-- of two of one priority whom a step wakes, the one who came first stands in front (a CLEAR wakes nobody: it removes
-- all; and a RESET wakes nobody)
abbrev pub WokenInOrder : Type 0
WokenInOrder =
    (t : Listing) (seed n : ℕ) (s v : Machine) → run t seed n ≡ Ok s → run t seed (suc n) ≡ Ok v → IsNoClear t s →
    (w u : Waiter) → StandsInFront s.retry w u → w.transaction.priority ≡ u.transaction.priority →
    (Waits v w → ⊥) → (Waits v u → ⊥) → StandsInFront v.current w.transaction u.transaction

-- whoever read something that the step writes wakes, and is on the current chain then; whoever did not, waits on,
-- unless a CLEAR removes all
abbrev pub WokenByWhatIsWritten : Type 0
WokenByWhatIsWritten =
    (t : Listing) (seed : ℕ) (s v : Machine) (w : Waiter) (m : Move) (streams : List Stream) →
    result_of t seed (decide s) ≡ Ok (m, streams) → step t seed s ≡ Ok v → (Clears m → ⊥) → Waits s w →
    (is_woken (written s m) w ≡ true → Contains v.current w.transaction)
    × (is_woken (written s m) w ≡ false → Waits v w)

-- whoever waits tried a TEST or a GATE without a label: the block of its destination where it has one, and else the one
-- after its own
abbrev pub WhoWaitsIsAtATestOrAGate : Type 0
WhoWaitsIsAtATestOrAGate =
    (t : Listing) (seed n : ℕ) (s : Machine) → run t seed n ≡ Ok s →
    (w : Waiter) → Waits s w → IsAtATestOrAGate t w.transaction

-- where no transaction is active, as where the clock moves on, one is picked or a command is done, as a RESET, nobody
-- wakes: all wait on, unless a CLEAR removes them
abbrev pub NobodyWakesWhereNoneIsActive : Type 0
NobodyWakesWhereNoneIsActive =
    (t : Listing) (seed : ℕ) (s v : Machine) → step t seed s ≡ Ok v → IsNoClear t s → s.active ≡ None →
    v.retry ≡ s.retry

-- the transaction x waits, on a delay chain or for a change
abbrev pub HasToWait : Machine → Transaction → Type 0
HasToWait s x =
    (y : Transaction) × Contains (waiting s.delays ++ transactions_of s.retry) y × (y.number ≡ x.number)

-- where the active one has to wait after a step, all who waited wait on, in their order, and after them at most that
-- one. (Within the step limit, since numbers tell transactions apart there.)
abbrev pub NobodyWakesWhereTheActiveHasToWait : Type 0
NobodyWakesWhereTheActiveHasToWait =
    (t : Listing) (seed n : ℕ) (s v : Machine) → Well t → n ≤ t.limit →
    run t seed n ≡ Ok s → run t seed (suc n) ≡ Ok v →
    (x : Transaction) → s.active ≡ Some x → HasToWait v x →
    (come : List Waiter) × (v.retry ≡ s.retry ++ come) × IsAtMostTheActive s.active come

-- a step's move enters a block
abbrev pub IsEntry : Move → Type 0
IsEntry (moves.Enter id change fate) = Unit {0}
IsEntry move = ⊥

-- and so wherever no block is entered, unless a CLEAR removes all
abbrev pub NobodyWakesUnlessABlockIsEntered : Type 0
NobodyWakesUnlessABlockIsEntered =
    (t : Listing) (seed : ℕ) (s v : Machine) (m : Move) (streams : List Stream) →
    result_of t seed (decide s) ≡ Ok (m, streams) → step t seed s ≡ Ok v → (Clears m → ⊥) → (IsEntry m → ⊥) →
    (come : List Waiter) × (v.retry ≡ s.retry ++ come) × IsAtMostTheActive s.active come

-- a block that a transaction leaves for another, or that other one
abbrev pub IsLeftOrEntered : Transaction → ℕ → ℕ → Type 0
IsLeftOrEntered x to block = (block ≡ x.current) ⊎ (block ≡ to)

-- x waited on a delay chain before a step, and the step lets it in
abbrev pub LeavesForItsBlock : Machine → Machine → Transaction → Type 0
LeavesForItsBlock s v x = (key : Key) × Contains (delay_at s.delays key) x × IsLetIn x v

-- the blocks whose counts change where one is entered: those that the active transaction leaves and enters, and those
-- that each leaves and enters who is let in
abbrev pub IsCrossed : Machine → Machine → ℕ → ℕ → Type 0
IsCrossed s v id block =
    ((x : Transaction) × (s.active ≡ Some x) × IsLeftOrEntered x id block)
    ⊎ ((x : Transaction) × (way : LeavesForItsBlock s v x) × IsLeftOrEntered x way.2.0 block)

-- the entity that a block changes, and the user chain from which it takes transactions
abbrev pub IsEntityOf : Change → EntityKind → Key → Type 0
IsEntityOf (changes.Unlink chain count to) kind key = (kind ≡ kinds.UserChain) × (key ≡ chain)
IsEntityOf (changes.Entity change) kind key = (kind ≡ kind_of change.1) × (key ≡ change.0)
IsEntityOf change kind key = ⊥

-- the user chain to which it links its transaction
abbrev pub IsLinkedTo : Fate → EntityKind → Key → Type 0
IsLinkedTo (fates.Linked chain discipline) kind key = (kind ≡ kinds.UserChain) × (key ≡ chain)
IsLinkedTo fate kind key = ⊥

-- what an entry changes
abbrev pub IsChangedBy : Machine → Machine → ℕ → Change → Fate → Watched → Type 0
IsChangedBy s v id change fate (watched.Counts block) = IsCrossed s v id block
IsChangedBy s v id change fate (watched.Entity kind key) = IsEntityOf change kind key ⊎ IsLinkedTo fate kind key

abbrev pub IsChanged : Machine → Machine → Move → Watched → Type 0
IsChanged s v (moves.Enter id change fate) w = IsChangedBy s v id change fate w
IsChanged s v move w = ⊥

-- whoever wakes read something that the entry of a block changed (whom a CLEAR removes does not wake)
abbrev pub WhoWakesReadWhatChanged : Type 0
WhoWakesReadWhatChanged =
    (t : Listing) (seed : ℕ) (s v : Machine) (w : Waiter) (m : Move) (streams : List Stream) →
    result_of t seed (decide s) ≡ Ok (m, streams) → step t seed s ≡ Ok v → (Clears m → ⊥) →
    Waits s w → (Waits v w → ⊥) →
    (r : Watched) × Contains w.read r × IsChanged s v m r

-- the entity that an operand names as it is written: by a name, which may stand for a number, by a number, or by the
-- name of its definition
abbrev pub named_key : List ℕ → Option ℤ → Key
named_key name None = keys.Named name
named_key name (Some n) = keys.Num (magnitude n)

abbrev pub key_written : Listing → Option Term → Option Key
key_written t (Some (Defined name)) = Some (keys.Defined name)
key_written t (Some (Named name)) = Some (named_key name (number_at t name))
key_written t (Some (Value (atoms.Constant n))) = Some (keys.Num (magnitude n))
key_written t operand = None

-- the capacity that a version gives an entity; what is no storage has none
abbrev pub capacity_of : Listing → Key → ℕ
capacity_of t (keys.Defined name) = capacity_at t name
capacity_of t key = 0

-- nobody waits at a GATE whose condition holds of the entity that its operand names
abbrev pub NobodyWaitsAtAnOpenGate : Type 0
NobodyWaitsAtAnOpenGate =
    (t : Listing) (seed n : ℕ) (s : Machine) → run t seed n ≡ Ok s →
    (w : Waiter) (id : ℕ) (b : Block) (condition : Condition) (key : Key) → Waits s w →
    goes_to t w.transaction ≡ Some id → block_at t id ≡ Some b → b.verb ≡ blocks.Gate →
    b.auxiliary ≡ auxiliaries.Gate condition → key_written t (operand b A) ≡ Some key →
    is_open s condition key (capacity_of t key) ≡ false

-- what stays as it is until a block writes it, but for a RESET: owners, contents, counts, savevalues and switches, who
-- is on a user chain, and what a transaction that waits has of its own
abbrev pub is_lasting : Class → Bool
is_lasting class.F = true
is_lasting class.Fc = true
is_lasting class.S = true
is_lasting class.R = true
is_lasting class.Sc = true
is_lasting class.Sm = true
is_lasting class.Q = true
is_lasting class.Qc = true
is_lasting class.Qm = true
is_lasting class.Qz = true
is_lasting class.N = true
is_lasting class.W = true
is_lasting class.X = true
is_lasting class.Ls = true
is_lasting class.Ch = true
is_lasting class.Cc = true
is_lasting class.Tc = true
is_lasting class.P = true
is_lasting class.Pr = true
is_lasting class.Xn1 = true
is_lasting class.C1 = false
is_lasting class.Ac1 = false
is_lasting class.Tg1 = false
is_lasting class.M1 = false
is_lasting class.Rn = false
is_lasting class.V = false
is_lasting class.Fn = false

-- what a RESET leaves of that as it is; the others it counts anew, and wakes nobody
abbrev pub outlasts_reset : Class → Bool
outlasts_reset class.Fc = false
outlasts_reset class.Sc = false
outlasts_reset class.Sm = false
outlasts_reset class.Qc = false
outlasts_reset class.Qm = false
outlasts_reset class.Qz = false
outlasts_reset class.N = false
outlasts_reset class.Cc = false
outlasts_reset class.Tc = false
outlasts_reset class = true

-- what lasts where RESETs may be done, and where none is
abbrev pub lasts_through : Bool → Class → Bool
lasts_through true class = is_lasting class && outlasts_reset class
lasts_through false class = is_lasting class

abbrev pub IsLasting : Bool → Question → Type 0
IsLasting resets (AttributeOf class of) = lasts_through resets class ≡ true
IsLasting resets (PartOf of) = ⊥
IsLasting resets question = Unit {0}

-- what an evaluation comes to, from any streams and without a draw
abbrev pub ComesTo : {A : Type 0} → Listing → ℕ → Eval A → A → Type 0
ComesTo t seed p a = (streams : List Stream) → result_of t seed (p streams) ≡ Ok (a, streams)

-- an evaluation reads nothing in a state but what lasts
abbrev pub ReadsWhatLasts : {A : Type 0} → Bool → Listing → ℕ → Machine → Asker → Evaluation A → Type 0
ReadsWhatLasts resets t seed s q (Yields a) = Unit {0}
ReadsWhatLasts resets t seed s q (Stops stop) = Unit {0}
ReadsWhatLasts resets t seed s q (Wants question k) =
    IsLasting resets question
    × ((reply : Reply question) → ComesTo t seed (reply_prog s q question) reply →
    ReadsWhatLasts resets t seed s q (k reply))

-- a value that reads nothing but what lasts, and what it comes to
abbrev pub Lasts : Bool → Listing → ℕ → Machine → Asker → Term → ℤ → Type 0
Lasts resets t seed s q term x =
    ReadsWhatLasts resets t seed s q (value_of term) × ComesTo t seed (evaluated s q (value_of term)) x

-- w came to wait after the moment m, and no RESET was done from there up to the moment n
pub record WaitsSince (t : Listing) (seed m n : ℕ) (w : Waiter) : Type 0 where
  pub before : m ≤ n
  pub not_yet : (u : Machine) → run t seed m ≡ Ok u → Waits u w → ⊥
  pub no_reset : NoneBetween commands.Reset t seed m n

-- nobody waits at a TEST whose relation holds of two values that read nothing but what lasts: where no RESET was done
-- since he came to wait, what it counts anew lasts, too. (Within the step limit, since numbers tell transactions apart
-- there.)
abbrev pub NobodyWaitsAtATestThatHolds : Type 0
NobodyWaitsAtATestThatHolds =
    (resets : Bool) (t : Listing) (seed m n : ℕ) (s : Machine) → Well t → n ≤ t.limit → run t seed n ≡ Ok s →
    (w : Waiter) (id : ℕ) (b : Block) (first second : Term) (x y : ℤ) → Waits s w →
    (resets ≡ false → WaitsSince t seed m n w) →
    goes_to t w.transaction ≡ Some id → block_at t id ≡ Some b → b.verb ≡ blocks.Test →
    operand b A ≡ Some first → operand b B ≡ Some second →
    Lasts resets t seed s (for_one s w.transaction) first x →
    Lasts resets t seed s (for_one s w.transaction) second y →
    holds b.auxiliary x y ≡ false

-- the result of an evaluation without what it read
abbrev pub value_alone : {A : Type 0} → Result ((A × List Watched) × List Stream) End → Result (A × List Stream) End
value_alone (Ok r) = Ok (r.0.0, r.1)
value_alone (Err end) = Err end

-- an attempt that tells what it read evaluates an operand as every other does: it comes to the same, ends the same,
-- leaves the same streams, and asks no other items
abbrev pub TellingChangesNothing : Type 0
TellingChangesNothing =
    (t : Listing) (seed : ℕ) (s : Machine) (q : Asker) (read : List Watched) (operand : Option Term)
    (streams : List Stream) →
    (value_alone (result_of t seed (value_traced s q read operand streams))
    ≡ result_of t seed (value_there s q operand streams))
    × ((test : Item → Bool) →
    list_any test (items_of t seed (value_traced s q read operand streams))
    ≡ list_any test (items_of t seed (value_there s q operand streams)))
