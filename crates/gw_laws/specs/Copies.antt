-- The copies that a SPLIT makes, over every run from zero. (Manual: SPLIT. Our own: the order of their numbers. Within the
-- step limit, since numbers tell transactions apart there.)
use Rattle.std.specs.Prelude.{◌≡◌, ◌≢◌, ℕ, zero, suc, ◌+◌, ◌<◌, ◌≤◌, false, List, [], ◌∷◌, ◌++◌, Option, Some, Ok, Contains}
use Rattle.gw_names.specs.declared.key.Key.{Key}
use Rattle.gw_meaning.specs.QueueArrivals.{came}
use Rattle.gw_meaning.specs.Parameters.{parameter_at}
use Rattle.gw_streams.specs.declared.stream.Stream.{Stream}
use Rattle.gw_meaning.specs.declared.transaction.Transaction.{Transaction}
use Rattle.gw_meaning.specs.declared.moves.Change.TheVariants as changes
use Rattle.gw_meaning.specs.declared.moves.Fate.{Fate}
use Rattle.gw_meaning.specs.declared.moves.Move.TheVariants as moves
use Rattle.gw_meaning.specs.Listing.{Listing}
use Rattle.gw_meaning.specs.Machine.{Machine, count_at, raised}
use Rattle.gw_meaning.specs.Questions.{result_of}
use Rattle.gw_meaning.specs.Step.{decide, run}
use Rattle.gw_model.specs.Well.{Well}
use Rattle.gw_laws.specs.Chain.{numbers_of}
use Rattle.gw_laws.specs.Living.{living, IsActive}

-- a step of a run is the entry of a SPLIT, which makes so many copies and sends them to a block, or on from its own
pub record IsSplit (t : Listing) (seed : ℕ) (s v : Machine) (id count : ℕ) (to : Option ℕ) : Type 0 where
  pub well : Well t
  pub moment : ℕ
  pub within : moment ≤ t.limit
  pub before : run t seed moment ≡ Ok s
  pub behind : run t seed (suc moment) ≡ Ok v
  pub fate : Fate
  pub streams : List Stream
  pub splits : result_of t seed (decide s) ≡ Ok (moves.Enter id (changes.Split count to) fate, streams)

-- the transaction that enters stays active, and stands in the block
abbrev pub TheParentStaysActive : Type 0
TheParentStaysActive =
    (t : Listing) (seed : ℕ) (s v : Machine) (id count : ℕ) (to : Option ℕ) → IsSplit t seed s v id count to →
    (x : Transaction) × (v.active ≡ Some x) × (x.current ≡ id) × IsActive s x.number

-- so many numbers are given
abbrev pub EachCopyHasANumber : Type 0
EachCopyHasANumber =
    (t : Listing) (seed : ℕ) (s v : Machine) (id count : ℕ) (to : Option ℕ) → IsSplit t seed s v id count to →
    v.next ≡ s.next + count

-- as the transaction x but for its number, and on its way to this block
pub record IsCopyOf (x : Transaction) (to : Option ℕ) (y : Transaction) : Type 0 where
  pub priority : y.priority ≡ x.priority
  pub mark : y.mark ≡ x.mark
  pub current : y.current ≡ x.current
  pub destination : y.destination ≡ to

-- whoever has one of these numbers is a copy of the one that is active
abbrev pub CopiesAreAlike : Type 0
CopiesAreAlike =
    (t : Listing) (seed : ℕ) (s v : Machine) (id count : ℕ) (to : Option ℕ) → IsSplit t seed s v id count to →
    (x y : Transaction) → v.active ≡ Some x → Contains (living v) y → s.next ≤ y.number → IsCopyOf x to y

-- and has its parameters
abbrev pub CopiesInherit : Type 0
CopiesInherit =
    (t : Listing) (seed : ℕ) (s v : Machine) (id count : ℕ) (to : Option ℕ) → IsSplit t seed s v id count to →
    (x : Transaction) (number : ℕ) (key : Key) → v.active ≡ Some x → s.next ≤ number → number < v.next →
    parameter_at v.parameters number key ≡ parameter_at v.parameters x.number key

-- but it came to no queue
abbrev pub CopiesCameToNoQueue : Type 0
CopiesCameToNoQueue =
    (t : Listing) (seed : ℕ) (s v : Machine) (id count : ℕ) (to : Option ℕ) → IsSplit t seed s v id count to →
    (number : ℕ) (queue : Key) → s.next ≤ number → came v.entities.queue_arrivals queue number ≡ false

-- so many numbers, from this one on
abbrev pub numbers_from : ℕ → ℕ → List ℕ
numbers_from first zero = []
numbers_from first (suc n) = first ∷ numbers_from (suc first) n

-- the copies stand on the current chain in the order of their numbers, after all of their priority who stood there;
-- after them stand those whom the step wakes
abbrev pub CopiesLineUpInOrder : Type 0
CopiesLineUpInOrder =
    (t : Listing) (seed : ℕ) (s v : Machine) (id count : ℕ) (to : Option ℕ) → IsSplit t seed s v id count to →
    (x : Transaction) → v.active ≡ Some x →
    (woken : List ℕ)
    × (numbers_of x.priority v.current ≡ numbers_of x.priority s.current ++ (numbers_from s.next count ++ woken))

-- a copy is no entry of a block: the SPLIT has one entry more, and no other block has
abbrev pub CopiesAreNoEntries : Type 0
CopiesAreNoEntries =
    (t : Listing) (seed : ℕ) (s v : Machine) (id count : ℕ) (to : Option ℕ) → IsSplit t seed s v id count to →
    ((count_at v.counts id).entries ≡ raised (count_at s.counts id).entries)
    × ((block : ℕ) → block ≢ id → (count_at v.counts block).entries ≡ (count_at s.counts block).entries)

-- but it stands in the block: where the transaction came from another one, the SPLIT has it and the copies more
abbrev pub CopiesStandInTheBlock : Type 0
CopiesStandInTheBlock =
    (t : Listing) (seed : ℕ) (s v : Machine) (id count : ℕ) (to : Option ℕ) → IsSplit t seed s v id count to → 0 < id →
    (x : Transaction) → s.active ≡ Some x → x.current ≢ id →
    (count_at v.counts id).content ≡ (count_at s.counts id).content + (1 + count)
