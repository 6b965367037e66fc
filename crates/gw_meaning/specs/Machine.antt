-- The state of a run: both clocks, the termination count, what is done, the streams, the chains, the counts of the
-- blocks, the entities and the parameters of the transactions.
-- (Manual; that RESET's clock is kept as a time is our own.)
use Rattle.std.specs.Prelude.{◌≡◌, ℕ, ℤ, ◌+◌, ◌-◌, ◌^◌, Bool, false, ◌==◌, List, [], ◌∷◌, ◌++◌, Option, Some, None, if◌then◌else◌, min, length, unwrap_or, AllPairs}
use Rattle.gw_nums.specs.Range.{is_below}
use Rattle.gw_names.specs.declared.key.Key.{Key}
use Rattle.gw_meaning.specs.Tables.{value_of}
use Rattle.gw_streams.specs.declared.stream.Stream.{Stream}
use Rattle.gw_streams.specs.Draws.{untouched}
use Rattle.gw_meaning.specs.Entities.{Entities, no_entities}
use Rattle.gw_meaning.specs.declared.transaction.Transaction.{Transaction}
use Rattle.gw_meaning.specs.declared.transaction.Event.{Event}
use Rattle.gw_meaning.specs.declared.transaction.Count.{Count}
use Rattle.gw_meaning.specs.Watching.{Waiter}

-- a user chain: how many were linked to it, and who is on it, from the front
pub record UserChain : Type 0 where
  pub entries : ℕ
  pub members : List Transaction

pub record Machine : Type 0 where
  -- the absolute clock
  pub clock : ℕ
  -- the absolute clock at the last RESET or CLEAR: the relative clock counts from there
  pub since : ℕ
  -- what is left of the termination count of the START under way; 0 where none is under way
  pub remaining : ℕ
  -- commands done, and STARTs complete
  pub commands : ℕ
  pub complete : ℕ
  -- whether the GENERATEs have their first transactions
  pub primed : Bool
  -- the random streams
  pub streams : List Stream
  -- the number of the next transaction
  pub next : ℕ
  pub active : Option Transaction
  -- the current chain: by priority, first in first out within
  pub current : List Transaction
  -- the future chain, in the order of coming onto it
  pub future : List Event
  -- the delay chain of each facility and storage that somebody waited for, in the order of first waiting: who waits has
  -- the block that refused it as its destination
  pub delays : List (Key × List Transaction)
  -- the retry chain: who waits for a change of something that it read, in order of waiting
  pub retry : List Waiter
  -- the user chain of each name or number to which somebody was linked, in the order of first linking
  pub linked : List (Key × UserChain)
  -- what is counted at each block, in the order of first use
  pub counts : List (ℕ × Count)
  pub entities : Entities
  -- the parameters of each transaction that has some, by its number
  pub parameters : List (ℕ × List (Key × ℤ))

-- a chain in order of priority: no transaction stands after one of lower priority
abbrev pub AreInOrder : List Transaction → Type 0
AreInOrder chain = AllPairs (λ (x y : Transaction). is_below x.priority y.priority ≡ false) chain

-- the state before the first step
abbrev pub zero_state : Machine
zero_state = record {
  clock = 0;
  since = 0;
  remaining = 0;
  commands = 0;
  complete = 0;
  primed = false;
  streams =
      untouched;
  next = 1;
  active = None;
  current = [];
  future = [];
  delays = [];
  retry = [];
  linked = [];
  counts = [];
  entities = no_entities;
  parameters = [];
}

-- one more; a count of 64 bits stays at its greatest value, which no run is long enough to reach
abbrev pub raised : ℕ → ℕ
raised n = min (n + 1) (2 ^ 64 - 1)

-- a block that nothing entered
abbrev pub no_count : Count
no_count = record { entries = 0; content = 0; made = 0 }

-- what is counted at a block
abbrev pub count_in : List (ℕ × Count) → ℕ → Option Count
count_in [] id = None
count_in (c ∷ cs) id = if id == c.0 then Some c.1 else count_in cs id

abbrev pub or_no_count : Option Count → Count
or_no_count None = no_count
or_no_count (Some c) = c

abbrev pub count_at : List (ℕ × Count) → ℕ → Count
count_at counts id = or_no_count (count_in counts id)

-- the counts with one of them set
abbrev pub with_count : List (ℕ × Count) → ℕ → Count → List (ℕ × Count)
with_count [] id c = (id, c) ∷ []
with_count (d ∷ ds) id c = if id == d.0 then (d.0, c) ∷ ds else d ∷ with_count ds id c

-- the delay chain of a facility or a storage, by priority, first in first out within
abbrev pub delay_at : List (Key × List Transaction) → Key → List Transaction
delay_at delays key = unwrap_or (value_of delays key) []

-- all who are on such chains
abbrev pub waiting : List (Key × List Transaction) → List Transaction
waiting [] = []
waiting (d ∷ ds) = d.1 ++ waiting ds

-- a user chain, which is empty where nobody was linked to it yet
abbrev pub no_chain : UserChain
no_chain = record { entries = 0; members = [] }

abbrev pub user_chain_at : List (Key × UserChain) → Key → UserChain
user_chain_at linked key = unwrap_or (value_of linked key) no_chain

-- who is on each user chain
abbrev pub members_of : List (Key × UserChain) → List (Key × List Transaction)
members_of [] = []
members_of (c ∷ cs) = (c.0, c.1.members) ∷ members_of cs

-- how many transactions live
abbrev pub number_of_active : Option Transaction → ℕ
number_of_active None = 0
number_of_active (Some x) = 1

abbrev pub live : Machine → ℕ
live s =
    number_of_active s.active
    + length s.current
    + length s.future
    + length (waiting s.delays)
    + length s.retry
    + length (waiting (members_of s.linked))
