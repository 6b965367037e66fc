-- The future chain in blocks. (Our own: it says how the chain is kept, and nothing of what it holds.)
use Rattle.std.specs.Prelude.{◌≡◌, ℕ, ◌+◌, ◌≤◌, ◌==◌, List, [], ◌∷◌, ◌++◌, Option, Some, None}
use Rattle.std.specs.Prelude.{length, filter, is_some, nat_le, nat_lt, unwrap_or, pos, if◌then◌else◌}
use Rattle.slab.specs.Slab.{Slab, get}
use Rattle.gw_meaning.specs.declared.transaction.Transaction.{Transaction}
use Rattle.gw_meaning.specs.declared.transaction.Event.{Event}
use Rattle.gw_meaning.specs.Step.{least_time}

-- what stands for a transaction where there is none
abbrev pub no_transaction : Transaction
no_transaction = record { number = 0; priority = pos 0; mark = 0; current = 0; destination = None; asked = 0 }

-- the transaction at a key
abbrev pub at : Slab Transaction → ℕ → Transaction
at slab key = unwrap_or (get slab key) no_transaction

-- the transactions at keys, each at its time
abbrev pub events_of : Slab Transaction → List ℕ → List ℕ → List Event
events_of slab [] keys = []
events_of slab (t ∷ ts) [] = []
events_of slab (t ∷ ts) (k ∷ ks) = record { time = t; transaction = at slab k } ∷ events_of slab ts ks

-- how often a key stands in a list
abbrev pub places : ℕ → List ℕ → ℕ
places key [] = 0
places key (k ∷ ks) = (if k == key then 1 else 0) + places key ks

-- 1 where a key has a transaction, else 0
abbrev pub occupied : Slab Transaction → ℕ → ℕ
occupied slab key = if is_some (get slab key) then 1 else 0

-- the time of so many ticks, where there is one
abbrev pub time_of : ℕ → Option ℕ
time_of ticks = if nat_le ticks 1001000000000 then Some ticks else None

-- these are times
abbrev pub AreTimes : List ℕ → Type 0
AreTimes [] = Unit {0}
AreTimes (t ∷ ts) = (t ≤ 1001000000000) × AreTimes ts

-- times and keys of a block, with the least time, in ticks: each transaction of the slab has one place
pub record IsBlock (slab : Slab Transaction) (ts ks : List ℕ) (ticks : ℕ) : Type 0 where
  pub long : length ts ≡ length ks
  pub places : (k : ℕ) → places k ks ≡ occupied slab k
  pub times : AreTimes ts
  pub least : least_time (events_of slab ts ks) ≡ time_of ticks

-- those from a time on
abbrev pub since : ℕ → List Event → List Event
since from events = filter (λ (e : Event). nat_le from e.time) events

-- those after a time
abbrev pub after : ℕ → List Event → List Event
after time events = filter (λ (e : Event). nat_lt time e.time) events

-- a full block, which takes no more
pub record Full : Type 0 where
  -- what is still on it, in order
  pub items : List Event

-- what is on blocks, one after the other
abbrev pub all_items : List Full → List Event
all_items [] = []
all_items (b ∷ bs) = b.items ++ all_items bs

-- none of these comes before a time
abbrev pub IsNoneBefore : ℕ → List Event → Type 0
IsNoneBefore time [] = Unit {0}
IsNoneBefore time (e ∷ es) = (time ≤ e.time) × IsNoneBefore time es
