-- How `Parameters` and `QueueArrivals` keep what they hold, with the number of its transaction for each. (Our own.)
use Rattle.std.specs.Prelude.{ℕ, ℤ, nat_eq, List, [], ◌∷◌, if◌then◌else◌}
use Rattle.gw_names.specs.declared.key.Key.{Key}
use Rattle.gw_meaning.specs.Parameters.{Held}
use Rattle.gw_entities.specs.Owned.{Entry}

-- the parameters of one transaction are put together
abbrev pub with_first : Entry ℤ → Held → Held
with_first e [] = (e.0, e.1 ∷ []) ∷ []
with_first e (h ∷ hs) = if nat_eq e.0 h.0 then (h.0, e.1 ∷ h.1) ∷ hs else (e.0, e.1 ∷ []) ∷ h ∷ hs

abbrev pub grouped : List (Entry ℤ) → Held
grouped [] = []
grouped (e ∷ es) = with_first e (grouped es)

-- what a contract sees of `QueueArrivals`
pub record Arrivals : Type 0 where
  -- the queue, and the number of the transaction
  pub queue_arrivals : List (Key × ℕ)
  -- the queues to which one may come
  pub keys : List Key
  -- for how many more there is room
  pub room : ℕ

-- how `QueueArrivals` keeps one
abbrev pub queue_arrival_of : {V : Type 0} → Entry V → Key × ℕ
queue_arrival_of e = (e.1.0, e.0)
