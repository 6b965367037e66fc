-- How waiters are kept, beside the lists that were read. (Our own.)
use Rattle.std.specs.Prelude.{◌≡◌, ℕ, Bool, true, not, List, [], map, filter, Some, slice_get, unwrap_or}
use Rattle.std.specs.List.{list_all, list_any, All}
use Rattle.gw_meaning.specs.declared.watched.Watched.{Watched}
use Rattle.gw_meaning.specs.Watching.{Waiter, is_watched}
use Rattle.gw_retry.specs.declared.retry.Waiting.{Waiting}
use Rattle.gw_retry.specs.Arrivals.{Arrival, in_order, AreDated}
use Rattle.gw_retry.specs.Groups.{AreGrouped}
use Rattle.gw_retry.specs.Readings.{Readings}

-- who waits for a change, in order of waiting
pub record Retrying : Type 0 where
  pub waiters : List Waiter
  -- so many of them can go without memory
  pub room : ℕ

-- a waiter with its list
abbrev pub waiter_of : List (List Watched) → Waiting → Waiter
waiter_of lists w = record { transaction = w.transaction; read = unwrap_or (slice_get lists w.place) [] }

-- the same, with the order in which it came
abbrev pub arrival_of : List (List Watched) → Waiting → Arrival
arrival_of lists w = (w.order, waiter_of lists w)

abbrev pub arrivals_of : List (List Watched) → List Waiting → List Arrival
arrivals_of lists ws = map (arrival_of lists) ws

abbrev pub waiters_of : List (List Watched) → List Waiting → List Waiter
waiters_of lists ws = in_order (arrivals_of lists ws)

-- whether anything is written of the list at a place, so that its group is woken
abbrev pub is_written : List (List Watched) → List Watched → ℕ → Bool
is_written lists written place = list_any (is_watched written) (unwrap_or (slice_get lists place) [])

-- those who are woken, and those who go on waiting, as they lie
abbrev pub woken_of : List (List Watched) → List Watched → List Waiting → List Waiting
woken_of lists written ws = filter (λ (w : Waiting). is_written lists written w.place) ws

abbrev pub others_of : List (List Watched) → List Watched → List Waiting → List Waiting
others_of lists written ws = filter (λ (w : Waiting). not (is_written lists written w.place)) ws

-- its list is there, and all of it is marked
pub record IsListed (r : Readings) (w : Waiting) : Type 0 where
  pub list : List Watched
  pub there : slice_get r.lists w.place ≡ Some list
  pub marked : list_all (is_watched r.marks) list ≡ true

abbrev pub AreListed : Readings → List Waiting → Type 0
AreListed r ws = All (IsListed r) ws

-- what is always so of those who wait
pub record AreKept (r : Readings) (next : ℕ) (ws : List Waiting) : Type 0 where
  pub listed : AreListed r ws
  pub grouped : AreGrouped ws
  pub dated : AreDated next (arrivals_of r.lists ws)
