-- What is written where a block is entered, and whom it wakes. (Our own.)
use Rattle.std.specs.Prelude.{◌≡◌, ℕ, ◌≤◌, List, [], ◌∷◌, length, filter}
use Rattle.gw_meaning.specs.declared.watched.Watched.{Watched}
use Rattle.gw_meaning.specs.declared.watched.Watched.TheVariants as watched
use Rattle.gw_meaning.specs.Changes.{is_woken, woken}
use Rattle.gw_meaning.specs.Machine.{Machine}
use Rattle.gw_meaning.specs.Watching.{Waiter}

-- the counts of a block that is left and of one that is entered
abbrev pub crossed_by : ℕ → ℕ → List Watched
crossed_by from to = watched.Counts from ∷ watched.Counts to ∷ []

-- a list wakes those whom all that is written wakes, while the same wait
abbrev pub WakesAs : List Waiter → List Watched → List Watched → Type 0
WakesAs waiters list all = (s : Machine) → s.retry ≡ waiters → woken list s ≡ woken all s

-- how many it wakes
abbrev pub count_woken : List Watched → List Waiter → ℕ
count_woken list waiters = length (filter (is_woken list) waiters)

-- what is written, and how many wake by it
pub record Wake : Type 0 where
  pub things : List Watched
  pub count : ℕ

-- there is room for those who wake: to go, and on the current chain
pub record HasRoomToWake (w : Wake) (waiters : List Waiter) (room current : ℕ) : Type 0 where
  pub number : w.count ≡ count_woken w.things waiters
  pub going : w.count ≤ room
  pub coming : w.count ≤ current
