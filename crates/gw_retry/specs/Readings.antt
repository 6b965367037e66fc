-- What those who wait have read, as it is kept. (Our own.)
use Rattle.std.specs.Prelude.{◌≡◌, ℕ, true, false, List, map, Some, slice_get}
use Rattle.std.specs.Global.{Vec}
use Rattle.gw_meaning.specs.declared.watched.Watched.{Watched}
use Rattle.gw_meaning.specs.Watching.{is_watched}

-- the lists that were read, and what somebody may wait for
pub record Readings : Type 0 where
  pub lists : List (List Watched)
  pub marks : List Watched

-- the items of each of these
abbrev pub all_items : List (Vec Watched) → List (List Watched)
all_items lists = map (λ (list : Vec Watched). list.items) lists

-- each list has the place that it had
abbrev pub Keeps : List (List Watched) → List (List Watched) → Type 0
Keeps old new = (i : ℕ) (list : List Watched) → slice_get old i ≡ Some list → slice_get new i ≡ Some list

-- what was marked still is, but for what is written
abbrev pub Marks : List Watched → List Watched → List Watched → Type 0
Marks old written new = (w : Watched) → is_watched old w ≡ true → is_watched written w ≡ false → is_watched new w ≡ true
