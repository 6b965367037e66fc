-- The frame law in positions, of an edit: after one that touches no step of a run, the run is the old one with its
-- positions moved. (Our own.)
use Rattle.std.specs.Prelude.{ℕ, ◌≡◌, ◌<◌, List, [], Option, Some, None, Ok, map, option_to_list}
use Rattle.gw_meaning.specs.declared.statement.Numbered.{Numbered}
use Rattle.gw_meaning.specs.Listing.{Listing, nth, seed_at}
use Rattle.gw_meaning.specs.Numbers.{AreNumbered}
use Rattle.gw_meaning.specs.Machine.{Machine}
use Rattle.gw_meaning.specs.Step.{run}
use Rattle.gw_meaning.specs.Reads.{reads, first_reading}
use Rattle.gw_frame.specs.Moved.{moved_item, moved_machine}
use Rattle.gw_frame.specs.Positions.{position_of, shifted}
use Rattle.gw_meaning.specs.declared.edit.Edit.{Edit}
use Rattle.gw_meaning.specs.declared.edit.Edit.TheVariants as edits
use Rattle.gw_touch.specs.Touching.{storage_place, touch_of, is_touched, lines_before}
use Rattle.gw_edit.specs.Applied.{applied}

-- the statements in front of a place that may be none, and the one at it
abbrev pub front_at : Listing → Option ℕ → List Numbered
front_at t None = t.lines
front_at t (Some place) = lines_before t place

abbrev pub line_there : Listing → Option ℕ → List Numbered
line_there t None = []
line_there t (Some place) = option_to_list (nth t.lines place)

-- the statements in front of the place that an edit is of; an edit of no place leaves them all in front
abbrev pub front_of : Listing → Edit → List Numbered
front_of t (edits.Insert place text) = lines_before t place
front_of t (edits.Delete place) = lines_before t place
front_of t (edits.Change place text) = lines_before t place
front_of t (edits.Capacity name amount) = front_at t (storage_place name t)
front_of t e = t.lines

-- what is deleted there, of the version before, and what is inserted, of the edited one
abbrev pub deleted_of : Listing → Edit → List Numbered
deleted_of t (edits.Delete place) = option_to_list (nth t.lines place)
deleted_of t (edits.Change place text) = option_to_list (nth t.lines place)
deleted_of t (edits.Capacity name amount) = line_there t (storage_place name t)
deleted_of t e = []

abbrev pub inserted_of : Listing → Edit → Listing → List Numbered
inserted_of t (edits.Insert place text) u = option_to_list (nth u.lines place)
inserted_of t (edits.Change place text) u = option_to_list (nth u.lines place)
inserted_of t (edits.Capacity name amount) u = line_there u (storage_place name t)
inserted_of t e u = []

-- how positions move: after the front they go back by a deleted block, and on by an inserted one
abbrev pub position_move : Listing → Edit → Listing → ℕ → ℕ
position_move t e u = shifted (front_of t e) (deleted_of t e) (inserted_of t e u)

-- an edit of t to u that touches no step below n leaves the run of n steps: it is the same state; told in positions it
-- is the old one with its positions moved, and its steps read the old items moved
abbrev pub EditInPositions : Type 0
EditInPositions =
    (t : Listing) (e : Edit) (u : Listing) (r a b n : ℕ) (s : Machine) →
    AreNumbered t.lines → applied t e ≡ Ok u → seed_at t r ≡ Some a → seed_at u r ≡ Some b →
    run t a n ≡ Ok s → first_reading (is_touched (touch_of t e u r)) t a n ≡ None →
    (run u b n ≡ Ok s)
    × (moved_machine (position_of u) s ≡ moved_machine (position_move t e u) (moved_machine (position_of t) s))
    × ((j : ℕ) → j < n →
    map (moved_item (position_of u)) (reads u b j)
    ≡ map (moved_item (position_move t e u)) (map (moved_item (position_of t)) (reads t a j)))
