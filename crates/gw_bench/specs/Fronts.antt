-- What a pass has seen: a front of the row's edits, as they stand in its boxes, and the version to which they lead.
-- (Our own.)
use Rattle.std.specs.Prelude.{◌≡◌, ◌<◌, ◌≤◌, ℕ, zero, suc, List, [], ◌∷◌, ◌++◌, length, slice_index}
use Rattle.std.specs.Prelude.{Option, None, Some, option_to_list}
use Rattle.once_cell.specs.declared.race.note.Note.{Note}
use Rattle.gw_meaning.specs.Listing.{Listing}
use Rattle.gw_meaning.specs.declared.edit.Edit.{Edit}
use Rattle.gw_edit.specs.Applied.{applied}
use Rattle.gw_edit.specs.Leading.{or_same, version_of}

-- the edits that these notes know
abbrev pub front_of : List (Note Edit) → List Edit
front_of [] = []
front_of (n ∷ ns) = option_to_list n.known ++ front_of ns

-- each note knows what stands in the box of its number
abbrev pub Stands : List ℕ → List (Note Edit) → Type 0
Stands boxes [] = Unit {0}
Stands [] (n ∷ ns) = ⊥
Stands (b ∷ bs) (n ∷ ns) = (n.cell ≡ b) × ((e : Edit) × (n.known ≡ Some e)) × Stands bs ns

-- what a pass is: its notes stand, and its version is that of the edits that they know
pub record IsPass (boxes : List ℕ) (opening version : Listing) (capacity : ℕ) (notes : List (Note Edit)) : Type 0 where
  pub room : 4096 ≤ capacity
  pub stands : Stands boxes notes
  pub same : version ≡ version_of opening (front_of notes)
  pub fits : length notes ≤ 4096

-- what the note of a number knows
abbrev pub known_at : List (Note Edit) → ℕ → Option Edit
known_at [] k = None
known_at (n ∷ ns) zero = n.known
known_at (n ∷ ns) (suc k) = known_at ns k

-- the note is of the box after this front, and knows its edit, and the version is the one after that edit
pub record Follows (boxes : List ℕ) (opening : Listing) (front : List Edit) (note : Note Edit) (version : Listing) :
    Type 0 where
  pub boxed : length front < length boxes
  pub room : length front < 4096
  pub cell : note.cell ≡ slice_index boxes (length front)
  pub known : (e : Edit) × (note.known ≡ Some e) ×
      (version ≡ or_same (version_of opening front) (applied (version_of opening front) e))
