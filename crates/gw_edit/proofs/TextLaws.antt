-- What an insert and a change make of a version: the statement that their text spells, in its place.
use Rattle.std.proofs.Common.{◌≡◌, ◌≢◌, ℕ, ◌+◌, ◌-◌, ◌<◌, ◌≤◌, Bool, true, false, cond, List, Some, None, Result, Ok, Err, length, refl, ap, ◌∙◌}
use Rattle.gw_meaning.specs.declared.statement.Statement.{Statement}
use Rattle.gw_meaning.specs.Listing.{Listing, nth}
use Rattle.gw_lines.specs.declared.fault.LineFault.{LineFault}
use Rattle.gw_lines.specs.declared.fault.LineFault.TheVariants as lines
use Rattle.gw_lines.specs.Edits.{SpellsEdit, FirstFaultOfEdit, edit_of}
use Rattle.gw_lines.specs.Reading.{◌>>=◌}
use Rattle.gw_lines.proofs.Edits.{edits_are_read, edits_are_refused}
use Rattle.gw_model.specs.Faults.{is_outside}
use Rattle.gw_model.specs.Spliced.{number_in, with_splice}
use Rattle.gw_edit.specs.declared.fault.EditFault.{EditFault}
use Rattle.gw_edit.specs.declared.fault.EditFault.TheVariants.{NoSuchPlace, BadStatement}
use Rattle.gw_edit.specs.Applied.{checked, spelled_by}
use Rattle.gw_edit.specs.Faults.{of_line}
use Rattle.gw_edit.specs.Outcomes.{IsInserted, InsertMakes, IsChanged, ChangeMakes}
use Rattle.gw_edit.proofs.Changed.{changes_to, inside, outside_below, outside_above, one_between}
use Rattle.gw_edit.proofs.Made.{of_read, other_side}

bad_statement : (f : LineFault) → f ≢ lines.Memory → of_line f ≡ BadStatement f
bad_statement lines.Memory other = absurd (other refl)
bad_statement f other = refl

module _ (t : Listing) (places place : ℕ) (deletes : Bool) (text : List ℕ) where
  abbrev put : Statement → Result Listing EditFault
  put s = checked (with_splice t place deletes (Some s))

  abbrev written : Result Listing EditFault
  written = cond (is_outside 1 places place) (Err NoSuchPlace) (spelled_by text >>= put)

  spelled : (u : Listing) → written ≡ Ok u → (s : Statement) × SpellsEdit text s
  spelled u h =
      let side = other_side (is_outside 1 places place) _ _ u h in
      let read = of_read (edit_of text) put u side.1 in
      (read.0, (edits_are_read text read.0).0 read.1)

  put_there : (s : Statement) → 1 ≤ place → place ≤ places → SpellsEdit text s → written ≡ put s
  put_there s least within spells = rw (inside places place least within, (edits_are_read text s).1 spells) refl

  unread : (f : LineFault) → 1 ≤ place → place ≤ places → FirstFaultOfEdit text f → f ≢ lines.Memory → written ≡ Err (BadStatement f)
  unread f least within first other =
      let told : written ≡ Err (of_line f) = rw (inside places place least within, (edits_are_refused text f).1 first) refl in
      told ∙ ap (λ (e : EditFault). Err e) (bad_statement f other)

  below : place < 1 → written ≡ Err NoSuchPlace
  below low = rw (outside_below places place low) refl

  above : places < place → written ≡ Err NoSuchPlace
  above high = rw (outside_above places place high) refl

pub insert_makes : (t : Listing) (place : ℕ) (text : List ℕ) → InsertMakes t place text
insert_makes t place text = record {
  inserts = λ s least within spells. changes_to (IsInserted t place s) (with_splice t place false (Some s)) _
      (record {
        statements = one_between t.lines s (number_in t.lines None) (place - 1) (place - 1);
        rest = record { horizon = refl; replications = refl; limit = refl };
      })
      (put_there t places place false text s least within spells);
  unread = unread t places place false text;
  below = below t places place false text;
  above = above t places place false text;
  spelled = spelled t places place false text;
} where
  places : ℕ
  places = length t.lines + 1

pub change_makes : (t : Listing) (place : ℕ) (text : List ℕ) → ChangeMakes t place text
change_makes t place text = record {
  changes = λ s least within spells. changes_to (IsChanged t place s) (with_splice t place true (Some s)) _
      (record {
        statements = one_between t.lines s (number_in t.lines (nth t.lines place)) (place - 1) place;
        rest = record { horizon = refl; replications = refl; limit = refl };
      })
      (put_there t places place true text s least within spells);
  unread = unread t places place true text;
  below = below t places place true text;
  above = above t places place true text;
  spelled = spelled t places place true text;
} where
  places : ℕ
  places = length t.lines
