-- An edit is a splice of the version's statements, or leaves them; so the frame law holds in positions.
use Rattle.std.proofs.Common.{◌≡◌, ℕ, ◌+◌, ◌-◌, ◌<◌, ◌≤◌, Bool, true, false, cond, List, [], ◌∷◌, ◌++◌, length, take, drop, Option, Some, None, Ok, option_to_list, refl, ap, sym, subst, ◌∙◌, ⊎_elim, arith, append-nil, append_assoc}
use Rattle.std.specs.List.{list_any}
use Rattle.std.proofs.lemmas.List.{take-append-drop}
use Rattle.std.proofs.lemmas.List.Elements.{All-from_recursion}
use Rattle.gw_meaning.specs.declared.item.Item.{Item}
use Rattle.gw_meaning.specs.declared.statement.Statement.{Statement}
use Rattle.gw_meaning.specs.declared.statement.Numbered.{Numbered}
use Rattle.gw_meaning.specs.Listing.{Listing, nth}
use Rattle.gw_meaning.specs.Numbers.{AreNumbered}
use Rattle.gw_meaning.specs.Reads.{first_reading, reads}
use Rattle.gw_model.specs.Spliced.{number_in, spliced}
use Rattle.gw_model.proofs.Numbers.{numbered_spliced}
use Rattle.gw_frame.specs.Alike.{SameAnswer}
use Rattle.gw_frame.specs.Positions.{IsSplice}
use Rattle.gw_frame.proofs.PositionFrame.{frame_in_positions}
use Rattle.gw_uses.proofs.FirstLaws.{IsFirstReading, first_is}
use Rattle.gw_meaning.specs.declared.edit.Edit.{Edit}
use Rattle.gw_touch.specs.Touching.{touch_of, is_touched, lines_before}
use Rattle.gw_edit.specs.Applied.{applied}
use Rattle.gw_edit.specs.InPositions.{front_of, deleted_of, inserted_of, EditInPositions}
use Rattle.gw_touch.proofs.Splits.{nth_between, gone_at}
use Rattle.gw_edit.proofs.Made.{deleted_at, inserted_at, IsSpliced, IsLeft, made_by}
use Rattle.gw_edit.proofs.Untouching.{untouched_alike}
use Rattle.gw_edit.proofs.RebaseLaws.{none_touched}

-- an edited version: what stays after the place that the edit is of, and that its statements are numbered
pub record IsEdited (t u : Listing) (front deleted inserted : List Numbered) : Type 0 where
  pub back : List Numbered
  pub splice : IsSplice t u front deleted inserted back
  pub numbered : AreNumbered u.lines

at_most_one : (o : Option Numbered) → length (option_to_list o) ≤ 1
at_most_one None = omega arith
at_most_one (Some line) = omega arith

-- the statements before a splice and after it
old_parts : (lines : List Numbered) (place : ℕ) (deletes : Bool) → 1 ≤ place → (deletes ≡ true → place ≤ length lines) →
    lines ≡ take (place - 1) lines ++ (option_to_list (deleted_at lines place deletes) ++ drop (cond deletes place (place - 1)) lines)
old_parts lines place false least there = sym (take-append-drop (place - 1) lines)
old_parts lines place true least there =
    let cut = gone_at lines place None least (there refl) in
    cut.1.old ∙ ap (λ o. take (place - 1) lines ++ (option_to_list o ++ drop place lines)) (sym cut.1.found)

new_parts : (lines : List Numbered) (place : ℕ) (deletes : Bool) (inserts : Option Statement) → 1 ≤ place → place ≤ length lines + 1 →
    spliced lines place deletes inserts ≡ take (place - 1) lines ++
    (option_to_list (inserted_at (spliced lines place deletes inserts) place inserts) ++ drop (cond deletes place (place - 1)) lines)
new_parts lines place deletes None least last = append_assoc (take (place - 1) lines) [] (drop (cond deletes place (place - 1)) lines)
new_parts lines place deletes (Some s) least last =
    let i = place - 1 in
    let back = drop (cond deletes place i) lines in
    let line : Numbered = record { number = number_in lines (deleted_at lines place deletes); statement = s } in
    let parts = append_assoc (take i lines) (line ∷ []) back in
    let there : nth (spliced lines place deletes (Some s)) place ≡ Some line = ap (λ ls. nth ls place) parts ∙ nth_between lines back place line least last in
    parts ∙ ap (λ o. take i lines ++ (option_to_list o ++ back)) (sym there)

spliced_edited : (t : Listing) (e : Edit) (u : Listing) → AreNumbered t.lines → IsSpliced t e u →
    IsEdited t u (front_of t e) (deleted_of t e) (inserted_of t e u)
spliced_edited t e u numbered s =
    rw (s.front, s.deleted, s.inserted)
    (subst (λ (v : Listing). IsEdited t v (lines_before t s.place) (option_to_list (deleted_at t.lines s.place s.deletes))
    (option_to_list (inserted_at v.lines s.place s.inserts))) s.made
    (record {
      back = drop (cond s.deletes s.place (s.place - 1)) t.lines;
      splice = record {
        old = old_parts t.lines s.place s.deletes s.least s.there;
        new = new_parts t.lines s.place s.deletes s.inserts s.least s.last;
        one_deleted = at_most_one (deleted_at t.lines s.place s.deletes);
        one_inserted = at_most_one (inserted_at (spliced t.lines s.place s.deletes s.inserts) s.place s.inserts);
      };
      numbered = numbered_spliced t.lines s.place s.deletes s.inserts s.least s.there numbered;
    }))

left_edited : (t : Listing) (e : Edit) (u : Listing) → AreNumbered t.lines → IsLeft t e u → IsEdited t u (front_of t e) (deleted_of t e) (inserted_of t e u)
left_edited t e u numbered l =
    rw (l.front, l.deleted, l.inserted)
    (record {
      back = [];
      splice = record {
        old = sym (append-nil t.lines);
        new = l.lines ∙ sym (append-nil t.lines);
        one_deleted = omega arith;
        one_inserted = omega arith;
      };
      numbered = subst (λ (ls : List Numbered). AreNumbered ls) (sym l.lines) numbered;
    })

is_edited : (t : Listing) (e : Edit) (u : Listing) → AreNumbered t.lines → applied t e ≡ Ok u → IsEdited t u (front_of t e) (deleted_of t e) (inserted_of t e u)
is_edited t e u numbered made = ⊎_elim (spliced_edited t e u numbered) (left_edited t e u numbered) (made_by t e u made)

-- no step reads what is touched
none_read : (p : Item → Bool) (t : Listing) (seed n : ℕ) → first_reading p t seed n ≡ None → (j : ℕ) → j < n → list_any p (reads t seed j) ≡ false
none_read p t seed n none j less = subst (λ o. IsFirstReading p t seed n o) none (first_is p t seed n) j less

pub edit_in_positions : EditInPositions
edit_in_positions t e u r a b n s numbered made was is there none =
    let edited = is_edited t e u numbered made in
    let touched = is_touched (touch_of t e u r) in
    let alike = none_touched touched (SameAnswer t a u b) (untouched_alike t e u r a b numbered made was is) in
    frame_in_positions t a u b n s (front_of t e) (deleted_of t e) (inserted_of t e u) edited.back edited.splice numbered edited.numbered there
    (λ j less. All-from_recursion (SameAnswer t a u b) (reads t a j) (alike (reads t a j) (none_read touched t a n none j less)))
