-- What is edited from statements that are spelled is spelled.
use Rattle.std.proofs.Common.{◌≡◌, ℕ, ◌+◌, ◌-◌, Bool, true, false, cond, List, [], ◌∷◌, ◌++◌, Option, Some, None, Ok, length, take, drop, refl, ap, sym, subst, ◌∙◌, inl, inr}
use Rattle.std.proofs.lemmas.Bool.{cases_Bool}
use Rattle.std.proofs.lemmas.List.Elements.{All-append, All-cons, All-drop, All-head, All-nil, All-tail, All-take}
use Rattle.std.proofs.lemmas.Slice.Eq.{bytes_eq-Decides}
use Rattle.gw_names.specs.Names.{name_of}
use Rattle.gw_meaning.specs.declared.statement.Definition.{Definition}
use Rattle.gw_meaning.specs.declared.statement.Numbered.{Numbered}
use Rattle.gw_meaning.specs.declared.statement.Statement.{Statement}
use Rattle.gw_meaning.specs.Listing.{Listing, defines, definition_if, definition_of, has_label, nth}
use Rattle.gw_lines.specs.Edits.{edit_lines, edit_of}
use Rattle.gw_lines.specs.Points.{Completes, complete, past_remark, past_pairs, SpellsLines, spells_lines}
use Rattle.gw_lines.specs.Printed.{IsSpelled, storage_of}
use Rattle.gw_lines.specs.Reading.{◌>>=◌}
use Rattle.gw_lines.specs.Spelling.{Label, no_label, named}
use Rattle.gw_lines.proofs.Edits.{edits_are_read}
use Rattle.gw_lines.proofs.PrintedWords.{is_name}
use Rattle.gw_lines.proofs.PrintedStorage.{storages_spell}
use Rattle.gw_model.specs.Faults.{is_outside}
use Rattle.gw_model.specs.Spliced.{inserted, number_in, spliced, with_splice}
use Rattle.gw_meaning.specs.declared.edit.Edit.TheVariants as edits
use Rattle.gw_touch.specs.Touching.{is_capacity, storage_in, storage_place}
use Rattle.gw_edit.specs.Applied.{capacity_at, checked, has_replication, reseeded, spelled_by, without_number}
use Rattle.gw_edit.specs.Spelled.{AreSpelled, EditsAreSpelled}
use Rattle.gw_touch.proofs.Splits.{place_in}
use Rattle.gw_edit.proofs.Made.{checked_gives, of_read, one_side, other_side}

abbrev LineIsSpelled : Numbered → Type 0
LineIsSpelled line = IsSpelled line.statement

-- ---- a splice

inserted_is : (number : ℕ) (s : Statement) → IsSpelled s → AreSpelled (inserted number (Some s))
inserted_is number s h = All-cons LineIsSpelled (record { number = number; statement = s }) [] h (All-nil LineIsSpelled)

splice_is : (lines : List Numbered) (position : ℕ) (deletes : Bool) (inserts : Option Statement) → AreSpelled lines
    → ((number : ℕ) → AreSpelled (inserted number inserts)) → AreSpelled (spliced lines position deletes inserts)
splice_is lines position deletes inserts h c =
    let number = number_in lines (cond deletes (nth lines position) None) in
    let behind = drop (cond deletes position (position - 1)) lines in
    All-append LineIsSpelled (take (position - 1) lines ++ inserted number inserts) behind
    (All-append LineIsSpelled (take (position - 1) lines) (inserted number inserts) (All-take LineIsSpelled (position - 1) lines h) (c number))
    (All-drop LineIsSpelled (cond deletes position (position - 1)) lines h)

read_is : (text : List ℕ) (s : Statement) → edit_of text ≡ Ok s → IsSpelled s
read_is text s e = (edit_lines text, (edits_are_read text s).0 e)

text_is : (t u : Listing) (place : ℕ) (deletes : Bool) (text : List ℕ)
    → (spelled_by text >>= (λ s. checked (with_splice t place deletes (Some s)))) ≡ Ok u → AreSpelled t.lines → AreSpelled u.lines
text_is t u place deletes text made h =
    let read = of_read (edit_of text) (λ s. checked (with_splice t place deletes (Some s))) u made in
    let s = read.0 in
    subst (λ (v : Listing). AreSpelled v.lines) (checked_gives (with_splice t place deletes (Some s)) u read.2)
    (splice_is t.lines place deletes (Some s) h (λ number. inserted_is number s (read_is text s read.1)))

-- ---- a capacity

same_name : (word label : Option (List ℕ)) (verb : _) (name : List ℕ) → Label word verb label → has_label name label ≡ true → name_of name ≡ Some name
same_name word label verb name (no_label _ free) h = absurd cc
same_name word label verb name (named before _ own c e) h =
    let i = is_name before own e in
    subst (λ (n : List ℕ). name_of n ≡ Some n) ((bytes_eq-Decides own name).0 h) i.again

is_labelled : (name : List ℕ) (line : Numbered) → is_capacity (defines name line) ≡ true → has_label name line.statement.label ≡ true
is_labelled name line h = go (has_label name line.statement.label) (definition_of line) h
  where
    go : (labelled : Bool) (d : Option Definition) → is_capacity (definition_if labelled d) ≡ true → labelled ≡ true
    go true d h = refl
    go false d h = absurd cc

-- the pairs of further lines leave a statement its label
label_stays : {s t : Statement} {own : List (List ℕ)} → Completes s own t → t.label ≡ s.label
label_stays (complete s whole) = refl
label_stays (past_remark s line own t wants r c) = label_stays c
label_stays (past_pairs s line own more t wants a c) = label_stays c ∙ ap (λ (x : Statement). x.label) a.is

spelled_name : (name : List ℕ) {lines : List (List ℕ)} {s : Statement} → SpellsLines lines s → has_label name s.label ≡ true
    → name_of name ≡ Some name
spelled_name name (spells_lines line own s t spelled c) h =
    let l = spelled.coded in
    same_name l.word s.label l.verb name l.label (subst (λ (label : Option (List ℕ)). has_label name label ≡ true) (label_stays c) h)

storage_named : (name : List ℕ) (n : ℕ) (lines : List Numbered) (place : ℕ) → storage_in name n lines ≡ Some place → AreSpelled lines
    → name_of name ≡ Some name
storage_named name n [] place e h = absurd cc
storage_named name n (line ∷ lines) place e h =
    elim (cases_Bool (is_capacity (defines name line))) [
      | inl here ↦ spelled_name name (All-head LineIsSpelled line lines h).1 (is_labelled name line here)
      | inr later ↦ storage_named name (n + 1) lines place (rw later at e) (All-tail LineIsSpelled line lines h)
    ]

capacity_is : (t u : Listing) (name : List ℕ) (amount : ℕ) (place : Option ℕ) → storage_place name t ≡ place
    → capacity_at t name amount place ≡ Ok u → AreSpelled t.lines → AreSpelled u.lines
capacity_is t u name amount None is made h = absurd cc
capacity_is t u name amount (Some place) is made h =
    let side = other_side (is_outside 1 1000000000 amount) _ _ u made in
    let w = place_in 1000000000 amount side.0 in
    let s = storage_of name amount in
    let line = storages_spell name amount (storage_named name 1 t.lines place is h) w.0 w.1 in
    let spelled : IsSpelled s = (_, spells_lines _ [] s s line (complete s refl)) in
    subst (λ (v : Listing). AreSpelled v.lines) (checked_gives (with_splice t place true (Some s)) u side.1)
    (splice_is t.lines place true (Some s) h (λ number. inserted_is number s spelled))

-- ---- an edit

left_is : (t v u : Listing) → v ≡ u → v.lines ≡ t.lines → AreSpelled t.lines → AreSpelled u.lines
left_is t v u same lines h = subst (λ (ls : List Numbered). AreSpelled ls) (sym lines ∙ ap (λ (x : Listing). x.lines) same) h

pub edits_are_spelled : EditsAreSpelled
edits_are_spelled t u (edits.Insert place text) made h =
    let side = other_side (is_outside 1 (length t.lines + 1) place) _ _ u made in text_is t u place false text side.1 h
edits_are_spelled t u (edits.Delete place) made h =
    let side = other_side (is_outside 1 (length t.lines) place) _ _ u made in
    subst (λ (v : Listing). AreSpelled v.lines) (checked_gives (with_splice t place true None) u side.1)
    (splice_is t.lines place true None h (λ number. All-nil LineIsSpelled))
edits_are_spelled t u (edits.Change place text) made h =
    let side = other_side (is_outside 1 (length t.lines) place) _ _ u made in text_is t u place true text side.1 h
edits_are_spelled t u (edits.Capacity name amount) made h = capacity_is t u name amount (storage_place name t) refl made h
edits_are_spelled t u (edits.Seed number seed) made h =
    let v : Listing = record t { replications = reseeded number seed t.replications } in
    left_is t v u (checked_gives v u (one_side (has_replication t number) _ (checked v) u made)) refl h
edits_are_spelled t u (edits.Replicate number seed) made h =
    let v : Listing = record t { replications = t.replications ++ record { number = number; seed = seed } ∷ [] } in
    left_is t v u (checked_gives v u ((other_side (has_replication t number) _ (checked v) u made).1)) refl h
edits_are_spelled t u (edits.Drop number) made h =
    let v : Listing = record t { replications = without_number number t.replications } in
    left_is t v u (checked_gives v u (one_side (has_replication t number) _ (checked v) u made)) refl h
edits_are_spelled t u (edits.Horizon time) made h =
    let v : Listing = record t { horizon = time } in left_is t v u (checked_gives v u made) refl h
