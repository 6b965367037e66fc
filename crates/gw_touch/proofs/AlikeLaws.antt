-- What an edit touches, the version before and the edited version answer in two ways, but for what is named.
use Rattle.std.proofs.Common.{◌≡◌, ℕ, zero, suc, ◌+◌, ◌-◌, ◌≤◌, true, false, List, [], ◌∷◌, ◌++◌, Option, Some, None, length, take, drop, inl, inr, refl, sym, ap, subst, ◌∙◌, arith}
use Rattle.std.proofs.lemmas.Bool.{both_ways, leb-false, lt-leb}
use Rattle.std.proofs.lemmas.List.{take-append-drop}
use Rattle.gw_meaning.specs.declared.item.Item.{Item}
use Rattle.gw_meaning.specs.declared.statement.Body.TheVariants as bodies
use Rattle.gw_meaning.specs.declared.statement.Definition.{Definition}
use Rattle.gw_meaning.specs.declared.statement.Definition.TheVariants as definitions
use Rattle.gw_meaning.specs.declared.statement.Numbered.{Numbered}
use Rattle.gw_meaning.specs.declared.statement.Statement.{Statement}
use Rattle.gw_meaning.specs.Listing.{Listing, is_block, nth, seed_at}
use Rattle.gw_meaning.specs.Numbers.{AreNumbered}
use Rattle.gw_meaning.specs.Questions.{ask}
use Rattle.gw_model.specs.Spliced.{with_splice}
use Rattle.gw_model.specs.Well.{Well}
use Rattle.gw_model.proofs.Numbers.{numbered_spliced}
use Rattle.gw_meaning.specs.declared.edit.Edit.{Edit}
use Rattle.gw_meaning.specs.declared.edit.Edit.TheVariants as edits
use Rattle.gw_touch.specs.Touches.{Defines, FirstStorage, in_front, OfOne, OfSplice, deletion, insertion, replacement, OfChange, as_deleted, as_inserted, changed_block, changed_definition, changed_generates, new_label, old_label, OneKind, two_definitions, Touches, by_capacity, by_change, by_delete, by_horizon, by_insert, by_seed}
use Rattle.gw_touch.specs.TouchedAlike.{AlikeAt, IsMade, TouchedAlike, beyond_both, where_changed, where_deleted, where_inserted, TouchesWhatDiffers}
use Rattle.gw_touch.proofs.BesideLaws.{Beside, one_spared}
use Rattle.gw_touch.proofs.ChangeDiffers.{IsReplaced, change_spared, of_deleted, of_inserted, units_differ}
use Rattle.gw_touch.proofs.OneLaws.{no_block_defines}
use Rattle.gw_touch.proofs.Splits.{come_parts, fresh_line, gone_at, nth_between}
use Rattle.gw_touch.proofs.TouchesLaws.{found_place, touches_exactly}

-- ---- the lines after a statement

drop_front : (xs ys : List Numbered) (x : Numbered) (i : ℕ) → i ≤ length xs → drop (suc i) (take i xs ++ x ∷ ys) ≡ ys
drop_front xs ys x zero within = refl
drop_front [] ys x (suc i) within = absurd (omega arith)
drop_front (z ∷ xs) ys x (suc i) within = drop_front xs ys x i (omega arith)

behind_place : (xs ys : List Numbered) (x : Numbered) (place : ℕ) → 1 ≤ place → place ≤ length xs + 1 → drop place (take (place - 1) xs ++ x ∷ ys) ≡ ys
behind_place xs ys x place least last =
    let next : place ≡ suc (place - 1) = omega (arith, least) in
    ap (λ k. drop k (take (place - 1) xs ++ x ∷ ys)) next ∙ drop_front xs ys x (place - 1) (omega (arith, least, last))

-- ---- what is spared

-- what both versions answer alike is named, where these are deleted and inserted
abbrev IsSparedAt : (t u : Listing) (place a b : ℕ) → Option Numbered → Option Numbered → Type 0
IsSparedAt t u place a b old new = (i : Item) → OfSplice t place old new i → ask t a i ≡ ask u b i → AlikeAt t u place old new i

insertion_of : (t : Listing) (place : ℕ) (line : Numbered) {i : Item} → OfSplice t place None (Some line) i → OfOne t place line i
insertion_of t place line (insertion _ i one) = one

deletion_of : (t : Listing) (place : ℕ) (line : Numbered) {i : Item} → OfSplice t place (Some line) None i → OfOne t place line i
deletion_of t place line (deletion _ i one) = one

replacement_of : (t : Listing) (place : ℕ) (old new : Numbered) {i : Item} → OfSplice t place (Some old) (Some new) i → OfChange t place old new i
replacement_of t place old new (replacement _ _ i change) = change

module _ (t : Listing) (place : ℕ) (numbered : AreNumbered t.lines) (sound : Well t) (least : 1 ≤ place) (a b : ℕ) where
  inserted_spared : (s : Statement) → place ≤ length t.lines + 1 → Well (with_splice t place false (Some s)) →
      IsSparedAt t (with_splice t place false (Some s)) place a b None (nth (with_splice t place false (Some s)).lines place)
  inserted_spared s last made =
      let u = with_splice t place false (Some s) in
      let line = fresh_line t.lines s in
      let front = in_front t place in
      let back = drop (place - 1) t.lines in
      let new : u.lines ≡ front ++ line ∷ back = come_parts t.lines place s in
      let there : nth u.lines place ≡ Some line = ap (λ ls. nth ls place) new ∙ nth_between t.lines back place line least last in
      let beside : Beside u t line None front back = record {
        has = new;
        lacks = sym (take-append-drop (place - 1) t.lines);
        has_numbered = numbered_spliced t.lines place false (Some s) least (λ h. absurd cc) numbered;
        lacks_numbered = numbered;
        has_well = made;
        lacks_well = sound;
        number = λ y at. absurd cc;
        blocks = λ y at. absurd cc;
        definitions_apart = λ y at. absurd cc;
      } in
      let behind : drop place u.lines ≡ back = ap (drop place) new ∙ behind_place t.lines back line place least last in
      subst (IsSparedAt t u place a b None) (sym there)
      (λ i splice alike. of_inserted t u place None line back behind
      (one_spared u t line None front back beside b a t place refl (insertion_of t place line splice) (sym alike)))

  deleted_spared : place ≤ length t.lines → Well (with_splice t place true None) →
      IsSparedAt t (with_splice t place true None) place a b (nth t.lines place) None
  deleted_spared last made =
      let u = with_splice t place true None in
      let gone = gone_at t.lines place None least last in
      let line = gone.0 in
      let front = in_front t place in
      let back = drop place t.lines in
      let beside : Beside t u line None front back = record {
        has = gone.1.old;
        lacks = gone.1.new;
        has_numbered = numbered;
        lacks_numbered = numbered_spliced t.lines place true None least (λ h. last) numbered;
        has_well = sound;
        lacks_well = made;
        number = λ y at. absurd cc;
        blocks = λ y at. absurd cc;
        definitions_apart = λ y at. absurd cc;
      } in
      subst (λ (o : Option Numbered). IsSparedAt t u place a b o None) (sym gone.1.found)
      (λ i splice alike. of_deleted t u place line None back refl
      (one_spared t u line None front back beside a b t place refl (deletion_of t place line splice) alike))

  -- another statement in the place of one
  abbrev new_line : Numbered → Statement → Numbered
  new_line old s = record { number = old.number; statement = s }

  replaced_at : (s : Statement) → place ≤ length t.lines → Well (with_splice t place true (Some s)) →
      (old : Numbered) × (nth t.lines place ≡ Some old) × (nth (with_splice t place true (Some s)).lines place ≡ Some (new_line old s)) ×
      IsReplaced t (with_splice t place true (Some s)) place old (new_line old s) (in_front t place) (drop place t.lines)
  replaced_at s last made =
      let gone = gone_at t.lines place (Some s) least last in
      let old = gone.0 in
      let new = new_line old s in
      let back = drop place t.lines in
      let within : place ≤ length t.lines + 1 = omega (arith, last) in (
        old,
        gone.1.found,
        ap (λ ls. nth ls place) gone.1.new ∙ nth_between t.lines back place new least within,
        record {
          old_lines = gone.1.old;
          new_lines = gone.1.new;
          number = refl;
          old_numbered = numbered;
          new_numbered = numbered_spliced t.lines place true (Some s) least (λ h. last) numbered;
          old_well = sound;
          new_well = made;
          front_is = refl;
          old_behind = refl;
          new_behind = ap (drop place) gone.1.new ∙ behind_place t.lines back new place least within;
        },
      )

  changed_spared : (s : Statement) → place ≤ length t.lines → Well (with_splice t place true (Some s)) →
      IsSparedAt t (with_splice t place true (Some s)) place a b (nth t.lines place) (nth (with_splice t place true (Some s)).lines place)
  changed_spared s last made =
      let u = with_splice t place true (Some s) in
      let at = replaced_at s last made in
      let old = at.0 in
      let new = new_line old s in
      subst (λ (o : Option Numbered). IsSparedAt t u place a b o (nth u.lines place)) (sym at.1)
      (subst (IsSparedAt t u place a b (Some old)) (sym at.2)
      (λ i splice alike. change_spared t u place old new (in_front t place) (drop place t.lines) at.3 a b (replacement_of t place old new splice) alike))

-- another capacity is answered in two ways
storage_body : (line : Numbered) (name other : List ℕ) (units : ℕ) (d : Definition) → Defines line name (definitions.Storage units) → Defines line other d →
    d ≡ definitions.Storage units
storage_body line name other units d is was =
    let bodies_one : bodies.Definition d ≡ bodies.Definition (definitions.Storage units) = sym was.body ∙ is.body in cc

module _ (t u : Listing) (place : ℕ) (old new : Numbered) (front back : List Numbered) (e : IsReplaced t u place old new front back) (a b : ℕ)
    (name : List ℕ) (from to : ℕ) (was : Defines old name (definitions.Storage from)) (is : Defines new name (definitions.Storage to)) where
  one_kind : OneKind old new
  one_kind = two_definitions name (definitions.Storage from) (definitions.Storage to) was is refl

  no_blocks : is_block old ≡ true → ⊥
  no_blocks h = both_ways (is_block old) (no_block_defines old name (definitions.Storage from) was) h

  no_new_block : is_block new ≡ true → ⊥
  no_new_block h = both_ways (is_block new) (no_block_defines new name (definitions.Storage to) is) h

  storages_differ : {i : Item} → OfChange t place old new i → ask t a i ≡ ask u b i → ⊥
  storages_differ (changed_block h k differ) alike = no_blocks h
  storages_differ (changed_generates h k differ one) alike = no_blocks h
  storages_differ (old_label label h k differ named) alike = no_blocks h
  storages_differ (new_label label h k differ named) alike = no_blocks h
  storages_differ (changed_definition other d f asked had has two) alike =
      units_differ t u place old new front back e a b other from to d f asked (record { label = had.label; body = was.body })
      (record { label = has.label; body = is.body }) (storage_body old name other from d was had) (storage_body new name other to f is has) two alike
  storages_differ (as_deleted i none one) alike = none one_kind
  storages_differ (as_inserted i none one) alike = none one_kind

-- ---- each edit

module _ (t : Listing) (numbered : AreNumbered t.lines) (sound : Well t) (a b : ℕ) where
  insert_spared : (place : ℕ) (text : List ℕ) (u : Listing) → Well u → IsMade t (edits.Insert place text) u → IsSparedAt t u place a b None (nth u.lines place)
  insert_spared place text u well made =
      let v = with_splice t place false (Some made.0) in
      subst (λ (w : Listing). IsSparedAt t w place a b None (nth w.lines place)) (sym made.3)
      (inserted_spared t place numbered sound made.1 a b made.0 made.2 (subst Well made.3 well))

  delete_spared : (place : ℕ) (u : Listing) → Well u → IsMade t (edits.Delete place) u → IsSparedAt t u place a b (nth t.lines place) None
  delete_spared place u well made =
      subst (λ (w : Listing). IsSparedAt t w place a b (nth t.lines place) None) (sym made.2)
      (deleted_spared t place numbered sound made.0 a b made.1 (subst Well made.2 well))

  replace_spared : (place : ℕ) (text : List ℕ) (u : Listing) → Well u → IsMade t (edits.Change place text) u →
      IsSparedAt t u place a b (nth t.lines place) (nth u.lines place)
  replace_spared place text u well made =
      subst (λ (w : Listing). IsSparedAt t w place a b (nth t.lines place) (nth w.lines place)) (sym made.3)
      (changed_spared t place numbered sound made.1 a b made.0 made.2 (subst Well made.3 well))

  -- the STORAGE that is changed is the first one of the name
  capacity_differs : (name : List ℕ) (amount place : ℕ) (u : Listing) (i : Item) → Well u → IsMade t (edits.Capacity name amount) u →
      FirstStorage t name place → OfSplice t place (nth t.lines place) (nth u.lines place) i → ask t a i ≡ ask u b i → ⊥
  capacity_differs name amount place u i well made first splice alike =
      let own = made.0 in
      let s = made.1 in
      let v = with_splice t own true (Some s) in
      let found : Some place ≡ Some own = sym (found_place t name place first) ∙ found_place t name own made.5 in
      let same : place ≡ own = cc in
      let at = replaced_at t own numbered sound made.2 a b s made.3 (subst Well made.4 well) in
      let old = at.0 in
      let new : Numbered = record { number = old.number; statement = s } in
      let lines : Some made.5.line ≡ Some old = sym made.5.there ∙ at.1 in
      let line : made.5.line ≡ old = cc in
      let was : Defines old name (definitions.Storage made.5.units) =
      subst (λ (x : Numbered). Defines x name (definitions.Storage made.5.units)) line made.5.is_storage in
      let is : Defines new name (definitions.Storage amount) = record { label = made.6; body = made.7 } in
      let here = subst (λ (p : ℕ). OfSplice t p (nth t.lines p) (nth u.lines p) i) same splice in
      let there = subst (λ (w : Listing). OfSplice t own (nth t.lines own) (nth w.lines own) i) made.4 here in
      let of_old = subst (λ (o : Option Numbered). OfSplice t own o (nth v.lines own) i) at.1 there in
      let of_new = subst (λ (o : Option Numbered). OfSplice t own (Some old) o i) at.2 of_old in
      let told : ask t a i ≡ ask v b i = alike ∙ ap (λ (w : Listing). ask w b i) made.4 in
      storages_differ t v own old new (in_front t own) (drop own t.lines) at.3 a b name made.5.units amount was is (replacement_of t own old new of_new) told

  spared : {e : Edit} {u : Listing} {r : ℕ} {i : Item} → Touches t e u r i → Well u → IsMade t e u → seed_at t r ≡ Some a → seed_at u r ≡ Some b →
      ask u b i ≡ ask t a i → TouchedAlike t e u i
  spared (by_insert place text u r i splice) well made was is alike =
      where_inserted place text u i (insert_spared place text u well made i splice (sym alike))
  spared (by_delete place u r i splice) well made was is alike = where_deleted place u i (delete_spared place u well made i splice (sym alike))
  spared (by_change place text u r i splice) well made was is alike =
      where_changed place text u i (replace_spared place text u well made i splice (sym alike))
  spared (by_capacity name amount place u r i first splice) well made was is alike =
      absurd (capacity_differs name amount place u i well made first splice (sym alike))
  spared (by_seed number seed u differ) well made was is alike = absurd (differ (was ∙ (ap (λ k. Some k) (sym alike) ∙ sym is)))
  spared (by_horizon limit u r time (inl less)) well made was is alike =
      beyond_both limit u time less (leb-false time u.horizon (alike ∙ lt-leb time t.horizon less))
  spared (by_horizon limit u r time (inr less)) well made was is alike =
      beyond_both limit u time (leb-false time t.horizon (sym alike ∙ lt-leb time u.horizon less)) less

pub touches_what_differs : TouchesWhatDiffers
touches_what_differs t e u r a b numbered sound well made was is i touched alike =
    spared t numbered sound a b ((touches_exactly t e u r i).0 touched) well made was is alike
