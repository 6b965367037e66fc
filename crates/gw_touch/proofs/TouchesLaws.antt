-- What an edit touches is exactly what the cases say.
use Rattle.std.proofs.Common.{◌≡◌, ◌≢◌, ◌⊎◌, ℕ, zero, suc, ◌+◌, ◌-◌, ◌<◌, ◌==◌, Bool, true, false, cond, List, [], ◌∷◌, Option, Some, None, min, nat_lt, take, inl, inr, refl, sym, ap, subst, ◌∙◌, arith}
use Rattle.std.specs.List.{slice_get}
use Rattle.std.specs.Str.{bytes_eq}
use Rattle.std.proofs.Math.Bool.{or-false}
use Rattle.std.proofs.lemmas.Bool.{both_ways, cases_lt, eq-eqb, eqb-true, false_from_ne_true, lt-ltb, ltb-true, or_left}
use Rattle.std.proofs.lemmas.List.Elements.{All-cons, All-head, All-nil, All-tail}
use Rattle.std.proofs.lemmas.Slice.Eq.{bytes_eq-Decides}
use Rattle.gw_meaning.specs.declared.item.Item.{Item}
use Rattle.gw_meaning.specs.declared.item.Item.TheVariants as items
use Rattle.gw_meaning.specs.declared.statement.Body.{Body}
use Rattle.gw_meaning.specs.declared.statement.Body.TheVariants as bodies
use Rattle.gw_meaning.specs.declared.statement.Definition.TheVariants as definitions
use Rattle.gw_meaning.specs.declared.statement.Numbered.{Numbered}
use Rattle.gw_meaning.specs.Listing.{Listing, defines, definition_if, definition_of_body, has_label, nth, seed_at}
use Rattle.gw_meaning.specs.declared.edit.Edit.{Edit}
use Rattle.gw_meaning.specs.declared.edit.Edit.TheVariants as edits
use Rattle.gw_touch.specs.declared.touch.Probe.TheVariants.{One, Beyond}
use Rattle.gw_touch.specs.Touching.{capacity_probes, everywhere, is_capacity, is_touched, line_probes, same_seed, seed_touching, splice_probes, storage_in, storage_place, touch_of, touched_in}
use Rattle.gw_touch.specs.Touches.{Defines, FirstStorage, HasNoStorage, OfSplice, deletion, insertion, replacement, Touches, by_capacity, by_change, by_delete, by_horizon, by_insert, by_seed, TouchesExactly}
use Rattle.gw_touch.proofs.ChangeCases.{change_in, change_is}
use Rattle.gw_touch.proofs.OneLaws.{one_in, one_is}
use Rattle.gw_touch.proofs.SameItself.{bytes_itself}
use Rattle.gw_touch.proofs.SlotLaws.{item_same, touched_both, touched_left}

-- ---- the statements at a place

no_touch : (i : Item) → is_touched [] i ≡ true → ⊥
no_touch i h = cc

splice_in : (t : Listing) (place : ℕ) (old new : Option Numbered) (i : Item) → is_touched (splice_probes t place old new) i ≡ true → OfSplice t place old new i
splice_in t place None None i h = absurd (no_touch i h)
splice_in t place None (Some new) i h = insertion new i (one_in t place new i h)
splice_in t place (Some old) None i h =
    elim (touched_both (line_probes t place old) [] i h) [ inl k ↦ deletion old i (one_in t place old i k) | inr k ↦ absurd (no_touch i k) ]
splice_in t place (Some old) (Some new) i h = replacement old new i (change_in t place old new i h)

splice_is : (t : Listing) (place : ℕ) {old new : Option Numbered} {i : Item} → OfSplice t place old new i → is_touched (splice_probes t place old new) i ≡ true
splice_is t place (insertion new i one) = one_is t place new one
splice_is t place (deletion old i one) = touched_left (line_probes t place old) [] i (one_is t place old one)
splice_is t place (replacement old new i change) = change_is t place old new change

-- ---- the first STORAGE of a name

-- whether a statement is one
abbrev is_taken : List ℕ → Numbered → Bool
is_taken name line = is_capacity (defines name line)

capacity_of : (name : List ℕ) (label : Option (List ℕ)) (body : Body) → is_capacity (definition_if (has_label name label) (definition_of_body body)) ≡ true →
    (units : ℕ) × (label ≡ Some name) × (body ≡ bodies.Definition (definitions.Storage units))
capacity_of name None body h = absurd cc
capacity_of name (Some other) body h = go (bytes_eq other name) refl body h where
  go : (b : Bool) → bytes_eq other name ≡ b → (body : Body) → is_capacity (definition_if b (definition_of_body body)) ≡ true →
      (units : ℕ) × (Some other ≡ Some name) × (body ≡ bodies.Definition (definitions.Storage units))
  go false is body k = absurd cc
  go true is (bodies.Definition (definitions.Storage units)) k = (units, ap (λ n. Some n) ((bytes_eq-Decides other name).0 is), refl)
  go true is body k = absurd cc

taken_is : (name : List ℕ) (line : Numbered) (units : ℕ) → Defines line name (definitions.Storage units) → is_taken name line ≡ true
taken_is name line units is = rw (is.label, is.body, bytes_itself name) refl

abbrev NoStorage : List ℕ → Numbered → Type 0
NoStorage name line = (units : ℕ) → Defines line name (definitions.Storage units) → ⊥

not_taken : (name : List ℕ) (line : Numbered) → is_taken name line ≡ false → NoStorage name line
not_taken name line h units is = both_ways (is_taken name line) h (taken_is name line units is)

taken_not : (name : List ℕ) (line : Numbered) → NoStorage name line → is_taken name line ≡ false
taken_not name line none =
    false_from_ne_true (is_taken name line)
    (λ h. let is = capacity_of name line.statement.label line.statement.body h in none is.0 (record { label = is.1; body = is.2 }))

-- it stands at an index, and none in front
record StorageAt (name : List ℕ) (lines : List Numbered) (index : ℕ) : Type 0 where
  line : Numbered
  units : ℕ
  there : slice_get lines index ≡ Some line
  is_storage : Defines line name (definitions.Storage units)
  is_first : HasNoStorage name (take index lines)

storage_behind : (name : List ℕ) (line : Numbered) (lines : List Numbered) (index : ℕ) → NoStorage name line → StorageAt name lines index →
    StorageAt name (line ∷ lines) (suc index)
storage_behind name line lines index none at = record {
  line = at.line;
  units = at.units;
  there = at.there;
  is_storage = at.is_storage;
  is_first = All-cons (NoStorage name) line (take index lines) none at.is_first;
}

storage_found : (name : List ℕ) (n : ℕ) (lines : List Numbered) (place : ℕ) → storage_in name n lines ≡ Some place →
    (index : ℕ) × (place ≡ n + index) × StorageAt name lines index
storage_found name n [] place h = absurd cc
storage_found name n (line ∷ lines) place h = go (is_taken name line) refl h (storage_found name (n + 1) lines place) where
  go : (b : Bool) → is_taken name line ≡ b → cond b (Some n) (storage_in name (n + 1) lines) ≡ Some place →
      (storage_in name (n + 1) lines ≡ Some place → (index : ℕ) × (place ≡ n + 1 + index) × StorageAt name lines index) →
      (index : ℕ) × (place ≡ n + index) × StorageAt name (line ∷ lines) index
  go true is k rest =
      let same : n ≡ place = cc in
      let storage = capacity_of name line.statement.label line.statement.body is in (
        0,
        omega (arith, same),
        record {
          line = line;
          units = storage.0;
          there = refl;
          is_storage = record { label = storage.1; body = storage.2 };
          is_first = All-nil (NoStorage name);
        },
      )
  go false is k rest =
      let later = rest k in
      let at = later.1 in (suc later.0, omega (arith, at), storage_behind name line lines later.0 (not_taken name line is) later.2)

found_storage : (name : List ℕ) (n : ℕ) (lines : List Numbered) (index : ℕ) → StorageAt name lines index → storage_in name n lines ≡ Some (n + index)
found_storage name n [] index at = absurd (let k = at.there in cc)
found_storage name n (line ∷ lines) zero at =
    let here : line ≡ at.line = (let k = at.there in cc) in
    let is : is_taken name line ≡ true = ap (is_taken name) here ∙ taken_is name at.line at.units at.is_storage in
    ap (λ b. cond b (Some n) (storage_in name (n + 1) lines)) is ∙ ap (λ k. Some k) (omega arith)
found_storage name n (line ∷ lines) (suc index) at =
    let none : is_taken name line ≡ false = taken_not name line (All-head (NoStorage name) line (take index lines) at.is_first) in
    let rest = found_storage name (n + 1) lines index (record {
      line = at.line;
      units = at.units;
      there = at.there;
      is_storage = at.is_storage;
      is_first = All-tail (NoStorage name) line (take index lines) at.is_first;
    }) in
    ap (λ b. cond b (Some n) (storage_in name (n + 1) lines)) none ∙ (rest ∙ ap (λ k. Some k) (omega arith))

-- of places, from 1
pub place_found : (t : Listing) (name : List ℕ) (place : ℕ) → storage_place name t ≡ Some place → FirstStorage t name place
place_found t name place h =
    let found = storage_found name 1 t.lines place h in
    let at = found.1 in
    let next : place ≡ suc found.0 = omega (arith, at) in
    let before : found.0 ≡ place - 1 = omega (arith, at) in
    record {
      line = found.2.line;
      units = found.2.units;
      there = ap (nth t.lines) next ∙ found.2.there;
      is_storage = found.2.is_storage;
      is_first = subst (λ (k : ℕ). HasNoStorage name (take k t.lines)) before found.2.is_first;
    }

pub found_place : (t : Listing) (name : List ℕ) (place : ℕ) → FirstStorage t name place → storage_place name t ≡ Some place
found_place t name zero first = absurd (let k = first.there in cc)
found_place t name (suc index) first =
    let before : suc index - 1 ≡ index = omega arith in
    found_storage name 1 t.lines index (record {
      line = first.line;
      units = first.units;
      there = first.there;
      is_storage = first.is_storage;
      is_first = subst (λ (k : ℕ). HasNoStorage name (take k t.lines)) before first.is_first;
    })
    ∙ ap (λ k. Some k) (omega arith)

-- ---- a seed and a horizon

seeds_same : (a b : Option ℕ) → same_seed a b ≡ true → a ≡ b
seeds_same None None h = refl
seeds_same None (Some b) h = absurd cc
seeds_same (Some a) None h = absurd cc
seeds_same (Some a) (Some b) h = ap (λ k. Some k) (eqb-true a b h)

same_seeds : (a b : Option ℕ) → a ≡ b → same_seed a b ≡ true
same_seeds None None h = refl
same_seeds None (Some b) h = absurd cc
same_seeds (Some a) None h = absurd cc
same_seeds (Some a) (Some b) h = let same : a ≡ b = cc in eq-eqb a b same

seed_in : (t u : Listing) (number seed r : ℕ) (i : Item) → is_touched (touched_in (seed_touching number (seed_at t number) (seed_at u number)) r) i ≡ true →
    Touches t (edits.Seed number seed) u r i
seed_in t u number seed r i h = go (same_seed (seed_at t number) (seed_at u number)) refl (number == r) refl h where
  go : (same : Bool) → same_seed (seed_at t number) (seed_at u number) ≡ same → (here : Bool) → (number == r) ≡ here →
      is_touched (touched_in (cond same (everywhere []) (record { probes = []; reseeded = Some number })) r) i ≡ true →
      Touches t (edits.Seed number seed) u r i
  go true same here at k = absurd (no_touch i k)
  go false differ false at k = absurd (let touched : false ≡ true = rw at at k in cc)
  go false differ true at k =
      let one : is_touched (One items.Seed ∷ []) i ≡ true = rw at at k in
      let item : i ≡ items.Seed = item_same i items.Seed (sym (or-false _) ∙ one) in
      subst (λ (n : ℕ). Touches t (edits.Seed number seed) u n i) (eqb-true number r at)
      (subst (Touches t (edits.Seed number seed) u number) (sym item)
      (by_seed number seed u (λ e. both_ways (same_seed (seed_at t number) (seed_at u number)) differ (same_seeds (seed_at t number) (seed_at u number) e))))

seed_is : (t u : Listing) (number : ℕ) → seed_at t number ≢ seed_at u number →
    is_touched (touched_in (seed_touching number (seed_at t number) (seed_at u number)) number) items.Seed ≡ true
seed_is t u number differ =
    let other : same_seed (seed_at t number) (seed_at u number) ≡ false =
    false_from_ne_true (same_seed (seed_at t number) (seed_at u number)) (λ h. differ (seeds_same (seed_at t number) (seed_at u number) h)) in
    let here : (number == number) ≡ true = eq-eqb number number refl in
    rw (other, here) refl

beyond_in : (t u : Listing) (limit r : ℕ) (i : Item) → is_touched (Beyond (min t.horizon u.horizon) ∷ []) i ≡ true → Touches t (edits.Horizon limit) u r i
beyond_in t u limit r (items.Within time) h =
    let above : min t.horizon u.horizon < time = ltb-true (min t.horizon u.horizon) time (sym (or-false _) ∙ h) in
    by_horizon limit u r time (elim (cases_lt t.horizon time) [ inl less ↦ inl less | inr more ↦ inr (omega (arith, above, more)) ])
beyond_in t u limit r i h = absurd cc

beyond_is : (t u : Listing) (time : ℕ) → (t.horizon < time) ⊎ (u.horizon < time) → is_touched (Beyond (min t.horizon u.horizon) ∷ []) (items.Within time) ≡ true
beyond_is t u time (inl less) = or_left (nat_lt (min t.horizon u.horizon) time) false (lt-ltb (min t.horizon u.horizon) time (omega (arith, less)))
beyond_is t u time (inr less) = or_left (nat_lt (min t.horizon u.horizon) time) false (lt-ltb (min t.horizon u.horizon) time (omega (arith, less)))

-- ---- each edit

capacity_in : (t u : Listing) (name : List ℕ) (amount r : ℕ) (i : Item) → is_touched (capacity_probes t (storage_place name t) u) i ≡ true →
    Touches t (edits.Capacity name amount) u r i
capacity_in t u name amount r i h = go (storage_place name t) refl h where
  go : (o : Option ℕ) → storage_place name t ≡ o → is_touched (capacity_probes t o u) i ≡ true → Touches t (edits.Capacity name amount) u r i
  go None none k = absurd (no_touch i k)
  go (Some place) at k =
      by_capacity name amount place u r i (place_found t name place at) (splice_in t place (nth t.lines place) (nth u.lines place) i k)

touched_in_case : (t : Listing) (e : Edit) (u : Listing) (r : ℕ) (i : Item) → is_touched (touch_of t e u r) i ≡ true → Touches t e u r i
touched_in_case t (edits.Insert place text) u r i h = by_insert place text u r i (splice_in t place None (nth u.lines place) i h)
touched_in_case t (edits.Delete place) u r i h = by_delete place u r i (splice_in t place (nth t.lines place) None i h)
touched_in_case t (edits.Change place text) u r i h = by_change place text u r i (splice_in t place (nth t.lines place) (nth u.lines place) i h)
touched_in_case t (edits.Capacity name amount) u r i h = capacity_in t u name amount r i h
touched_in_case t (edits.Seed number seed) u r i h = seed_in t u number seed r i h
touched_in_case t (edits.Replicate number seed) u r i h = absurd (no_touch i h)
touched_in_case t (edits.Drop number) u r i h = absurd (no_touch i h)
touched_in_case t (edits.Horizon time) u r i h = beyond_in t u time r i h

case_touches : (t : Listing) {e : Edit} {u : Listing} {r : ℕ} {i : Item} → Touches t e u r i → is_touched (touch_of t e u r) i ≡ true
case_touches t (by_insert place text u r i splice) = splice_is t place splice
case_touches t (by_delete place u r i splice) = splice_is t place splice
case_touches t (by_change place text u r i splice) = splice_is t place splice
case_touches t (by_capacity name amount place u r i first splice) =
    ap (λ o. is_touched (capacity_probes t o u) i) (found_place t name place first) ∙ splice_is t place splice
case_touches t (by_seed number seed u differ) = seed_is t u number differ
case_touches t (by_horizon limit u r time beyond) = beyond_is t u time beyond

pub touches_exactly : TouchesExactly
touches_exactly t e u r i = (λ h. touched_in_case t e u r i h, λ touches. case_touches t touches)
