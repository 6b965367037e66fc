-- An edit of a capacity touches the amounts that the two capacities answer in two ways, and nothing else.
use Rattle.std.proofs.Common.{◌≡◌, ◌&&◌, ◌||◌, ℕ, suc, ◌+◌, ◌-◌, ◌≤◌, Bool, true, false, cond, not, nat_le, List, [], ◌∷◌, ◌++◌, take, drop, Option, Some, None, Ok, slice_get, unwrap_or, refl, ap, sym, ◌∙◌, arith}
use Rattle.std.specs.Str.{bytes_eq}
use Rattle.std.proofs.lemmas.Bool.Decides.{nat_tests}
use Rattle.std.proofs.lemmas.Slice.Eq.{bytes_eq-Decides}
use Rattle.gw_meaning.specs.declared.item.Item.{Item}
use Rattle.gw_meaning.specs.declared.item.Asked.{Asked}
use Rattle.gw_meaning.specs.declared.item.Asked.TheVariants as asking
use Rattle.gw_meaning.specs.declared.item.Item.TheVariants as items
use Rattle.gw_meaning.specs.declared.statement.Body.{Body}
use Rattle.gw_meaning.specs.declared.statement.Body.TheVariants as bodies
use Rattle.gw_meaning.specs.declared.statement.Definition.{Definition}
use Rattle.gw_meaning.specs.declared.statement.Definition.TheVariants as definitions
use Rattle.gw_meaning.specs.declared.statement.Numbered.{Numbered}
use Rattle.gw_meaning.specs.Listing.{Listing, nth, has_label, definition_of_body, definition_if, defines, or_next, units_of, capacity_in, capacity_at}
use Rattle.gw_model.specs.Faults.{is_outside}
use Rattle.gw_model.specs.Spliced.{with_splice}
use Rattle.gw_model.proofs.Apart.{same_bytes}
use Rattle.gw_uses.specs.Asks.{answers_differ, differs, is_other}
use Rattle.gw_frame.specs.Alike.{SameAnswer}
use Rattle.gw_touch.specs.declared.touch.Probe.TheVariants.{Amounts}
use Rattle.gw_lines.specs.Printed.{storage_of}
use Rattle.gw_touch.specs.Touching.{is_capacity, storage_in, storage_place, is_touched, capacity_probes, splice_probes}
use Rattle.gw_edit.specs.Applied as by
use Rattle.gw_edit.specs.Capacities.{CapacityTouchesWhatDiffers}
use Rattle.gw_edit.proofs.Made.{checked_gives, other_side, storage_found}
use Rattle.gw_touch.proofs.Splits.{gone_at, nth_between}

-- a statement gives the storage of a name its units, and none in front of it does
pub record Gives (name : List ℕ) (lines : List Numbered) (n place : ℕ) : Type 0 where
  pub index : ℕ
  pub at : place ≡ n + index
  pub line : Numbered
  pub from : ℕ
  pub there : slice_get lines index ≡ Some line
  pub says : defines name line ≡ Some (definitions.Storage from)
  pub silent : (rest : List Numbered) → capacity_in name (take index lines ++ rest) ≡ capacity_in name rest

gives : (name : List ℕ) (n : ℕ) (lines : List Numbered) (place : ℕ) → storage_in name n lines ≡ Some place → Gives name lines n place
gives name n [] place h = absurd cc
gives name n (line ∷ lines) place h = go (defines name line) refl h (gives name (n + 1) lines place) where
  later : units_of (defines name line) ≡ None → Gives name lines (n + 1) place → Gives name (line ∷ lines) n place
  later none g = record {
    index = suc g.index;
    at = (let at = g.at in omega (arith, at));
    line = g.line;
    from = g.from;
    there = g.there;
    says = g.says;
    silent = λ rest. ap (λ o. or_next o (capacity_in name (take g.index lines ++ rest))) none ∙ g.silent rest;
  }

  go : (o : Option Definition) → defines name line ≡ o → cond (is_capacity o) (Some n) (storage_in name (n + 1) lines) ≡ Some place →
      (storage_in name (n + 1) lines ≡ Some place → Gives name lines (n + 1) place) → Gives name (line ∷ lines) n place
  go None is k rest = later (ap units_of is) (rest k)
  go (Some (definitions.Equ value)) is k rest = later (ap units_of is) (rest k)
  go (Some (definitions.Variable expression)) is k rest = later (ap units_of is) (rest k)
  go (Some (definitions.Function function)) is k rest = later (ap units_of is) (rest k)
  go (Some (definitions.Table table)) is k rest = later (ap units_of is) (rest k)
  go (Some (definitions.Storage from)) is k rest = record {
    index = 0;
    at = (let same : n ≡ place = cc in omega (arith, same));
    line = line;
    from = from;
    there = refl;
    says = is;
    silent = λ more. refl;
  }

-- what is touched where such a statement gives it others
pub record IsStorageOf (name : List ℕ) (from : ℕ) (label : Option (List ℕ)) (body : Body) : Type 0 where
  pub label_is : label ≡ Some name
  pub body_is : body ≡ bodies.Definition (definitions.Storage from)

pub is_storage : (name : List ℕ) (from : ℕ) (label : Option (List ℕ)) (body : Body) →
    definition_if (has_label name label) (definition_of_body body) ≡ Some (definitions.Storage from) → IsStorageOf name from label body
is_storage name from None body h = absurd cc
is_storage name from (Some other) body h = go (bytes_eq other name) refl body h where
  go : (b : Bool) → bytes_eq other name ≡ b → (body : Body) → definition_if b (definition_of_body body) ≡ Some (definitions.Storage from) →
      IsStorageOf name from (Some other) body
  go false is body k = absurd cc
  go true is (bodies.Block block) k = absurd cc
  go true is (bodies.Command command) k = absurd cc
  go true is (bodies.Definition definition) k =
      let same : definition ≡ definitions.Storage from = cc in
      record { label_is = ap (λ l. Some l) ((bytes_eq-Decides other name).0 is); body_is = ap (λ d. bodies.Definition d) same }

touched_there : (t : Listing) (place : ℕ) (name : List ℕ) (from amount number : ℕ) (line : Numbered) →
    IsStorageOf name from line.statement.label line.statement.body →
    splice_probes t place (Some line) (Some (record { number = number; statement = storage_of name amount })) ≡ Amounts name (Some from) (Some amount) ∷ []
touched_there t place name from amount number line is = rw (is.body_is, is.label_is, same_bytes name) refl

-- the units of the storage, where it stands after what gives none
units_behind : (name : List ℕ) (lines front : List Numbered) (line : Numbered) (behind : List Numbered) (units : ℕ) →
    ((rest : List Numbered) → capacity_in name (front ++ rest) ≡ capacity_in name rest) → defines name line ≡ Some (definitions.Storage units) →
    lines ≡ front ++ line ∷ behind → unwrap_or (capacity_in name lines) 0 ≡ units
units_behind name lines front line behind units silent says parts =
    ap (λ ls. unwrap_or (capacity_in name ls) 0) parts
    ∙ (ap (λ o. unwrap_or o 0) (silent (line ∷ behind)) ∙ ap (λ d. unwrap_or (or_next (units_of d) (capacity_in name behind)) 0) says)

-- an amount that one holds and the other does not is answered in two ways
two_ways : (from to amount : ℕ) → differs (Some from) (Some to) amount ≡ true → nat_le amount to ≡ nat_le amount from → ⊥
two_ways from to amount h = go (nat_le amount from) (nat_le amount to) h where
  go : (p q : Bool) → cond p (not q) q ≡ true → q ≡ p → ⊥
  go true true k same = absurd cc
  go true false k same = absurd cc
  go false true k same = absurd cc
  go false false k same = absurd cc

-- another capacity is another one
two_capacities : (from to : ℕ) → is_other (Some from) (Some to) ≡ true → to ≡ from → ⊥
two_capacities from to h same = grind (arith, nat_tests, h, same)

-- what the two capacities answer in two ways is not answered alike
told_otherwise : (t u : Listing) (a b : ℕ) (name other : List ℕ) (from to : ℕ) → capacity_at t name ≡ from → capacity_at u name ≡ to → name ≡ other →
    (asked : Asked) → answers_differ (Some from) (Some to) asked ≡ true → SameAnswer t a u b (items.Named asked other) → ⊥
told_otherwise t u a b name other from to was is here (asking.Fits amount) differ same =
    let alike : nat_le amount (capacity_at u name) ≡ nat_le amount (capacity_at t name) = rw here same in
    two_ways from to amount differ (ap (λ n. nat_le amount n) (sym is) ∙ (alike ∙ ap (λ n. nat_le amount n) was))
told_otherwise t u a b name other from to was is here asking.Storage differ same =
    let alike : capacity_at u name ≡ capacity_at t name = rw here same in
    two_capacities from to differ (sym is ∙ (alike ∙ was))
told_otherwise t u a b name other from to was is here asked differ same = absurd cc

answered : (t u : Listing) (a b : ℕ) (name : List ℕ) (from to : ℕ) → capacity_at t name ≡ from → capacity_at u name ≡ to → (i : Item) →
    is_touched (Amounts name (Some from) (Some to) ∷ []) i ≡ true → SameAnswer t a u b i → ⊥
answered t u a b name from to was is (items.Named asked other) h same =
    go (bytes_eq name other) refl (answers_differ (Some from) (Some to) asked) refl h
  where
    go : (e : Bool) → bytes_eq name other ≡ e → (d : Bool) → answers_differ (Some from) (Some to) asked ≡ d → ((e && d) || false) ≡ true → ⊥
    go true named true there k = told_otherwise t u a b name other from to was is ((bytes_eq-Decides name other).0 named) asked there same
    go true named false there k = absurd cc
    go false named d there k = absurd cc
answered t u a b name from to was is i h same = absurd cc

pub capacity_touches_what_differs : CapacityTouchesWhatDiffers
capacity_touches_what_differs t name amount u r a b made i touched same = go (storage_place name t) refl made touched where
  go : (o : Option ℕ) → storage_place name t ≡ o → by.capacity_at t name amount o ≡ Ok u → is_touched (capacity_probes t o u) i ≡ true → ⊥
  go None is k h = absurd cc
  go (Some place) is k h =
      let statement = storage_of name amount in
      let side = other_side (is_outside 1 1000000000 amount) _ _ u k in
      let v = checked_gives (with_splice t place true (Some statement)) u side.1 in
      let g = gives name 1 t.lines place is in
      let bounds = storage_found name 1 t.lines place is in
      let low : 1 ≤ place = bounds.0 in
      let high = bounds.1 in
      let at = g.at in
      let next : place ≡ suc g.index = omega (arith, at) in
      let before : place - 1 ≡ g.index = omega (arith, at) in
      let gone = gone_at t.lines place (Some statement) low (omega (arith, high)) in
      let found : Some gone.0 ≡ Some g.line = sym gone.1.found ∙ (ap (nth t.lines) next ∙ g.there) in
      let line : gone.0 ≡ g.line = cc in
      let new : Numbered = record { number = gone.0.number; statement = statement } in
      let lines : u.lines ≡ take (place - 1) t.lines ++ new ∷ drop place t.lines = ap (λ (x : Listing). x.lines) (sym v) ∙ gone.1.new in
      let there : nth u.lines place ≡ Some new =
      ap (λ ls. nth ls place) lines ∙ nth_between t.lines (drop place t.lines) place new low (omega (arith, high)) in
      let front = take (place - 1) t.lines in
      let silent : (rest : List Numbered) → capacity_in name (front ++ rest) ≡ capacity_in name rest =
      λ rest. ap (λ n. capacity_in name (take n t.lines ++ rest)) before ∙ g.silent rest in
      let says : defines name gone.0 ≡ Some (definitions.Storage g.from) = ap (defines name) line ∙ g.says in
      let says_new : defines name new ≡ Some (definitions.Storage amount) = ap (λ b. definition_if b (Some (definitions.Storage amount))) (same_bytes name) in
      let was : capacity_at t name ≡ g.from = units_behind name t.lines front gone.0 (drop place t.lines) g.from silent says gone.1.old in
      let is : capacity_at u name ≡ amount = units_behind name u.lines front new (drop place t.lines) amount silent says_new lines in
      let storage = is_storage name g.from gone.0.statement.label gone.0.statement.body says in
      let probes : capacity_probes t (Some place) u ≡ Amounts name (Some g.from) (Some amount) ∷ [] =
      ap (λ o. splice_probes t place o (nth u.lines place)) gone.1.found
      ∙ (ap (splice_probes t place (Some gone.0)) there ∙ touched_there t place name g.from amount gone.0.number gone.0 storage) in
      answered t u a b name g.from amount was is i (ap (λ ps. is_touched ps i) (sym probes) ∙ h) same
