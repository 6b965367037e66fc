-- The first step that asks an amount that two capacities answer in two ways is the least of those that are noted.
use Rattle.std.proofs.Common.{◌≡◌, ℕ, zero, suc, ◌+◌, ◌<◌, ◌≤◌, min, Bool, true, false, cond, ◌||◌, nat_le, List, [], ◌∷◌, take, Option, Some, None, inl, inr, refl, sym, ap, ap₂, ◌∙◌, arith, subst}
use mathlib.Core.Bool.{true≢false}
use Rattle.std.specs.List.{list_any, slice_get, IsDistinct}
use Rattle.std.specs.Str.{bytes_eq}
use Rattle.std.specs.Map.{keys_of}
use Rattle.std.proofs.lemmas.Bool.{cases_Bool, and_parts, or_right}
use Rattle.std.proofs.lemmas.Bool.Decides.{nat_tests}
use Rattle.std.proofs.lemmas.Slice.Eq.{bytes_eq-Decides}
use Rattle.std.proofs.lemmas.Map.Entries.{lookup_from_place}
use Rattle.gw_meaning.specs.declared.item.Item.{Item}
use Rattle.gw_meaning.specs.declared.item.Asked.{Asked}
use Rattle.gw_meaning.specs.declared.item.Asked.TheVariants as asking
use Rattle.gw_meaning.specs.declared.item.Item.TheVariants as items
use Rattle.gw_meaning.specs.contracts.item.ItemEq.TheImpl.Laws as laws
use Rattle.gw_meaning.specs.Listing.{Listing}
use Rattle.gw_meaning.specs.Reads.{first_reading, first_use, reads, is_use, same_asked, same_item}
use Rattle.gw_uses.specs.declared.first_uses.FirstUses.{FirstUses}
use Rattle.gw_uses.specs.Steps.{step_of}
use Rattle.gw_uses.specs.Uses.{first_in}
use Rattle.gw_uses.specs.Asks.{answers_differ, is_ask, earlier, least_in}
use Rattle.gw_uses.proofs.FirstLaws.{IsFirstReading, first_is, first_same, first_no_later}

-- ---- the least of entries

-- the earlier of two, and one more
earlier_assoc : (a b c : Option ℕ) → earlier a (earlier b c) ≡ earlier (earlier a b) c
earlier_assoc None b c = refl
earlier_assoc (Some k) None c = refl
earlier_assoc (Some k) (Some m) None = refl
earlier_assoc (Some k) (Some m) (Some n) = let same : min k (min m n) ≡ min (min k m) n = omega arith in ap (λ i. Some i) same

earlier_none : (a : Option ℕ) → earlier a None ≡ a
earlier_none None = refl
earlier_none (Some m) = refl

pair_same : (e : Item × ℕ) (item : Item) (step : ℕ) → Some e ≡ Some (item, step) → e ≡ (item, step)
pair_same e item step h = cc

-- the entries up to an index, and the one there
least_suc : (p : Item → Bool) (es : List (Item × ℕ)) (i : ℕ) (item : Item) (step : ℕ) → slice_get es i ≡ Some (item, step) →
    earlier (least_in p (take i es)) (cond (p item) (Some step) None) ≡ least_in p (take (suc i) es)
least_suc p [] i item step at = absurd cc
least_suc p (e ∷ es) zero item step at =
    ap (λ (x : Item × ℕ). cond (p x.0) (Some x.1) None) (sym (pair_same e item step at)) ∙ sym (earlier_none (cond (p e.0) (Some e.1) None))
least_suc p (e ∷ es) (suc i) item step at =
    let first = cond (p e.0) (Some e.1) None in
    sym (earlier_assoc first (least_in p (take i es)) (cond (p item) (Some step) None)) ∙ ap (earlier first) (least_suc p es i item step at)

pub least_step : (p : Item → Bool) (es : List (Item × ℕ)) (i : ℕ) (item : Item) (step : ℕ) → Some (item, step) ≡ slice_get es i →
    earlier (least_in p (take i es)) (cond (p item) (Some step) None) ≡ least_in p (take (i + 1) es)
least_step p es i item step at =
    let next : suc i ≡ i + 1 = omega arith in
    least_suc p es i item step (sym at) ∙ ap (λ n. least_in p (take n es)) next

-- it is one of them, and none is less
abbrev IsLeastIn : (Item → Bool) → List (Item × ℕ) → Option ℕ → Type 0
IsLeastIn p es None = (i : ℕ) (e : Item × ℕ) → slice_get es i ≡ Some e → p e.0 ≡ false
IsLeastIn p es (Some n) =
    ((i : ℕ) × (e : Item × ℕ) × (slice_get es i ≡ Some e) × (p e.0 ≡ true) × (e.1 ≡ n)) ×
    ((i : ℕ) (e : Item × ℕ) → slice_get es i ≡ Some e → p e.0 ≡ true → n ≤ e.1)

one_same : (a b : Item × ℕ) → Some a ≡ Some b → a ≡ b
one_same a b h = cc

least_with : (p : Item → Bool) (e : Item × ℕ) (es : List (Item × ℕ)) (b : Bool) (o : Option ℕ) → p e.0 ≡ b → IsLeastIn p es o →
    IsLeastIn p (e ∷ es) (earlier (cond b (Some e.1) None) o)
least_with p e es false None is h = go where
  go : (i : ℕ) (x : Item × ℕ) → slice_get (e ∷ es) i ≡ Some x → p x.0 ≡ false
  go zero x at = ap (λ (y : Item × ℕ). p y.0) (sym (one_same e x at)) ∙ is
  go (suc i) x at = h i x at
least_with p e es false (Some n) is h = (behind h.0, go) where
  behind : (i : ℕ) × (x : Item × ℕ) × (slice_get es i ≡ Some x) × (p x.0 ≡ true) × (x.1 ≡ n) →
      (i : ℕ) × (x : Item × ℕ) × (slice_get (e ∷ es) i ≡ Some x) × (p x.0 ≡ true) × (x.1 ≡ n)
  behind k = let (i, x, at, asks, same) = k in (suc i, x, at, asks, same)

  go : (i : ℕ) (x : Item × ℕ) → slice_get (e ∷ es) i ≡ Some x → p x.0 ≡ true → n ≤ x.1
  go zero x at asks = absurd (true≢false (sym asks ∙ (ap (λ (y : Item × ℕ). p y.0) (sym (one_same e x at)) ∙ is)))
  go (suc i) x at asks = h.1 i x at asks
least_with p e es true None is h = ((0, e, refl, is, refl), go) where
  go : (i : ℕ) (x : Item × ℕ) → slice_get (e ∷ es) i ≡ Some x → p x.0 ≡ true → e.1 ≤ x.1
  go zero x at asks = let same = ap (λ (y : Item × ℕ). y.1) (one_same e x at) in omega (arith, same)
  go (suc i) x at asks = absurd (true≢false (sym asks ∙ h i x at))
least_with p e es true (Some n) is h = (here, go) where
  go : (i : ℕ) (x : Item × ℕ) → slice_get (e ∷ es) i ≡ Some x → p x.0 ≡ true → min e.1 n ≤ x.1
  go zero x at asks = let same = ap (λ (y : Item × ℕ). y.1) (one_same e x at) in grind (arith, same)
  go (suc i) x at asks = let low = h.1 i x at asks in grind (arith, low)

  here : (i : ℕ) × (x : Item × ℕ) × (slice_get (e ∷ es) i ≡ Some x) × (p x.0 ≡ true) × (x.1 ≡ min e.1 n)
  here = elim (cases_Bool (nat_le e.1 n)) [
    | inl low ↦ (0, e, refl, is, grind (arith, nat_tests))
    | inr high ↦
        let (i, x, at, asks, same) = h.0 in
        (suc i, x, at, asks, grind (arith, nat_tests, same))
  ]

least_is : (p : Item → Bool) (es : List (Item × ℕ)) → IsLeastIn p es (least_in p es)
least_is p [] = λ i e at. absurd cc
least_is p (e ∷ es) = least_with p e es (p e.0) (least_in p es) refl (least_is p es)

-- ---- asks

-- what two capacities answer in two ways equals nothing but itself
told_apart : (from to : Option ℕ) (b a : Asked) → answers_differ from to b ≡ true → same_asked a b ≡ true → a ≡ b
told_apart from to (asking.Fits n) (asking.Fits m) differ h = ap (λ k. asking.Fits k) (grind (arith, nat_tests, h))
told_apart from to asking.Storage asking.Storage differ h = refl
told_apart from to b a differ h = absurd cc

-- so is the item that asks it of a name
named_same : (from to : Option ℕ) (asked : Asked) (name : List ℕ) (item : Item) → answers_differ from to asked ≡ true →
    same_item item (items.Named asked name) ≡ true → item ≡ items.Named asked name
named_same from to asked name (items.Named other of) differ h =
    let parts = and_parts (same_asked other asked) (bytes_eq of name) h in
    ap₂ (λ a n. items.Named a n) (told_apart from to asked other differ parts.0) ((bytes_eq-Decides of name).0 parts.1)
named_same from to asked name item differ h = absurd cc

-- an item that is asked is used just where it is read
asked_same : (name : List ℕ) (from to : Option ℕ) (q item : Item) → is_ask name from to q ≡ true → same_item item q ≡ true → item ≡ q
asked_same name from to (items.Named asked other) item asks h =
    named_same from to asked other item (and_parts (bytes_eq name other) (answers_differ from to asked) asks).1 h
asked_same name from to q item asks h = absurd cc

asked_use : (name : List ℕ) (from to : Option ℕ) (q item : Item) → is_ask name from to q ≡ true → is_use q item ≡ same_item item q
asked_use name from to (items.Named asked other) item asks = refl
asked_use name from to q item asks = absurd cc

-- and it is noted with the items of no other kind
pub asked_noted : (name : List ℕ) (from to : Option ℕ) (f : FirstUses) (q : Item) → is_ask name from to q ≡ true → first_in f q ≡ step_of f.others q
asked_noted name from to f (items.Named asked other) asks = refl
asked_noted name from to f q asks = absurd cc

module _ (name : List ℕ) (from to : Option ℕ) where
  abbrev asks_it : Item → Bool
  asks_it = is_ask name from to

  -- who reads something asked reads some item that is asked, and the other way round
  ask_read : (read : List Item) → list_any asks_it read ≡ true → (q : Item) × (asks_it q ≡ true) × (list_any (is_use q) read ≡ true)
  ask_read [] h = absurd (true≢false (sym h))
  ask_read (item ∷ read) h = go (asks_it item) refl h (ask_read read) where
    go : (b : Bool) → asks_it item ≡ b → (b || list_any asks_it read) ≡ true →
        (list_any asks_it read ≡ true → (q : Item) × (asks_it q ≡ true) × (list_any (is_use q) read ≡ true)) →
        (q : Item) × (asks_it q ≡ true) × (list_any (is_use q) (item ∷ read) ≡ true)
    go true e h rest =
        let used : is_use item item ≡ true = asked_use name from to item item e ∙ laws.laws-law.refl item in
        (item, e, ap (λ b. b || list_any (is_use item) read) used)
    go false e h rest = let (q, asks, used) = rest h in (q, asks, or_right (is_use q item) _ used)

  ask_by : (q : Item) → asks_it q ≡ true → (read : List Item) → list_any (is_use q) read ≡ true → list_any asks_it read ≡ true
  ask_by q asks [] h = absurd (true≢false (sym h))
  ask_by q asks (item ∷ read) h = go (is_use q item) refl h (ask_by q asks read) where
    go : (b : Bool) → is_use q item ≡ b → (b || list_any (is_use q) read) ≡ true → (list_any (is_use q) read ≡ true → list_any asks_it read ≡ true) →
        (asks_it item || list_any asks_it read) ≡ true
    go true e h rest =
        let same : item ≡ q = asked_same name from to q item asks (sym (asked_use name from to q item asks) ∙ e) in
        let here : asks_it item ≡ true = ap asks_it same ∙ asks in
        ap (λ b. b || list_any asks_it read) here
    go false e h rest = or_right (asks_it item) _ (rest h)

  -- the entry that is noted for an item
  looked_up : (es : List (Item × ℕ)) (q : Item) (n : ℕ) → step_of es q ≡ Some n →
      (i : ℕ) × (e : Item × ℕ) × (slice_get es i ≡ Some e) × (same_item q e.0 ≡ true) × (e.1 ≡ n)
  looked_up [] q n h = absurd cc
  looked_up (e ∷ es) q n h = go (same_item q e.0) refl h (looked_up es q n) where
    go : (b : Bool) → same_item q e.0 ≡ b → cond b (Some e.1) (step_of es q) ≡ Some n →
        (step_of es q ≡ Some n → (i : ℕ) × (x : Item × ℕ) × (slice_get es i ≡ Some x) × (same_item q x.0 ≡ true) × (x.1 ≡ n)) →
        (i : ℕ) × (x : Item × ℕ) × (slice_get (e ∷ es) i ≡ Some x) × (same_item q x.0 ≡ true) × (x.1 ≡ n)
    go true is h rest = (0, e, refl, is, cc)
    go false is h rest = let (i, x, at, same, step) = rest h in (suc i, x, at, same, step)

  -- the entry of an item that is asked is asked
  entry_asks : (q : Item) (e : Item × ℕ) → asks_it q ≡ true → same_item q e.0 ≡ true → asks_it e.0 ≡ true
  entry_asks q e asks same =
      let flipped : same_item e.0 q ≡ true = laws.laws-law.symm e.0 q ∙ same in
      ap asks_it (asked_same name from to q e.0 asks flipped) ∙ asks

  pub first_asked : (t : Listing) (seed n : ℕ) (es : List (Item × ℕ)) → IsDistinct same_item (keys_of es) →
      ((q : Item) → asks_it q ≡ true → step_of es q ≡ first_use q t seed n) → least_in asks_it es ≡ first_reading asks_it t seed n
  first_asked t seed n es apart noted =
      first_same asks_it t seed n (least_in asks_it es) (first_reading asks_it t seed n) (go (least_in asks_it es) (least_is asks_it es))
      (first_is asks_it t seed n)
    where
      -- a step that reads something asked has an entry that is no later
      entry : (k : ℕ) → k < n → list_any asks_it (reads t seed k) ≡ true →
          (i : ℕ) × (e : Item × ℕ) × (slice_get es i ≡ Some e) × (asks_it e.0 ≡ true) × (e.1 ≤ k)
      entry k less is =
          let (q, asks, used) = ask_read (reads t seed k) is in
          let (m, first, early) = first_no_later (is_use q) t seed n k less used in
          let (i, e, at, same, step) = looked_up es q m (noted q asks ∙ first) in
          (i, e, at, entry_asks q e asks same, omega (arith, step, early))

      unread : (k : ℕ) → (list_any asks_it (reads t seed k) ≡ true → ⊥) → list_any asks_it (reads t seed k) ≡ false
      unread k none = elim (cases_Bool (list_any asks_it (reads t seed k))) [
        | inl is ↦ absurd (none is)
        | inr not_read ↦ not_read
      ]

      go : (o : Option ℕ) → IsLeastIn asks_it es o → IsFirstReading asks_it t seed n o
      go None h = λ k less. unread k (λ is. let (i, e, at, asks, early) = entry k less is in true≢false (sym asks ∙ h i e at))
      go (Some m) h =
          let (i, e, at, asks, step) = h.0 in
          let there : step_of es e.0 ≡ Some m = lookup_from_place laws.laws-law es i e.0 e.1 apart at ∙ ap (λ k. Some k) step in
          let first : first_use e.0 t seed n ≡ Some m = sym (noted e.0 asks) ∙ there in
          let is = subst (λ o. IsFirstReading (is_use e.0) t seed n o) first (first_is (is_use e.0) t seed n) in (
            is.0,
            ask_by e.0 asks (reads t seed m) is.1,
            λ k less. unread k (λ read.
                let low = is.0 in
                let (j, x, found, asked, early) = entry k (omega (arith, less, low)) read in
                let no_less = h.1 j x found asked in
                let none : ⊥ = omega (arith, no_less, early, less) in
                none),
          )
