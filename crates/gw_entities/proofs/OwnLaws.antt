-- What transactions have of their own, in order of their numbers.
use Rattle.std.proofs.Common.{◌≡◌, ℕ, zero, suc, ◌<◌, ◌≤◌, Bool, true, false, cond, not, nat_eq, nat_lt, ◌&&◌, arith}
use Rattle.std.proofs.Common.{List, [], ◌∷◌, ◌++◌, length, take, drop, set, Option, Some, None, refl, sym, ap, ◌∙◌, subst}
use Rattle.std.specs.Prelude.{insert, slice_get}
use Rattle.std.proofs.lemmas.Bool.{eqb-true}
use Rattle.std.proofs.lemmas.Bool.Decides.{nat_tests}
use Rattle.gw_names.specs.declared.key.Key.{Key}
use Rattle.gw_names.specs.Keys.{key_eq}
use Rattle.gw_entities.specs.Owned.{Entry, is_own, own_of, with_own, without_own, AreBelow, AreFrom, AreRising, IsCut, StandsAt, EndsAt}
use Rattle.gw_entities.proofs.QueueArrivalLaws.{key_same}
use Rattle.gw_entities.proofs.Lookups.{Some_same}

and_no : (a b : Bool) → b ≡ false → (a && b) ≡ false
and_no true b e = e
and_no false b e = refl

and_first : (a b : Bool) → (a && b) ≡ true → a ≡ true
and_first true b e = refl
and_first false b e = absurd cc

and_second : (a b : Bool) → (a && b) ≡ true → b ≡ true
and_second true b e = e
and_second false b e = absurd cc

above_is_other : (n m : ℕ) → n < m → nat_eq n m ≡ false
above_is_other n m less = grind (arith, nat_tests)

below_is_other : (n m : ℕ) → m < n → nat_eq n m ≡ false
below_is_other n m less = grind (arith, nat_tests)

less_is : (n m : ℕ) → n < m → nat_lt n m ≡ true
less_is n m less = grind (arith, nat_tests)

more_is : (n m : ℕ) → m ≤ n → nat_lt n m ≡ false
more_is n m more = grind (arith, nat_tests)

is_less : (n m : ℕ) → nat_lt n m ≡ true → n < m
is_less n m e = grind (arith, nat_tests)

is_more : (n m : ℕ) → nat_lt n m ≡ false → m ≤ n
is_more n m e = grind (arith, nat_tests)

module _ {V : Type 0} where
  -- ---- numbers

  from_weaker : (m n : ℕ) (es : List (Entry V)) → m ≤ n → AreFrom n es → AreFrom m es
  from_weaker m n [] less h = tt
  from_weaker m n (e ∷ es) less h = let own : n ≤ e.0 = h.0 in (omega (arith, own, less), from_weaker m n es less h.1)

  below_weaker : (m n : ℕ) (es : List (Entry V)) → m ≤ n → AreBelow m es → AreBelow n es
  below_weaker m n [] less h = tt
  below_weaker m n (e ∷ es) less h = let own : e.0 < m = h.0 in (omega (arith, own, less), below_weaker m n es less h.1)

  from_read : (n : ℕ) (es : List (Entry V)) (i : ℕ) (e : Entry V) → AreFrom n es → slice_get es i ≡ Some e → n ≤ e.0
  from_read n [] i e h at = absurd cc
  from_read n (x ∷ xs) zero e h at = subst (λ (p : Entry V). n ≤ p.0) (Some_same at) h.0
  from_read n (x ∷ xs) (suc i) e h at = from_read n xs i e h.1 at

  pub from_there : (n : ℕ) (es : List (Entry V)) (i j : ℕ) (e : Entry V) → i ≤ j → AreFrom n (drop i es) → slice_get es j ≡ Some e → n ≤ e.0
  from_there n [] i j e less h at = absurd cc
  from_there n (x ∷ xs) zero j e less h at = from_read n (x ∷ xs) j e h at
  from_there n (x ∷ xs) (suc i) zero e less h at = absurd (omega (arith, less))
  from_there n (x ∷ xs) (suc i) (suc j) e less h at = from_there n xs i j e (omega (arith, less)) h at

  pub below_there : (n : ℕ) (es : List (Entry V)) (j i : ℕ) (e : Entry V) → i < j → AreBelow n (take j es) → slice_get es i ≡ Some e → e.0 < n
  below_there n [] j i e less h at = absurd cc
  below_there n (x ∷ xs) zero i e less h at = absurd (omega (arith, less))
  below_there n (x ∷ xs) (suc j) zero e less h at = subst (λ (p : Entry V). p.0 < n) (Some_same at) h.0
  below_there n (x ∷ xs) (suc j) (suc i) e less h at = below_there n xs j i e (omega (arith, less)) h.1 at

  -- up to an entry with a number below this, all are below it
  pub below_to : (n : ℕ) (es : List (Entry V)) (i j : ℕ) (e : Entry V) → j ≡ suc i → AreRising es → slice_get es i ≡ Some e → e.0 < n →
      AreBelow n (take j es)
  below_to n es i j e is rising at less = subst (λ k. AreBelow n (take k es)) (sym is) (go es i rising at) where
    go : (es : List (Entry V)) (i : ℕ) → AreRising es → slice_get es i ≡ Some e → AreBelow n (take (suc i) es)
    go [] i rising at = absurd cc
    go (x ∷ xs) zero rising at = (subst (λ (p : Entry V). p.0 < n) (sym (Some_same at)) less, tt)
    go (x ∷ xs) (suc i) rising at =
        let first : x.0 ≤ e.0 = from_read x.0 xs i e rising.0 at in
        (omega (arith, first, less), go xs i rising.1 at)

  -- and from one with a number from this on, all are
  pub from_at : (n : ℕ) (es : List (Entry V)) (i : ℕ) (e : Entry V) → AreRising es → slice_get es i ≡ Some e → n ≤ e.0 → AreFrom n (drop i es)
  from_at n [] i e rising at more = absurd cc
  from_at n (x ∷ xs) zero e rising at more =
      let first : n ≤ x.0 = subst (λ (p : Entry V). n ≤ p.0) (sym (Some_same at)) more in
      (first, from_weaker n x.0 xs first rising.0)
  from_at n (x ∷ xs) (suc i) e rising at more = from_at n xs i e rising.1 at more

  pub below_more : (n : ℕ) (es : List (Entry V)) (i j : ℕ) (e : Entry V) → j ≡ suc i → AreBelow n (take i es) → slice_get es i ≡ Some e → e.0 < n →
      AreBelow n (take j es)
  below_more n es i j e is h at less = subst (λ k. AreBelow n (take k es)) (sym is) (go es i h at) where
    go : (es : List (Entry V)) (i : ℕ) → AreBelow n (take i es) → slice_get es i ≡ Some e → AreBelow n (take (suc i) es)
    go [] i h at = absurd cc
    go (x ∷ xs) zero h at = (subst (λ (p : Entry V). p.0 < n) (sym (Some_same at)) less, tt)
    go (x ∷ xs) (suc i) h at = (h.0, go xs i h.1 at)

  pub below_next : (n : ℕ) (es : List (Entry V)) (i : ℕ) → AreBelow n (take i es) → AreBelow (suc n) (take i es)
  below_next n es i h = below_weaker n (suc n) (take i es) (omega arith) h

  pub none_taken : (n : ℕ) (es : List (Entry V)) → AreBelow n (take zero es)
  none_taken n [] = tt
  none_taken n (x ∷ xs) = tt

  pub none_left : (n m : ℕ) (es : List (Entry V)) → length es ≤ m → AreFrom n (drop m es)
  none_left n zero [] low = tt
  none_left n zero (x ∷ xs) low = absurd (omega (arith, low))
  none_left n (suc m) [] low = tt
  none_left n (suc m) (x ∷ xs) low = none_left n m xs (omega (arith, low))

  -- ---- what a transaction has

  none_below : (n : ℕ) (k : Key) (es : List (Entry V)) → AreBelow n es → own_of es n k ≡ None
  none_below n k [] h = refl
  none_below n k (e ∷ es) h =
      ap (λ b. cond b (Some e.1.1) (own_of es n k)) (and_no (key_eq k e.1.0) (nat_eq n e.0) (below_is_other n e.0 h.0)) ∙ none_below n k es h.1

  none_above : (n : ℕ) (k : Key) (es : List (Entry V)) → AreFrom (suc n) es → own_of es n k ≡ None
  none_above n k [] h = refl
  none_above n k (e ∷ es) h =
      ap (λ b. cond b (Some e.1.1) (own_of es n k)) (and_no (key_eq k e.1.0) (nat_eq n e.0) (above_is_other n e.0 h.0)) ∙ none_above n k es h.1

  pub none_at_first : (n : ℕ) (k : Key) (es : List (Entry V)) (i : ℕ) → IsCut n es i → own_of (take i es) n k ≡ None
  none_at_first n k es i cut = none_below n k (take i es) cut.below

  pub none_more : (n : ℕ) (k : Key) (es : List (Entry V)) (i j : ℕ) (e : Entry V) → j ≡ suc i → own_of (take i es) n k ≡ None →
      slice_get es i ≡ Some e → is_own n k e ≡ false → own_of (take j es) n k ≡ None
  none_more n k es i j e is none at other = ap (λ m. own_of (take m es) n k) is ∙ go es i none at where
    go : (es : List (Entry V)) (i : ℕ) → own_of (take i es) n k ≡ None → slice_get es i ≡ Some e → own_of (take (suc i) es) n k ≡ None
    go [] i none at = absurd cc
    go (x ∷ xs) zero none at =
        ap (λ b. cond b (Some x.1.1) (own_of (take zero xs) n k)) (ap (λ (p : Entry V). is_own n k p) (Some_same at) ∙ other) ∙ nothing xs where
          nothing : (ys : List (Entry V)) → own_of (take zero ys) n k ≡ None
          nothing [] = refl
          nothing (y ∷ ys) = refl
    go (x ∷ xs) (suc i) none at = step (is_own n k x) none (go xs i) where
      step : (b : Bool) → cond b (Some x.1.1) (own_of (take i xs) n k) ≡ None →
          (own_of (take i xs) n k ≡ None → slice_get xs i ≡ Some e → own_of (take (suc i) xs) n k ≡ None) →
          cond b (Some x.1.1) (own_of (take (suc i) xs) n k) ≡ None
      step true h rest = absurd cc
      step false h rest = rest h at

  none_whole : (n : ℕ) (k : Key) (es : List (Entry V)) (i : ℕ) → own_of (take i es) n k ≡ None → own_of (drop i es) n k ≡ None → own_of es n k ≡ None
  none_whole n k [] i none rest = refl
  none_whole n k (x ∷ xs) zero none rest = rest
  none_whole n k (x ∷ xs) (suc i) none rest = step (is_own n k x) none (λ h. none_whole n k xs i h rest) where
    step : (b : Bool) → cond b (Some x.1.1) (own_of (take i xs) n k) ≡ None → (own_of (take i xs) n k ≡ None → own_of xs n k ≡ None) →
        cond b (Some x.1.1) (own_of xs n k) ≡ None
    step true h more = absurd cc
    step false h more = more h

  pub ends : (n : ℕ) (k : Key) (es : List (Entry V)) (i : ℕ) → own_of (take i es) n k ≡ None → IsCut (suc n) es i → EndsAt n k es i
  ends n k es i none cut = record { none = none_whole n k es i none (none_above n k (drop i es) cut.from); cut = cut }

  found_at : (n : ℕ) (k : Key) (es : List (Entry V)) (i : ℕ) (e : Entry V) → slice_get es i ≡ Some e → is_own n k e ≡ true →
      own_of (take i es) n k ≡ None → own_of es n k ≡ Some e.1.1
  found_at n k [] i e at passes none = absurd cc
  found_at n k (x ∷ xs) zero e at passes none =
      ap (λ b. cond b (Some x.1.1) (own_of xs n k)) (ap (λ (p : Entry V). is_own n k p) (Some_same at) ∙ passes)
      ∙ ap (λ (p : Entry V). Some p.1.1) (Some_same at)
  found_at n k (x ∷ xs) (suc i) e at passes none = step (is_own n k x) none (found_at n k xs i e at passes) where
    step : (b : Bool) → cond b (Some x.1.1) (own_of (take i xs) n k) ≡ None →
        (own_of (take i xs) n k ≡ None → own_of xs n k ≡ Some e.1.1) → cond b (Some x.1.1) (own_of xs n k) ≡ Some e.1.1
    step true h rest = absurd cc
    step false h rest = rest h

  pub stands_value : (n : ℕ) (k : Key) (es : List (Entry V)) (i : ℕ) (e : Entry V) → StandsAt n k es i → slice_get es i ≡ Some e → own_of es n k ≡ Some e.1.1
  stands_value n k es i e stands at =
      found_at n k es i stands.entry stands.there stands.passes stands.before ∙ ap (λ (p : Entry V). Some p.1.1) (Some_same (sym stands.there ∙ at))

  -- ---- a value that is set

  entry_same : (n : ℕ) (k : Key) (v : V) (e : Entry V) → is_own n k e ≡ true → ◌≡◌ {A = Entry V} (n, (k, v)) (e.0, (e.1.0, v))
  entry_same n k v e passes =
      ap (λ (m : ℕ). (m, (k, v))) (eqb-true n e.0 (and_second (key_eq k e.1.0) (nat_eq n e.0) passes))
      ∙ ap (λ (q : Key). (e.0, (q, v))) (key_same k e.1.0 (and_first (key_eq k e.1.0) (nat_eq n e.0) passes))

  own_number : (n : ℕ) (k : Key) (e : Entry V) → is_own n k e ≡ true → n ≡ e.0
  own_number n k e passes = eqb-true n e.0 (and_second (key_eq k e.1.0) (nat_eq n e.0) passes)

  at_head : (n : ℕ) (k : Key) (v : V) (e : Entry V) (es : List (Entry V)) → e.0 ≤ n →
      with_own (e ∷ es) n k v ≡ cond (is_own n k e) ((e.0, (e.1.0, v)) ∷ es) (e ∷ with_own es n k v)
  at_head n k v e es low =
      ap (λ b. cond b ((n, (k, v)) ∷ e ∷ es) (cond (is_own n k e) ((e.0, (e.1.0, v)) ∷ es) (e ∷ with_own es n k v))) (more_is n e.0 low)

  not_own : (b : Bool) (v : V) (o : Option V) → cond b (Some v) o ≡ None → (b ≡ false) × (o ≡ None)
  not_own true v o h = absurd cc
  not_own false v o h = (refl, h)

  changed_at : (n : ℕ) (k : Key) (v : V) (es : List (Entry V)) (i : ℕ) (e : Entry V) → AreRising es → slice_get es i ≡ Some e →
      is_own n k e ≡ true → own_of (take i es) n k ≡ None → set es i (n, (k, v)) ≡ with_own es n k v
  changed_at n k v [] i e rising at passes none = absurd cc
  changed_at n k v (x ∷ xs) zero e rising at passes none =
      let here : is_own n k x ≡ true = ap (λ (p : Entry V). is_own n k p) (Some_same at) ∙ passes in
      let same : n ≡ x.0 = own_number n k x here in
      ap (λ (p : Entry V). p ∷ xs) (entry_same n k v x here)
      ∙ sym (at_head n k v x xs (omega (arith, same)) ∙ ap (λ b. cond b ((x.0, (x.1.0, v)) ∷ xs) (x ∷ with_own xs n k v)) here)
  changed_at n k v (x ∷ xs) (suc i) e rising at passes none =
      let low : x.0 ≤ e.0 = from_read x.0 xs i e rising.0 at in
      let same : n ≡ e.0 = own_number n k e passes in
      let rest = not_own (is_own n k x) x.1.1 (own_of (take i xs) n k) none in
      ap (λ (l : List (Entry V)). x ∷ l) (changed_at n k v xs i e rising.1 at passes rest.1)
      ∙ sym (at_head n k v x xs (omega (arith, low, same)) ∙ ap (λ b. cond b ((x.0, (x.1.0, v)) ∷ xs) (x ∷ with_own xs n k v)) rest.0)

  pub set_is : (n : ℕ) (k : Key) (v : V) (es : List (Entry V)) (i : ℕ) → AreRising es → StandsAt n k es i → set es i (n, (k, v)) ≡ with_own es n k v
  set_is n k v es i rising stands = changed_at n k v es i stands.entry rising stands.there stands.passes stands.before

  further_at : (n : ℕ) (k : Key) (v : V) (es : List (Entry V)) (i : ℕ) → i ≤ length es → AreBelow (suc n) (take i es) →
      AreFrom (suc n) (drop i es) → own_of es n k ≡ None → insert es i (n, (k, v)) ≡ with_own es n k v
  further_at n k v [] zero within below from none = refl
  further_at n k v [] (suc i) within below from none = absurd (omega (arith, within))
  further_at n k v (x ∷ xs) zero within below from none =
      let first : n < x.0 = from.0 in
      sym (ap (λ b. cond b ((n, (k, v)) ∷ x ∷ xs) (cond (is_own n k x) ((x.0, (x.1.0, v)) ∷ xs) (x ∷ with_own xs n k v))) (less_is n x.0 first))
  further_at n k v (x ∷ xs) (suc i) within below from none =
      let low : x.0 < suc n = below.0 in
      let rest = not_own (is_own n k x) x.1.1 (own_of xs n k) none in
      ap (λ (l : List (Entry V)). x ∷ l) (further_at n k v xs i (omega (arith, within)) below.1 from rest.1)
      ∙ sym (at_head n k v x xs (omega (arith, low)) ∙ ap (λ b. cond b ((x.0, (x.1.0, v)) ∷ xs) (x ∷ with_own xs n k v)) rest.0)

  pub put_is : (n : ℕ) (k : Key) (v : V) (es : List (Entry V)) (i : ℕ) → EndsAt n k es i → insert es i (n, (k, v)) ≡ with_own es n k v
  put_is n k v es i h = further_at n k v es i h.cut.within h.cut.below h.cut.from h.none

  -- ---- the numbers rise

  from_with : (m n : ℕ) (k : Key) (v : V) (es : List (Entry V)) → m ≤ n → AreFrom m es → AreFrom m (with_own es n k v)
  from_with m n k v [] less h = (less, tt)
  from_with m n k v (x ∷ xs) less h = step (nat_lt n x.0) (is_own n k x) (from_with m n k v xs less h.1) where
    step : (a b : Bool) → AreFrom m (with_own xs n k v) → AreFrom m (cond a ((n, (k, v)) ∷ x ∷ xs) (cond b ((x.0, (x.1.0, v)) ∷ xs) (x ∷ with_own xs n k v)))
    step true b rest = (less, h)
    step false true rest = h
    step false false rest = (h.0, rest)

  pub rising_with : (n : ℕ) (k : Key) (v : V) (es : List (Entry V)) → AreRising es → AreRising (with_own es n k v)
  rising_with n k v [] h = (tt, tt)
  rising_with n k v (x ∷ xs) h = step (nat_lt n x.0) refl (is_own n k x) (rising_with n k v xs h.1) where
    step : (a : Bool) → nat_lt n x.0 ≡ a → (b : Bool) → AreRising (with_own xs n k v) →
        AreRising (cond a ((n, (k, v)) ∷ x ∷ xs) (cond b ((x.0, (x.1.0, v)) ∷ xs) (x ∷ with_own xs n k v)))
    step true e b rest =
        let less : n < x.0 = is_less n x.0 e in
        let weak : n ≤ x.0 = omega (arith, less) in
        ((weak, from_weaker n x.0 xs weak h.0), h)
    step false e true rest = h
    step false e false rest = (from_with x.0 n k v xs (is_more n x.0 e) h.0, rest)

  from_without : (m n : ℕ) (es : List (Entry V)) → AreFrom m es → AreFrom m (without_own es n)
  from_without m n [] h = tt
  from_without m n (x ∷ xs) h = step (not (nat_eq n x.0)) (from_without m n xs h.1) where
    step : (b : Bool) → AreFrom m (without_own xs n) → AreFrom m (cond b (x ∷ without_own xs n) (without_own xs n))
    step true rest = (h.0, rest)
    step false rest = rest

  pub rising_without : (n : ℕ) (es : List (Entry V)) → AreRising es → AreRising (without_own es n)
  rising_without n [] h = tt
  rising_without n (x ∷ xs) h = step (not (nat_eq n x.0)) (rising_without n xs h.1) where
    step : (b : Bool) → AreRising (without_own xs n) → AreRising (cond b (x ∷ without_own xs n) (without_own xs n))
    step true rest = (from_without x.0 n xs h.0, rest)
    step false rest = rest

  -- ---- what is forgotten

  without_none : (n : ℕ) (es : List (Entry V)) → AreFrom (suc n) es → without_own es n ≡ es
  without_none n [] h = refl
  without_none n (x ∷ xs) h =
      ap (λ b. cond (not b) (x ∷ without_own xs n) (without_own xs n)) (above_is_other n x.0 h.0)
      ∙ ap (λ (l : List (Entry V)). x ∷ l) (without_none n xs h.1)

  without_at : (n : ℕ) (es : List (Entry V)) (f g : ℕ) → f ≤ g → AreBelow n (take f es) → AreFrom n (drop f es) → AreBelow (suc n) (take g es) →
      AreFrom (suc n) (drop g es) → take f es ++ drop g es ≡ without_own es n
  without_at n [] zero zero order a b c d = refl
  without_at n [] zero (suc g) order a b c d = refl
  without_at n [] (suc f) zero order a b c d = refl
  without_at n [] (suc f) (suc g) order a b c d = refl
  without_at n (x ∷ xs) zero zero order a b c d = sym (without_none n (x ∷ xs) d)
  without_at n (x ∷ xs) (suc f) zero order a b c d = absurd (omega (arith, order))
  without_at n (x ∷ xs) zero (suc g) order a b c d =
      let low : x.0 < suc n = c.0 in
      let high : n ≤ x.0 = b.0 in
      let same : nat_eq n x.0 ≡ true = grind (arith, nat_tests) in
      starts xs ∙ (without_at n xs zero g (omega arith) (none_taken n xs) (from_zero xs b.1) c.1 d
      ∙ sym (ap (λ e. cond (not e) (x ∷ without_own xs n) (without_own xs n)) same)) where
        starts : (ys : List (Entry V)) → take zero (x ∷ ys) ++ drop g ys ≡ take zero ys ++ drop g ys
        starts [] = refl
        starts (y ∷ ys) = refl

        from_zero : (ys : List (Entry V)) → AreFrom n ys → AreFrom n (drop zero ys)
        from_zero [] h = h
        from_zero (y ∷ ys) h = h
  without_at n (x ∷ xs) (suc f) (suc g) order a b c d =
      ap (λ (l : List (Entry V)). x ∷ l) (without_at n xs f g (omega (arith, order)) a.1 b c.1 d)
      ∙ sym (ap (λ e. cond (not e) (x ∷ without_own xs n) (without_own xs n)) (below_is_other n x.0 a.0))

  pub without_is : (n : ℕ) (es : List (Entry V)) (f g : ℕ) → f ≤ g → IsCut n es f → IsCut (suc n) es g → take f es ++ drop g es ≡ without_own es n
  without_is n es f g order first last = without_at n es f g order first.below first.from last.below last.from
