-- Equal keys are one; and the arrivals at queues of `QueueArrivals` in the words of what it keeps.
use Rattle.std.proofs.Common.{◌≡◌, ℕ, Bool, true, false, cond, ◌<◌, ◌≤◌, ◌&&◌, ◌||◌, nat_eq, nat_lt, List, [], ◌∷◌, map, Some, refl, ap, ◌∙◌, arith, if◌then◌else◌}
use Rattle.std.specs.Prelude.{is_some}
use Rattle.std.specs.List.{find}
use Rattle.std.proofs.lemmas.Bool.Decides.{nat_tests}
use Rattle.std.proofs.lemmas.Slice.Eq.{bytes_eq-Decides}
use Rattle.std.proofs.lemmas.Cmp.{nat_eq_equiv}
use Rattle.gw_names.specs.declared.key.Key.{Key}
use Rattle.gw_names.specs.declared.key.Key.TheVariants.{Num, Named, Defined}
use Rattle.gw_names.specs.Keys.{key_eq, told_by}
use Rattle.gw_meaning.specs.QueueArrivals.{came, with_queue_arrival, AreOnce}
use Rattle.gw_entities.specs.Keeping.{queue_arrival_of}
use Rattle.gw_entities.specs.Owned.{Entry, own_of, with_own, AreFrom, AreRising}
use Rattle.gw_entities.proofs.Lookups.{Some_same}
use Rattle.gw_entities.proofs.TableLaws.{key_eq_equiv}

told_same : (a b : Key) → told_by a ≡ told_by b → a ≡ b
told_same (Num a) (Num b) e = cc
told_same (Num a) (Named b) e = absurd cc
told_same (Named a) (Num b) e = absurd cc
told_same (Named a) (Named b) e = cc
told_same (Num a) (Defined b) e = absurd cc
told_same (Named a) (Defined b) e = absurd cc
told_same (Defined a) (Num b) e = absurd cc
told_same (Defined a) (Named b) e = absurd cc
told_same (Defined a) (Defined b) e = cc

-- equal keys are one
pub key_same : (a b : Key) → key_eq a b ≡ true → a ≡ b
key_same a b e = told_same a b ((bytes_eq-Decides (told_by a) (told_by b)).0 e)

pub key_itself : (a : Key) → key_eq a a ≡ true
key_itself a = (bytes_eq-Decides (told_by a) (told_by a)).1 refl

pub find_passes : {K : Type 0} (t : K → Bool) (qs : List K) (k : K) → Some k ≡ find t qs → t k ≡ true
find_passes t [] k e = absurd cc
find_passes t (q ∷ qs) k e = go (t q) refl e (λ f. find_passes t qs k f) where
  go : (b : Bool) → t q ≡ b → Some k ≡ (if b then Some q else find t qs) → (Some k ≡ find t qs → t k ≡ true) → t k ≡ true
  go true h f rest = ap t (Some_same f) ∙ h
  go false h f rest = rest f

both_ways : (a b : Key) (m n : ℕ) → (key_eq a b && nat_eq m n) ≡ (key_eq b a && nat_eq n m)
both_ways a b m n = ap (λ e. e && nat_eq m n) (key_eq_equiv.symm a b) ∙ ap (λ e. key_eq b a && e) (nat_eq_equiv.symm m n)

neither : (b c : Bool) → b ≡ false → c ≡ false → (b || c) ≡ false
neither b c e f = ap (λ x. x || c) e ∙ f

no_first : (b c : Bool) → (b || c) ≡ false → b ≡ false
no_first true c e = absurd cc
no_first false c e = refl

no_second : (b c : Bool) → (b || c) ≡ false → c ≡ false
no_second true c e = absurd cc
no_second false c e = e

and_no : (a b : Bool) → b ≡ false → (a && b) ≡ false
and_no true b e = e
and_no false b e = refl

above_is_other : (n m : ℕ) → n < m → nat_eq n m ≡ false
above_is_other n m less = grind (arith, nat_tests)

is_less : (n m : ℕ) → nat_lt n m ≡ true → n < m
is_less n m e = grind (arith, nat_tests)

came_with : (cs : List (Key × ℕ)) (k q : Key) (n m : ℕ) → came cs q m ≡ false → (key_eq q k && nat_eq m n) ≡ false →
    came (with_queue_arrival cs k n) q m ≡ false
came_with [] k q n m none apart = neither (key_eq q k && nat_eq m n) false apart refl
came_with (c ∷ cs) k q n m none apart =
    go (nat_lt n c.1) (key_eq k c.0 && nat_eq n c.1) (came_with cs k q n m (no_second (key_eq q c.0 && nat_eq m c.1) (came cs q m) none) apart) where
      go : (s t : Bool) → came (with_queue_arrival cs k n) q m ≡ false → came (cond s ((k, n) ∷ c ∷ cs) (cond t (c ∷ cs) (c ∷ with_queue_arrival cs k n))) q m ≡ false
      go true t rest = neither (key_eq q k && nat_eq m n) (came (c ∷ cs) q m) apart none
      go false true rest = none
      go false false rest =
          neither (key_eq q c.0 && nat_eq m c.1) (came (with_queue_arrival cs k n) q m) (no_first (key_eq q c.0 && nat_eq m c.1) (came cs q m) none) rest

module _ {V : Type 0} where
  pub came_is : (es : List (Entry V)) (k : Key) (n : ℕ) → is_some (own_of es n k) ≡ came (map queue_arrival_of es) k n
  came_is [] k n = refl
  came_is (e ∷ es) k n = go (key_eq k e.1.0 && nat_eq n e.0) (came_is es k n) where
    go : (b : Bool) → is_some (own_of es n k) ≡ came (map queue_arrival_of es) k n → is_some (cond b (Some e.1.1) (own_of es n k)) ≡ (b || came (map queue_arrival_of es) k n)
    go true rest = refl
    go false rest = rest

  pub with_queue_arrival_is : (es : List (Entry V)) (k : Key) (n : ℕ) (v : V) → map queue_arrival_of (with_own es n k v) ≡ with_queue_arrival (map queue_arrival_of es) k n
  with_queue_arrival_is [] k n v = refl
  with_queue_arrival_is (e ∷ es) k n v = go (nat_lt n e.0) (key_eq k e.1.0 && nat_eq n e.0) (with_queue_arrival_is es k n v) where
    go : (s t : Bool) → map queue_arrival_of (with_own es n k v) ≡ with_queue_arrival (map queue_arrival_of es) k n →
        map queue_arrival_of (cond s ((n, (k, v)) ∷ e ∷ es) (cond t ((e.0, (e.1.0, v)) ∷ es) (e ∷ with_own es n k v))) ≡
        cond s ((k, n) ∷ queue_arrival_of e ∷ map queue_arrival_of es) (cond t (queue_arrival_of e ∷ map queue_arrival_of es) (queue_arrival_of e ∷ with_queue_arrival (map queue_arrival_of es) k n))
    go true t rest = refl
    go false true rest = refl
    go false false rest = ap (λ (l : List (Key × ℕ)). queue_arrival_of e ∷ l) rest

  none_came : (es : List (Entry V)) (k : Key) (n m : ℕ) → n < m → AreFrom m es → came (map queue_arrival_of es) k n ≡ false
  none_came [] k n m less from = refl
  none_came (e ∷ es) k n m less from =
      let low : m ≤ e.0 = from.0 in
      neither (key_eq k e.1.0 && nat_eq n e.0) (came (map queue_arrival_of es) k n)
      (and_no (key_eq k e.1.0) (nat_eq n e.0) (above_is_other n e.0 (omega (arith, less, low)))) (none_came es k n m less from.1)

  -- one who comes comes once
  pub once_with : (es : List (Entry V)) (k : Key) (n : ℕ) → AreRising es → AreOnce (map queue_arrival_of es) → AreOnce (with_queue_arrival (map queue_arrival_of es) k n)
  once_with [] k n rising once = (refl, tt)
  once_with (e ∷ es) k n rising once = go (nat_lt n e.0) refl (key_eq k e.1.0 && nat_eq n e.0) refl (once_with es k n rising.1 once.1) where
    go : (s : Bool) → nat_lt n e.0 ≡ s → (t : Bool) → (key_eq k e.1.0 && nat_eq n e.0) ≡ t → AreOnce (with_queue_arrival (map queue_arrival_of es) k n) →
        AreOnce (cond s ((k, n) ∷ map queue_arrival_of (e ∷ es)) (cond t (map queue_arrival_of (e ∷ es)) (queue_arrival_of e ∷ with_queue_arrival (map queue_arrival_of es) k n)))
    go true f t g rest = (none_came (e ∷ es) k n e.0 (is_less n e.0 f) (omega arith, rising.0), once)
    go false f true g rest = once
    go false f false g rest = (came_with (map queue_arrival_of es) k e.1.0 n e.0 once.0 (both_ways e.1.0 k e.0 n ∙ g), rest)
