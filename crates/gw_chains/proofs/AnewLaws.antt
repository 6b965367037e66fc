-- What is counted of blocks, counted anew one by one.
use Rattle.std.proofs.Common.{◌≡◌, ℕ, zero, suc, ◌<◌, length, Bool, true, false, cond, nat_eq, List, [], ◌∷◌, ◌++◌, map, take, drop, Some, None, refl, sym, ap, subst, ◌∙◌, arith}
use Rattle.std.specs.Prelude.{slice_get}
use Rattle.std.specs.List.{AllByRecursion, IsDistinct}
use Rattle.std.specs.Map.{keys_of}
use Rattle.std.proofs.lemmas.Bool.Decides.{nat_tests}
use Rattle.std.proofs.lemmas.Map.Keys.{IsDistinct-head, IsDistinct-tail}
use Rattle.gw_entities.proofs.Lookups.{Some_same}
use Rattle.gw_table.specs.Pairs.{value_in, with_value}

itself : (n : ℕ) → nat_eq n n ≡ true
itself n = grind (arith, nat_tests)

turned : (m n : ℕ) → nat_eq m n ≡ false → nat_eq n m ≡ false
turned m n apart = grind (arith, nat_tests)

-- a pair that is there has a value
pub has_value : {V : Type 0} (es : List (ℕ × V)) (i n : ℕ) (v : V) → slice_get es i ≡ Some (n, v) → value_in es n ≡ None → ⊥
has_value [] i n v at none = absurd cc
has_value {V = V} (e ∷ es) zero n v at none =
    let own : nat_eq n e.0 ≡ true = ap (λ (q : ℕ × V). nat_eq n q.0) (Some_same at) ∙ itself n in
    some_is_none e.1 (sym (ap (λ b. cond b (Some e.1) (value_in es n)) own) ∙ none) where
      some_is_none : (x : V) → Some x ≡ None → ⊥
      some_is_none x h = absurd cc
has_value {V = V} (e ∷ es) (suc i) n v at none = go (nat_eq n e.0) none (has_value es i n v at) where
  go : (b : Bool) → cond b (Some e.1) (value_in es n) ≡ None → (value_in es n ≡ None → ⊥) → ⊥
  go true h rest = absurd cc
  go false h rest = rest h

module _ {V : Type 0} (f : V → V) where
  abbrev pub anew : ℕ × V → ℕ × V
  anew p = (p.0, f p.1)

  -- the first so many anew, the others as they were
  abbrev pub partly : List (ℕ × V) → ℕ → List (ℕ × V)
  partly es i = map anew (take i es) ++ drop i es

  none_of : (n m : ℕ) (ks : List ℕ) (j : ℕ) → AllByRecursion (λ b. nat_eq m b ≡ false) ks → slice_get ks j ≡ Some n → nat_eq m n ≡ false
  none_of n m [] j all at = absurd cc
  none_of n m (k ∷ ks) zero all at = subst (λ b. nat_eq m b ≡ false) (Some_same at) all.0
  none_of n m (k ∷ ks) (suc j) all at = none_of n m ks j all.1 at

  key_at : (es : List (ℕ × V)) (i : ℕ) (p : ℕ × V) → slice_get es i ≡ Some p → slice_get (keys_of es) i ≡ Some p.0
  key_at [] i p at = absurd cc
  key_at (e ∷ es) zero p at = ap (λ (q : ℕ × V). Some q.0) (Some_same at)
  key_at (e ∷ es) (suc i) p at = key_at es i p at

  none_yet : (es : List (ℕ × V)) → partly es 0 ≡ es
  none_yet [] = refl
  none_yet (e ∷ es) = refl

  -- the next one is set anew
  pub set_next : (es : List (ℕ × V)) (i j : ℕ) (n : ℕ) (v w : V) → j ≡ suc i → IsDistinct nat_eq (keys_of es) → slice_get es i ≡ Some (n, v) → w ≡ f v →
      with_value (partly es i) n w ≡ partly es j
  set_next es i j n v w next apart at is = go es i apart at ∙ ap (partly es) (sym next) where
    go : (es : List (ℕ × V)) (i : ℕ) → IsDistinct nat_eq (keys_of es) → slice_get es i ≡ Some (n, v) → with_value (partly es i) n w ≡ partly es (suc i)
    go [] i apart at = absurd cc
    go (e ∷ es) zero apart at =
        let here : e ≡ (n, v) = Some_same at in
        let own : nat_eq n e.0 ≡ true = ap (λ (q : ℕ × V). nat_eq n q.0) here ∙ itself n in
        let new : w ≡ f e.1 = is ∙ ap (λ (q : ℕ × V). f q.1) (sym here) in
        ap (λ b. cond b ((e.0, w) ∷ es) (e ∷ with_value es n w)) own
        ∙ (ap (λ (x : V). (e.0, x) ∷ es) new ∙ ap (λ (l : List (ℕ × V)). (e.0, f e.1) ∷ l) (sym (none_yet es)))
    go (e ∷ es) (suc i) apart at =
        let other : nat_eq n e.0 ≡ false =
        turned e.0 n (none_of n e.0 (keys_of es) i (IsDistinct-head nat_eq e.0 (keys_of es) apart) (key_at es i (n, v) at)) in
        ap (λ b. cond b ((e.0, w) ∷ partly es i) (anew e ∷ with_value (partly es i) n w)) other
        ∙ ap (λ (l : List (ℕ × V)). anew e ∷ l) (go es i (IsDistinct-tail nat_eq e.0 (keys_of es) apart) at)

  -- the one that is set next is there
  pub next_there : (es : List (ℕ × V)) (i : ℕ) (p : ℕ × V) → slice_get (partly es i) i ≡ Some p → slice_get es i ≡ Some p
  next_there [] zero p at = absurd cc
  next_there [] (suc i) p at = absurd cc
  next_there (e ∷ es) zero p at = at
  next_there (e ∷ es) (suc i) p at = next_there es i p at

  pub one_is_left : (es : List (ℕ × V)) (i : ℕ) → i < length es → slice_get (partly es i) i ≡ None → ⊥
  one_is_left [] i within none = absurd (omega (arith, within))
  one_is_left (e ∷ es) zero within none = absurd cc
  one_is_left (e ∷ es) (suc i) within none = one_is_left es i (omega (arith, within)) none

  -- all of them
  pub all_done : (es : List (ℕ × V)) → partly es (length es) ≡ map anew es
  all_done [] = refl
  all_done (e ∷ es) = ap (λ (l : List (ℕ × V)). anew e ∷ l) (all_done es)
