-- An entry at an index, in the words of a look-up by its key.
use Rattle.std.proofs.Common.{◌≡◌, ℕ, Bool, true, false, cond, zero, suc, List, [], ◌∷◌, Some, sym, ap, ◌∙◌}
use Rattle.std.specs.List.{IsDistinct, AllByRecursion, slice_get}
use Rattle.std.specs.Cmp.{IsEquivalence}
use Rattle.std.specs.Map.{keys_of, set_value}
use Rattle.std.proofs.lemmas.Map.Keys.{IsDistinct-head, IsDistinct-tail}
use Rattle.indexmap.specs.IndexMap.{set_value_at}

pub Some_same : {A : Type 0} {a b : A} → Some a ≡ Some b → a ≡ b
Some_same e = cc

module _ {K V : Type 0} where
  pair_same : (e : K × V) (key : K) (value : V) → Some e ≡ Some (key, value) → e ≡ (key, value)
  pair_same e key value h = cc

module _ {K V : Type 0} (eq : K → K → Bool) (laws : IsEquivalence eq) where
  -- a key that differs from all is none of them
  differs :
      (a : K) (es : List (K × V)) (i : ℕ) (key : K) (value : V) →
      AllByRecursion (λ b. eq a b ≡ false) (keys_of es) → slice_get es i ≡ Some (key, value) → eq a key ≡ false
  differs a [] i key value h at = absurd cc
  differs a (e ∷ es) zero key value h at = ap (λ (p : K × V). eq a p.0) (sym (pair_same e key value at)) ∙ h.0
  differs a (e ∷ es) (suc i) key value h at = differs a es i key value h.1 at

  first : (e : K × V) (key : K) (value : V) → Some e ≡ Some (key, value) → eq key e.0 ≡ true
  first e key value at = ap (λ (p : K × V). eq key p.0) (pair_same e key value at) ∙ laws.refl key

  later :
      (e : K × V) (es : List (K × V)) (i : ℕ) (key : K) (value : V) → IsDistinct eq (keys_of (e ∷ es)) →
      slice_get es i ≡ Some (key, value) → eq key e.0 ≡ false
  later e es i key value apart at =
      laws.symm key e.0 ∙ differs e.0 es i key value (IsDistinct-head eq e.0 (keys_of es) apart) at

  -- a value that is written at the index of its key
  pub written_at :
      (es : List (K × V)) (i : ℕ) (key : K) (was value : V) → IsDistinct eq (keys_of es) →
      slice_get es i ≡ Some (key, was) → set_value_at es i value ≡ set_value (eq key) es value
  written_at [] i key was value apart at = absurd cc
  written_at (e ∷ es) zero key was value apart at =
      sym (ap (λ b. cond b ((e.0, value) ∷ es) (e ∷ set_value (eq key) es value)) (first e key was at))
  written_at (e ∷ es) (suc i) key was value apart at =
      ap (λ (l : List (K × V)). e ∷ l) (written_at es i key was value (IsDistinct-tail eq e.0 (keys_of es) apart) at)
      ∙ sym (ap (λ b. cond b ((e.0, value) ∷ es) (e ∷ set_value (eq key) es value)) (later e es i key was apart at))
