-- Entries by key: where a key has none, and a further one.
use Rattle.std.proofs.Common.{◌≡◌, Bool, true, false, cond, List, [], ◌∷◌, ◌++◌, Some, None, refl, ap, ◌∙◌, ◌||◌}
use Rattle.std.specs.Cmp.{IsEquivalence}
use Rattle.std.specs.List.{IsDistinct, AllByRecursion, list_any}
use Rattle.std.proofs.lemmas.Map.Keys.{IsDistinct-head, IsDistinct-tail}
use Rattle.std.specs.Map.{keys_of, lookup}
use Rattle.gw_names.specs.declared.key.Key.{Key}
use Rattle.gw_names.specs.Keys.{key_eq}
use Rattle.gw_meaning.specs.Tables.{value_of, with_value, AreApart}
use Rattle.gw_entities.proofs.TableLaws.{key_eq_equiv}

module _ {K V : Type 0} where
  module _ (test : K → Bool) where
    -- where no key passes
    none_there : (es : List (K × V)) → list_any test (keys_of es) ≡ false → lookup test es ≡ None
    none_there [] none = refl
    none_there (x ∷ xs) none = go (test x.0) none (none_there xs) where
      go : (b : Bool) → (b || list_any test (keys_of xs)) ≡ false → (list_any test (keys_of xs) ≡ false → lookup test xs ≡ None) →
          cond b (Some x.1) (lookup test xs) ≡ None
      go true h rest = absurd cc
      go false h rest = rest h

    not_any : (es : List (K × V)) → lookup test es ≡ None → list_any test (keys_of es) ≡ false
    not_any [] none = refl
    not_any (x ∷ xs) none = go (test x.0) none (not_any xs) where
      go : (b : Bool) → cond b (Some x.1) (lookup test xs) ≡ None → (lookup test xs ≡ None → list_any test (keys_of xs) ≡ false) →
          (b || list_any test (keys_of xs)) ≡ false
      go true h rest = absurd cc
      go false h rest = rest h

module _ {K V : Type 0} (eq : K → K → Bool) where
  module _ (laws : IsEquivalence eq) where
    all_pushed :
        (a : K) (es : List (K × V)) (e : K × V) → AllByRecursion (λ b. eq a b ≡ false) (keys_of es) → eq a e.0 ≡ false →
        AllByRecursion (λ b. eq a b ≡ false) (keys_of (es ++ e ∷ []))
    all_pushed a [] e h other = (other, tt)
    all_pushed a (x ∷ xs) e h other = (h.0, all_pushed a xs e h.1 other)

    -- a further entry whose key is none of theirs
    distinct_pushed :
        (es : List (K × V)) (key : K) (value : V) → IsDistinct eq (keys_of es) → lookup (eq key) es ≡ None →
        IsDistinct eq (keys_of (es ++ (key, value) ∷ []))
    unfolding IsDistinct
    distinct_pushed [] key value apart none = (tt, tt)
    distinct_pushed (x ∷ xs) key value apart none =
        go (eq key x.0) refl none (distinct_pushed xs key value (IsDistinct-tail eq x.0 (keys_of xs) apart)) where
          go : (b : Bool) → eq key x.0 ≡ b → cond b (Some x.1) (lookup (eq key) xs) ≡ None →
              (lookup (eq key) xs ≡ None → IsDistinct eq (keys_of (xs ++ (key, value) ∷ []))) →
              IsDistinct eq (keys_of ((x ∷ xs) ++ (key, value) ∷ []))
          go true e h rest = absurd cc
          go false e h rest =
              (all_pushed x.0 xs (key, value) (IsDistinct-head eq x.0 (keys_of xs) apart) (laws.symm x.0 key ∙ e), rest h)

-- by key
module _ {V : Type 0} where
  -- a key that is none of these
  pub none_of_keys : (es : List (Key × V)) (key : Key) → list_any (key_eq key) (keys_of es) ≡ false → value_of es key ≡ None
  none_of_keys es key = none_there (key_eq key) es

  pub no_key : (es : List (Key × V)) (key : Key) → value_of es key ≡ None → list_any (key_eq key) (keys_of es) ≡ false
  no_key es key = not_any (key_eq key) es

  -- a further entry
  pub pushed_is : (es : List (Key × V)) (key : Key) (value : V) → value_of es key ≡ None → with_value es key value ≡ es ++ (key, value) ∷ []
  pushed_is [] key value none = refl
  pushed_is (e ∷ es) key value none = go (key_eq key e.0) none (pushed_is es key value) where
    go : (b : Bool) → cond b (Some e.1) (value_of es key) ≡ None →
        (value_of es key ≡ None → with_value es key value ≡ es ++ (key, value) ∷ []) →
        cond b ((e.0, value) ∷ es) (e ∷ with_value es key value) ≡ (e ∷ es) ++ (key, value) ∷ []
    go true h rest = absurd cc
    go false h rest = ap (λ (l : List (Key × V)). e ∷ l) (rest h)

  pub apart_pushed : (es : List (Key × V)) (key : Key) (value : V) → AreApart es → value_of es key ≡ None → AreApart (es ++ (key, value) ∷ [])
  apart_pushed = distinct_pushed key_eq key_eq_equiv
