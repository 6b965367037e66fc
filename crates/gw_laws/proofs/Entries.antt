-- Values by key: the one that was set and the others, and where each of them has a property.
use Rattle.std.proofs.Common.{◌≡◌, Bool, true, false, cond, List, [], ◌∷◌, Option, Some, None, unwrap_or, refl, ap, ◌∙◌}
use Rattle.std.specs.List.{AllByRecursion}
use Rattle.gw_names.specs.declared.key.Key.{Key}
use Rattle.gw_names.specs.Keys.{key_eq}
use Rattle.gw_meaning.specs.Tables.{value_of, with_value}
use Rattle.gw_entities.proofs.TableLaws.{key_eq_equiv}
use Rattle.gw_entities.proofs.Finding.{value_of-with_value}

module _ {V : Type 0} where
  -- the value of a key, or one that stands for none
  abbrev pub at_or : V → List (Key × V) → Key → V
  at_or none es key = unwrap_or (value_of es key) none

  chosen : (b : Bool) (none v : V) (o : Option V) → unwrap_or (cond b (Some v) o) none ≡ cond b v (unwrap_or o none)
  chosen true none v o = refl
  chosen false none v o = refl

  pub at_with : (none : V) (es : List (Key × V)) (key : Key) (v : V) (q : Key) →
      at_or none (with_value es key v) q ≡ cond (key_eq q key) v (at_or none es q)
  at_with none es key v q =
      ap (λ o. unwrap_or o none) (value_of-with_value es key v q) ∙ chosen (key_eq q key) none v (value_of es q)

  -- no key has two values
  abbrev pub AreOnce : List (Key × V) → Type 0
  AreOnce [] = Unit {0}
  AreOnce (e ∷ es) = (value_of es e.0 ≡ None) × AreOnce es

  pub with_once : (es : List (Key × V)) (key : Key) (v : V) → AreOnce es → AreOnce (with_value es key v)
  with_once [] key v all = (refl, tt)
  with_once (e ∷ es) key v all = go (key_eq key e.0) refl (with_once es key v all.1) where
    go : (b : Bool) → key_eq key e.0 ≡ b → AreOnce (with_value es key v) → AreOnce (cond b ((e.0, v) ∷ es) (e ∷ with_value es key v))
    go true is rest = all
    go false other rest = (
      value_of-with_value es key v e.0 ∙ (ap (λ b. cond b (Some v) (value_of es e.0)) (key_eq_equiv.symm e.0 key ∙ other) ∙ all.0),
      rest,
    )

  -- where each value has a property, and so has the one that stands for none
  module _ (P : V → Type 0) where
    abbrev pub Each : List (Key × V) → Type 0
    Each = AllByRecursion (λ (e : Key × V). P e.1)

    pub at_has : (none : V) (es : List (Key × V)) (key : Key) → P none → Each es → P (at_or none es key)
    at_has none [] key nobody all = nobody
    at_has none (e ∷ es) key nobody all = go (key_eq key e.0) (at_has none es key nobody all.1) where
      go : (b : Bool) → P (at_or none es key) → P (unwrap_or (cond b (Some e.1) (value_of es key)) none)
      go true rest = all.0
      go false rest = rest

    pub with_has : (es : List (Key × V)) (key : Key) (v : V) → P v → Each es → Each (with_value es key v)
    with_has [] key v one all = (one, tt)
    with_has (e ∷ es) key v one all = go (key_eq key e.0) (with_has es key v one all.1) where
      go : (b : Bool) → Each (with_value es key v) → Each (cond b ((e.0, v) ∷ es) (e ∷ with_value es key v))
      go true rest = (one, all.1)
      go false rest = (all.0, rest)
