-- What a user needs of the words of the contracts.
use Rattle.std.proofs.Common.{◌≡◌, Bool, true, false, cond, List, [], ◌∷◌, Some, refl, sym, ap, ◌∙◌}
use Rattle.gw_names.specs.declared.key.Key.{Key}
use Rattle.gw_names.specs.Keys.{key_eq}
use Rattle.gw_meaning.specs.Tables.{value_of, with_value}
use Rattle.gw_entities.proofs.TableLaws.{key_eq_equiv}

clash : (b : Bool) → b ≡ false → b ≡ true → ⊥
clash b e f = cc

module _ {V : Type 0} where
  -- a value that was set is found, and the others stay
  pub value_of-with_value :
      (es : List (Key × V)) (key : Key) (value : V) (q : Key) →
      value_of (with_value es key value) q ≡ cond (key_eq q key) (Some value) (value_of es q)
  value_of-with_value [] key value q = refl
  value_of-with_value (e ∷ es) key value q = go (key_eq key e.0) refl (value_of-with_value es key value q) where
    go :
        (a : Bool) → key_eq key e.0 ≡ a →
        value_of (with_value es key value) q ≡ cond (key_eq q key) (Some value) (value_of es q) →
        value_of (cond a ((e.0, value) ∷ es) (e ∷ with_value es key value)) q
        ≡ cond (key_eq q key) (Some value) (cond (key_eq q e.0) (Some e.1) (value_of es q))
    go true here rest = first (key_eq q e.0) (sym same) where
      same : key_eq q key ≡ key_eq q e.0
      same = key_eq_equiv.symm q key ∙ (key_eq_equiv.congr key e.0 q here ∙ key_eq_equiv.symm e.0 q)

      first : (b : Bool) → b ≡ key_eq q key → cond b (Some value) (value_of es q) ≡ cond (key_eq q key) (Some value) (cond b (Some e.1) (value_of es q))
      first true f = ap (λ c. cond c (Some value) (Some e.1)) f
      first false f = ap (λ c. cond c (Some value) (value_of es q)) f
    go false here rest = later (key_eq q e.0) refl (key_eq q key) refl rest where
      later :
          (b : Bool) → key_eq q e.0 ≡ b → (c : Bool) → key_eq q key ≡ c →
          value_of (with_value es key value) q ≡ cond c (Some value) (value_of es q) →
          cond b (Some e.1) (value_of (with_value es key value) q) ≡ cond c (Some value) (cond b (Some e.1) (value_of es q))
      later false f c g rest = rest
      later true f false g rest = refl
      later true f true g rest = absurd (clash _ here (sym (key_eq_equiv.congr q key e.0 g) ∙ f))
