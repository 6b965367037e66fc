-- Entries by key in the words of the kit's maps.
use Rattle.std.proofs.Common.{◌≡◌, Bool, true, false, cond, List, [], ◌∷◌, Some, refl, ap}
use Rattle.std.specs.Cmp.{IsEquivalence}
use Rattle.std.proofs.lemmas.Cmp.{on_equiv, nat_list_eq_equiv}
use Rattle.std.specs.Map.{set_value}
use Rattle.indexmap.specs.IndexMap.{insert_entry}
use Rattle.gw_names.specs.declared.key.Key.{Key}
use Rattle.gw_names.specs.Keys.{key_eq, told_by}
use Rattle.gw_meaning.specs.Tables.{value_of, with_value}

pub key_eq_equiv : IsEquivalence key_eq
key_eq_equiv = on_equiv told_by nat_list_eq_equiv

module _ {V : Type 0} where
  -- a value that is written in place
  pub set_value_is :
      (es : List (Key × V)) (key : Key) (value was : V) → value_of es key ≡ Some was →
      set_value (key_eq key) es value ≡ with_value es key value
  set_value_is [] key value was h = absurd cc
  set_value_is (e ∷ es) key value was h = go (key_eq key e.0) h (set_value_is es key value was) where
    go :
        (b : Bool) → cond b (Some e.1) (value_of es key) ≡ Some was →
        (value_of es key ≡ Some was → set_value (key_eq key) es value ≡ with_value es key value) →
        cond b ((e.0, value) ∷ es) (e ∷ set_value (key_eq key) es value)
        ≡ cond b ((e.0, value) ∷ es) (e ∷ with_value es key value)
    go true h rest = refl
    go false h rest = ap (λ (l : List (Key × V)). e ∷ l) (rest h)

  -- and one that is inserted
  pub insert_entry_is :
      (es : List (Key × V)) (key : Key) (value : V) → insert_entry key_eq es key value ≡ with_value es key value
  insert_entry_is [] key value = refl
  insert_entry_is (e ∷ es) key value =
      ap (λ (l : List (Key × V)). cond (key_eq key e.0) ((e.0, value) ∷ es) (e ∷ l)) (insert_entry_is es key value)
