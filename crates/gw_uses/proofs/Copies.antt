-- Entries that are put into another map one by one, in their order.
use Rattle.std.proofs.Common.{◌≡◌, ℕ, zero, suc, Bool, false, List, [], ◌∷◌, take, slice_get, Some, None, refl, ◌∙◌, subst}
use Rattle.std.specs.List.{IsDistinct, AllByRecursion}
use Rattle.std.specs.Map.{keys_of, lookup}
use Rattle.std.specs.Cmp.{IsEquivalence}

apart_at : {K X : Type 0} (eq : K → K → Bool) (k q : K) (v : X) (es : List (K × X)) (i : ℕ) → AllByRecursion (λ y. eq q y ≡ false) (keys_of es) →
    slice_get es i ≡ Some (k, v) → eq q k ≡ false
apart_at eq k q v [] i all is = absurd cc
apart_at {K} {X} eq k q v (e ∷ es) zero all is =
    let same : e ≡ (k, v) = cc in
    subst (λ (p : K × X). eq q p.0 ≡ false) same all.0
apart_at eq k q v (e ∷ es) (suc i) all is = apart_at eq k q v es i all.1 is

-- no earlier entry has the key of this one
pub none_earlier : {K X : Type 0} (eq : K → K → Bool) → IsEquivalence eq → (es : List (K × X)) (i : ℕ) (k : K) (v : X) →
    IsDistinct eq (keys_of es) → slice_get es i ≡ Some (k, v) → lookup (eq k) (take i es) ≡ None
unfolding IsDistinct
none_earlier eq laws [] i k v d is = absurd cc
none_earlier eq laws (e ∷ es) zero k v d is = refl
none_earlier eq laws (e ∷ es) (suc i) k v d is =
    let other : eq k e.0 ≡ false = laws.symm k e.0 ∙ apart_at eq k e.0 v es i d.0 is in
    rw other (none_earlier eq laws es i k v d.1 is)
