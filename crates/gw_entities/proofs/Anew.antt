-- Values that are counted anew, each beside its key.
use Rattle.std.proofs.Common.{◌≡◌, ℕ, suc, List, [], ◌∷◌, ◌++◌, map, take, Some, refl, sym, ap, ◌∙◌}
use Rattle.std.proofs.lemmas.List.{map-append}
use Rattle.std.specs.Prelude.{slice_get}
use Rattle.std.specs.List.{zip}
use Rattle.gw_names.specs.declared.key.Key.{Key}
use Rattle.gw_entities.proofs.Inherited.{take_more}

module _ {V : Type 0} (f : V → V) where
  pub zip_anew : (ks : List Key) (vs : List V) → zip ks (map f vs) ≡ map (λ (e : Key × V). (e.0, f e.1)) (zip ks vs)
  zip_anew [] vs = refl
  zip_anew (k ∷ ks) [] = refl
  zip_anew (k ∷ ks) (v ∷ vs) = ap (λ (l : List (Key × V)). (k, f v) ∷ l) (zip_anew ks vs)

  pub one_more_anew : (vs : List V) (i j : ℕ) (v w : V) (done : List V) → j ≡ suc i → slice_get vs i ≡ Some v → w ≡ f v → done ≡ map f (take i vs) →
      done ++ w ∷ [] ≡ map f (take j vs)
  one_more_anew vs i j v w done next at is before =
      ap (λ (l : List V). l ++ w ∷ []) before
      ∙ (ap (λ (x : V). map f (take i vs) ++ x ∷ []) is
      ∙ (sym (map-append f (take i vs) (v ∷ []))
      ∙ (ap (map f) (sym (take_more vs i v at)) ∙ ap (λ n. map f (take n vs)) (sym next))))
