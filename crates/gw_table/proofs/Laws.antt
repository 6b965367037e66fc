-- What a user needs of the words of the contracts.
use Rattle.std.proofs.Common.{◌≡◌, ℕ, ◌<◌, Bool, true, false, cond, eqb, List, [], ◌∷◌, Some, refl, sym, ap, ◌∙◌}
use Rattle.std.proofs.lemmas.Bool.{eqb-true, eqb-false}
use Rattle.gw_table.specs.Pairs.{Pairs, value_in, with_value, HasRoom}

module _ {V : Type 0} where
  -- below the limit there is room
  pub HasRoom-below : (t : Pairs V) (number : ℕ) → number < t.limit → HasRoom t number
  HasRoom-below t number less = λ none. less

  -- and no room is wanted where a look-up finds a value
  pub HasRoom-found : (t : Pairs V) (number : ℕ) (value : V) → value_in t.entries number ≡ Some value → HasRoom t number
  HasRoom-found t number value found = λ none. absurd cc

  -- a value that was set is found, and the others stay
  pub value_in-with_value :
      (ps : List (ℕ × V)) (number : ℕ) (value : V) (q : ℕ) →
      value_in (with_value ps number value) q ≡ cond (eqb q number) (Some value) (value_in ps q)
  value_in-with_value [] number value q = refl
  value_in-with_value (p ∷ ps) number value q =
      go (eqb number p.0) refl (eqb q p.0) refl (eqb q number) refl (value_in-with_value ps number value q) where
        go :
            (a : Bool) → eqb number p.0 ≡ a → (b : Bool) → eqb q p.0 ≡ b → (c : Bool) → eqb q number ≡ c →
            value_in (with_value ps number value) q ≡ cond (eqb q number) (Some value) (value_in ps q) →
            value_in (cond a ((p.0, value) ∷ ps) (p ∷ with_value ps number value)) q ≡ cond c (Some value) (cond b (Some p.1) (value_in ps q))
        go true x true y true z rest = ap (λ t. cond t (Some value) (value_in ps q)) y
        go true x true y false z rest = absurd (eqb-false q number z (eqb-true q p.0 y ∙ sym (eqb-true number p.0 x)))
        go true x false y true z rest = absurd (eqb-false q p.0 y (eqb-true q number z ∙ eqb-true number p.0 x))
        go true x false y false z rest = ap (λ t. cond t (Some value) (value_in ps q)) y
        go false x true y true z rest = absurd (eqb-false number p.0 x (sym (eqb-true q number z) ∙ eqb-true q p.0 y))
        go false x true y false z rest = ap (λ t. cond t (Some p.1) (value_in (with_value ps number value) q)) y
        go false x false y true z rest =
            ap (λ t. cond t (Some p.1) (value_in (with_value ps number value) q)) y
            ∙ (rest ∙ ap (λ t. cond t (Some value) (value_in ps q)) z)
        go false x false y false z rest =
            ap (λ t. cond t (Some p.1) (value_in (with_value ps number value) q)) y
            ∙ (rest ∙ ap (λ t. cond t (Some value) (value_in ps q)) z)
