-- Parentheses that span a text: what stands between them.
use Rattle.std.proofs.Common.{◌≡◌, ◌≢◌, ℕ, ◌==◌, List, [], ◌∷◌, ◌++◌, Option, Some, None, refl, sym, ap, ◌∙◌, inl, inr}
use Rattle.std.specs.Borrow.{Bor}
use Rattle.std.specs.Prelude.{MatchOption, option_map}
use Rattle.std.proofs.lemmas.Bool.{cases_Bool, eqb-true}
use Rattle.gw_lines.specs.Expressions.{before_closing, inside_of}
use Rattle.gw_lines.proofs.Digits.{mapped}
use Rattle.gw_lines.proofs.Results.{some_is}

pub closing_again : (text : List ℕ) → before_closing (text ++ 41 ∷ []) ≡ Some text
closing_again [] = refl
closing_again (b ∷ []) = refl
closing_again (b ∷ c ∷ bs) = ap (λ (o : Option (List ℕ)). option_map (λ (t : List ℕ). b ∷ t) o) (closing_again (c ∷ bs))

pub closing_found : (bs text : List ℕ) → before_closing bs ≡ Some text → bs ≡ text ++ 41 ∷ []
closing_found [] text e = absurd cc
closing_found (b ∷ []) text e =
    elim (cases_Bool (b == 41)) [
      | inr other ↦ absurd (let f = rw other at e in cc)
      | inl holds ↦
          let none : [] ≡ text = some_is [] text (rw holds at e) in
          ap (λ (x : ℕ). x ∷ []) (eqb-true b 41 holds) ∙ ap (λ (t : List ℕ). t ++ 41 ∷ []) none
    ]
closing_found (b ∷ c ∷ bs) text e =
    let m = mapped (λ (t : List ℕ). b ∷ t) (before_closing (c ∷ bs)) text e in
    ap (λ (t : List ℕ). b ∷ t) (closing_found (c ∷ bs) m.0 m.1) ∙ ap (λ (t : List ℕ). t ++ 41 ∷ []) m.2

none_by : (text : List ℕ) (r : Option (List ℕ)) → ((front : List ℕ) → text ≢ front ++ 41 ∷ []) → before_closing text ≡ r
    → None ≡ r
none_by text None never e = refl
none_by text (Some front) never e = absurd (never front (closing_found text front e))

pub closing_is : (text : List ℕ) (r : Option (Bor (List ℕ)))
    → MatchOption r ((front : List ℕ) → text ≢ front ++ 41 ∷ []) (λ x. text ≡ x.now ++ 41 ∷ [])
    → option_map (λ t. t.now) r ≡ before_closing text
closing_is text None never = none_by text (before_closing text) never refl
closing_is text (Some x) is = sym (ap before_closing is ∙ closing_again x.now)

-- ---- the parenthesis before it

pub inside_again : (text : List ℕ) → inside_of (40 ∷ (text ++ 41 ∷ [])) ≡ Some text
inside_again text = closing_again text

pub inside_found : (all text : List ℕ) → inside_of all ≡ Some text → all ≡ 40 ∷ (text ++ 41 ∷ [])
inside_found [] text e = absurd cc
inside_found (b ∷ bs) text e =
    elim (cases_Bool (b == 40)) [
      | inr other ↦ absurd (let f = rw other at e in cc)
      | inl holds ↦
          ap (λ (x : ℕ). x ∷ bs) (eqb-true b 40 holds) ∙ ap (λ (t : List ℕ). 40 ∷ t) (closing_found bs text (rw holds at e))
    ]
