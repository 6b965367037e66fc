-- The numbers of points: what is read is spelled so, and what is spelled so is read.
use Rattle.std.proofs.Common.{◌≡◌, ℕ, ◌+◌, ◌-◌, ◌*◌, ◌==◌, false, List, [], ◌∷◌, ◌++◌, Option, Some, None, refl, sym, ap, subst, ◌∙◌, inl, inr}
use Rattle.std.specs.Prelude.{ℤ, pos, neg_ℤ, nat_le}
use Rattle.std.specs.Char.{is_ascii_digit}
use Rattle.std.proofs.lemmas.Bool.{cases_Bool, eqb-true}
use Rattle.gw_lines.specs.Numbers.{number_after, number_of, or_pointed, decimal_of, coordinate_of}
use Rattle.gw_lines.specs.Spelling.{Digits}
use Rattle.gw_lines.specs.Points.{Decimal, without_point, with_point, Coordinate, not_negative, negative}
use Rattle.gw_lines.proofs.Results.{some_is}
use Rattle.gw_lines.proofs.Digits.{begins, mapped, number_found, number_again, no_minus}
use Rattle.gw_lines.proofs.Fractions.{fraction_found, fraction_again}

-- ---- without a sign

decimal_by : (text : List ℕ) (o : Option ℕ) (m : ℕ) → number_of 1000000000 text ≡ o → or_pointed o text ≡ Some m → Decimal text m
decimal_by text (Some n) m is e = subst (λ (x : ℕ). Decimal text x) (some_is (n * 1000000) m e) (without_point text n (number_found 1000000000 text n is))
decimal_by text None m is e = with_point text m (fraction_found 1000000000000000 text m e)

pub decimal_found : (text : List ℕ) (m : ℕ) → decimal_of text ≡ Some m → Decimal text m
decimal_found text m e = decimal_by text (number_of 1000000000 text) m refl e

none_behind : (most n : ℕ) (whole rest : List ℕ) → number_after most n (whole ++ 46 ∷ rest) ≡ None
none_behind most n [] rest = refl
none_behind most n (b ∷ bs) rest =
    elim (cases_Bool (is_ascii_digit b)) [
      | inr other ↦ rw other refl
      | inl digit ↦ elim (cases_Bool (nat_le (n * 10 + (b - 48)) most)) [
        | inr large ↦ rw (digit, large) refl
        | inl small ↦ rw (digit, small) (none_behind most (n * 10 + (b - 48)) bs rest)
      ]
    ]

-- a text with a point is no whole number
no_number : (most : ℕ) (whole rest : List ℕ) → number_of most (whole ++ 46 ∷ rest) ≡ None
no_number most [] rest = refl
no_number most (b ∷ bs) rest = none_behind most 0 (b ∷ bs) rest

read_so : (o : Option ℕ) (text : List ℕ) → number_of 1000000000 text ≡ o → decimal_of text ≡ or_pointed o text
read_so o text e = ap (λ (x : Option ℕ). or_pointed x text) e

pub decimal_again : {text : List ℕ} {n : ℕ} → Decimal text n → decimal_of text ≡ Some n
decimal_again (without_point text n h) = read_so (Some n) text (number_again 1000000000 text n h)
decimal_again (with_point text n f) =
    read_so None text (ap (number_of 1000000000) f.point ∙ no_number 1000000000 f.whole f.decimals) ∙ fraction_again f

-- ---- with a sign or without one

pub coordinate_found : (text : List ℕ) (z : ℤ) → coordinate_of text ≡ Some z → Coordinate text z
coordinate_found [] z e = absurd cc
coordinate_found (b ∷ bs) z e =
    elim (cases_Bool (b == 45)) [
      | inl holds ↦
          let m = mapped (λ (n : ℕ). neg_ℤ (pos n)) (decimal_of bs) z (rw holds at e) in
          subst (λ (c : ℕ). Coordinate (c ∷ bs) z) (sym (eqb-true b 45 holds))
          (subst (λ (v : ℤ). Coordinate (45 ∷ bs) v) m.2 (negative bs m.0 (decimal_found bs m.0 m.1)))
      | inr fails ↦
          let m = mapped (λ (n : ℕ). pos n) (decimal_of (b ∷ bs)) z (rw fails at e) in
          subst (λ (v : ℤ). Coordinate (b ∷ bs) v) m.2 (not_negative (b ∷ bs) m.0 (decimal_found (b ∷ bs) m.0 m.1))
    ]

-- a text that begins with no sign
record Starts (text : List ℕ) : Type 0 where
  first : ℕ
  others : List ℕ
  is : text ≡ first ∷ others
  no_sign : (first == 45) ≡ false

digits_start : {text : List ℕ} {n : ℕ} → Digits text n → Starts text
digits_start d = let b = begins d in record { first = b.first; others = b.others; is = b.is; no_sign = no_minus b.first b.digit }

pointed_starts : (whole decimals : List ℕ) → Starts (whole ++ decimals) → Starts (whole ++ 46 ∷ decimals)
pointed_starts [] decimals s = record { first = 46; others = decimals; is = refl; no_sign = refl }
pointed_starts (b ∷ bs) decimals s =
    let same : b ≡ s.first = let i = s.is in cc in
    record { first = b; others = bs ++ 46 ∷ decimals; is = refl; no_sign = subst (λ (c : ℕ). (c == 45) ≡ false) (sym same) s.no_sign }

decimal_starts : {text : List ℕ} {n : ℕ} → Decimal text n → Starts text
decimal_starts (without_point text n h) = digits_start h.digits
decimal_starts (with_point text n f) = subst Starts (sym f.point) (pointed_starts f.whole f.decimals (digits_start f.digits))

plain_again : (text : List ℕ) (n : ℕ) → Starts text → decimal_of text ≡ Some n → coordinate_of text ≡ Some (pos n)
plain_again [] n s e = absurd (let i = s.is in cc)
plain_again (b ∷ bs) n s e =
    let same : b ≡ s.first = let i = s.is in cc in
    let fails : (b == 45) ≡ false = subst (λ (c : ℕ). (c == 45) ≡ false) (sym same) s.no_sign in
    rw (fails, e) refl

pub coordinate_again : {text : List ℕ} {z : ℤ} → Coordinate text z → coordinate_of text ≡ Some z
coordinate_again (not_negative text n d) = plain_again text n (decimal_starts d) (decimal_again d)
coordinate_again (negative text n d) = rw (decimal_again d) refl
