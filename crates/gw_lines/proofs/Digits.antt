-- Numbers and values: what is read is spelled so, and what is spelled so is read.
use Rattle.std.proofs.Common.{◌≡◌, ℕ, zero, suc, ◌+◌, ◌-◌, ◌*◌, ◌≤◌, ◌==◌, true, false, List, [], ◌∷◌, ◌++◌, Option, Some, None, refl, sym, ap, subst, ◌∙◌, append_assoc, inl, inr, arith}
use Rattle.std.specs.Prelude.{ℤ, pos, neg_ℤ, nat_le, option_map}
use Rattle.std.specs.Char.{is_ascii_digit}
use Rattle.std.proofs.lemmas.Bool.{cases_Bool, eqb-true, le-leb, leb-true}
use Rattle.std.proofs.lemmas.Bool.Decides.{nat_tests}
use Rattle.std.proofs.lemmas.List.{append-nil}
use Rattle.gw_lines.proofs.Results.{some_is}
use Rattle.gw_lines.proofs.Fronts.{nonzero}
use Rattle.gw_lines.specs.Numbers.{number_after, number_of, value_of, from_one}
use Rattle.gw_lines.specs.Spelling.{Digits, first_digit, next_digit, Number, Value, without_sign, with_sign}

none_before : (b : ℕ) → 0 * 10 + (b - 48) ≡ b - 48
none_before b = omega arith

pub number_on : {most : ℕ} {text : List ℕ} {n : ℕ} (d : Digits text n) (rest : List ℕ) → n ≤ most
    → number_after most 0 (text ++ rest) ≡ number_after most n rest
number_on {most} (first_digit b h) rest small = rw (h, none_before b, le-leb (b - 48) most small) refl
number_on {most} (next_digit text n b d h) rest small =
    let e : number_after most n (b ∷ rest) ≡ number_after most (n * 10 + (b - 48)) rest =
    rw (h, le-leb (n * 10 + (b - 48)) most small) refl in
    ap (number_after most 0) (append_assoc text (b ∷ []) rest) ∙ number_on d (b ∷ rest) (omega arith) ∙ e

pub record Begins (text : List ℕ) : Type 0 where
  pub first : ℕ
  pub others : List ℕ
  pub is : text ≡ first ∷ others
  pub digit : is_ascii_digit first ≡ true

pub begins : {text : List ℕ} {n : ℕ} → Digits text n → Begins text
begins (first_digit b h) = record { first = b; others = []; is = refl; digit = h }
begins (next_digit text n b d h) =
    let ih = begins d in
    record { first = ih.first; others = ih.others ++ b ∷ []; is = ap (λ (t : List ℕ). t ++ b ∷ []) ih.is; digit = ih.digit }

of_after : (most : ℕ) (text : List ℕ) → Begins text → number_of most text ≡ number_after most 0 text
of_after most text h = ap (number_of most) h.is ∙ sym (ap (number_after most 0) h.is)

pub number_again : (most : ℕ) (text : List ℕ) (n : ℕ) → Number most text n → number_of most text ≡ Some n
number_again most text n h =
    of_after most text (begins h.digits) ∙ ap (number_after most 0) (sym (append-nil text))
    ∙ number_on h.digits [] h.small

pub number_taken : (most n : ℕ) (front rest : List ℕ) (m : ℕ) → Digits front n → n ≤ most
    → number_after most n rest ≡ Some m → Number most (front ++ rest) m
number_taken most n front [] m d small e =
    let is : n ≡ m = some_is n m e in
    subst (λ (t : List ℕ). Number most t m) (sym (append-nil front))
    (subst (λ (k : ℕ). Number most front k) is (record { digits = d; small = small }))
number_taken most n front (b ∷ bs) m d small e =
    elim (cases_Bool (is_ascii_digit b)) [
      | inr fails ↦ absurd (let f = rw fails at e in cc)
      | inl holds ↦ elim (cases_Bool (nat_le (n * 10 + (b - 48)) most)) [
        | inr large ↦ absurd (let f = rw (holds, large) at e in cc)
        | inl le ↦
            let rest = number_taken most (n * 10 + (b - 48)) (front ++ b ∷ []) bs m (next_digit front n b d holds)
            (leb-true _ most le) (rw (holds, le) at e) in
            subst (λ (t : List ℕ). Number most t m) (append_assoc front (b ∷ []) bs) rest
      ]
    ]

pub number_found : (most : ℕ) (text : List ℕ) (m : ℕ) → number_of most text ≡ Some m → Number most text m
number_found most [] m e = absurd cc
number_found most (b ∷ bs) m e =
    elim (cases_Bool (is_ascii_digit b)) [
      | inr fails ↦ absurd (let f = rw fails at e in cc)
      | inl holds ↦ elim (cases_Bool (nat_le (b - 48) most)) [
        | inr large ↦ absurd (let f = rw (holds, none_before b, large) at e in cc)
        | inl le ↦
            number_taken most (b - 48) (b ∷ []) bs m (first_digit b holds) (leb-true _ most le)
            (rw (holds, none_before b, le) at e)
      ]
    ]

pub mapped : {X Y : Type 0} (f : X → Y) (o : Option X) (y : Y) → option_map f o ≡ Some y → (x : X) × (o ≡ Some x) × (f x ≡ y)
mapped f None y e = absurd cc
mapped f (Some x) y e = (x, refl, cc)

pub value_found : (text : List ℕ) (z : ℤ) → value_of text ≡ Some z → Value text z
value_found [] z e = absurd cc
value_found (b ∷ bs) z e =
    elim (cases_Bool (b == 45)) [
      | inl holds ↦
          let m = mapped (λ n. neg_ℤ (pos n)) (number_of 1000000000 bs) z (rw holds at e) in
          subst (λ (c : ℕ). Value (c ∷ bs) z) (sym (eqb-true b 45 holds))
          (subst (λ (v : ℤ). Value (45 ∷ bs) v) m.2 (with_sign bs m.0 (number_found 1000000000 bs m.0 m.1)))
      | inr fails ↦
          let m = mapped pos (number_of 1000000000 (b ∷ bs)) z (rw fails at e) in
          subst (λ (v : ℤ). Value (b ∷ bs) v) m.2 (without_sign (b ∷ bs) m.0 (number_found 1000000000 (b ∷ bs) m.0 m.1))
    ]

pub no_minus : (b : ℕ) → is_ascii_digit b ≡ true → (b == 45) ≡ false
no_minus b h = grind (arith, nat_tests)

plain_value : (text : List ℕ) (n : ℕ) → Begins text → number_of 1000000000 text ≡ Some n → value_of text ≡ Some (pos n)
plain_value [] n h e = absurd cc
plain_value (b ∷ bs) n h e =
    let same : b ≡ h.first = let i = h.is in cc in
    let fails : (b == 45) ≡ false = no_minus b (subst (λ (c : ℕ). is_ascii_digit c ≡ true) (sym same) h.digit) in
    rw (fails, e) refl

pub value_again : {text : List ℕ} {z : ℤ} → Value text z → value_of text ≡ Some z
value_again (without_sign text n h) = plain_value text n (begins h.digits) (number_again 1000000000 text n h)
value_again (with_sign text n h) = rw (number_again 1000000000 text n h) refl

-- ---- a number from 1

pub from_one_found : (o : Option ℕ) (n : ℕ) → from_one o ≡ Some n → (o ≡ Some n) × (1 ≤ n)
from_one_found None n e = absurd cc
from_one_found (Some zero) n e = absurd cc
from_one_found (Some (suc m)) n e =
    let i = some_is (suc m) n (rw (nonzero m) at e) in (ap (λ (x : ℕ). Some x) i, omega arith)

pub from_one_again : (n : ℕ) → 1 ≤ n → from_one (Some n) ≡ Some n
from_one_again zero h = absurd (omega arith)
from_one_again (suc n) h = rw (nonzero n) refl
