-- Digits are read as the number that they spell, and what is read as a number is spelled so.
use Rattle.std.proofs.Common.{◌≡◌, ◌<◌, ℕ, ◌+◌, ◌-◌, ◌*◌, ◌==◌, ◌||◌, not, Bool, true, false, cond, List, [], ◌∷◌, ◌++◌, length, Some, None, refl, ap, sym, subst, ◌∙◌, append_assoc, arith}
use Rattle.std.specs.Prelude.{nat_lt}
use Rattle.std.specs.List.{list_all}
use Rattle.std.specs.Char.{is_ascii_digit}
use Rattle.std.proofs.lemmas.Bool.{and_parts, ltb-false, le-ltb, ne_eqb}
use Rattle.std.proofs.lemmas.List.{append-nil, length_push}
use Rattle.std.proofs.lemmas.List.Folds.{list_all-append}
use Rattle.std.proofs.lemmas.Option.{same_Some}
use Rattle.gw_request.specs.Numbers.{number_of, value_of}
use Rattle.gw_request.specs.Asking.{Spells, first_digit, next_digit, IsNumber}

none_before : (b : ℕ) → 0 * 10 + (b - 48) ≡ b - 48
none_before b = omega arith

-- ---- what is spelled is read

pub are_digits : {text : List ℕ} {n : ℕ} → Spells text n → list_all is_ascii_digit text ≡ true
are_digits (first_digit b h) = rw h refl
are_digits (next_digit text n b d h) = rw (list_all-append is_ascii_digit text (b ∷ []), are_digits d, h) refl

some_digit : {text : List ℕ} {n : ℕ} → Spells text n → 0 < length text
some_digit (first_digit b h) = omega arith
some_digit (next_digit text n b d h) = omega (arith, length_push text b)

value_on : {text : List ℕ} {n : ℕ} → Spells text n → (rest : List ℕ) → value_of 0 (text ++ rest) ≡ value_of n rest
value_on (first_digit b h) rest = ap (λ (k : ℕ). value_of k rest) (none_before b)
value_on (next_digit text n b d h) rest = ap (value_of 0) (append_assoc text (b ∷ []) rest) ∙ value_on d (b ∷ rest)

pub number_again : (digits : List ℕ) (n : ℕ) → IsNumber digits n → number_of digits ≡ Some n
number_again digits n h =
    let some : (length digits == 0) ≡ false = let l = some_digit h.spelled in ne_eqb (length digits) 0 (λ e. omega arith) in
    let few : nat_lt 18 (length digits) ≡ false = le-ltb 18 (length digits) h.few in
    let value : value_of 0 digits ≡ n = ap (value_of 0) (sym (append-nil digits)) ∙ value_on h.spelled [] in
    rw (some, few, are_digits h.spelled, value) refl

-- ---- what is read is spelled

spelled_on : (front : List ℕ) (n : ℕ) (digits : List ℕ) → Spells front n → list_all is_ascii_digit digits ≡ true →
    Spells (front ++ digits) (value_of n digits)
spelled_on front n [] d h = subst (λ (t : List ℕ). Spells t n) (sym (append-nil front)) d
spelled_on front n (b ∷ bs) d h =
    let parts = and_parts (is_ascii_digit b) (list_all is_ascii_digit bs) h in
    subst (λ (t : List ℕ). Spells t (value_of (n * 10 + (b - 48)) bs)) (append_assoc front (b ∷ []) bs)
    (spelled_on (front ++ b ∷ []) (n * 10 + (b - 48)) bs (next_digit front n b d parts.0) parts.1)

spelled : (digits : List ℕ) → (length digits == 0) ≡ false → list_all is_ascii_digit digits ≡ true → Spells digits (value_of 0 digits)
spelled [] some h = absurd cc
spelled (b ∷ bs) some h =
    let parts = and_parts (is_ascii_digit b) (list_all is_ascii_digit bs) h in
    subst (λ (k : ℕ). Spells (b ∷ bs) (value_of k bs)) (sym (none_before b))
    (spelled_on (b ∷ []) (b - 48) bs (first_digit b parts.0) parts.1)

pub number_found : (digits : List ℕ) (n : ℕ) → number_of digits ≡ Some n → IsNumber digits n
number_found digits n e = go (length digits == 0) (nat_lt 18 (length digits)) (list_all is_ascii_digit digits) refl refl refl e where
  go : (a b d : Bool) → (length digits == 0) ≡ a → nat_lt 18 (length digits) ≡ b → list_all is_ascii_digit digits ≡ d →
      cond (a || (b || not d)) None (Some (value_of 0 digits)) ≡ Some n → IsNumber digits n
  go false false true some few all k = record {
    spelled = subst (Spells digits) (same_Some (value_of 0 digits) n k) (spelled digits some all);
    few = ltb-false 18 (length digits) few;
  }
  go true b d some few all k = absurd cc
  go false true d some few all k = absurd cc
  go false false false some few all k = absurd cc
