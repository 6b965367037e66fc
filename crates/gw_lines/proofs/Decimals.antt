-- A number in decimal digits is spelled by them.
use Rattle.std.proofs.Common.{◌≡◌, ℕ, ◌+◌, ◌*◌, ◌-◌, ◌<◌, ◌^◌, true, List, [], ◌∷◌, ◌++◌, length, sym, subst, arith}
use Rattle.std.specs.Prelude.{decimal}
use Rattle.std.specs.Char.{digit_value, is_ascii_digit}
use Rattle.std.specs.Int.{IsInRange}
use Rattle.std.specs.Str.Parse.{AllDigits, digits_value_after}
use Rattle.std.proofs.lemmas.Bool.Decides.{nat_tests}
use Rattle.std.proofs.lemmas.Fmt.{decimal_is_IsNumeral}
use Rattle.std.proofs.lemmas.List.{append-nil, append_assoc}
use Rattle.std.proofs.lemmas.Str.{digit_value_digit}
use Rattle.std.proofs.lemmas.Str.Parse.{digit_from_value}
use Rattle.gw_lines.specs.Spelling.{Digits, first_digit, next_digit}

in_digits : (c : ℕ) → IsInRange 48 57 c → is_ascii_digit c ≡ true
in_digits c h = grind (arith, nat_tests)

value_is : (c : ℕ) → digit_value c < 10 → c - 48 ≡ digit_value c
value_is c h = let e = digit_value_digit c (digit_from_value c h) in omega arith

-- digits after others
digits_on : (front : List ℕ) (n : ℕ) → Digits front n → (ds : List ℕ) → AllDigits 10 ds → Digits (front ++ ds) (digits_value_after 10 n ds)
digits_on front n d [] h = subst (λ (t : List ℕ). Digits t n) (sym (append-nil front)) d
digits_on front n d (c ∷ cs) h =
    let next = next_digit front n c d (in_digits c (digit_from_value c h.0)) in
    let e = value_is c h.0 in
    let all = digits_on (front ++ c ∷ []) (n * 10 + (c - 48)) next cs h.1 in
    subst (λ (v : ℕ). Digits (front ++ c ∷ cs) (digits_value_after 10 (n * 10 + v) cs)) e
    (subst (λ (t : List ℕ). Digits t (digits_value_after 10 (n * 10 + (c - 48)) cs)) (append_assoc front (c ∷ []) cs) all)

digits_from : (ds : List ℕ) → 0 < length ds → AllDigits 10 ds → Digits ds (digits_value_after 10 0 ds)
digits_from [] some h = absurd (let f = some in omega arith)
digits_from (c ∷ cs) some h =
    let first = first_digit c (in_digits c (digit_from_value c h.0)) in
    let e = value_is c h.0 in
    subst (λ (v : ℕ). Digits (c ∷ cs) (digits_value_after 10 v cs)) (begins c h.0)
    (digits_on (c ∷ []) (c - 48) first cs h.1)
  where
    begins : (c : ℕ) → digit_value c < 10 → c - 48 ≡ 0 * 10 + digit_value c
    begins c h = let e = value_is c h in omega arith

pub decimal_digits : (n : ℕ) → n < 2 ^ 64 → Digits (decimal n) n
decimal_digits n h =
    let d = decimal_is_IsNumeral n h in
    subst (λ (v : ℕ). Digits (decimal n) v) d.1 (digits_from (decimal n) d.0.0 d.0.1)
