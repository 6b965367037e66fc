-- Fractions: what is read is spelled so, and what is spelled so is read.
use Rattle.std.proofs.Common.{◌≡◌, ℕ, zero, suc, ◌+◌, ◌-◌, ◌*◌, ◌^◌, ◌<◌, ◌≤◌, ◌==◌, not, true, List, [], ◌∷◌, ◌++◌, length, drop, Option, Some, None, refl, sym, ap, subst, ◌∙◌, inl, inr, arith}
use Rattle.std.specs.Prelude.{codes, nat_le, nat_lt}
use Rattle.std.specs.List.{list_all}
use Rattle.std.specs.Char.{is_ascii_digit}
use Rattle.std.proofs.Math.Nat.{one-le-pow, pow-suc, le-mul_of_pos_right}
use Rattle.std.proofs.lemmas.Bool.{and_from, and_parts, cases_Bool, eqb-true, not-false, le-leb}
use Rattle.std.proofs.lemmas.Bool.Decides.{nat_tests}
use Rattle.std.proofs.lemmas.List.{length-append}
use Rattle.std.proofs.lemmas.List.Folds.{list_all-append}
use Rattle.gw_lines.specs.declared.class.Class.TheVariants as class
use Rattle.gw_lines.specs.Classes.{is_in, is_nothing, front_of, rest_of, tail_of}
use Rattle.gw_lines.specs.Numbers.{number_after, number_then, is_pointed, millionths_of, fraction_of}
use Rattle.gw_lines.specs.Spelling.{AreIn, Stops, Digits, first_digit, next_digit, Number, Fraction}
use Rattle.gw_lines.proofs.Results.{some, some_is}
use Rattle.gw_lines.proofs.Fronts.{nonzero, front_again, rest_again, parts, rest_stops}
use Rattle.gw_lines.proofs.Digits.{Begins, begins, number_on, number_found, number_taken}

-- ---- zeros after digits

abbrev zeros : ℕ → List ℕ
zeros zero = []
zeros (suc k) = 48 ∷ zeros k

whole_left : (n : ℕ) → n ≡ n - 0
whole_left n = omega arith

none_left : (k : ℕ) → 0 ≡ 0 - suc k
none_left k = omega arith

both_less : (n k : ℕ) → n - k ≡ suc n - suc k
both_less n k = omega arith

drop_zeros : (k n : ℕ) → drop k (zeros n) ≡ zeros (n - k)
drop_zeros zero n = ap zeros (whole_left n)
drop_zeros (suc k) zero = ap zeros (none_left k)
drop_zeros (suc k) (suc n) = drop_zeros k n ∙ ap zeros (both_less n k)

filled : (k : ℕ) → drop k (codes "000000") ≡ zeros (6 - k)
filled k = drop_zeros k 6

once : (n : ℕ) → n * 10 ^ 0 ≡ n
once n = omega arith

tens_by : (n p : ℕ) → (n * 10 + 0) * p ≡ n * (p * 10)
tens_by n p = omega arith

tens : (n k : ℕ) → (n * 10 + 0) * 10 ^ k ≡ n * 10 ^ suc k
tens n k = tens_by n (10 ^ k) ∙ ap (λ (p : ℕ). n * p) (sym (pow-suc 10 k))

zero_read : (most n : ℕ) (rest : List ℕ) → n * 10 + 0 ≤ most
    → number_after most n (48 ∷ rest) ≡ number_after most (n * 10 + 0) rest
zero_read most n rest h = rw (le-leb (n * 10 + 0) most h) refl

zeros_found : (most n k m : ℕ) → number_after most n (zeros k) ≡ Some m → m ≡ n * 10 ^ k
zeros_found most n zero m e = sym (some_is n m e) ∙ sym (once n)
zeros_found most n (suc k) m e =
    elim (cases_Bool (nat_le (n * 10 + 0) most)) [
      | inl le ↦ zeros_found most (n * 10 + 0) k m (rw le at e) ∙ tens n k
      | inr large ↦ absurd (let f = rw large at e in cc)
    ]

more_than : (n p most : ℕ) → 1 ≤ p → n * p ≤ most → n ≤ most
more_than n p most h k = let le = le-mul_of_pos_right n h in omega arith

zeros_again : (most n k : ℕ) → n * 10 ^ k ≤ most → number_after most n (zeros k) ≡ Some (n * 10 ^ k)
zeros_again most n zero h = ap some (sym (once n))
zeros_again most n (suc k) h =
    let t = tens n k in
    let small : (n * 10 + 0) * 10 ^ k ≤ most = subst (λ (x : ℕ). x ≤ most) (sym t) h in
    zero_read most n (zeros k) (more_than (n * 10 + 0) (10 ^ k) most (one-le-pow k 10 (omega arith)) small)
    ∙ zeros_again most (n * 10 + 0) k small ∙ ap some t

-- ---- what is read is spelled so

then_found : (most : ℕ) (o : Option ℕ) (text : List ℕ) (m : ℕ) → number_then most o text ≡ Some m
    → (n : ℕ) × (o ≡ Some n) × (number_after most n text ≡ Some m)
then_found most None text m e = absurd cc
then_found most (Some n) text m e = (n, refl, e)

both_found : (most : ℕ) (whole decimals : List ℕ) (a b : ℕ) → 0 < length (whole ++ decimals)
    → number_after most 0 whole ≡ Some a → number_after most a decimals ≡ Some b → Number most (whole ++ decimals) b
both_found most [] [] a b some_ e f = absurd (omega arith)
both_found most [] (d ∷ ds) a b some_ e f =
    let zero_is : 0 ≡ a = some_is 0 a e in
    number_found most (d ∷ ds) b (subst (λ (x : ℕ). number_after most x (d ∷ ds) ≡ Some b) (sym zero_is) f)
both_found most (c ∷ cs) decimals a b some_ e f =
    let n = number_found most (c ∷ cs) a e in number_taken most a (c ∷ cs) decimals b n.digits n.small f

-- a text with its point apart
record Pointed (text : List ℕ) : Type 0 where
  pub point : text ≡ front_of class.Whole text ++ 46 ∷ tail_of (rest_of class.Whole text)
  pub some_ : 0 < length (front_of class.Whole text ++ tail_of (rest_of class.Whole text))
  pub places : length (tail_of (rest_of class.Whole text)) ≤ 6

begins_so : (rest : List ℕ) → Stops class.Whole rest → not (is_nothing rest) ≡ true → rest ≡ 46 ∷ tail_of rest
begins_so [] s h = absurd cc
begins_so (b ∷ bs) s h = ap (λ (x : ℕ). x ∷ bs) (eqb-true b 46 (not-false (b == 46) s))

at_most : (n : ℕ) → nat_le n 6 ≡ true → n ≤ 6
at_most n h = grind (arith, nat_tests)

two_bytes : (n : ℕ) → nat_lt 1 n ≡ true → 1 < n
two_bytes n h = grind (arith, nat_tests)

pointed_length : (whole decimals : List ℕ) → length (whole ++ 46 ∷ decimals) ≡ length (whole ++ decimals) + 1
pointed_length whole decimals =
    let a = length-append whole (46 ∷ decimals) in
    let b = length-append whole decimals in
    omega arith

pointed : (text : List ℕ) → is_pointed text (rest_of class.Whole text) (tail_of (rest_of class.Whole text)) ≡ true → Pointed text
pointed text h =
    let whole = front_of class.Whole text in
    let rest = rest_of class.Whole text in
    let p = and_parts (not (is_nothing rest)) _ h in
    let q = and_parts (nat_lt 1 (length text)) _ p.1 in
    let point : text ≡ whole ++ 46 ∷ tail_of rest = parts class.Whole text
    ∙ ap (λ (t : List ℕ). whole ++ t) (begins_so rest (rest_stops class.Whole text) p.0) in
    let two = two_bytes (length text) q.0 in
    let e : length text ≡ length (whole ++ tail_of rest) + 1 = ap length point ∙ pointed_length whole (tail_of rest) in
    record { point = point; some_ = omega arith; places = at_most _ q.1 }

parts_found : (most : ℕ) (text whole decimals : List ℕ) (m : ℕ) → text ≡ whole ++ 46 ∷ decimals → 0 < length (whole ++ decimals)
    → length decimals ≤ 6 → millionths_of most whole decimals ≡ Some m → Fraction most text m
parts_found most text whole decimals m point some_ places e =
    let b = then_found most _ (drop (length decimals) (codes "000000")) m e in
    let a = then_found most _ decimals b.0 b.1 in
    let n = both_found most whole decimals a.0 b.0 some_ a.1 a.2 in
    let f = filled (length decimals) in
    let v : number_after most b.0 (zeros (6 - length decimals)) ≡ Some m =
    subst (λ (t : List ℕ). number_after most b.0 t ≡ Some m) f b.2 in
    record {
      whole = whole;
      decimals = decimals;
      point = point;
      number = b.0;
      digits = n.digits;
      places = places;
      value = zeros_found most b.0 (6 - length decimals) m v;
      small = (number_taken most b.0 (whole ++ decimals) (zeros (6 - length decimals)) m n.digits n.small v).small;
    }

pub fraction_found : (most : ℕ) (text : List ℕ) (m : ℕ) → fraction_of most text ≡ Some m → Fraction most text m
fraction_found most text m e =
    elim (cases_Bool (is_pointed text (rest_of class.Whole text) (tail_of (rest_of class.Whole text)))) [
      | inr other ↦ absurd (let f = rw other at e in cc)
      | inl holds ↦
          let p = pointed text holds in
          parts_found most text (front_of class.Whole text) (tail_of (rest_of class.Whole text)) m p.point p.some_ p.places
          (rw holds at e)
    ]

-- ---- what is spelled so is read

no_point : (b : ℕ) → is_ascii_digit b ≡ true → not (b == 46) ≡ true
no_point b h = grind (arith, nat_tests)

digits_apart : {text : List ℕ} {n : ℕ} → Digits text n → AreIn class.Whole text
digits_apart (first_digit b h) = and_from (not (b == 46)) true (no_point b h) refl
digits_apart (next_digit text n b d h) =
    list_all-append (is_in class.Whole) text (b ∷ [])
    ∙ and_from (list_all (is_in class.Whole) text) (list_all (is_in class.Whole) (b ∷ [])) (digits_apart d)
    (and_from (not (b == 46)) true (no_point b h) refl)

then_joined : (most n : ℕ) (a b : List ℕ) → number_then most (number_after most n a) b ≡ number_after most n (a ++ b)
then_joined most n [] b = refl
then_joined most n (d ∷ ds) b =
    elim (cases_Bool (is_ascii_digit d)) [
      | inr other ↦ rw other refl
      | inl digit ↦ elim (cases_Bool (nat_le (n * 10 + (d - 48)) most)) [
        | inr large ↦ rw (digit, large) refl
        | inl le ↦ rw (digit, le) (then_joined most (n * 10 + (d - 48)) ds b)
      ]
    ]

within : (n : ℕ) → n ≤ 6 → nat_le n 6 ≡ true
within n h = grind (arith, nat_tests)

longer : (n : ℕ) → 1 < n → nat_lt 1 n ≡ true
longer n h = grind (arith, nat_tests)

pointed_again : (whole decimals : List ℕ) → 0 < length (whole ++ decimals) → length decimals ≤ 6
    → is_pointed (whole ++ 46 ∷ decimals) (46 ∷ decimals) decimals ≡ true
pointed_again whole decimals some_ places =
    let e = pointed_length whole decimals in
    rw (nonzero (length decimals), longer (length (whole ++ 46 ∷ decimals)) (omega arith), within (length decimals) places) refl

parts_again : (most : ℕ) (whole decimals : List ℕ) (n : ℕ) → Digits (whole ++ decimals) n → n * 10 ^ (6 - length decimals) ≤ most
    → millionths_of most whole decimals ≡ Some (n * 10 ^ (6 - length decimals))
parts_again most whole decimals n d small =
    let k = 6 - length decimals in
    let le = more_than n (10 ^ k) most (one-le-pow k 10 (omega arith)) small in
    ap (λ (t : List ℕ). number_then most (number_then most (number_after most 0 whole) decimals) t)
    (filled (length decimals))
    ∙ ap (λ (o : Option ℕ). number_then most o (zeros k)) (then_joined most 0 whole decimals)
    ∙ then_joined most 0 (whole ++ decimals) (zeros k)
    ∙ number_on d (zeros k) le
    ∙ zeros_again most n k small

some_digits : {text : List ℕ} → Begins text → 0 < length text
some_digits {text} b = let e = ap length b.is in omega arith

text_again : (most : ℕ) (whole decimals : List ℕ) → AreIn class.Whole whole → 0 < length (whole ++ decimals) → length decimals ≤ 6
    → fraction_of most (whole ++ 46 ∷ decimals) ≡ millionths_of most whole decimals
text_again most whole decimals apart some_ places =
    let f = front_again class.Whole whole (46 ∷ decimals) apart refl in
    let r = rest_again class.Whole whole (46 ∷ decimals) apart refl in
    rw (r, f, pointed_again whole decimals some_ places) refl

pub fraction_again : {most : ℕ} {text : List ℕ} {m : ℕ} → Fraction most text m → fraction_of most text ≡ Some m
fraction_again {most} {text} {m} f =
    let apart = and_parts (list_all (is_in class.Whole) f.whole) (list_all (is_in class.Whole) f.decimals)
    (sym (list_all-append (is_in class.Whole) f.whole f.decimals) ∙ digits_apart f.digits) in
    let small : f.number * 10 ^ (6 - length f.decimals) ≤ most =
    subst (λ (x : ℕ). x ≤ most) f.value f.small in
    ap (fraction_of most) f.point ∙ text_again most f.whole f.decimals apart.0 (some_digits (begins f.digits)) f.places
    ∙ parts_again most f.whole f.decimals f.number f.digits small ∙ ap some (sym f.value)
