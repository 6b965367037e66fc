-- Quotients that are divided downwards, and how far they go.
use Rattle.std.proofs.Common.{◌≡◌, ℕ, zero, suc, ◌*◌, ◌/◌, ◌≤◌, ◌<◌, ℤ, pos, negsuc, neg_ℤ, ◌+ℤ◌, ◌-ℤ◌, ◌*ℤ◌, ◌≤ℤ◌, FitsSigned, to_z, of_z, w64, IsTrue, IsSome, IfSome, ◌↔◌, Option, Some, None, if◌then◌else◌, refl, sym, ap, ◌∙◌, subst, arith}
use mir.Syntax.{w128}
use Rattle.std.proofs.Math.Nat.{div-eq_of_lt, mul_comm, div-le_of_le-mul, mul-le-mul_left, mul-le-mul, div-lt_iff_lt-mul}
use Rattle.std.specs.Int.RustNames.{unsigned_abs}
use Rattle.std.proofs.lemmas.Int.{ints, to_z-of_z, unsigned_abs-mul}
use Rattle.gw_nums.specs.Range.{is_value}
use Rattle.gw_nums.specs.Millionths.{is_millionths, quotient_down, times, toward}

-- what is tested whether it is a value, at an equal number
pub value_if : (z w : ℤ) (r : Option ℤ) → IsSome r ↔ IsTrue (is_value z) → IfSome r (λ v. v ≡ z) → z ≡ w →
    r ≡ (if is_value w then Some w else None)
value_if z w (Some v) tested is same = grind arith
value_if z w None tested is same = grind arith

-- the least and the greatest of what is in millionths
pub bounds_of : (z : ℤ) → IsTrue (is_millionths z) → (negsuc 999999999999999 ≤ℤ z) × (z ≤ℤ pos 1000000000000000)
bounds_of (pos n) h = grind (arith, ints)
bounds_of (negsuc n) h = grind (arith, ints)

pub within_bounds : (z : ℤ) → negsuc 999999999999999 ≤ℤ z → z ≤ℤ pos 1000000000000000 → IsTrue (is_millionths z)
within_bounds (pos n) h k = grind (arith, ints)
within_bounds (negsuc n) h k = grind (arith, ints)

-- a number between 0 and another
abbrev pub IsUpTo : ℤ → ℤ → Type 0
IsUpTo (pos d) q = (pos 0 ≤ℤ q) × (q ≤ℤ pos d)
IsUpTo (negsuc d) q = (negsuc d ≤ℤ q) × (q ≤ℤ pos 0)

-- a part of a way that goes down
part_down : (d all k : ℕ) → 0 < all → k ≤ suc d * all → IsUpTo (negsuc d) (quotient_down (neg_ℤ (pos k)) all)
part_down d all zero some h =
    let e : 0 / all ≡ 0 = div-eq_of_lt some in (omega (arith, ints), omega (arith, ints))
part_down d all (suc j) some h =
    let less : j < suc d * all = omega arith in
    let k : j / all < suc d = (div-lt_iff_lt-mul {x = j} {y = suc d} some).1 less in (omega (arith, ints), omega (arith, ints))

-- a part of a way is no longer than the way
pub part_up_to : (z : ℤ) (part all : ℕ) → part ≤ all → 0 < all → IsUpTo z (quotient_down (z *ℤ pos part) all)
part_up_to (pos d) part all h some =
    let most : d * part ≤ all * d = subst (λ (n : ℕ). d * part ≤ n) (mul_comm d all) (mul-le-mul_left d h) in
    let k : d * part / all ≤ d = div-le_of_le-mul all most in (omega (arith, ints), omega (arith, ints))
part_up_to (negsuc d) part all h some = part_down d all (suc d * part) some (mul-le-mul_left (suc d) h)

-- one that goes between two numbers in range is in range
pub goes_between : (a b z q : ℤ) → z ≡ b -ℤ a → IsTrue (is_millionths a) → IsTrue (is_millionths b) → IsUpTo z q → IsTrue (is_millionths (a +ℤ q))
goes_between a b (pos d) q e h k up =
    let low = bounds_of a h in let high = bounds_of b k in within_bounds (a +ℤ q) (omega (arith, ints)) (omega (arith, ints))
goes_between a b (negsuc d) q e h k up =
    let low = bounds_of a h in let high = bounds_of b k in within_bounds (a +ℤ q) (omega (arith, ints)) (omega (arith, ints))

pub toward_in_range : (a b : ℤ) (part all : ℕ) → IsTrue (is_millionths a) → IsTrue (is_millionths b) → part ≤ all → 0 < all →
    IsTrue (is_millionths (toward a b part all))
toward_in_range a b part all h k within some =
    goes_between a b (b -ℤ a) (quotient_down ((b -ℤ a) *ℤ pos part) all) refl h k (part_up_to (b -ℤ a) part all within some)

-- a product and a quotient of numbers that pass through their types
pub product_is : (a b p : ℤ) → FitsSigned w64 a → FitsSigned w64 b → p ≡ to_z w64 (of_z w64 a) *ℤ to_z w64 (of_z w64 b) → p ≡ a *ℤ b
product_is a b p f g h = grind (arith, to_z-of_z)

pub quotient_is : (p q : ℤ) (n : ℕ) → FitsSigned w128 p → q ≡ quotient_down (to_z w128 (of_z w128 p)) n → q ≡ quotient_down p n
quotient_is p q n f h = grind (arith, to_z-of_z)

value_most : (v : ℤ) → IsTrue (is_value v) → unsigned_abs v ≤ 1000000000
value_most (pos n) h = grind arith
value_most (negsuc n) h = grind arith

millionths_most : (m : ℤ) → IsTrue (is_millionths m) → unsigned_abs m ≤ 1000000000000000
millionths_most (pos n) h = grind arith
millionths_most (negsuc n) h = grind arith

-- what a value comes to times a number in millionths
magnitude_times : (z : ℤ) → unsigned_abs z ≤ 1000000000000000000000000 → FitsSigned w64 (quotient_down z 1000000)
magnitude_times (pos n) h = let k : n / 1000000 ≤ 1000000000000000000 = omega arith in omega (arith, ints)
magnitude_times (negsuc n) h = let k : n / 1000000 ≤ 1000000000000000000 = omega arith in omega (arith, ints)

pub times_fits : (v m : ℤ) → IsTrue (is_value v) → IsTrue (is_millionths m) → FitsSigned w64 (times v m)
times_fits v m h k =
    magnitude_times (v *ℤ m) (subst (λ (n : ℕ). n ≤ 1000000000000000000000000) (sym (unsigned_abs-mul v m)) (mul-le-mul (value_most v h) (millionths_most m k)))

-- the part of a way that the code finds
pub way_is : (a b p q : ℤ) (part all : ℕ) → IsTrue (is_millionths a) → IsTrue (is_millionths b) → part ≤ all → all ≤ 2000000000000000 →
    FitsSigned w128 p → p ≡ to_z w64 (of_z w64 (to_z w64 (of_z w64 b) -ℤ to_z w64 (of_z w64 a))) *ℤ to_z w64 part →
    q ≡ quotient_down (to_z w128 (of_z w128 p)) all → q ≡ quotient_down ((b -ℤ a) *ℤ pos part) all
way_is a b p q part all h k within few fits pe qe =
    let low = bounds_of a h in let high = bounds_of b k in
    let way : to_z w64 (of_z w64 (to_z w64 (of_z w64 b) -ℤ to_z w64 (of_z w64 a))) ≡ b -ℤ a = omega (arith, ints) in
    let share : to_z w64 part ≡ pos part = omega (arith, ints) in
    quotient_is p q all fits qe ∙ ap (λ z. quotient_down z all) (pe ∙ ap (λ z. z *ℤ to_z w64 part) way ∙ ap (λ z. (b -ℤ a) *ℤ z) share)

-- where one comes that goes it
pub comes_within : (a b q : ℤ) (part all : ℕ) → IsTrue (is_millionths a) → IsTrue (is_millionths b) → part ≤ all → 0 < all →
    q ≡ quotient_down ((b -ℤ a) *ℤ pos part) all → (negsuc 999999999999999 ≤ℤ (a +ℤ q)) × ((a +ℤ q) ≤ℤ pos 1000000000000000)
comes_within a b q part all h k within some e =
    bounds_of (a +ℤ q) (subst (λ z. IsTrue (is_millionths (a +ℤ z))) (sym e) (toward_in_range a b part all h k within some))
