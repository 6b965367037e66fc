-- The limits of the classes of a TABLE are values.
use Rattle.std.proofs.Common.{◌≡◌, ℕ, ◌+◌, ◌-◌, ◌*◌, ◌^◌, ◌<◌, ◌≤◌, Bool, true, false, IsTrue, ◌&&◌, arith, refl}
use Rattle.std.specs.Prelude.{ℤ, pos, negsuc, ◌+ℤ◌, ◌*ℤ◌, ◌≤ℤ◌, nat_le}
use Rattle.std.proofs.Common.{to_z, of_z, w64}
use Rattle.std.proofs.Math.Nat.{mul-le-mul_right}
use Rattle.std.proofs.lemmas.Int.{ints}
use Rattle.gw_nums.specs.Range.{is_value}
use Rattle.gw_meaning.specs.Classes.{Scale, is_scale, limit_of}

pub bounds_of : (z : ℤ) → IsTrue (is_value z) → (negsuc 999999999 ≤ℤ z) × (z ≤ℤ pos 1000000000)
bounds_of (pos n) h = grind (arith, ints)
bounds_of (negsuc n) h = grind (arith, ints)

last_of : (a b c d : Bool) → IsTrue (a && (b && (c && d))) → IsTrue d
last_of true true true d h = h
last_of true true false d h = absurd cc
last_of true false c d h = absurd cc
last_of false b c d h = absurd cc

last_is_value : (scale : Scale) → IsTrue (is_scale scale) → IsTrue (is_value (limit_of scale (scale.count - 2)))
last_is_value scale h =
    last_of (nat_le 1 scale.width) (nat_le 2 scale.count) (nat_le scale.count 1000) (is_value (limit_of scale (scale.count - 2))) h

-- a limit lies between the first and the last
pub limit_within : (scale : Scale) (i : ℕ) → IsTrue (is_scale scale) → IsTrue (is_value scale.first) → i + 2 ≤ scale.count →
    (i * scale.width ≤ 2000000000) × (negsuc 999999999 ≤ℤ limit_of scale i) × (limit_of scale i ≤ℤ pos 1000000000)
limit_within scale i h k l =
    let first = bounds_of scale.first k in
    let last = bounds_of (limit_of scale (scale.count - 2)) (last_is_value scale h) in
    let fewer : i ≤ scale.count - 2 = omega arith in
    let less : i * scale.width ≤ (scale.count - 2) * scale.width = mul-le-mul_right scale.width fewer in
    (omega (arith, ints), omega (arith, ints), omega (arith, ints))

-- a limit as the code finds it: numbers pass through their types
product_is : (a b : ℤ) (i width : ℕ) → a ≡ pos i → b ≡ pos width → i < 2 ^ 32 → width < 2 ^ 32 →
    to_z w64 (of_z w64 a) *ℤ to_z w64 (of_z w64 b) ≡ pos (i * width)
product_is a b i width e f few narrow =
    let one : to_z w64 (of_z w64 a) ≡ pos i = omega (arith, ints) in
    let other : to_z w64 (of_z w64 b) ≡ pos width = omega (arith, ints) in
    rw (one, other) refl

pub limit_found : (g a b : ℤ) (scale : Scale) (i : ℕ) → g ≡ scale.first → a ≡ pos i → b ≡ pos scale.width → i < 2 ^ 32 → scale.width < 2 ^ 32 →
    IsTrue (is_scale scale) → IsTrue (is_value scale.first) → i + 2 ≤ scale.count →
    to_z w64 (of_z w64 (to_z w64 (of_z w64 g) +ℤ to_z w64 (of_z w64 (to_z w64 (of_z w64 a) *ℤ to_z w64 (of_z w64 b))))) ≡ limit_of scale i
limit_found g a b scale i e f h few narrow is first fits =
    let product = product_is a b i scale.width f h few narrow in
    let within = limit_within scale i is first fits in
    let from = bounds_of scale.first first in
    let times : to_z w64 (of_z w64 (to_z w64 (of_z w64 a) *ℤ to_z w64 (of_z w64 b))) ≡ pos (i * scale.width) = rw product (omega (arith, ints)) in
    rw times (omega (arith, ints))
