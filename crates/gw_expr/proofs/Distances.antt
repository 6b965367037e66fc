-- How far the points on the two sides of an argument are apart.
use Rattle.std.proofs.Common.{◌≡◌, ◌≤◌, ◌<◌, ℤ, pos, negsuc, ◌-ℤ◌, ◌<ℤ◌, ◌≤ℤ◌, true, false, refl, arith}
use Rattle.std.proofs.lemmas.Int.{ints}
use Rattle.gw_nums.specs.Range.{is_below, magnitude}
use Rattle.gw_nums.specs.Millionths.{distance}

below_is : (a b : ℤ) → is_below a b ≡ true → a <ℤ b
below_is (pos a) (pos b) h = grind (arith, ints)
below_is (pos a) (negsuc b) h = absurd cc
below_is (negsuc a) (pos b) h = grind (arith, ints)
below_is (negsuc a) (negsuc b) h = grind (arith, ints)

not_below_is : (a b : ℤ) → is_below a b ≡ false → b ≤ℤ a
not_below_is (pos a) (pos b) h = grind (arith, ints)
not_below_is (pos a) (negsuc b) h = grind (arith, ints)
not_below_is (negsuc a) (pos b) h = absurd cc
not_below_is (negsuc a) (negsuc b) h = grind (arith, ints)

-- of what lies in order
in_order : (a x b z w : ℤ) → a <ℤ x → x ≤ℤ b → z ≡ x -ℤ a → w ≡ b -ℤ a → (magnitude z ≤ magnitude w) × (0 < magnitude w)
in_order a x b (pos z) (pos w) h k e f = (omega (arith, ints), omega (arith, ints))
in_order a x b (negsuc z) (pos w) h k e f = (omega (arith, ints), omega (arith, ints))
in_order a x b (pos z) (negsuc w) h k e f = (omega (arith, ints), omega (arith, ints))
in_order a x b (negsuc z) (negsuc w) h k e f = (omega (arith, ints), omega (arith, ints))

pub distance_within : (a x b : ℤ) → is_below a x ≡ true → is_below b x ≡ false → distance x a ≤ distance b a
distance_within a x b h k = (in_order a x b (x -ℤ a) (b -ℤ a) (below_is a x h) (not_below_is b x k) refl refl).0

pub distance_some : (a x b : ℤ) → is_below a x ≡ true → is_below b x ≡ false → 0 < distance b a
distance_some a x b h k = (in_order a x b (x -ℤ a) (b -ℤ a) (below_is a x h) (not_below_is b x k) refl refl).1
