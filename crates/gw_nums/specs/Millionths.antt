-- Numbers in millionths. (Our own: the range is that of values, and each quotient is divided downwards.)
use Rattle.std.specs.Prelude.{ℕ, ℤ, pos, negsuc, ◌/◌, ◌+ℤ◌, ◌-ℤ◌, ◌*ℤ◌, Bool, nat_le, nat_lt}
use Rattle.gw_nums.specs.Range.{magnitude}

-- from -1,000,000,000 to 1,000,000,000, with six decimals
abbrev pub is_millionths : ℤ → Bool
is_millionths (pos n) = nat_le n 1000000000000000
is_millionths (negsuc n) = nat_lt n 1000000000000000

-- a whole quotient, divided downwards
abbrev pub quotient_down : ℤ → ℕ → ℤ
quotient_down (pos a) n = pos (a / n)
quotient_down (negsuc a) n = negsuc (a / n)

-- a value in millionths, and the greatest value that is not above a number of millionths
abbrev pub of_value : ℤ → ℤ
of_value z = z *ℤ pos 1000000

abbrev pub whole : ℤ → ℤ
whole m = quotient_down m 1000000

-- a value times a number of millionths, divided downwards
abbrev pub times : ℤ → ℤ → ℤ
times z m = quotient_down (z *ℤ m) 1000000

-- how far two numbers are apart
abbrev pub distance : ℤ → ℤ → ℕ
distance a b = magnitude (a -ℤ b)

-- so many parts, of all that there are, of the way from a number to another
abbrev pub toward : ℤ → ℤ → ℕ → ℕ → ℤ
toward a b part all = a +ℤ quotient_down ((b -ℤ a) *ℤ pos part) all
