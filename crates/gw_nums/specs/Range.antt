-- The range of values, and the arithmetic within it. (Manual: the operators. Our own: the range, the quotient that goes
-- towards zero, and the remainder with the dividend's sign.)
use Rattle.std.specs.Prelude.{ℕ, zero, suc, ℤ, pos, negsuc, neg_ℤ, ◌+◌, ◌/◌, ◌%◌, ◌+ℤ◌, ◌-ℤ◌, ◌*ℤ◌, Bool, true, false, not, nat_le, nat_lt, Result, Ok, Err, if◌then◌else◌}
use Rattle.gw_nums.specs.declared.val.ArithmeticFault.{ArithmeticFault}
use Rattle.gw_nums.specs.declared.val.ArithmeticFault.TheVariants.{Range, ZeroDivisor}

-- from -1,000,000,000 to 1,000,000,000
abbrev pub is_value : ℤ → Bool
is_value (pos n) = nat_le n 1000000000
is_value (negsuc n) = nat_lt n 1000000000

-- a result that is a value, or the fault that it is none
abbrev pub value_of : ℤ → Result ℤ ArithmeticFault
value_of z = if is_value z then Ok z else Err Range

-- the sum of two values
abbrev pub sum_of : ℤ → ℤ → Result ℤ ArithmeticFault
sum_of a b = value_of (a +ℤ b)

-- the difference of two values
abbrev pub difference_of : ℤ → ℤ → Result ℤ ArithmeticFault
difference_of a b = value_of (a -ℤ b)

-- the product of two values
abbrev pub product_of : ℤ → ℤ → Result ℤ ArithmeticFault
product_of a b = value_of (a *ℤ b)

-- the number with the other sign
abbrev pub negated : ℤ → ℤ
negated z = neg_ℤ z

-- a number without its sign
abbrev pub magnitude : ℤ → ℕ
magnitude (pos n) = n
magnitude (negsuc n) = n + 1

-- whether a number is below 0
abbrev pub is_negative : ℤ → Bool
is_negative (pos n) = false
is_negative (negsuc n) = true

-- whether the first number is below the second
abbrev pub is_below : ℤ → ℤ → Bool
is_below (pos a) (pos b) = nat_lt a b
is_below (pos a) (negsuc b) = false
is_below (negsuc a) (pos b) = true
is_below (negsuc a) (negsuc b) = nat_lt b a

-- the number with this magnitude, below 0 where it is negative
abbrev pub signed : Bool → ℕ → ℤ
signed false n = pos n
signed true n = neg_ℤ (pos n)

-- whether two numbers stand on two sides of 0
abbrev pub differ_in_sign : Bool → Bool → Bool
differ_in_sign true negative = not negative
differ_in_sign false negative = negative

-- a whole quotient and a remainder, by the divisor's magnitude
abbrev pub quotient_by : ℕ → ℤ → ℤ → Result ℤ ArithmeticFault
quotient_by zero a b = Err ZeroDivisor
quotient_by (suc n) a b = Ok (signed (differ_in_sign (is_negative a) (is_negative b)) (magnitude a / suc n))

abbrev pub remainder_by : ℕ → ℤ → Result ℤ ArithmeticFault
remainder_by zero a = Err ZeroDivisor
remainder_by (suc n) a = Ok (signed (is_negative a) (magnitude a % suc n))

-- the whole quotient of two values, cut off towards zero, and what remains of it: it has the dividend's sign
abbrev pub quotient_of : ℤ → ℤ → Result ℤ ArithmeticFault
quotient_of a b = quotient_by (magnitude b) a b

abbrev pub remainder_of : ℤ → ℤ → Result ℤ ArithmeticFault
remainder_of a b = remainder_by (magnitude b) a
