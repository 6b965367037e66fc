-- Numbers as they are read, digit by digit. (Manual; the greatest number and a fraction's places are our own.)
use Rattle.std.specs.Prelude.{ℕ, ℤ, pos, neg_ℤ, ◌+◌, ◌-◌, ◌*◌, ◌==◌, ◌&&◌, not, Bool, List, [], ◌∷◌, length, drop, Option, Some, None, option_map, if◌then◌else◌, nat_le, nat_lt, codes}
use Rattle.std.specs.Char.{is_ascii_digit}
use Rattle.gw_lines.specs.declared.class.Class.TheVariants as class
use Rattle.gw_lines.specs.Classes.{front_of, rest_of, is_nothing, tail_of}

-- the number that digits spell after those of n, if it is at most `most`
abbrev pub number_after : ℕ → ℕ → List ℕ → Option ℕ
number_after most n [] = Some n
number_after most n (b ∷ bs) =
    if is_ascii_digit b
    then (if nat_le (n * 10 + (b - 48)) most then number_after most (n * 10 + (b - 48)) bs else None)
    else None

-- the number that a text spells
abbrev pub number_of : ℕ → List ℕ → Option ℕ
number_of most [] = None
number_of most (b ∷ bs) = number_after most 0 (b ∷ bs)

-- the value that a text spells: a number, with one `-` before it or none
abbrev pub value_of : List ℕ → Option ℤ
value_of [] = None
value_of (b ∷ bs) =
    if b == 45
    then option_map (λ n. neg_ℤ (pos n)) (number_of 1000000000 bs)
    else option_map pos (number_of 1000000000 (b ∷ bs))

-- a number from 1
abbrev pub from_one : Option ℕ → Option ℕ
from_one None = None
from_one (Some n) = if n == 0 then None else Some n

-- the number that digits spell after those of another
abbrev pub number_then : ℕ → Option ℕ → List ℕ → Option ℕ
number_then most None text = None
number_then most (Some n) text = number_after most n text

-- whether a text has a point, something else besides, and six places at most: what begins with the point is handed in,
-- and what stands after it
abbrev pub is_pointed : List ℕ → List ℕ → List ℕ → Bool
is_pointed text point decimals =
    not (is_nothing point) && (nat_lt 1 (length text) && nat_le (length decimals) 6)

-- the millionths that digits before and after a point spell: the digits with zeros after them, up to six places
abbrev pub millionths_of : ℕ → List ℕ → List ℕ → Option ℕ
millionths_of most whole decimals =
    number_then most (number_then most (number_after most 0 whole) decimals)
    (drop (length decimals) (codes "000000"))

-- the fraction that a text spells, in millionths, if it is at most `most`
abbrev pub fraction_of : ℕ → List ℕ → Option ℕ
fraction_of most text =
    if is_pointed text (rest_of class.Whole text) (tail_of (rest_of class.Whole text))
    then millionths_of most (front_of class.Whole text) (tail_of (rest_of class.Whole text))
    else None

abbrev pub or_pointed : Option ℕ → List ℕ → Option ℕ
or_pointed None text = fraction_of 1000000000000000 text
or_pointed (Some n) text = Some (n * 1000000)

-- the millionths that a text spells: a number, or one with a point
abbrev pub decimal_of : List ℕ → Option ℕ
decimal_of text = or_pointed (number_of 1000000000 text) text

-- the same with one `-` before it or none
abbrev pub coordinate_of : List ℕ → Option ℤ
coordinate_of [] = None
coordinate_of (b ∷ bs) =
    if b == 45
    then option_map (λ n. neg_ℤ (pos n)) (decimal_of bs)
    else option_map pos (decimal_of (b ∷ bs))
