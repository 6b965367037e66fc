-- How many numbers of a list are at most a limit, and how many lie in each class between limits. (Manual: the classes of
-- a table.)
use Rattle.std.specs.Prelude.{ℕ, zero, suc, ◌+◌, ◌<◌, ℤ, pos, ◌≤ℤ◌, Bool, true, not, ◌&&◌, List, Option, Some, None, length, map, get_or, count_by, int_le, FitsSigned}
use Rattle.std.specs.Int.{w32}
use Rattle.std.specs.List.{slice_get, range_with_len}

-- whether a number is at most a limit: each is, where there is none
abbrev pub is_up_to : Option ℤ → ℤ → Bool
is_up_to None z = true
is_up_to (Some limit) z = int_le z limit

-- whether it is above one: each is, where there is none
abbrev pub is_above : Option ℤ → ℤ → Bool
is_above None z = true
is_above (Some limit) z = not (int_le z limit)

abbrev pub count_at_most : ℤ → List ℤ → ℕ
count_at_most limit zs = count_by (λ z. int_le z limit) zs

-- the limit of a class, from 0, which the last class does not have; and that of the class before it, which the first one
-- does not have
abbrev pub upper : List ℤ → ℕ → Option ℤ
upper limits i = slice_get limits i

abbrev pub lower : List ℤ → ℕ → Option ℤ
lower limits zero = None
lower limits (suc i) = slice_get limits i

-- whether a number lies in a class
abbrev pub is_in : List ℤ → ℕ → ℤ → Bool
is_in limits i z = is_above (lower limits i) z && is_up_to (upper limits i) z

-- how many lie in each class: there is one class more than there are limits
abbrev pub class_counts : List ℤ → List ℤ → List ℕ
class_counts limits zs = map (λ i. count_by (is_in limits i) zs) (range_with_len 0 (length limits + 1))

-- no limit lies below the one before it
abbrev pub AreRising : List ℤ → Type 0
AreRising limits = (i : ℕ) → i + 1 < length limits → get_or limits i (pos 0) ≤ℤ get_or limits (i + 1) (pos 0)

-- each number fits into 32 bits with a sign
abbrev pub AllFit : List ℤ → Type 0
AllFit zs = (k : ℕ) → k < length zs → FitsSigned w32 (get_or zs k (pos 0))
