-- Numbers in a script. (Our own: a number has 1 to 18 digits.)
use Rattle.std.specs.Prelude.{ℕ, ◌+◌, ◌-◌, ◌*◌, not, ◌==◌, ◌||◌, List, [], ◌∷◌, Option, Some, None, option_and_then, if◌then◌else◌, length, nat_lt}
use Rattle.std.specs.List.{list_all}
use Rattle.std.specs.Char.{is_ascii_digit}
use Rattle.gw_request.specs.Words.{cut}

-- what follows where there is something, for `do`
infixl 10 ◌>>=◌
abbrev pub ◌>>=◌ : {A B : Type 0} → Option A → (A → Option B) → Option B
o >>= f = option_and_then f o

-- digits read after a number
abbrev pub value_of : ℕ → List ℕ → ℕ
value_of n [] = n
value_of n (b ∷ bs) = value_of (n * 10 + (b - 48)) bs

-- the number that a word is: 1 to 18 digits
abbrev pub number_of : List ℕ → Option ℕ
number_of word =
    if length word == 0 || (nat_lt 18 (length word) || not (list_all is_ascii_digit word))
    then None
    else Some (value_of 0 word)

-- the number that the first word is, and what stands after its blank
abbrev pub next_number : List ℕ → Option (ℕ × List ℕ)
next_number words = do
  p ← cut words
  n ← number_of p.0
  Some (n, p.1)
