-- Classes of bytes, and what stands at the front of a text. (Manual: blanks, words, operands, comments. Our own: a tab
-- is a blank.)
use Rattle.std.specs.Prelude.{ℕ, Bool, ◌==◌, ◌||◌, not, List, [], ◌∷◌, length, take, drop, nat_lt, if◌then◌else◌}
use Rattle.std.specs.List.{prefix_len, list_all}
use Rattle.std.specs.Char.{is_ascii_digit}
use Rattle.gw_lines.specs.declared.class.Class.{Class}
use Rattle.gw_lines.specs.declared.class.Class.TheVariants as class

abbrev pub is_blank : ℕ → Bool
is_blank b = b == 32 || b == 9

-- whether a byte is of a class
abbrev pub is_in : Class → ℕ → Bool
is_in class.Blank b = is_blank b
is_in class.Mark b = not (is_blank b)
is_in class.Digit b = is_ascii_digit b
is_in class.Operand b = not (b == 44)
is_in class.Code b = not (b == 59)
is_in class.Line b = not (b == 10)
is_in class.Part b = not (b == 124)
is_in class.Whole b = not (b == 46)
is_in class.Pair b = not (b == 47)

-- what stands at the front, of one class
abbrev pub front_of : Class → List ℕ → List ℕ
front_of class bytes = take (prefix_len (is_in class) bytes) bytes

-- what is left after it
abbrev pub rest_of : Class → List ℕ → List ℕ
rest_of class bytes = drop (prefix_len (is_in class) bytes) bytes

-- the word at the front, and what follows it and its blanks
abbrev pub word_of : List ℕ → List ℕ
word_of bytes = front_of class.Mark bytes

abbrev pub behind_word : List ℕ → List ℕ
behind_word bytes = rest_of class.Blank (rest_of class.Mark bytes)

-- what follows the first byte
abbrev pub tail_of : List ℕ → List ℕ
tail_of [] = []
tail_of (b ∷ bs) = bs

abbrev pub is_nothing : List ℕ → Bool
is_nothing bytes = length bytes == 0

-- a byte that may stand outside comments
abbrev pub is_plain : ℕ → Bool
is_plain b = nat_lt b 128

abbrev pub are_plain : List ℕ → Bool
are_plain bytes = list_all is_plain bytes

-- a byte before the first of lines or parts
abbrev pub with_byte : ℕ → List (List ℕ) → List (List ℕ)
with_byte b [] = (b ∷ []) ∷ []
with_byte b (line ∷ lines) = (b ∷ line) ∷ lines

-- the pieces of a text: a byte that is not of the class ends one, and the last may lack it
abbrev pub pieces_of : Class → List ℕ → List (List ℕ)
pieces_of class [] = []
pieces_of class (b ∷ bs) = if is_in class b then with_byte b (pieces_of class bs) else [] ∷ pieces_of class bs
