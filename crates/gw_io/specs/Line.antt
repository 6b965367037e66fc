-- What a line is, and what reading one takes.
use Rattle.std.specs.Prelude.{◌≢◌, ◌==◌, ℕ, ◌+◌, ◌-◌, List, [], ◌∷◌, ◌++◌, length, take, slice_index, All, if◌then◌else◌}
use Rattle.gw_io.specs.declared.line.Line.{Line}
use Rattle.gw_io.specs.declared.line.Line.TheVariants.{Whole, Last, End}

-- bytes with no line feed among them
abbrev pub IsUnended : List ℕ → Type 0
IsUnended bytes = All (λ b. b ≢ 10) bytes

-- the bytes that a line takes from the input
abbrev pub bytes_of : Line → List ℕ
bytes_of (Whole line) = line.items ++ 10 ∷ []
bytes_of (Last line) = line.items
bytes_of End = []

-- the calls of read that a line takes: one for each byte, and one that finds the end
abbrev pub calls_of : Line → ℕ
calls_of (Whole line) = length line.items + 1
calls_of (Last line) = length line.items + 1
calls_of End = 1

-- what a line says of its bytes, and of the source after it: whether its input ended there
abbrev pub IsLineAt : Type 0 → Line → Type 0
IsLineAt ended (Whole line) = IsUnended line.items
IsLineAt ended (Last line) = IsUnended line.items × (line.items ≢ []) × ended
IsLineAt ended End = ended

-- a line without one carriage return at its very end
abbrev pub without_cr_of : List ℕ → List ℕ
without_cr_of line = if slice_index line (length line - 1) == 13 then take (length line - 1) line else line
