-- The head of a name, by which most names are told apart at once, and its mark, by which they are spread. (Our own.)
use Rattle.std.specs.Prelude.{ℕ, ◌+◌, ◌*◌, ◌%◌, ◌^◌, zero, suc, List, [], ◌∷◌, slice_index}
use Rattle.std.specs.Int.{w64, from_be_bytes}

-- so many bytes of a text from an index on, with zeros after its end
abbrev pub bytes_from : List ℕ → ℕ → ℕ → List ℕ
bytes_from text i zero = []
bytes_from text i (suc n) = slice_index text i ∷ bytes_from text (suc i) n

-- the first eight bytes of a text as one number, the first byte the highest
unfoldable pub head_of : List ℕ → ℕ
head_of text = from_be_bytes w64 (bytes_from text 0 8)

-- the mark of a text after one with this mark
abbrev pub mark_from : ℕ → List ℕ → ℕ
mark_from mark [] = mark
mark_from mark (b ∷ bs) = mark_from ((mark * 31 % 2 ^ 64 + b) % 2 ^ 64) bs

-- a number by which names are spread: the bytes as digits to the base 31, in 64 bits
abbrev pub mark_of : List ℕ → ℕ
mark_of text = mark_from 0 text
