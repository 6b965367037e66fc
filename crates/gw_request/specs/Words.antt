-- The words of a script line. (Our own: one blank or tab stands between two words.)
use Rattle.std.specs.Prelude.{ℕ, ◌+◌, Bool, ◌==◌, ◌||◌, List, Option, Some, None, take, drop, position}

-- a blank or a tab
abbrev pub is_blank : ℕ → Bool
is_blank b = b == 32 || b == 9

-- what stands before a place, and what stands after it
abbrev pub cut_at : List ℕ → Option ℕ → Option (List ℕ × List ℕ)
cut_at line None = None
cut_at line (Some i) = Some (take i line, drop (i + 1) line)

-- what stands before the first blank, and what stands after it
abbrev pub cut : List ℕ → Option (List ℕ × List ℕ)
cut line = cut_at line (position is_blank line)

-- the first word of a line that is cut so, and what stands after its blank, where it has one
abbrev pub word_at : List ℕ → Option (List ℕ × List ℕ) → List ℕ × Option (List ℕ)
word_at line None = (line, None)
word_at line (Some p) = (p.0, Some p.1)

-- the first word, and what stands after its blank, where it has one
abbrev pub first_word : List ℕ → List ℕ × Option (List ℕ)
first_word line = word_at line (cut line)
