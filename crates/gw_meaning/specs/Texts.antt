-- A statement as `list` prints it. (Manual: label, verb, operands. Our own: upper case, one blank between.)
use Rattle.std.specs.Prelude.{ℕ, ◌+◌, List, [], ◌∷◌, ◌++◌, length, Option, Some, None, option_to_list}
use Rattle.std.specs.List.{join_with_byte}
use Rattle.gw_names.specs.Words.{word_of}
use Rattle.gw_meaning.specs.declared.statement.Statement.{Statement}
use Rattle.gw_meaning.specs.Statements.{verb_of_body}

-- the operands as a word of the text, where there are any
abbrev pub word_if_any : List ℕ → List (List ℕ)
word_if_any [] = []
word_if_any (b ∷ bs) = (b ∷ bs) ∷ []

-- the label, if there is one, the verb and the operands, if there are any
abbrev pub words_of : Statement → List (List ℕ)
words_of s = option_to_list s.label ++ word_of (verb_of_body s.body) ∷ word_if_any s.operands

-- the words with one blank between
abbrev pub text_of : Statement → List ℕ
text_of s = join_with_byte 32 (words_of s)

-- the bytes that a label and the blank after it take
abbrev pub label_room : Option (List ℕ) → ℕ
label_room None = 0
label_room (Some label) = length label + 1
