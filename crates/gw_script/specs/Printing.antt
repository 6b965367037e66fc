-- What `list` is answered, and that it shows the statements as the headline reads them. (The table of script lines.)
use Rattle.std.specs.Prelude.{ℕ, ◌≡◌, ◌+◌, List, [], ◌∷◌, ◌++◌, length, map, codes, decimal}
use Rattle.gw_meaning.specs.declared.statement.Statement.{Statement}
use Rattle.gw_meaning.specs.declared.statement.Numbered.{Numbered}
use Rattle.gw_meaning.specs.Texts.{text_of}
use Rattle.gw_lines.specs.Printed.{with_ends, listed_text}

-- a statement after its place
abbrev pub line_of : ℕ → Statement → List ℕ
line_of place statement = decimal place ++ codes " " ++ text_of statement ++ codes "\n"

-- statements after their places, the first of which stands at this one
abbrev pub lines_from : ℕ → List Numbered → List ℕ
lines_from place [] = []
lines_from place (line ∷ lines) = line_of place line.statement ++ lines_from (place + 1) lines

-- how many statements there are, and all of them
abbrev pub list_answer : List Numbered → List ℕ
list_answer lines = codes "list " ++ decimal (length lines) ++ codes "\n" ++ lines_from 1 lines

-- statements after their places, the first of which stands at this one, and the same without, where `|` ends a line
pub data ArePlaced : ℕ → List Statement → List ℕ → List ℕ → Type 0 where
  none : (place : ℕ) → ArePlaced place [] [] []
  more : (place : ℕ) (s : Statement) (statements : List Statement) (placed plain : List ℕ) →
      ArePlaced (place + 1) statements placed plain →
      ArePlaced place (s ∷ statements) (decimal place ++ codes " " ++ text_of s ++ codes "\n" ++ placed)
      (with_ends (text_of s) ++ 10 ∷ plain)

-- the statements, whatever their ids
abbrev pub statements_in : List Numbered → List Statement
statements_in lines = map (λ (line : Numbered). line.statement) lines

-- `list` shows how many statements there are, and each of them after its place, and no statement id: the lines that
-- the headline reads
pub record Shows (lines : List Numbered) : Type 0 where
  pub placed : List ℕ
  pub is : list_answer lines ≡ codes "list " ++ decimal (length (statements_in lines)) ++ codes "\n" ++ placed
  pub shows : ArePlaced 1 (statements_in lines) placed (listed_text (statements_in lines))

abbrev pub ListsShowStatements : Type 0
ListsShowStatements = (lines : List Numbered) → Shows lines
