-- What a model spells, statement by statement, and its first faulty line: relations apart from how it is read. (Our
-- own: lines and their numbers.)
use Rattle.std.specs.Prelude.{ℕ, ◌+◌, List, [], ◌∷◌, ◌++◌, Option, Some, None}
use Rattle.gw_meaning.specs.declared.statement.Statement.{Statement}
use Rattle.gw_lines.specs.declared.fault.LineFault.{LineFault}
use Rattle.gw_lines.specs.declared.fault.LineFault.TheVariants as faults
use Rattle.gw_lines.specs.declared.fault.FaultyLine.{FaultyLine}
use Rattle.gw_lines.specs.declared.model.Unfinished.{Unfinished}
use Rattle.gw_lines.specs.Reading.{OrMemory}
use Rattle.gw_lines.specs.Models.{lines_of, under_way}
use Rattle.gw_lines.specs.Spelling.{Spells}
use Rattle.gw_lines.specs.Faulty.{FirstFault}
use Rattle.gw_lines.specs.Points.{IsRemark, SpellsLines, HasPairs, PairsFault}

-- the statements that lines spell, in order: each has its first line and those of its pairs
pub data OfLines : List (List ℕ) → List Statement → Type 0 where
  no_lines : OfLines [] []
  remark_line : (line : List ℕ) (lines : List (List ℕ)) (statements : List Statement) → IsRemark line
      → OfLines lines statements → OfLines (line ∷ lines) statements
  statement_lines : (own lines : List (List ℕ)) (s : Statement) (statements : List Statement)
      → SpellsLines own s → OfLines lines statements → OfLines (own ++ lines) (s ∷ statements)

-- a statement whose first line has this number is under way, if it wants pairs
abbrev pub begun : ℕ → Statement → Option Unfinished
begun number s = under_way (Some (record { line = number; statement = s }))

-- the first faulty one of lines, the first of which has this number, after the statement that is under way (where
-- there is one); where that wants pairs to the end, it is its own line
pub data FirstFaulty : Option Unfinished → ℕ → List (List ℕ) → FaultyLine → Type 0 where
  faulty_line : (n : ℕ) (line : List ℕ) (lines : List (List ℕ)) (f : LineFault) → (IsRemark line → ⊥)
      → FirstFault line f → FirstFaulty None n (line ∷ lines) (record { line = n; fault = f })
  behind_remark : (under : Option Unfinished) (n : ℕ) (line : List ℕ) (lines : List (List ℕ)) (e : FaultyLine)
      → IsRemark line → FirstFaulty (under_way under) (n + 1) lines e → FirstFaulty under n (line ∷ lines) e
  behind_statement : (n : ℕ) (line : List ℕ) (lines : List (List ℕ)) (s : Statement) (e : FaultyLine) → Spells line s
      → FirstFaulty (begun n s) (n + 1) lines e → FirstFaulty None n (line ∷ lines) e
  faulty_pairs : (under : Unfinished) (n : ℕ) (line : List ℕ) (lines : List (List ℕ)) (f : LineFault)
      → (IsRemark line → ⊥) → PairsFault under.statement line f
      → FirstFaulty (Some under) n (line ∷ lines) (record { line = n; fault = f })
  behind_pairs : (under : Unfinished) (n : ℕ) (line : List ℕ) (lines : List (List ℕ)) (s : Statement) (e : FaultyLine)
      → HasPairs under.statement line s → FirstFaulty (begun under.line s) (n + 1) lines e
      → FirstFaulty (Some under) n (line ∷ lines) e
  pairs_missing : (under : Unfinished) (n : ℕ)
      → FirstFaulty (Some under) n [] (record { line = under.line; fault = faults.BadPairs })

-- a model spells statements
abbrev pub SpellsModel : List ℕ → List Statement → Type 0
SpellsModel bytes statements = OfLines (lines_of bytes) statements

-- a model's first faulty line, with the first of its faults
abbrev pub FirstFaultOf : List ℕ → FaultyLine → Type 0
FirstFaultOf bytes e = FirstFaulty None 1 (lines_of bytes) e

-- a faulty line that was answered is the first one, or out of memory
abbrev pub AnswersAt : List ℕ → ℕ → LineFault → Type 0
AnswersAt bytes line f =
    OrMemory f (FirstFaultOf bytes (record { line = line; fault = f }))
