-- A model as it is read: its lines, and the statements of those that have one. (Our own: line ends, numbers of lines.)
use Rattle.std.specs.Prelude.{ℕ, ◌+◌, ◌==◌, ◌&&◌, Bool, false, List, [], ◌∷◌, ◌++◌, Option, Some, None, Result, Ok, Err, option_map, if◌then◌else◌}
use Rattle.gw_meaning.specs.declared.statement.Statement.{Statement}
use Rattle.gw_lines.specs.declared.fault.LineFault.{LineFault}
use Rattle.gw_lines.specs.declared.fault.LineFault.TheVariants as faults
use Rattle.gw_lines.specs.declared.fault.FaultyLine.{FaultyLine}
use Rattle.gw_lines.specs.declared.model.Unfinished.{Unfinished}
use Rattle.gw_lines.specs.Reading.{◌>>=◌}
use Rattle.gw_lines.specs.Classes.{with_byte}
use Rattle.gw_lines.specs.Lines.{line_of}
use Rattle.gw_lines.specs.Pairs.{wants_pairs, further_of}

abbrev pub begins_line_feed : List ℕ → Bool
begins_line_feed [] = false
begins_line_feed (b ∷ bs) = b == 10

-- the lines of a text: a line feed ends a line, a carriage return right before one is dropped, and the last line may
-- lack it
abbrev pub lines_of : List ℕ → List (List ℕ)
lines_of [] = []
lines_of (b ∷ bs) = if b == 10 then [] ∷ lines_of bs
    else (if b == 13 && begins_line_feed bs then lines_of bs else with_byte b (lines_of bs))

-- a line without the carriage return at its end
abbrev pub chomped : List ℕ → List ℕ
chomped [] = []
chomped (b ∷ []) = if b == 13 then [] else b ∷ []
chomped (b ∷ c ∷ bs) = b ∷ chomped (c ∷ bs)

-- a fault with the number of its line
abbrev pub numbered : {X : Type 0} → ℕ → Result X LineFault → Result X FaultyLine
numbered line (Ok x) = Ok x
numbered line (Err f) = Err (record { line = line; fault = f })

-- the statement that stands after a line: that of the line, or the one under way with the line's pairs
abbrev pub with_line : Option Unfinished → ℕ → List ℕ → Result (Option Unfinished) FaultyLine
with_line None number line = do
  statement ← numbered number (line_of line)
  Ok (option_map (λ s. record { line = number; statement = s }) statement)
with_line (Some under) number line = do
  statement ← numbered number (further_of under.statement line)
  Ok (Some (record { line = under.line; statement = statement }))

-- the statement that is done, if it wants no pairs
abbrev pub done_of : Option Unfinished → List Statement
done_of None = []
done_of (Some under) = if wants_pairs under.statement then [] else under.statement ∷ []

-- the statement that is still under way: it wants pairs
abbrev pub under_way : Option Unfinished → Option Unfinished
under_way None = None
under_way (Some under) = if wants_pairs under.statement then Some under else None

-- statements at the end: a statement that is under way still wants pairs, which is the fault of its own line
abbrev pub ended : Option Unfinished → List Statement → Result (List Statement) FaultyLine
ended None statements = Ok statements
ended (Some under) statements = Err (record { line = under.line; fault = faults.BadPairs })

-- the statements of lines, the first of which has this number, after the one that is under way
abbrev pub statements_of : Option Unfinished → ℕ → List (List ℕ) → Result (List Statement) FaultyLine
statements_of under number [] = ended under []
statements_of under number (line ∷ lines) = do
  here ← with_line under number line
  others ← statements_of (under_way here) (number + 1) lines
  Ok (done_of here ++ others)

-- the statements of a model
unfoldable pub model_of : List ℕ → Result (List Statement) FaultyLine
model_of bytes = statements_of None 1 (lines_of bytes)
