-- A statement as the text of an edit, in which `|` ends a line. (Our own.)
use Rattle.std.specs.Prelude.{ℕ, ◌==◌, ◌<◌, ◌≤◌, ◌≡◌, ◌⊎◌, Bool, true, false, List, [], ◌∷◌, length, Option, Some, None, Result, Ok, Err, if◌then◌else◌, nat_lt, All, Any}
use Rattle.gw_names.specs.declared.verb.DefinitionVerb.TheVariants as definition_verbs
use Rattle.gw_names.specs.declared.verb.Verb.{Verb}
use Rattle.gw_names.specs.declared.verb.Verb.TheVariants as verbs
use Rattle.gw_meaning.specs.declared.statement.Statement.{Statement}
use Rattle.gw_lines.specs.declared.class.Class.TheVariants as class
use Rattle.gw_lines.specs.declared.fault.LineFault.{LineFault}
use Rattle.gw_lines.specs.declared.fault.LineFault.TheVariants as faults
use Rattle.gw_lines.specs.Reading.{◌>>=◌, OrMemory}
use Rattle.gw_lines.specs.Lines.{verb_in, behind_number, code_of, statement_of}
use Rattle.gw_lines.specs.Pairs.{wants_pairs, kept_of, further_of, open_lines}
use Rattle.gw_lines.specs.Classes.{word_of, behind_word, are_plain, pieces_of}
use Rattle.gw_lines.specs.Spelling.{Spells}
use Rattle.gw_lines.specs.Faulty.{FirstFault}
use Rattle.gw_lines.specs.Points.{HasText, Completes, MayBePairs, SpellsLines}

-- the lines of an edit's text: `|` ends a line, and the last line may lack it
abbrev pub edit_lines : List ℕ → List (List ℕ)
edit_lines text = pieces_of class.Part text

-- the first verb of two words
abbrev pub or_verb : Option Verb → Option Verb → Option Verb
or_verb None second = second
or_verb (Some verb) second = Some verb

abbrev pub verb_of_words : List ℕ → Option Verb
verb_of_words words = or_verb (verb_in (word_of words)) (verb_in (word_of (behind_word words)))

abbrev pub is_function : Option Verb → Bool
is_function (Some (verbs.Definition definition_verbs.Function)) = true
is_function verb = false

-- whether a line's verb is FUNCTION
abbrev pub names_function : List ℕ → Bool
names_function line = is_function (verb_of_words (behind_number (code_of line)))

-- ---- what is spelled, apart from how it is read

-- an edit's text spells a statement by its lines
abbrev pub SpellsEdit : List ℕ → Statement → Type 0
SpellsEdit text s = SpellsLines (edit_lines text) s

-- a further line has a byte of 128 or more outside its comment
abbrev pub HasWrongText : List ℕ → Type 0
HasWrongText line = (text : List ℕ) × HasText line text × (are_plain text ≡ false)

-- a line has a wrong byte outside its comment: the first one as a statement's line, a further one as a line of pairs
pub data HasWrongByte : List (List ℕ) → Type 0 where
  in_first_line : (line : List ℕ) (further : List (List ℕ)) → FirstFault line faults.BadByte
      → HasWrongByte (line ∷ further)
  in_further_line : (line : List ℕ) (further : List (List ℕ)) → Any HasWrongText further
      → HasWrongByte (line ∷ further)

-- no line is too long, and none has a wrong byte
pub record AreClean (lines : List (List ℕ)) : Type 0 where
  pub short : All (λ line. length line ≤ 250) lines
  pub plain : HasWrongByte lines → ⊥

-- whether an operand is missing, which comes last of all
abbrev pub is_missing : LineFault → Bool
is_missing (faults.MissingOperand n) = true
is_missing f = false

-- whether a line's missing operand is the fault: no further line stands after it, or its verb is FUNCTION and those
-- after it may be pairs
pub data MayMiss : List ℕ → List (List ℕ) → Type 0 where
  no_further : (line : List ℕ) → MayMiss line []
  pairs_behind : (line : List ℕ) (further : List (List ℕ)) → names_function line ≡ true → MayBePairs further
      → MayMiss line further

-- the first fault of lines: length and bytes of any line, then the first line from left to right, then pairs that are
-- bad or missing, and further lines that no statement wants, then a missing operand. After a FUNCTION that misses one,
-- pairs are bad where they would be with any count
pub data FaultOfLines : List (List ℕ) → LineFault → Type 0 where
  no_line : FaultOfLines [] faults.UnknownVerb
  long_line : (lines : List (List ℕ)) → Any (λ line. 250 < length line) lines → FaultOfLines lines faults.TooLong
  wrong_byte : (lines : List (List ℕ)) → All (λ line. length line ≤ 250) lines → HasWrongByte lines
      → FaultOfLines lines faults.BadByte
  in_first : (line : List ℕ) (further : List (List ℕ)) (f : LineFault) → AreClean (line ∷ further) → FirstFault line f
      → (is_missing f ≡ false) ⊎ MayMiss line further → FaultOfLines (line ∷ further) f
  not_wanted : (line : List ℕ) (further : List (List ℕ)) (n : ℕ) → AreClean (line ∷ further)
      → FirstFault line (faults.MissingOperand n) → (MayMiss line further → ⊥)
      → FaultOfLines (line ∷ further) faults.BadPairs
  bad_pairs : (line : List ℕ) (further : List (List ℕ)) (s : Statement) → AreClean (line ∷ further) → Spells line s
      → ((t : Statement) → Completes s further t → ⊥) → FaultOfLines (line ∷ further) faults.BadPairs

-- the first fault of an edit's text
abbrev pub FirstFaultOfEdit : List ℕ → LineFault → Type 0
FirstFaultOfEdit text f = FaultOfLines (edit_lines text) f

-- a fault that was answered is the first one, or out of memory
abbrev pub AnswersEdit : List ℕ → LineFault → Type 0
AnswersEdit text f = OrMemory f (FirstFaultOfEdit text f)

-- ---- as it is read

-- the fault of a line that is too long, if there is one
abbrev pub short_lines : List (List ℕ) → Result (Unit {0}) LineFault
short_lines [] = Ok tt
short_lines (line ∷ lines) = if nat_lt 250 (length line) then Err faults.TooLong else short_lines lines

-- of what a line gives, a wrong byte alone
abbrev pub byte_fault : {X : Type 0} → Result X LineFault → Result (Unit {0}) LineFault
byte_fault (Err faults.BadByte) = Err faults.BadByte
byte_fault read = Ok tt

-- the fault of a further line that has a wrong byte, if there is one
abbrev pub plain_further : List (List ℕ) → Result (Unit {0}) LineFault
plain_further [] = Ok tt
plain_further (line ∷ lines) = do
  plain ← byte_fault (kept_of line)
  plain_further lines

-- the same of the lines after the first, which tells its own as it is read
abbrev pub plain_behind : List (List ℕ) → Result (Unit {0}) LineFault
plain_behind [] = Ok tt
plain_behind (line ∷ further) = plain_further further

-- a statement with the pairs of further lines, each of which it wants, and those alone
abbrev pub completed_by : Statement → List (List ℕ) → Result Statement LineFault
completed_by s [] = if wants_pairs s then Err faults.BadPairs else Ok s
completed_by s (line ∷ lines) = if wants_pairs s then (do
  more ← further_of s line
  completed_by more lines) else Err faults.BadPairs

-- the fault of further lines after one that misses an operand, if they have one
abbrev pub may_miss : List ℕ → List (List ℕ) → Result (Unit {0}) LineFault
may_miss line further = if length further == 0 then Ok tt
    else (if names_function line then open_lines [] further else Err faults.BadPairs)

-- the fault of the first line: a missing operand comes last, after that of further lines
abbrev pub followed : Result (Unit {0}) LineFault → LineFault → LineFault
followed (Err bad) (faults.MissingOperand n) = bad
followed may_miss f = f

-- what the first line gives, with those after it
abbrev pub behind_first : List ℕ → List (List ℕ) → Result Statement LineFault → Result Statement LineFault
behind_first line further (Ok s) = completed_by s further
behind_first line further (Err f) = Err (followed (may_miss line further) f)

-- the statement that clean lines are
abbrev pub first_of : List (List ℕ) → Result Statement LineFault
first_of [] = Err faults.UnknownVerb
first_of (line ∷ further) = behind_first line further (statement_of line)

-- the statement that lines are
abbrev pub edit_in : List (List ℕ) → Result Statement LineFault
edit_in lines = do
  short ← short_lines lines
  plain ← plain_behind lines
  first_of lines

-- the statement that an edit's text is
unfoldable pub edit_of : List ℕ → Result Statement LineFault
edit_of text = edit_in (edit_lines text)
