-- A line as it is read: comment, number, label, verb, operator, operands. (Manual: free format. Our own: the length,
-- the order of faults.)
use Rattle.std.specs.Prelude.{ℕ, ◌==◌, Bool, true, false, ◌||◌, List, [], ◌∷◌, ◌++◌, length, Option, Some, None, Result, Ok, Err, is_some, if◌then◌else◌, nat_lt}
use Rattle.gw_names.specs.declared.verb.Verb.{Verb}
use Rattle.gw_names.specs.declared.verb.Verb.TheVariants as verbs
use Rattle.gw_names.specs.Words.{verb_of, upper_of}
use Rattle.gw_names.specs.Names.{name_of}
use Rattle.gw_meaning.specs.declared.statement.Statement.{Statement}
use Rattle.gw_lines.specs.declared.class.Class.TheVariants as class
use Rattle.gw_lines.specs.declared.fault.LineFault.{LineFault}
use Rattle.gw_lines.specs.declared.fault.LineFault.TheVariants as faults
use Rattle.gw_lines.specs.Reading.{◌>>=◌}
use Rattle.gw_lines.specs.Classes.{front_of, rest_of, word_of, behind_word, is_nothing, are_plain}
use Rattle.gw_lines.specs.Forms.{forms_of_definition}
use Rattle.gw_lines.specs.Listed.{behind_text, listed_of}
use Rattle.gw_lines.specs.Auxiliaries.{takes_operator}
use Rattle.gw_lines.specs.Bodies.{body_of}

-- the verb that a word is in any case, if it is one
abbrev pub verb_in : List ℕ → Option Verb
verb_in word = verb_of (upper_of word)

-- a command has no label
abbrev pub is_command : Verb → Bool
is_command (verbs.Command command) = true
is_command verb = false

-- a definition has a label
abbrev pub needs_label : Verb → Bool
needs_label (verbs.Definition verb) = is_some (forms_of_definition verb)
needs_label verb = false

abbrev pub or_bad_label : Option (List ℕ) → Result (List ℕ) LineFault
or_bad_label None = Err faults.BadLabel
or_bad_label (Some name) = Ok name

-- the label that a word is before a verb
unfoldable pub label_of : Verb → List ℕ → Result (List ℕ) LineFault
label_of verb word = if is_command verb then Err faults.BadLabel else or_bad_label (name_of word)

-- no label, where the verb needs none
unfoldable pub no_label_of : Verb → Result (Unit {0}) LineFault
no_label_of verb = if needs_label verb then Err faults.BadLabel else Ok tt

-- a text of plain bytes
abbrev pub plain_of : List ℕ → Result (List ℕ) LineFault
plain_of text = if are_plain text then Ok text else Err faults.BadByte

-- an operand list alone, in upper case
unfoldable pub operands_of : List ℕ → Result (List ℕ) LineFault
operands_of bytes = plain_of (upper_of (listed_of true 0 bytes))

-- an operator and the operand list after it, with one blank between
abbrev pub kept_with_operator : List ℕ → List ℕ
kept_with_operator bytes = word_of bytes ++ behind_text (listed_of true 0 (behind_word bytes))

-- what is kept of what stands after a verb and its blanks
abbrev pub kept_behind : Verb → List ℕ → List ℕ
kept_behind verb bytes = if takes_operator verb then kept_with_operator bytes else listed_of true 0 bytes

-- the operands of a verb, and its operator before them, in upper case
unfoldable pub operands_behind : Verb → List ℕ → Result (List ℕ) LineFault
operands_behind verb bytes = plain_of (upper_of (kept_behind verb bytes))

-- a statement that begins with its verb: the verb, and what follows its blanks
unfoldable pub unlabelled_of : Verb → List ℕ → Result Statement LineFault
unlabelled_of verb bytes = do
  operands ← operands_behind verb bytes
  free ← no_label_of verb
  body ← body_of verb operands
  Ok (record { label = None; body = body; operands = operands })

-- a statement with a label
unfoldable pub labelled_of : List ℕ → Verb → List ℕ → Result Statement LineFault
labelled_of word verb bytes = do
  plain ← plain_of word
  operands ← operands_behind verb bytes
  label ← label_of verb word
  body ← body_of verb operands
  Ok (record { label = Some label; body = body; operands = operands })

-- the fault of a line with no verb among its first two words
unfoldable pub fault_without_verb : List ℕ → List ℕ → List ℕ → LineFault
fault_without_verb code first second =
    if are_plain code then (if is_nothing second || is_some (name_of first) then faults.UnknownVerb
    else faults.BadLabel) else faults.BadByte

abbrev pub by_second : Option Verb → List ℕ → Result Statement LineFault
by_second (Some verb) code = labelled_of (word_of code) verb (behind_word (behind_word code))
by_second None code = Err (fault_without_verb code (word_of code) (word_of (behind_word code)))

abbrev pub by_first : Option Verb → List ℕ → Result Statement LineFault
by_first (Some verb) code = unlabelled_of verb (behind_word code)
by_first None code = by_second (verb_in (word_of (behind_word code))) code

-- the statement that code spells: by the first of its two words that is a verb
unfoldable pub coded_of : List ℕ → Result Statement LineFault
coded_of code = by_first (verb_in (word_of code)) code

-- what follows a line number, if there is one
unfoldable pub behind_number : List ℕ → List ℕ
behind_number code =
    if is_nothing (front_of class.Digit code) || is_nothing (front_of class.Blank (rest_of class.Digit code)) then code
    else rest_of class.Blank (rest_of class.Digit code)

-- a line without the blanks before it and the comment after its `;`
unfoldable pub code_of : List ℕ → List ℕ
code_of line = front_of class.Code (rest_of class.Blank line)

-- whether there is no statement: nothing, or a comment
abbrev pub is_remark : List ℕ → Bool
is_remark [] = true
is_remark (b ∷ bs) = b == 42

-- the statement of a line that is not too long, if it is no comment
unfoldable pub line_in : List ℕ → Result (Option Statement) LineFault
line_in code = if is_remark code then Ok None else (do
  statement ← coded_of (behind_number code)
  Ok (Some statement))

-- the statement of a line, if it has one
unfoldable pub line_of : List ℕ → Result (Option Statement) LineFault
line_of line = if nat_lt 250 (length line) then Err faults.TooLong else line_in (code_of line)

abbrev pub wanted : Option Statement → Result Statement LineFault
wanted None = Err faults.UnknownVerb
wanted (Some statement) = Ok statement

-- the statement that a text is
unfoldable pub statement_of : List ℕ → Result Statement LineFault
statement_of text = do
  statement ← line_of text
  wanted statement
