-- The first fault of a line: a relation by cases, each of which says that all before the fault is right. (Our own.)
use Rattle.std.specs.Prelude.{ℕ, ◌+◌, ◌<◌, ◌≤◌, ◌≡◌, ◌≢◌, ◌⊎◌, true, false, List, [], ◌∷◌, ◌++◌, length, Bool, Option, Some, None, IsSome, if◌then◌else◌}
use Rattle.gw_names.specs.declared.verb.Verb.{Verb}
use Rattle.gw_names.specs.Words.{upper_of}
use Rattle.gw_names.specs.Names.{name_of}
use Rattle.gw_lines.specs.declared.class.Class.TheVariants as class
use Rattle.gw_lines.specs.declared.fault.LineFault.{LineFault}
use Rattle.gw_lines.specs.declared.fault.LineFault.TheVariants as faults
use Rattle.gw_lines.specs.declared.form.Kind.{Kind}
use Rattle.gw_lines.specs.declared.form.Form.{Form}
use Rattle.gw_lines.specs.declared.operand.Operand.{Operand}
use Rattle.gw_lines.specs.Reading.{OrMemory}
use Rattle.gw_lines.specs.Classes.{are_plain}
use Rattle.gw_lines.specs.Forms.{forms_of, lacks, is_listed}
use Rattle.gw_lines.specs.Fields.{misfits}
use Rattle.gw_meaning.specs.declared.auxiliary.Auxiliary.{Auxiliary}
use Rattle.gw_lines.specs.Auxiliaries.{takes_operator, auxiliary_of, bare_parts}
use Rattle.gw_lines.specs.Parts.{goes_on, part_of, is_given, others_of, is_missing}
use Rattle.gw_lines.specs.Lines.{verb_in, is_command, needs_label, is_remark}
use Rattle.gw_lines.specs.Spelling.{AreIn, Stops, SpellsOperand, SpellsAll, Head, Label, ArePlain, Cut, HasWords}

-- a text that spells an operand of the kind, or an absent one
abbrev pub Lawful : Kind → List ℕ → Type 0
Lawful kind text = (o : Option Operand) × SpellsOperand kind text o

-- the number of the first part that is not lawful, where the first of them has the number n
pub data FirstBad : ℕ → List Form → List (List ℕ) → ℕ → Type 0 where
  bad_here : (n : ℕ) (form : Form) (forms : List Form) (parts : List (List ℕ))
      → (Lawful form.kind (part_of parts) → ⊥) → FirstBad n (form ∷ forms) parts n
  bad_later : (n : ℕ) (form : Form) (forms : List Form) (parts : List (List ℕ)) (m : ℕ)
      → Lawful form.kind (part_of parts) → FirstBad (n + 1) forms (others_of parts) m
      → FirstBad n (form ∷ forms) parts m

-- each part that has a form is lawful
abbrev pub AllLawful : List Form → List (List ℕ) → Type 0
AllLawful [] parts = Unit {0}
AllLawful (form ∷ forms) parts = Lawful form.kind (part_of parts) × AllLawful forms (others_of parts)

-- the operands that they spell, each where it is listed
abbrev pub operand_if : Bool → Option Operand → List (Option Operand)
operand_if listed o = if listed then o ∷ [] else []

abbrev pub lawful_operands : (forms : List Form) (parts : List (List ℕ)) → AllLawful forms parts → List (Option Operand)
lawful_operands [] parts all = []
lawful_operands (form ∷ forms) parts all =
    operand_if (is_listed form.presence (goes_on parts)) all.0.0 ++ lawful_operands forms (others_of parts) all.1

-- the number of the first part that is required and empty, where the first of them has the number n
pub data FirstMissing : ℕ → List Form → List (List ℕ) → ℕ → Type 0 where
  missing_here : (n : ℕ) (form : Form) (forms : List Form) (parts : List (List ℕ))
      → is_missing form (part_of parts) ≡ true → FirstMissing n (form ∷ forms) parts n
  missing_later : (n : ℕ) (form : Form) (forms : List Form) (parts : List (List ℕ)) (m : ℕ)
      → is_missing form (part_of parts) ≡ false → FirstMissing (n + 1) forms (others_of parts) m
      → FirstMissing n (form ∷ forms) parts m

-- the first fault of the parts of a verb's list: one that is not lawful, the fourth where it does not go with those
-- before it, one too many, one that is missing
pub data FaultOfAll : Verb → List Form → List (List ℕ) → LineFault → Type 0 where
  bad_operand : (verb : Verb) (forms : List Form) (parts : List (List ℕ)) (n : ℕ)
      → FirstBad 1 forms parts n → FaultOfAll verb forms parts (faults.BadOperand n)
  misfit : (verb : Verb) (forms : List Form) (parts : List (List ℕ)) (all : AllLawful forms parts)
      → misfits verb (lawful_operands forms parts all) ≡ true → FaultOfAll verb forms parts (faults.BadOperand 4)
  extra_operand : (verb : Verb) (forms : List Form) (parts : List (List ℕ)) (all : AllLawful forms parts)
      → misfits verb (lawful_operands forms parts all) ≡ false → length forms < length parts
      → FaultOfAll verb forms parts (faults.ExtraOperand (length forms + 1))
  missing_operand : (verb : Verb) (forms : List Form) (parts : List (List ℕ)) (n : ℕ) (all : AllLawful forms parts)
      → misfits verb (lawful_operands forms parts all) ≡ false → length parts ≤ length forms
      → FirstMissing 1 forms parts n → FaultOfAll verb forms parts (faults.MissingOperand n)

-- the first fault of a verb's operands: that of their list, or they lack one though none of them is required
pub data OperandFault : Verb → Auxiliary → List (List ℕ) → LineFault → Type 0 where
  in_list : (verb : Verb) (beside : Auxiliary) (forms : List Form) (parts : List (List ℕ)) (f : LineFault)
      → forms_of verb beside (is_given parts) ≡ Some forms → FaultOfAll verb forms parts f
      → OperandFault verb beside parts f
  lacking : (verb : Verb) (beside : Auxiliary) (forms : List Form) (parts : List (List ℕ)) (os : List (Option Operand))
      → forms_of verb beside (is_given parts) ≡ Some forms → SpellsAll forms parts os → misfits verb os ≡ false
      → lacks verb os ≡ true → OperandFault verb beside parts (faults.MissingOperand 1)

-- the first fault of what is kept after a verb: that of its operator, which is operand 0, then that of its operands
pub data BodyFault : Verb → List ℕ → LineFault → Type 0 where
  no_operator : (verb : Verb) → takes_operator verb ≡ true → BodyFault verb [] (faults.MissingOperand 0)
  bad_operator : (verb : Verb) (text : List ℕ) → text ≢ [] → auxiliary_of verb text ≡ None
      → BodyFault verb text (faults.BadOperand 0)
  verb_to_come : (verb : Verb) (text : List ℕ) (beside : Auxiliary) → auxiliary_of verb text ≡ Some beside
      → forms_of verb beside (is_given (bare_parts verb text)) ≡ None → BodyFault verb text faults.UnknownVerb
  operand_fault : (verb : Verb) (text : List ℕ) (f : LineFault) (beside : Auxiliary)
      → auxiliary_of verb text ≡ Some beside → OperandFault verb beside (bare_parts verb text) f → BodyFault verb text f

-- words whose first two are no verbs: the first, and the second or nothing
pub data Verbless : List ℕ → List ℕ → List ℕ → Type 0 where
  one_word : (first blanks : List ℕ) → AreIn class.Mark first → verb_in first ≡ None → AreIn class.Blank blanks
      → Verbless (first ++ blanks) first []
  two_words : (first blanks second rest : List ℕ) → AreIn class.Mark first → verb_in first ≡ None
      → AreIn class.Blank blanks → blanks ≢ [] → AreIn class.Mark second → second ≢ [] → verb_in second ≡ None
      → Stops class.Mark rest → Verbless (first ++ (blanks ++ (second ++ rest))) first second

-- the first fault of the words of a line
pub data WordsFault : List ℕ → LineFault → Type 0 where
  byte_with_verb : (words : List ℕ) (word : Option (List ℕ)) (verb : Verb) (kept : List ℕ) → Head words word verb kept
      → (ArePlain word kept → ⊥) → WordsFault words faults.BadByte
  byte_without_verb : (words first second : List ℕ) → Verbless words first second → are_plain words ≡ false
      → WordsFault words faults.BadByte
  no_verb : (words first second : List ℕ) → Verbless words first second → are_plain words ≡ true → (second ≡ [])
      ⊎ IsSome (name_of first) → WordsFault words faults.UnknownVerb
  bad_first_word : (words first second : List ℕ) → Verbless words first second → are_plain words ≡ true → second ≢ []
      → name_of first ≡ None → WordsFault words faults.BadLabel
  bad_label : (words word : List ℕ) (verb : Verb) (kept : List ℕ) → Head words (Some word) verb kept
      → ArePlain (Some word) kept → (is_command verb ≡ true) ⊎ (name_of word ≡ None) → WordsFault words faults.BadLabel
  lacks_label : (words : List ℕ) (verb : Verb) (kept : List ℕ) → Head words None verb kept → ArePlain None kept
      → needs_label verb ≡ true → WordsFault words faults.BadLabel
  faulty_body : (words : List ℕ) (word : Option (List ℕ)) (verb : Verb) (kept : List ℕ) (label : Option (List ℕ))
      (f : LineFault)
      → Head words word verb kept → ArePlain word kept → Label word verb label
      → BodyFault verb (upper_of kept) f → WordsFault words f

-- the first fault of a line
pub data FirstFault : List ℕ → LineFault → Type 0 where
  too_long : (text : List ℕ) → 250 < length text → FirstFault text faults.TooLong
  no_statement : (text code : List ℕ) → Cut text code → is_remark code ≡ true → FirstFault text faults.UnknownVerb
  in_words : (text words : List ℕ) (f : LineFault) → HasWords text words → WordsFault words f → FirstFault text f

-- a fault that was answered is the first one, or out of memory
abbrev pub Answers : List ℕ → LineFault → Type 0
Answers text f = OrMemory f (FirstFault text f)
