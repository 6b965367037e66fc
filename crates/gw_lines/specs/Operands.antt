-- Operands as they are read: each part of a list by its form. (Manual; the forms
-- of the profile.)
use Rattle.std.specs.Prelude.{ℕ, pos, ◌+◌, ◌==◌, Bool, List, [], ◌∷◌, ◌++◌, length, Option, Some, None, Result, Ok, Err, option_map, if◌then◌else◌, codes}
use Rattle.std.specs.Str.{bytes_eq}
use Rattle.gw_names.specs.declared.verb.Verb.{Verb}
use Rattle.gw_names.specs.Names.{name_of}
use Rattle.gw_expr.specs.declared.atom.Atom.{Atom}
use Rattle.gw_expr.specs.declared.atom.Atom.TheVariants as atoms
use Rattle.gw_expr.specs.declared.expr.Discipline.TheVariants as disciplines
use Rattle.gw_expr.specs.Term.{Term}
use Rattle.gw_expr.specs.declared.expr.Expr.TheVariants.{Value, Defined, Fraction, Label, Named, Order, Table}
use Rattle.gw_expr.specs.declared.function.FunctionType.{FunctionType}
use Rattle.gw_expr.specs.declared.function.FunctionType.TheVariants as types
use Rattle.gw_lines.specs.declared.fault.LineFault.{LineFault}
use Rattle.gw_lines.specs.declared.fault.LineFault.TheVariants as faults
use Rattle.gw_lines.specs.declared.form.Kind.{Kind}
use Rattle.gw_lines.specs.declared.form.Kind.TheVariants as kinds
use Rattle.gw_lines.specs.declared.form.Form.{Form}
use Rattle.gw_lines.specs.declared.operand.Operand.{Operand}
use Rattle.gw_lines.specs.declared.operand.Operand.TheVariants as operands
use Rattle.gw_lines.specs.Reading.{◌>>=◌}
use Rattle.gw_lines.specs.Numbers.{number_of, from_one, fraction_of}
use Rattle.gw_lines.specs.Attributes.{or_atom, attribute_of}
use Rattle.gw_lines.specs.Atoms.{constant_of, atom_of}
use Rattle.gw_lines.specs.Expressions.{bare_of, computed_of}
use Rattle.gw_lines.specs.Forms.{is_listed}
use Rattle.gw_lines.specs.Fields.{misfits}
use Rattle.gw_lines.specs.Parts.{split, goes_on, part_of, others_of, is_missing}

-- ---- one operand

-- what was read first, or else the other
abbrev pub or_term : Option Term → Option Term → Option Term
or_term None other = other
or_term (Some term) other = Some term

abbrev pub atomic : Option Atom → Option Term
atomic read = option_map (λ atom. Value atom) read

-- the value that a text is: one without parentheses, or an expression in parentheses
abbrev pub given_value : List ℕ → Option Term
given_value text = or_term (atomic (atom_of text)) (computed_of text)

-- the number from 1 that a text is
abbrev pub numbered : List ℕ → Option Atom
numbered text = option_map (λ n. atoms.Constant (pos n)) (from_one (number_of 1000000000 text))

-- the entity that a text is, where it is no name: a number from 1, an attribute or an expression in parentheses
abbrev pub or_number : Option (List ℕ) → List ℕ → Option Term
or_number None text = or_term (atomic (or_atom (numbered text) (attribute_of text))) (computed_of text)
or_number (Some name) text = Some (Named name)

-- the entity that a text is: a name, a number from 1, an attribute or an expression in parentheses
abbrev pub entity_of : List ℕ → Option Term
entity_of text = or_number (name_of text) text

-- the label that a text is
abbrev pub label_of : List ℕ → Option Term
label_of text = option_map (λ name. Label name) (name_of text)

-- the name of a storage's or of a table's definition that a text is
abbrev pub defined_of : List ℕ → Option Term
defined_of text = option_map (λ name. Defined name) (name_of text)

abbrev pub table_of : List ℕ → Option Term
table_of text = option_map (λ name. Table name) (name_of text)

-- the queue discipline that a text is
abbrev pub order_of : List ℕ → Option Term
order_of text =
    if bytes_eq text (codes "FIFO")
    then Some (Order disciplines.Fifo)
    else if bytes_eq text (codes "LIFO") then Some (Order disciplines.Lifo) else None

-- the type of a FUNCTION that a letter is
abbrev pub type_of : ℕ → Option FunctionType
type_of b = if b == 67 then Some types.Continuous else if b == 68 then Some types.Discrete else None

abbrev pub or_points : Option FunctionType → Option ℕ → Option (Option Operand)
or_points None count = None
or_points (Some kind) count = option_map (λ n. Some (operands.Points kind n)) count

-- the type and the number of points that a text is
abbrev pub points_in : List ℕ → Option (Option Operand)
points_in [] = None
points_in (b ∷ bs) = or_points (type_of b) (from_one (number_of 1000 bs))

abbrev pub as_value : Option Term → Option (Option Operand)
as_value value = option_map (λ t. Some (operands.Value t)) value

-- what a text that is not empty is, if it is lawful: `NP` says nothing, nor does `ALL`, which bounds nothing
abbrev pub given_in : Kind → List ℕ → Option (Option Operand)
given_in kinds.Value text = as_value (given_value text)
given_in kinds.Constant text = as_value (atomic (constant_of text))
given_in (kinds.Whole most) text = option_map (λ n. Some (operands.Whole n)) (from_one (number_of most text))
given_in kinds.Quiet text = if bytes_eq text (codes "NP") then Some None else None
given_in kinds.Entity text = as_value (entity_of text)
given_in kinds.Fraction text = as_value (option_map (λ n. Fraction n) (fraction_of 1000000 text))
given_in kinds.Label text = as_value (label_of text)
given_in kinds.Defined text = as_value (defined_of text)
given_in kinds.Table text = as_value (table_of text)
given_in kinds.Expression text = as_value (bare_of text)
given_in kinds.Points text = points_in text
given_in kinds.Order text = as_value (order_of text)
given_in kinds.Bound text = if bytes_eq text (codes "ALL") then Some None else as_value (given_value text)

-- what a text is, if it is lawful
abbrev pub operand_in : Kind → List ℕ → Option (Option Operand)
operand_in kind [] = Some None
operand_in kind (b ∷ bs) = given_in kind (b ∷ bs)

-- an operand that was read, or the fault that it is none
abbrev pub or_bad : ℕ → Option (Option Operand) → Result (List (Option Operand)) LineFault
or_bad n None = Err (faults.BadOperand n)
or_bad n (Some operand) = Ok (operand ∷ [])

-- the operand that stands here, where the statement lists it
abbrev pub listed_here : Form → ℕ → Bool → List ℕ → Result (List (Option Operand)) LineFault
listed_here form n more part = if is_listed form.presence more then or_bad n (operand_in form.kind part) else Ok []

-- operands, with the one that stands here
abbrev pub added : Form → ℕ → Bool → List ℕ → List (Option Operand) → Result (List (Option Operand)) LineFault
added form n more part os = do
  here ← listed_here form n more part
  Ok (os ++ here)

-- ---- a list

-- the parts that are left: more says that there are some
abbrev pub left : Bool → List ℕ → List (List ℕ)
left more text = if more then split text else []

-- each operand by its form, the first of which has the number n
abbrev pub each_of : ℕ → List Form → List (List ℕ) → Result (List (Option Operand)) LineFault
each_of n [] parts = Ok []
each_of n (form ∷ forms) parts = do
  here ← listed_here form n (goes_on parts) (part_of parts)
  others ← each_of (n + 1) forms (others_of parts)
  Ok (here ++ others)

-- the number of the first that is missing
abbrev pub missing_of : ℕ → List Form → List (List ℕ) → Option ℕ
missing_of n [] parts = None
missing_of n (form ∷ forms) parts =
    if is_missing form (part_of parts) then Some n else missing_of (n + 1) forms (others_of parts)

-- the first that is missing, where n is the one that stands here
abbrev pub missing_after : Option ℕ → Form → ℕ → List ℕ → Option ℕ
missing_after (Some first) form n part = Some first
missing_after None form n part = if is_missing form part then Some n else None

-- whether parts stand after those that have a form
abbrev pub has_more : List Form → List (List ℕ) → Bool
has_more [] parts = goes_on parts
has_more (form ∷ forms) parts = has_more forms (others_of parts)

-- operands, where the fourth goes with those before it
abbrev pub fitting : Bool → Result (Unit {0}) LineFault
fitting misfits = if misfits then Err (faults.BadOperand 4) else Ok tt

-- operands, where none is one too many
abbrev pub ended : Bool → ℕ → Result (Unit {0}) LineFault
ended has_more n = if has_more then Err (faults.ExtraOperand n) else Ok tt

-- operands, where none is missing
abbrev pub complete : Option ℕ → Result (Unit {0}) LineFault
complete None = Ok tt
complete (Some n) = Err (faults.MissingOperand n)

-- the operands of a verb that parts are
unfoldable pub operands_of : Verb → List Form → List (List ℕ) → Result (List (Option Operand)) LineFault
operands_of verb forms parts = do
  os ← each_of 1 forms parts
  fit ← fitting (misfits verb os)
  end ← ended (has_more forms parts) (length forms + 1)
  given ← complete (missing_of 1 forms parts)
  Ok os
