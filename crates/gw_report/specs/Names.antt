-- The names of a version, each once, with its value. (Manual: names, that a block's name has its position, and an EQU's
-- its number. Our own: the order, and that the others have 10000, 10001 and so on in it.)
use Rattle.std.specs.Prelude.{ℕ, ℤ, ◌+◌, not, List, [], ◌∷◌, ◌++◌, Option, Some, None, option_to_list, filter, decimal}
use Rattle.std.specs.Prelude.{codes}
use Rattle.std.specs.List.{flat_map}
use Rattle.std.specs.Str.{bytes_eq}
use Rattle.gw_expr.specs.declared.attribute.Subject.{Subject}
use Rattle.gw_expr.specs.declared.attribute.Subject.TheVariants as subjects
use Rattle.gw_expr.specs.declared.atom.Atom.{Atom}
use Rattle.gw_expr.specs.declared.atom.Atom.TheVariants as atoms
use Rattle.gw_expr.specs.declared.token.Token.{Token}
use Rattle.gw_expr.specs.declared.token.Token.TheVariants as tokens
use Rattle.gw_expr.specs.Term.{Term}
use Rattle.gw_expr.specs.declared.expr.Expr.TheVariants.{Value, Computed, Named, Label, Fraction, Defined, Table, Order}
use Rattle.gw_meaning.specs.Listing.{Listing, operands_of, label_at, number_at}
use Rattle.gw_meaning.specs.declared.statement.Numbered.{Numbered}
use Rattle.gw_report.specs.declared.column.Side.TheVariants.{Left, Right}
use Rattle.gw_report.specs.Layout.{Column, section_of}
use Rattle.gw_report.specs.Chains.{position_of}
use Rattle.gw_report.specs.Cells.{signed}

abbrev pub name_columns : List Column
name_columns = record { title = codes "NAME"; width = 10; side = Left } ∷
    record { title = codes "VALUE"; width = 10; side = Right } ∷ []

-- the names in what an attribute is of, in a value, and in an operand, from left to right
abbrev pub names_in_subject : Subject → List (List ℕ)
names_in_subject (subjects.Name name) = name ∷ []
names_in_subject of = []

abbrev pub names_in_atom : Atom → List (List ℕ)
names_in_atom (atoms.Constant value) = []
names_in_atom (atoms.Number name) = name ∷ []
names_in_atom (atoms.Attribute class of) = names_in_subject of

abbrev pub names_in_token : Token → List (List ℕ)
names_in_token (tokens.Value atom) = names_in_atom atom
names_in_token token = []

abbrev pub names_in_term : Term → List (List ℕ)
names_in_term (Value atom) = names_in_atom atom
names_in_term (Computed ts) = flat_map names_in_token ts
names_in_term (Named name) = name ∷ []
names_in_term (Label name) = name ∷ []
names_in_term (Fraction part) = []
names_in_term (Defined name) = name ∷ []
names_in_term (Table name) = name ∷ []
names_in_term (Order discipline) = []

abbrev pub names_in_operand : Option Term → List (List ℕ)
names_in_operand None = []
names_in_operand (Some term) = names_in_term term

-- what a statement names: the label first, then the operands of a block, the expression of a VARIABLE, or the argument
-- of a FUNCTION or of a TABLE
abbrev pub names_of : Numbered → List (List ℕ)
names_of line = option_to_list line.statement.label ++ flat_map names_in_operand (operands_of line)

-- each once, where it stands first
abbrev pub each_once : List (List ℕ) → List (List ℕ)
each_once [] = []
each_once (name ∷ names) = name ∷ filter (λ other. not (bytes_eq other name)) (each_once names)

abbrev pub names_in : Listing → List (List ℕ)
names_in t = each_once (flat_map names_of t.lines)

-- the value of a name that labels a block, or none; and the next free value after it
abbrev pub value_by : Listing → ℕ → Option ℕ → ℕ
value_by t next None = next
value_by t next (Some id) = position_of t (Some id)

abbrev pub next_by : ℕ → Option ℕ → ℕ
next_by next None = next + 1
next_by next (Some id) = next

-- the same of a name that may stand for a number
abbrev pub value_text : Listing → ℕ → Option ℤ → Option ℕ → List ℕ
value_text t next (Some number) label = signed number
value_text t next None label = decimal (value_by t next label)

abbrev pub next_behind : ℕ → Option ℤ → Option ℕ → ℕ
next_behind next (Some number) label = next
next_behind next None label = next_by next label

-- a name and its value, where `next` is the next one that is free
abbrev pub name_line : Listing → ℕ → List ℕ → List (List ℕ)
name_line t next name = name ∷ value_text t next (number_at t name) (label_at t name) ∷ []

abbrev pub name_lines : Listing → ℕ → List (List ℕ) → List (List (List ℕ))
name_lines t next [] = []
name_lines t next (name ∷ names) =
    name_line t next name ∷ name_lines t (next_behind next (number_at t name) (label_at t name)) names

-- the names, in order of first appearance
unfoldable pub names_text : Listing → List ℕ
names_text t = section_of name_columns (name_lines t 10000 (names_in t))
