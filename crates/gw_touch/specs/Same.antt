-- When a block is the block that it was: it has the same verb, auxiliary and operands, as they are listed and as they
-- are read. Its label does not count. And when a FUNCTION, and the argument of a TABLE, is the one that it was. (Our
-- own.)
use Rattle.std.specs.Prelude.{ℕ, ◌==◌, Bool, true, false, ◌&&◌, ◌||◌, List, [], ◌∷◌, Option, Some, None}
use Rattle.std.specs.Str.{bytes_eq}
use Rattle.std.specs.Cmp.Lexicographic.{pointwise}
use denote.Enum.Bare.{sameb}
use Rattle.gw_names.specs.contracts.verb.BlockVerb.{the_type}
use Rattle.gw_expr.specs.contracts.function.FunctionType.{the_type as function_type}
use Rattle.gw_expr.specs.contracts.function.PointPartialEq.TheImpl as point_comparison
use Rattle.gw_expr.specs.declared.function.FunctionType.{FunctionType}
use Rattle.gw_expr.specs.declared.function.Point.{Point}
use Rattle.gw_expr.specs.declared.function.Function.{Function}
use Rattle.gw_expr.specs.contracts.atom.AtomPartialEq.TheImpl as atom_comparison
use Rattle.gw_expr.specs.contracts.token.TokenPartialEq.TheImpl as token_comparison
use Rattle.gw_expr.specs.declared.atom.Atom.{Atom}
use Rattle.gw_expr.specs.declared.token.Token.{Token}
use Rattle.gw_names.specs.declared.verb.BlockVerb.{BlockVerb}
use Rattle.gw_expr.specs.declared.expr.Discipline.{Discipline}
use Rattle.gw_expr.specs.declared.expr.Discipline.TheVariants as disciplines
use Rattle.gw_expr.specs.Term.{Term}
use Rattle.gw_expr.specs.declared.expr.Expr.TheVariants.{Value, Computed, Named, Label, Fraction, Defined, Table, Order}
use Rattle.gw_meaning.specs.declared.statement.Statement.{Statement}
use Rattle.gw_meaning.specs.declared.auxiliary.Auxiliary.{Auxiliary}
use Rattle.gw_meaning.specs.contracts.auxiliary.AuxiliaryPartialEq.TheImpl as auxiliary_comparison
use Rattle.gw_meaning.specs.declared.statement.Block.{Block}
use Rattle.gw_meaning.specs.declared.statement.Body.{Body}
use Rattle.gw_meaning.specs.declared.statement.Body.TheVariants as bodies

-- what tells an operand from all others: its kind, its value, its parts where it is an expression, its number and its
-- bytes
abbrev pub kind_of : Term → ℕ
kind_of (Value atom) = 0
kind_of (Computed ts) = 1
kind_of (Named name) = 2
kind_of (Label name) = 3
kind_of (Fraction part) = 4
kind_of (Defined name) = 5
kind_of (Table name) = 6
kind_of (Order discipline) = 7

abbrev pub atom_of : Term → Option Atom
atom_of (Value atom) = Some atom
atom_of term = None

abbrev pub parts_of : Term → List Token
parts_of (Computed ts) = ts
parts_of term = []

abbrev pub order_number : Discipline → ℕ
order_number disciplines.Fifo = 0
order_number disciplines.Lifo = 1

abbrev pub number_of : Term → ℕ
number_of (Fraction part) = part
number_of (Order discipline) = order_number discipline
number_of term = 0

abbrev pub bytes_of : Term → List ℕ
bytes_of (Named name) = name
bytes_of (Label name) = name
bytes_of (Defined name) = name
bytes_of (Table name) = name
bytes_of term = []

-- two values, and two lists of parts
unfoldable pub same_atom : Atom → Atom → Bool
same_atom = atom_comparison.ghosts.eq

abbrev pub same_value : Option Atom → Option Atom → Bool
same_value None None = true
same_value None (Some b) = false
same_value (Some a) None = false
same_value (Some a) (Some b) = same_atom a b

unfoldable pub same_part : Token → Token → Bool
same_part = token_comparison.ghosts.eq

abbrev pub same_parts : List Token → List Token → Bool
same_parts [] [] = true
same_parts [] (u ∷ us) = false
same_parts (t ∷ ts) [] = false
same_parts (t ∷ ts) (u ∷ us) = same_part t u && same_parts ts us

-- two operands
abbrev pub same_term : Term → Term → Bool
same_term a b =
    (kind_of a == kind_of b) && (same_value (atom_of a) (atom_of b) && (same_parts (parts_of a) (parts_of b)
    && ((number_of a == number_of b) && bytes_eq (bytes_of a) (bytes_of b))))

abbrev pub same_operand : Option Term → Option Term → Bool
same_operand None None = true
same_operand None (Some b) = false
same_operand (Some a) None = false
same_operand (Some a) (Some b) = same_term a b

abbrev pub same_operands : List (Option Term) → List (Option Term) → Bool
same_operands [] [] = true
same_operands [] (b ∷ ys) = false
same_operands (a ∷ xs) [] = false
same_operands (a ∷ xs) (b ∷ ys) = same_operand a b && same_operands xs ys

-- two verbs
unfoldable pub same_verb : BlockVerb → BlockVerb → Bool
same_verb = sameb the_type

-- two auxiliaries
unfoldable pub same_auxiliary : Auxiliary → Auxiliary → Bool
same_auxiliary = auxiliary_comparison.ghosts.eq

-- two blocks
abbrev pub same_block : Block → Block → Bool
same_block block block' =
    same_verb block.verb block'.verb && (same_auxiliary block.auxiliary block'.auxiliary
    && same_operands block.operands block'.operands)

-- two statements, both blocks
abbrev pub same_body : Body → Body → Bool
same_body (bodies.Block block) (bodies.Block block') = same_block block block'
same_body body body' = false

abbrev pub same_statement : Statement → Statement → Bool
same_statement s s' = bytes_eq s.operands s'.operands && same_body s.body s'.body

-- two labels, of which either may be none
abbrev pub same_label : Option (List ℕ) → Option (List ℕ) → Bool
same_label None None = true
same_label None (Some b) = false
same_label (Some a) None = false
same_label (Some a) (Some b) = bytes_eq a b

-- two FUNCTIONs: their argument, their type, how many points they have, and the points
unfoldable pub same_type : FunctionType → FunctionType → Bool
same_type = sameb function_type

unfoldable pub same_point : Point → Point → Bool
same_point = point_comparison.ghosts.eq

abbrev pub same_points : List Point → List Point → Bool
same_points ps qs = pointwise same_point ps qs

abbrev pub same_function : Function → Function → Bool
same_function f g =
    same_term f.argument g.argument && (same_type f.kind g.kind && ((f.count == g.count)
    && same_points f.points g.points))

-- two first operands, as they are written: each ends in front of a comma
abbrev pub same_first : List ℕ → List ℕ → Bool
same_first [] [] = true
same_first [] (b ∷ bs) = b == 44
same_first (a ∷ rest) [] = a == 44
same_first (a ∷ rest) (b ∷ bs) = (a == b) && ((a == 44) || same_first rest bs)
