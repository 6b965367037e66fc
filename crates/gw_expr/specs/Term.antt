-- What an operand says: a single value, an expression, the name of an entity, a block's label, a fraction in millionths,
-- the name of a storage's or of a table's definition, or a queue discipline. Names are in upper case. (Manual.)
use Rattle.std.specs.Prelude.{ℕ, ◌≡◌, Bool, false, List, Some}
use Rattle.std.specs.List.{list_any, slice_get}
use Rattle.gw_expr.specs.declared.atom.Atom.{Atom}
use Rattle.gw_expr.specs.declared.token.Token.{Token}
use Rattle.gw_expr.specs.declared.token.Token.TheVariants as tokens
use Rattle.gw_expr.specs.declared.expr.Expr.{Expr}
use Rattle.gw_expr.specs.declared.expr.Expr.TheVariants.{Value, Computed}

-- an operand, as it is kept
abbrev pub Term : Type 0
Term = Expr

-- whether a test holds of some value in an operand: the single one, or one in the expression
abbrev pub holds_of_token : (Atom → Bool) → Token → Bool
holds_of_token test (tokens.Value atom) = test atom
holds_of_token test token = false

abbrev pub holds_of_atom : (Atom → Bool) → Term → Bool
holds_of_atom test (Value atom) = test atom
holds_of_atom test (Computed ts) = list_any (holds_of_token test) ts
holds_of_atom test term = false

-- the operand has the value: it is this value, or an expression with it
abbrev pub HasAtom : Term → Atom → Type 0
HasAtom (Value other) atom = other ≡ atom
HasAtom (Computed ts) atom = (i : ℕ) × (slice_get ts i ≡ Some (tokens.Value atom))
HasAtom term atom = ⊥
