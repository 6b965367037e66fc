-- Expressions: trees of values and operators, and the postfix order in which they are kept. (Manual; the order is our
-- own.)
use Rattle.std.specs.Prelude.{List, [], ◌∷◌, ◌++◌}
use Rattle.gw_expr.specs.declared.atom.Atom.{Atom}
use Rattle.gw_expr.specs.declared.token.Operator.{Operator}
use Rattle.gw_expr.specs.declared.token.Token.{Token}
use Rattle.gw_expr.specs.declared.token.Token.TheVariants as tokens

-- an expression: a value, an expression with the other sign, or two with an operator between them
pub data Expression : Type 0 where
  Single : Atom → Expression
  Opposite : Expression → Expression
  Both : Operator → Expression → Expression → Expression

-- its parts in postfix order: operands from left to right, and what is done with them after them
abbrev pub postfix : Expression → List Token
postfix (Single atom) = tokens.Value atom ∷ []
postfix (Opposite e) = postfix e ++ tokens.Negated ∷ []
postfix (Both operator left right) = postfix left ++ (postfix right ++ tokens.Applied operator ∷ [])
