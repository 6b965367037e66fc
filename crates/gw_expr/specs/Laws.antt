-- Laws of evaluation. (Our own.)
use Rattle.std.specs.Prelude.{ℕ, ℤ, ◌≡◌, ◌<◌, true, List, Some, slice_get, Result, Ok, Err}
use Rattle.gw_nums.specs.Range.{is_below}
use Rattle.gw_expr.specs.declared.atom.Atom.TheVariants as atoms
use Rattle.gw_expr.specs.declared.function.Function.{Function}
use Rattle.gw_expr.specs.declared.function.Point.{Point}
use Rattle.gw_expr.specs.declared.stop.Stop.{Stop}
use Rattle.gw_expr.specs.Evaluation.{Evaluation, Yields, Stops, Definitions, DEEPEST, value_by, definitions_within, value_of, value_of_expression}
use Rattle.gw_expr.specs.Expressions.{Expression, Single, Opposite, Both, postfix}
use Rattle.gw_expr.specs.Functions.{curve}
use Rattle.gw_expr.specs.declared.expr.Expr.TheVariants.{Computed}

-- an expression that is kept in postfix order has the value of the expression, by the same questions
abbrev pub ExpressionsHaveTheirValues : Type 0
ExpressionsHaveTheirValues =
    (e : Expression) → value_of (Computed (postfix e)) ≡ value_of_expression (definitions_within DEEPEST) e

-- so has the expression of a VARIABLE, whatever the definitions in it come to
abbrev pub NestedHaveTheirValues : Type 0
NestedHaveTheirValues =
    (defined : Definitions) (e : Expression) →
    value_by defined (Computed (postfix e)) ≡ value_of_expression defined e

-- nothing stands in an expression but constants
abbrev pub IsConstant : Expression → Type 0
IsConstant (Single (atoms.Constant z)) = Unit {0}
IsConstant (Single (atoms.Number name)) = ⊥
IsConstant (Single (atoms.Attribute class of)) = ⊥
IsConstant (Opposite e) = IsConstant e
IsConstant (Both operator left right) = IsConstant left × IsConstant right

-- an evaluation that comes to a result without a question
abbrev pub comes_to : Result ℤ Stop → Evaluation ℤ
comes_to (Ok z) = Yields z
comes_to (Err stop) = Stops stop

-- an expression of constants comes to one result, and asks for nothing, whatever the definitions come to
abbrev pub ConstantsHangOnNothing : Type 0
ConstantsHangOnNothing = (e : Expression) → IsConstant e →
    (r : Result ℤ Stop) × ((defined : Definitions) → value_of_expression defined e ≡ comes_to r)

-- points that rise: each has a greater argument than those before it
abbrev pub AreRising : List Point → Type 0
AreRising ps = (i j : ℕ) (p q : Point) → i < j → slice_get ps i ≡ Some p → slice_get ps j ≡ Some q →
    is_below p.x q.x ≡ true

-- at each of its points, which rise, a FUNCTION comes to the point's value, whatever its type
abbrev pub PointsHaveTheirValues : Type 0
PointsHaveTheirValues = (f : Function) (i : ℕ) (p : Point) → AreRising f.points → slice_get f.points i ≡ Some p →
    curve f p.x ≡ Some p.y
