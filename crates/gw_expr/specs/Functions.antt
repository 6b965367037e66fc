-- What a FUNCTION comes to at an argument, by its points: both in millionths. (Manual: types C and D. Our own:
-- quotients are divided downwards, and that beyond the first and the last point its value there stands.)
use Rattle.std.specs.Prelude.{ℤ, List, [], ◌∷◌, Option, Some, None, if◌then◌else◌}
use Rattle.gw_nums.specs.Range.{is_below}
use Rattle.gw_nums.specs.Millionths.{distance, toward}
use Rattle.gw_expr.specs.declared.function.FunctionType.{FunctionType}
use Rattle.gw_expr.specs.declared.function.FunctionType.TheVariants.{Continuous, Discrete}
use Rattle.gw_expr.specs.declared.function.Point.{Point}
use Rattle.gw_expr.specs.declared.function.Function.{Function}
use Rattle.gw_expr.specs.declared.function.Neighbours.{Neighbours}

-- the points on the two sides of an argument, after one that is below it: the first that is not below it, and the one
-- before that
abbrev pub sides : Option Point → List Point → ℤ → Neighbours
sides before [] x = record { before = before; next = None }
sides before (p ∷ ps) x =
    if is_below p.x x then sides (Some p) ps x else record { before = before; next = Some p }

-- on the straight line from one point to another
abbrev pub between : Point → Point → ℤ → ℤ
between p q x = toward p.y q.y (distance x p.x) (distance q.x p.x)

-- type C: on the line between the two points, and beyond all points at the outermost one
abbrev pub line_at : Option Point → Option Point → ℤ → Option ℤ
line_at None None x = None
line_at (Some p) None x = Some p.y
line_at None (Some q) x = Some q.y
line_at (Some p) (Some q) x = Some (between p q x)

-- type D: at the first point that is not below the argument, and beyond all points at the last one
abbrev pub step_at : Option Point → Option Point → Option ℤ
step_at None None = None
step_at (Some p) None = Some p.y
step_at before (Some q) = Some q.y

abbrev pub by_type : FunctionType → Neighbours → ℤ → Option ℤ
by_type Continuous at x = line_at at.before at.next x
by_type Discrete at x = step_at at.before at.next

-- what it comes to, where it has a point
abbrev pub curve : Function → ℤ → Option ℤ
curve f x = by_type f.kind (sides None f.points x) x
