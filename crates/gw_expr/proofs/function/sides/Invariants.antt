use Rattle.std.proofs.Common.{◌≡◌, None, IfSome, true, drop}
use Rattle.gw_nums.specs.Range.{is_below}
use Rattle.gw_expr.specs.Functions.{sides}
use Rattle.gw_expr.proofs.function.sides.Given as goal

abbrev pub invariant-loop-point : goal.invariant-loop-point
invariant-loop-point l =
    (sides l.before (drop l.point-index l.points) l.x ≡ sides None l.points l.x) × IfSome l.before (λ p. is_below p.x l.x ≡ true)
