use Rattle.std.proofs.Common.{◌≡◌}
use Rattle.gw_model.specs.Listed.{numbered}
use Rattle.gw_model.proofs.lines.number.Given as goal

abbrev pub invariant-loop-statement : goal.invariant-loop-statement
invariant-loop-statement l = l.lines.items ≡ numbered 1 l.yielded
