use Rattle.std.proofs.Common.{rules}
use Rattle.gw_values.proofs.Tracing.{traced_decides}
use Rattle.gw_values.proofs.operand.evaluation_traced.Goals as goal

pub returns : goal.returns
returns c = traced_decides c.eval.ensures (search rules) (search rules)
