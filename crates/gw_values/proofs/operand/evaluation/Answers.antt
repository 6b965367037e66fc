use Rattle.std.proofs.Common.{rules}
use Rattle.gw_values.proofs.Evaluating.{value_decides}
use Rattle.gw_values.proofs.operand.evaluation.Goals as goal

pub returns : goal.returns
returns c = value_decides c.args.operand.now c.eval.ensures (search rules)
