use Rattle.std.proofs.Common.{rules}
use Rattle.gw_expr.specs.Evaluation.{value_of, value_by}
use Rattle.gw_expr.proofs.Worlds.{evaluates_as}
use Rattle.gw_expr.proofs.evaluator.eval.Goals as goal

pub returns-in-Value : goal.returns-in-Value
unfolding value_of value_by
returns-in-Value g c = evaluates_as (search rules) c.of_atom.ensures
