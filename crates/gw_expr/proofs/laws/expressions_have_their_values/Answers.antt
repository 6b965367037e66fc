use Rattle.gw_expr.proofs.Expressions.{expression_value, nested_value}
use Rattle.gw_expr.proofs.laws.expressions_have_their_values.Goals as goal

pub returns : goal.returns
returns c = record { operands = expression_value; nested = nested_value }
