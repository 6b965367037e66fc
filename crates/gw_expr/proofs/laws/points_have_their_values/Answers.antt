use Rattle.gw_expr.proofs.Curves.{points_valued}
use Rattle.gw_expr.proofs.laws.points_have_their_values.Goals as goal

pub returns : goal.returns
returns c = points_valued
