use Rattle.gw_expr.proofs.Constants.{constants_settle}
use Rattle.gw_expr.proofs.laws.constants_hang_on_nothing.Goals as goal

pub returns : goal.returns
returns c = constants_settle
