use Rattle.gw_touch.proofs.AlikeLaws.{touches_what_differs}
use Rattle.gw_touch.proofs.laws.touches_what_differs.Goals as goal

pub returns : goal.returns
returns c = touches_what_differs
