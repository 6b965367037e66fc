use Rattle.gw_edit.proofs.TouchedLaws.{touched_differs}
use Rattle.gw_edit.proofs.laws.touched_differs.Goals as goal

pub returns : goal.returns
returns c = touched_differs
