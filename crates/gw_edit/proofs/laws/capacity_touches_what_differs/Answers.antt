use Rattle.gw_edit.proofs.CapacityLaws.{capacity_touches_what_differs}
use Rattle.gw_edit.proofs.laws.capacity_touches_what_differs.Goals as goal

pub returns : goal.returns
returns c = capacity_touches_what_differs
