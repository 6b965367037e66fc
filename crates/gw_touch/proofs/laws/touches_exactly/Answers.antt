use Rattle.gw_touch.proofs.TouchesLaws.{touches_exactly}
use Rattle.gw_touch.proofs.laws.touches_exactly.Goals as goal

pub returns : goal.returns
returns c = touches_exactly
