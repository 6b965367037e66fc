use Rattle.gw_desk.proofs.PointsFound.{points_found}
use Rattle.gw_desk.proofs.laws.points_are_found.Goals as goal

pub returns : goal.returns
returns c = points_found
