use Rattle.gw_laws.proofs.FacilityLaws.{facilities_are_used}
use Rattle.gw_laws.proofs.laws.facilities_are_used.Goals as goal

pub returns : goal.returns
returns c = facilities_are_used
