use Rattle.gw_laws.proofs.PlaceLaws.{each_has_a_place, each_has_one_place}
use Rattle.gw_laws.proofs.laws.each_has_one_place.Goals as goal

pub returns : goal.returns
returns c = record { some = each_has_a_place; one = each_has_one_place }
