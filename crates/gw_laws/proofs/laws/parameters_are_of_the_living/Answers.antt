use Rattle.gw_laws.proofs.ParameterLaws.{parameters_are_of_the_living}
use Rattle.gw_laws.proofs.laws.parameters_are_of_the_living.Goals as goal

pub returns : goal.returns
returns c = parameters_are_of_the_living
