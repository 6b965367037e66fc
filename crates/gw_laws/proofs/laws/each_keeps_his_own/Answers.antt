use Rattle.gw_laws.proofs.OwnParameterLaws.{parameters_are_ones_own, one_parameter_is_set}
use Rattle.gw_laws.proofs.OwnValueLaws.{priorities_are_ones_own}
use Rattle.gw_laws.proofs.laws.each_keeps_his_own.Goals as goal

pub returns : goal.returns
returns c = record { parameters = parameters_are_ones_own; one = one_parameter_is_set; values = priorities_are_ones_own }
