use Rattle.gw_laws.proofs.NumberLaws.{numbers_are_apart, numbers_are_given, numbers_are_given_once}
use Rattle.gw_laws.proofs.LossLaws.{only_the_active_goes}
use Rattle.gw_laws.proofs.laws.numbers_apart.Goals as goal

pub returns : goal.returns
returns c = record { apart = numbers_are_apart; given = numbers_are_given; once = numbers_are_given_once; loss = only_the_active_goes }
