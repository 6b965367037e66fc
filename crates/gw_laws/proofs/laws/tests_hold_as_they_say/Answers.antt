use Rattle.gw_laws.proofs.TestLaws.{holds_as_it_says, each_is_an_operator}
use Rattle.gw_laws.proofs.laws.tests_hold_as_they_say.Goals as goal

pub returns-clause-holds : goal.returns-clause-holds
returns-clause-holds c = holds_as_it_says

pub returns-clause-words : goal.returns-clause-words
returns-clause-words c = each_is_an_operator
