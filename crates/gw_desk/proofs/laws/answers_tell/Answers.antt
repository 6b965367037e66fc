use Rattle.gw_desk.proofs.TellingLaws.{answers_tell, missing_are_told, no_start_is_told}
use Rattle.gw_desk.proofs.laws.answers_tell.Goals as goal

pub returns-clause-starts : goal.returns-clause-starts
returns-clause-starts c = answers_tell

pub returns-clause-no_start : goal.returns-clause-no_start
returns-clause-no_start c = no_start_is_told

pub returns-clause-no_replication : goal.returns-clause-no_replication
returns-clause-no_replication c = missing_are_told
