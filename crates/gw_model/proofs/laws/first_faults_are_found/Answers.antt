use Rattle.gw_model.proofs.FirstFaults.{found_are_first, first_are_found, none_are_left}
use Rattle.gw_model.proofs.laws.first_faults_are_found.Goals as goal

pub returns-clause-found : goal.returns-clause-found
returns-clause-found c = found_are_first

pub returns-clause-first : goal.returns-clause-first
returns-clause-first c = first_are_found

pub returns-clause-none : goal.returns-clause-none
returns-clause-none c = none_are_left
