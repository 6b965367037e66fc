use Rattle.std.proofs.Common.{◌≡◌, ◌++◌, drop}
use Rattle.gw_script.specs.Answers.{numbers_of}
use Rattle.gw_script.proofs.queries.numbers.Given as goal

abbrev pub invariant-loop-replication : goal.invariant-loop-replication
invariant-loop-replication l = l.numbers.items ++ numbers_of (drop l.replication-index l.replications) ≡ numbers_of l.replications
