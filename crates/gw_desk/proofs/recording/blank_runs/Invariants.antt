use Rattle.std.proofs.Common.{◌≡◌, ◌++◌, drop}
use Rattle.gw_desk.specs.Book.{blank_runs}
use Rattle.gw_desk.proofs.recording.blank_runs.Given as goal

abbrev pub invariant-loop-replication : goal.invariant-loop-replication
invariant-loop-replication l = l.runs.items ++ blank_runs l.every (drop l.replication-index l.replications) ≡ blank_runs l.every l.replications
