use Rattle.std.proofs.Common.{◌≡◌, ◌+◌, ◌≤◌, drop, length, vec_len, vec_capacity}
use Rattle.gw_desk.specs.Rebasing.{with_missing}
use Rattle.gw_desk.proofs.rebase.add_missing.Given as goal

abbrev pub invariant-loop-replication : goal.invariant-loop-replication
invariant-loop-replication l = record {
  room : vec_len l.runs + length (drop l.replication-index l.replications) ≤ vec_capacity l.runs;
  made : with_missing l.every (drop l.replication-index l.replications) l.runs.items ≡ with_missing l.every l.replications l.fn.runs.items;
}
