use Rattle.std.proofs.Common.{arith}
use Rattle.std.proofs.lemmas.Grind.{common_steps}
use Rattle.gw_desk.proofs.rebase.add_missing.Goals as goal

pub add_if_missing-requires-clause-room : goal.add_if_missing-requires-clause-room
add_if_missing-requires-clause-room c = grind (arith, common_steps)

pub loop-replication-preserved : goal.loop-replication-preserved
loop-replication-preserved c = grind (arith, common_steps)
