use Rattle.std.proofs.Common.{arith}
use Rattle.std.proofs.lemmas.Grind.{common_steps}
use Rattle.gw_script.proofs.queries.numbers.Goals as goal

pub loop-replication-preserved : goal.loop-replication-preserved
loop-replication-preserved c = grind (arith, common_steps)
