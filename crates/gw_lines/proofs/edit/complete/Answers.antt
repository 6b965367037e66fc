use Rattle.std.proofs.Common.{arith}
use Rattle.std.proofs.lemmas.Grind.{common_steps}
use Rattle.gw_lines.proofs.edit.complete.Goals as goal

pub loop-rest-preserved : goal.loop-rest-preserved
loop-rest-preserved c = grind (arith, common_steps)

pub returns-then-wants_pairs : goal.returns-then-wants_pairs
returns-then-wants_pairs c = grind (arith, common_steps)

pub returns-else-wants_pairs : goal.returns-else-wants_pairs
returns-else-wants_pairs c = grind (arith, common_steps)
