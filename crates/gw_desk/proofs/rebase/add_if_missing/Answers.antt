use Rattle.std.proofs.Common.{arith}
use Rattle.std.proofs.lemmas.Grind.{common_steps}
use Rattle.gw_desk.proofs.rebase.add_if_missing.Goals as goal

pub unreachable-requires : goal.unreachable-requires
unreachable-requires c = grind (arith, common_steps)

pub returns-in-Ok-clause-runs : goal.returns-in-Ok-clause-runs
returns-in-Ok-clause-runs c = grind (arith, common_steps)

pub returns-else-is_none-clause-runs : goal.returns-else-is_none-clause-runs
returns-else-is_none-clause-runs c = grind (arith, common_steps)
