use Rattle.std.proofs.Common.{arith}
use Rattle.std.proofs.lemmas.Grind.{common_steps}
use Rattle.gw_script.proofs.edits.put_refused.Goals as goal

pub returns-in_err-put_decimal-clause-full : goal.returns-in_err-put_decimal-clause-full
returns-in_err-put_decimal-clause-full c = grind (arith, common_steps)

pub returns-in_err-put_detail-clause-full : goal.returns-in_err-put_detail-clause-full
returns-in_err-put_detail-clause-full c = grind (arith, common_steps)

pub returns-clause-ok : goal.returns-clause-ok
returns-clause-ok c = grind (arith, common_steps)

pub returns-clause-full : goal.returns-clause-full
returns-clause-full c = grind (arith, common_steps)
