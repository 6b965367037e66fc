use Rattle.std.proofs.Common.{arith}
use Rattle.std.proofs.lemmas.Grind.{common_steps}
use Rattle.gw_script.proofs.edits.put_detail.Goals as goal

pub returns-in_ok-extend_from_slice-in-BadStatement-clause-ok : goal.returns-in_ok-extend_from_slice-in-BadStatement-clause-ok
returns-in_ok-extend_from_slice-in-BadStatement-clause-ok c = grind (arith, common_steps)

pub returns-in_ok-extend_from_slice-in-BadStatement-clause-full : goal.returns-in_ok-extend_from_slice-in-BadStatement-clause-full
returns-in_ok-extend_from_slice-in-BadStatement-clause-full c = grind (arith, common_steps)

pub returns-in_ok-extend_from_slice-in-BadStatement-clause-len : goal.returns-in_ok-extend_from_slice-in-BadStatement-clause-len
returns-in_ok-extend_from_slice-in-BadStatement-clause-len c = grind (arith, common_steps)

pub returns-in_ok-extend_from_slice-in-BadModel-clause-ok : goal.returns-in_ok-extend_from_slice-in-BadModel-clause-ok
returns-in_ok-extend_from_slice-in-BadModel-clause-ok c = grind (arith, common_steps)

pub returns-in_ok-extend_from_slice-in-BadModel-clause-full : goal.returns-in_ok-extend_from_slice-in-BadModel-clause-full
returns-in_ok-extend_from_slice-in-BadModel-clause-full c = grind (arith, common_steps)

pub returns-in_ok-extend_from_slice-in-BadModel-clause-len : goal.returns-in_ok-extend_from_slice-in-BadModel-clause-len
returns-in_ok-extend_from_slice-in-BadModel-clause-len c = grind (arith, common_steps)
