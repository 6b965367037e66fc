use Rattle.gw_chains.proofs.LinkedLaws.{none_linked}
use Rattle.gw_chains.proofs.linked.UserChains.new.Goals as goal

pub invariant_of-result : goal.invariant_of-result
invariant_of-result c = none_linked _ _ c.new.ensures c.new-2.ensures
