use Rattle.gw_chains.proofs.ChainLaws.{rest_in_order}
use Rattle.gw_chains.proofs.chain.PriorityChain.take_first.Goals as goal

pub invariant_of-self : goal.invariant_of-self
invariant_of-self c = rest_in_order c.pop_front.result _ _ c.pop_front.ensures.items c.self.invariant
