use Rattle.std.proofs.Common.{◌∙◌, refl, sym, subst}
use Rattle.gw_meaning.specs.Machine.{AreInOrder}
use Rattle.gw_chains.proofs.ChainLaws.{lined_up_in_order}
use Rattle.gw_chains.proofs.chain.PriorityChain.line_up_ref.Goals as goal

pub invariant_of-self : goal.invariant_of-self
invariant_of-self c =
    let last = rw (← c.self.view_is) at c.if-goes_last.ensures in
    subst AreInOrder (last refl ∙ sym c.push.ensures.items)
    (lined_up_in_order c.args.x.now c.self.inside.transactions.items c.self.invariant)
