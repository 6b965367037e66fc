use Rattle.std.proofs.Common.{◌<◌, sym, ◌∙◌, rules}
use Rattle.std.proofs.lemmas.Bool.{not-true}
use Rattle.gw_chains.proofs.ChainLaws.{lined_up_last}
use Rattle.gw_chains.proofs.chain.PriorityChain.goes_last.Goals as goal

pub returns : goal.returns
returns c = λ yes.
    let xs = c.self.inside.transactions.items in
    let n = c.len-count.result in
    let some : 0 < n = search rules in
    rw (← c.self.view_is)
    (lined_up_last c.args.x.now xs n c.at-last.result.now c.self.invariant c.len-count.ensures.len some c.at-last.ensures (sym c.is_below.ensures ∙ not-true _ yes))
