use Rattle.std.proofs.Common.{sym, rules}
use Rattle.gw_chains.proofs.Beside.{waits, within}
use Rattle.gw_chains.proofs.delays.DelayChains.chain.Goals as goal

pub index-requires : goal.index-requires
index-requires c = search (rules, within)

pub returns : goal.returns
returns c =
    let placed = c.in_ok-index.ensures.there in
    rw (← c.self.view_is)
    (sym (waits c.self.invariant c.self.view_is placed c.in_ok-index.ensures.some c.index.ensures).queue)
