use Rattle.std.proofs.Common.{rules}
use Rattle.gw_chains.proofs.Beside.{There, read_again, same_written, waits, within}
use Rattle.gw_chains.proofs.delays.DelayChains.reserve.Goals as goal
use Rattle.gw_chains.proofs.delays.DelayChains.reserve.Goals.{After-index_mut}

pub index_mut-requires : goal.index_mut-requires
index_mut-requires c = search (rules, within)

there : (c : After-index_mut) → There c.self.inside.keys.keys c.self.inside.chains.items c.in-Some.index
    c.args.key.now c.index_mut.result.now c.self.inside.count
there c = waits c.self.invariant c.self.view_is (search rules) (search rules) c.index_mut.ensures.value

pub invariant_of-self : goal.invariant_of-self
invariant_of-self c =
    let at = there (goal.at.invariant_of-self c).After-index_mut in
    (same_written _ at c.reserve.ensures.items).kept

pub returns-in-Some-clause-ok : goal.returns-in-Some-clause-ok
returns-in-Some-clause-ok c =
    let at = there (goal.at.returns-in-Some-clause-ok c).After-index_mut in
    rw (read_again c.reserve.new.self at) c.reserve.ensures.ok

pub returns-in-Some-clause-delays : goal.returns-in-Some-clause-delays
returns-in-Some-clause-delays c =
    let at = there (goal.at.returns-in-Some-clause-delays c).After-index_mut in
    rw (← c.self.view_is) (same_written _ at c.reserve.ensures.items).delays
