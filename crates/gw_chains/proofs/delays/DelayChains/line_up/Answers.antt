use Rattle.std.proofs.Common.{◌+◌, ◌<◌, length, ap, ◌∙◌, arith}
use Rattle.gw_chains.proofs.Beside.{There, Written, filled, keys_are, same_written, there, written}
use Rattle.gw_chains.proofs.DelayLaws.{lined_up_length, on_err}
use Rattle.gw_chains.proofs.delays.DelayChains.line_up.Goals as goal
use Rattle.gw_chains.proofs.delays.DelayChains.line_up.Goals.{After-index_mut-chain}

pub line_up_first-requires-clause-none : goal.line_up_first-requires-clause-none
line_up_first-requires-clause-none c =
    let d = c.self.inside in
    rw (← c.self.view_is, keys_are d.keys.keys d.chains.items) c.in_default.ensures.none

-- the chain as it is read after those that were made
chain : (c : After-index_mut-chain) → There c.self.inside.keys.keys c.fill.new.chains.items c.in-Some.index
    c.args.key.now c.index_mut-chain.result.now c.self.inside.count
chain c =
    let all = c.len.ensures.len in
    let full = filled c.self.invariant all c.fill.ensures.long c.fill.ensures.delays in
    let inside : c.in-Some.index < length c.fill.new.chains.items =
    omega (arith, all, c.in-Some.ensures.within, c.in_ok-fill.ensures.ok) in
    there full.kept c.in-Some.ensures.there inside c.index_mut-chain.ensures.value

pub invariant_of-self-in_err-reserve : goal.invariant_of-self-in_err-reserve
invariant_of-self-in_err-reserve c =
    let at = chain (goal.at.invariant_of-self-in_err-reserve c).After-index_mut-chain in
    (same_written _ at c.reserve.ensures.items).kept

pub returns-in_err-reserve-clause-err : goal.returns-in_err-reserve-clause-err
returns-in_err-reserve-clause-err c =
    let at = chain (goal.at.returns-in_err-reserve-clause-err c).After-index_mut-chain in
    let same = (same_written _ at c.reserve.ensures.items).delays in
    rw (← c.self.view_is)
    (on_err c.from_residual-in_err-reserve.result _ (same ∙ c.fill.ensures.delays c.self.inside.keys.keys))

lined : (c : goal.After-self-3-1) → Written c.self.inside.keys.keys c.fill.new.chains.items c.in-Some.index
    c.args.key.now c.line_up.new.self (c.self.inside.count + 1)
lined c =
    let at = chain (goal.at.returns-clause-ok c).After-index_mut-chain in
    let long = ap length c.line_up.ensures.items ∙ lined_up_length c.args.x c.reserve.new.self.items in
    let same = ap length c.reserve.ensures.items in
    written at (omega (arith, long, same))

pub invariant_of-self-2 : goal.invariant_of-self-2
invariant_of-self-2 c = (lined c).kept

pub returns-clause-ok : goal.returns-clause-ok
returns-clause-ok c =
    let at = chain (goal.at.returns-clause-ok c).After-index_mut-chain in
    rw (← c.self.view_is, ← c.fill.ensures.delays c.self.inside.keys.keys, at.queue)
    (rw (← c.reserve.ensures.items, ← c.line_up.ensures.items) (lined c).delays)
