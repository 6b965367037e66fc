use Rattle.std.proofs.Common.{◌<◌, None, length, sym, ◌∙◌, arith, rules}
use Rattle.gw_chains.specs.Chains.{delays_of}
use Rattle.gw_chains.specs.Delays.{chains_of}
use Rattle.gw_chains.proofs.Beside.{There, keys_are, no_items, nobody_behind, not_found, there}
use Rattle.gw_chains.proofs.DelayLaws.{delay_is, fewer_wait, nobody_left}
use Rattle.gw_chains.proofs.delays.DelayChains.place.Goals as goal
use Rattle.gw_chains.proofs.delays.DelayChains.place.Goals.{After-is_empty}

pub returns-then-self-eq0-clause-none : goal.returns-then-self-eq0-clause-none
returns-then-self-eq0-clause-none c =
    let d = c.self.inside in
    let fewer = fewer_wait (delays_of (chains_of d.keys.keys d.chains.items)) c.args.key.now in
    let all = c.self.invariant.counted in
    let none = c.if-self-eq0.true in
    rw (← c.self.view_is) (nobody_left _ (omega (arith, fewer, all, none)))

pub returns-in_err-index-clause-none : goal.returns-in_err-index-clause-none
returns-in_err-index-clause-none c =
    let d = c.self.inside in
    let key = c.args.key.now in
    rw (← c.self.view_is, c.from_residual.ensures)
    (delay_is (chains_of d.keys.keys d.chains.items) key None
    (not_found d.keys.keys d.chains.items key c.in_err-index.ensures.none))

pub returns-in_err-get-clause-none : goal.returns-in_err-get-clause-none
returns-in_err-get-clause-none c =
    let d = c.self.inside in
    let past = rw c.deref.ensures.value at c.in_err-get.ensures.lookup in
    rw (← c.self.view_is, c.from_residual-in_err-get.ensures)
    (nobody_behind d.keys.keys d.chains.items c.in_ok-index.index c.args.key.now c.self.invariant.apart
    c.in_ok-index.ensures.there past.3)

chain : (c : After-is_empty) → There c.self.inside.keys.keys c.self.inside.chains.items c.in_ok-index.index
    c.args.key.now c.in_ok-get.field-0.now c.self.inside.count
chain c =
    let read = rw c.deref.ensures.value at c.in_ok-get.ensures.lookup in
    there c.self.invariant c.in_ok-index.ensures.there read.3.0 read.1

pub returns-then-is_empty-clause-none : goal.returns-then-is_empty-clause-none
returns-then-is_empty-clause-none c =
    let at = chain (goal.at.returns-then-is_empty-clause-none c).After-is_empty in
    rw (← c.self.view_is) (at.queue ∙ no_items _ (sym c.is_empty.ensures ∙ c.if-is_empty.true))

pub returns-clause-there : goal.returns-clause-there
returns-clause-there c =
    rw (← c.self.view_is, keys_are c.self.inside.keys.keys c.self.inside.chains.items) c.in_ok-index.ensures.there

pub returns-clause-some : goal.returns-clause-some
returns-clause-some c =
    let at = chain (goal.at.returns-clause-some c).After-is_empty in
    let some : 0 < length c.in_ok-get.field-0.now.items = search rules in
    rw (← c.self.view_is, at.queue) some
