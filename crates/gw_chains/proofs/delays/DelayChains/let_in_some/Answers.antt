use Rattle.std.proofs.Common.{◌-◌, [], length, option_map, sym, ap, ◌∙◌, arith, rules}
use Rattle.gw_meaning.specs.Tables.{with_value}
use Rattle.gw_meaning.specs.Machine.{Machine}
use Rattle.gw_chains.specs.Chains.{delays_of, without_grant}
use Rattle.gw_chains.specs.Delays.{chains_of}
use Rattle.gw_chains.proofs.Beside.{There, Written, waits, within, written}
use Rattle.gw_chains.proofs.DelayLaws.{value_is}
use Rattle.gw_chains.proofs.LetIn.{some_let_in_is, nobody_let_in, without_fewer}
use Rattle.gw_chains.proofs.delays.DelayChains.let_in_some.Goals as goal
use Rattle.gw_chains.proofs.delays.DelayChains.let_in_some.Goals.{After-index_mut-chain}

pub returns-in_default-clause-let_in : goal.returns-in_default-clause-let_in
returns-in_default-clause-let_in c = λ s.
    rw c.in_default.ensures.none (sym (nobody_let_in c.args.key.now c.args.grants.now [] _))

pub index_mut-chain-requires : goal.index_mut-chain-requires
index_mut-chain-requires c = search (rules, within)

there : (c : After-index_mut-chain) → There c.self.inside.keys.keys c.self.inside.chains.items c.in-Some.index
    c.args.key.now c.index_mut-chain.result.now c.self.inside.count
there c = waits c.self.invariant c.self.view_is (search rules) (search rules) c.index_mut-chain.ensures.value

pub let_in_some-requires-clause-room : goal.let_in_some-requires-clause-room
let_in_some-requires-clause-room c =
    let at = there (goal.at.let_in_some-requires-clause-room c).After-index_mut-chain in
    rw (← c.self.view_is, at.queue) at c.requires.room

pub let_in_some-requires-clause-going : goal.let_in_some-requires-clause-going
let_in_some-requires-clause-going c =
    let at = there (goal.at.let_in_some-requires-clause-going c).After-index_mut-chain in
    rw (← c.self.view_is, at.queue, at.value) at c.requires.going

pub overflow_sub-gone : goal.overflow_sub-gone
overflow_sub-gone c =
    let left = ap length c.let_in_some.ensures.items in
    let fewer = without_fewer c.args.grants.now c.index_mut-chain.result.now.items in
    omega (arith, left, fewer)

pub overflow_sub-self : goal.overflow_sub-self
overflow_sub-self c =
    let most = (there (goal.at.overflow_sub-self c).After-index_mut-chain).most in
    omega (arith, most)

sifted : (c : goal.After-self-2-1) → Written c.self.inside.keys.keys c.self.inside.chains.items c.in-Some.index
    c.args.key.now c.let_in_some.new.self (c.self.inside.count - (c.len-before.result - c.len.result))
sifted c =
    let at = there (goal.at.invariant_of-self c).After-index_mut-chain in
    let most = at.most in
    let left = ap length c.let_in_some.ensures.items in
    let fewer = without_fewer c.args.grants.now c.index_mut-chain.result.now.items in
    written at (omega (arith, most, left, fewer))

pub invariant_of-self : goal.invariant_of-self
invariant_of-self c = (sifted c).kept

pub returns-clause-let_in : goal.returns-clause-let_in
returns-clause-let_in c = λ s.
    let es = chains_of c.self.inside.keys.keys c.self.inside.chains.items in
    let key = c.args.key.now in
    let grants = c.args.grants.now in
    let at = there (goal.at.returns-clause-let_in c).After-index_mut-chain in
    let current = c.let_in_some.new.current.items in
    let counts = c.let_in_some.new.counts.entries in
    let chain = c.index_mut-chain.result.now.items in
    let old : Machine = record s {
      delays = delays_of es;
      current = c.args.current.now.items;
      counts = c.args.counts.now.entries;
    } in
    let left = with_value (delays_of es) key (without_grant grants chain) in
    let value = value_is es key ∙ ap (option_map (λ own. own.items)) at.value in
    let set_is = (sifted c).delays ∙
    ap (with_value (delays_of es) key) c.let_in_some.ensures.items in
    let all_in = c.let_in_some.ensures.let_in (record s { delays = delays_of es }) in
    rw (← c.self.view_is, at.queue)
    (ap (λ ds. record s { delays = ds; current = current; counts = counts }) set_is ∙
    (ap (λ (t : Machine). record t { delays = left }) all_in ∙
    sym (some_let_in_is key grants [] chain old value)))

pub returns-clause-room : goal.returns-clause-room
returns-clause-room c =
    let at = there (goal.at.returns-clause-room c).After-index_mut-chain in
    rw (← c.self.view_is, at.queue) c.let_in_some.ensures.room
