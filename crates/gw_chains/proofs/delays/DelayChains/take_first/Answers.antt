use Rattle.std.proofs.Common.{◌-◌, length, refl, sym, ap, ◌∙◌, arith, rules}
use Rattle.gw_chains.proofs.Beside.{There, Written, same_written, waits, within, written}
use Rattle.gw_chains.proofs.delays.DelayChains.take_first.Goals as goal
use Rattle.gw_chains.proofs.delays.DelayChains.take_first.Goals.{After-index_mut, In_ok-x}

pub index_mut-requires : goal.index_mut-requires
index_mut-requires c = search (rules, within)

there : (c : After-index_mut) → There c.self.inside.keys.keys c.self.inside.chains.items c.in_ok-index.index
    c.args.key.now c.index_mut.result.now c.self.inside.count
there c = waits c.self.invariant c.self.view_is (search rules) (search rules) c.index_mut.ensures.value

pub invariant_of-self : goal.invariant_of-self
invariant_of-self c =
    let at = there (goal.at.invariant_of-self c).After-index_mut in
    (same_written _ at (sym c.in_err-x.ensures.items)).kept

pub returns-in_err-x-clause-first : goal.returns-in_err-x-clause-first
returns-in_err-x-clause-first c =
    let at = there (goal.at.returns-in_err-x-clause-first c).After-index_mut in
    rw (← c.self.view_is, c.from_residual-in_err-x.ensures, at.queue ∙ c.in_err-x.ensures.none) refl

pub returns-in_err-x-clause-delays : goal.returns-in_err-x-clause-delays
returns-in_err-x-clause-delays c =
    let at = there (goal.at.returns-in_err-x-clause-delays c).After-index_mut in
    rw (← c.self.view_is, at.queue ∙ c.in_err-x.ensures.none)
    (same_written _ at (sym c.in_err-x.ensures.items)).delays

pub overflow_sub-self : goal.overflow_sub-self
overflow_sub-self c =
    let most = (there (goal.at.overflow_sub-self c).After-index_mut).most in
    let long = ap length c.in_ok-x.ensures.items in
    omega (arith, most, long)

-- after the first that is taken
taken : (c : In_ok-x) → Written c.self.inside.keys.keys c.self.inside.chains.items c.in_ok-index.index c.args.key.now
    c.take_first.new.self (c.self.inside.count - 1)
taken c =
    let some = overflow_sub-self c in
    let long = ap length c.in_ok-x.ensures.items in
    written (there (goal.at.overflow_sub-self c).After-index_mut) (omega (arith, some, long))

pub invariant_of-self-2 : goal.invariant_of-self-2
invariant_of-self-2 c = (taken (goal.at.invariant_of-self-2 c).In_ok-x).kept

pub returns-clause-first : goal.returns-clause-first
returns-clause-first c =
    let at = there (goal.at.returns-clause-first c).After-index_mut in
    rw (← c.self.view_is, at.queue ∙ c.in_ok-x.ensures.items) refl

pub returns-clause-delays : goal.returns-clause-delays
returns-clause-delays c =
    let at = there (goal.at.returns-clause-delays c).After-index_mut in
    let less = taken (goal.at.returns-clause-delays c).In_ok-x in
    rw (← c.self.view_is, at.queue ∙ c.in_ok-x.ensures.items) less.delays
