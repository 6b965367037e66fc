use Rattle.std.proofs.Common.{length, ap, arith}
use Rattle.gw_chains.proofs.LetIn.{with_fewer, with_nobody}
use Rattle.gw_state.proofs.parts.Parts.reserve_some.Goals as goal

pub returns-in_default-clause-ok : goal.returns-in_default-clause-ok
returns-in_default-clause-ok c = rw (← c.in_default.ensures, with_nobody c.args.grants.now) (omega arith, tt)

pub returns-in_default-clause-going : goal.returns-in_default-clause-going
returns-in_default-clause-going c = rw (← c.in_default.ensures, with_nobody c.args.grants.now) (omega arith)

-- those with a grant are among those who wait
pub reserve-requires-3 : goal.reserve-requires-3
reserve-requires-3 c =
    let all = c.in_ok-count.ensures.count in
    let fewer = with_fewer c.args.grants.now c.in-Some.chain.now.items in
    let here = ap length c.in-Some.ensures in
    omega (arith, all, fewer, here)
