use Rattle.std.proofs.Common.{arith}
use Rattle.gw_entities.proofs.Keyed.{placed_beside}
use Rattle.gw_chains.proofs.linked.UserChains.place.Goals as goal

pub returns : goal.returns
returns c =
    let ks = c.self.inside.keys.keys in
    let cs = c.self.inside.chains in
    let beside = c.self.invariant.beside in
    rw (← c.self.view_is)
    (placed_beside ks cs c.args.key.now c.place.result c.self.invariant.apart (omega (arith, beside)) c.place.ensures.there c.place.ensures.none)
