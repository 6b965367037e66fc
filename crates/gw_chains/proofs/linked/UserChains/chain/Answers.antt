use Rattle.std.proofs.Common.{sym}
use Rattle.std.proofs.lemmas.Option.{get_or_from_slice_get}
use Rattle.gw_entities.proofs.Keyed.{within_beside}
use Rattle.gw_chains.proofs.LinkedLaws.{chain_there}
use Rattle.gw_chains.proofs.linked.UserChains.chain.Goals as goal

pub at-requires : goal.at-requires
at-requires c =
    let there = rw (← c.self.view_is) at c.in_ok-index.ensures in
    within_beside c.self.inside.keys.keys c.self.inside.chains c.in_ok-index.index c.args.key.now there

pub returns : goal.returns
returns c =
    let cs = c.self.inside.chains in
    let there = rw (← c.self.view_is) at c.in_ok-index.ensures in
    let read = sym (get_or_from_slice_get cs c.in_ok-index.index c.at.result.now c.at.result.now c.at.ensures) in
    rw (← c.self.view_is) (sym (chain_there c.self.inside.keys.keys cs c.in_ok-index.index c.args.key.now c.at.result.now there read))
