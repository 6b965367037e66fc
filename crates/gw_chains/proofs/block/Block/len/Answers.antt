use Rattle.std.proofs.Common.{length, ap, arith}
use Rattle.gw_chains.proofs.BlockLaws.{length_events}
use Rattle.gw_chains.proofs.block.Block.len.Goals as goal

pub returns-clause-len : goal.returns-clause-len
returns-clause-len c =
    let b = c.self.inside in
    omega (arith, c.len.ensures, length_events b.transactions b.times.items b.keys.items c.self.invariant.long, ap (λ s. length s.items) c.self.view_is)
