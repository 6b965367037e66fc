use Rattle.std.proofs.Common.{arith}
use Rattle.gw_entities.proofs.Keyed.{placed_beside}
use Rattle.gw_entities.proofs.tables.Tables.place.Goals as goal

pub returns : goal.returns
returns c =
    let (long, apart) = c.self.invariant in
    rw (← c.self.view_is)
    (placed_beside c.self.inside.keys.keys c.self.inside.values.items c.args.key.now c.place.result apart (omega (arith, long)) c.place.ensures.there c.place.ensures.none)
