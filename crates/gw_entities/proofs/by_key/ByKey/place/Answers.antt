use Rattle.std.proofs.Common.{◌≤◌, length, arith}
use Rattle.gw_entities.proofs.Keyed.{placed_beside}
use Rattle.gw_entities.proofs.by_key.ByKey.place.Goals as goal

pub returns : goal.returns
returns g c =
    let ks = c.self.inside.keys.keys in
    let vs = c.self.inside.values.items in
    let (same, apart) = c.self.invariant in
    let long : length ks ≤ length vs = omega (arith, same) in
    rw (← c.self.view_is) (placed_beside ks vs c.args.key.now c.place.result apart long c.place.ensures.there c.place.ensures.none)
