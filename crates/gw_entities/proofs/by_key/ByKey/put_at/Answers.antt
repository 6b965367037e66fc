use Rattle.std.proofs.Common.{◌<◌, length, ap, arith, ◌∙◌}
use Rattle.std.specs.List.{zip}
use Rattle.gw_entities.proofs.Beside.{set_beside}
use Rattle.gw_entities.proofs.Keyed.{within_beside, key_at}
use Rattle.gw_entities.proofs.by_key.ByKey.put_at.Goals as goal

pub set-requires-clause-within : goal.set-requires-clause-within
set-requires-clause-within g c =
    let there = rw (← c.self.view_is, c.in-Some.is) at c.requires in
    rw c.in_ok-reserve.ensures.items
    (within_beside c.self.inside.keys.keys c.self.inside.values.items c.in-Some.index c.args.key.now there)

pub returns-clause-ok : goal.returns-clause-ok
returns-clause-ok g c =
    let ks = c.self.inside.keys.keys in
    let vs = c.self.inside.values.items in
    let (long, apart) = c.self.invariant in
    let i = c.in-Some.index in
    let there = rw (← c.self.view_is, c.in-Some.is) at c.requires in
    let within : i < length ks = let own = within_beside ks vs i c.args.key.now there in omega (arith, own, long) in
    let values = rw c.in_ok-reserve.ensures.items at c.set.ensures.items in
    rw (← c.self.view_is)
    (ap (λ l. zip ks l) values
    ∙ set_beside ks vs i c.args.key.now c.args.value long apart (key_at ks vs i c.args.key.now there.0 there.1) within)
