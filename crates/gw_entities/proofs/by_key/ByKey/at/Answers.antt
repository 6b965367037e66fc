use Rattle.std.proofs.Common.{sym, ◌≤◌, length, rules}
use Rattle.gw_entities.proofs.Beside.{value_beside, nothing_beside}
use Rattle.gw_entities.proofs.by_key.ByKey.at.Goals as goal

pub returns-then-index-len : goal.returns-then-index-len
returns-then-index-len g c =
    rw (← c.self.view_is)
    (sym (value_beside c.self.inside.keys.keys c.self.inside.values.items c.args.index c.at.result.now c.at-then-index-len.result.now
    c.at.ensures c.at-then-index-len.ensures))

pub returns-else-index-len : goal.returns-else-index-len
returns-else-index-len g c =
    let vs = c.self.inside.values.items in
    let beyond : length vs ≤ c.args.index = search rules in
    rw (← c.self.view_is) (sym (nothing_beside c.self.inside.keys.keys vs c.args.index beyond))
