use Rattle.std.proofs.Common.{sym, ◌<◌, ◌≤◌, length, refl, rules}
use Rattle.std.proofs.lemmas.Option.{slice_get_read}
use Rattle.gw_entities.proofs.Beside.{value_beside, nothing_beside}
use Rattle.gw_entities.proofs.tables.Tables.at.Goals as goal

pub returns-then-index-len : goal.returns-then-index-len
returns-then-index-len c =
    let vs = c.self.inside.values.items in
    let within : c.args.index < length vs = search rules in
    let there = slice_get_read vs (length vs) c.args.index c.index.result.now refl within c.index.ensures in
    rw (← c.self.view_is) (sym (value_beside c.self.inside.keys.keys vs c.args.index c.at.result.now c.index.result.now c.at.ensures there))

pub returns-else-index-len : goal.returns-else-index-len
returns-else-index-len c =
    let vs = c.self.inside.values.items in
    let beyond : length vs ≤ c.args.index = search rules in
    rw (← c.self.view_is) (sym (nothing_beside c.self.inside.keys.keys vs c.args.index beyond))
