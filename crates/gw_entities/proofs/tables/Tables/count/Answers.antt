use Rattle.std.proofs.Common.{◌<◌, [], length, unwrap_or, sym, ap, subst, ◌∙◌, rules}
use Rattle.std.specs.List.{zip}
use Rattle.gw_meaning.specs.Tables.{IsPlace}
use Rattle.gw_entities.proofs.Keyed.{value_there, within_beside}
use Rattle.gw_entities.proofs.tables.Tables.count.Goals as goal

pub index-requires : goal.index-requires
index-requires c =
    let ks = c.self.inside.keys.keys in
    let vs = c.self.inside.values.items in
    let key = c.args.key.now in
    let i = c.in-Some.index in
    let there = subst (IsPlace (zip ks vs) key) c.in-Some.is (rw (← c.self.view_is) at c.place.ensures) in
    let within : i < length vs = within_beside ks vs i key there in
    search rules

pub returns-in-Some : goal.returns-in-Some
returns-in-Some c =
    let ks = c.self.inside.keys.keys in
    let vs = c.self.inside.values.items in
    let key = c.args.key.now in
    let i = c.in-Some.index in
    let there = subst (IsPlace (zip ks vs) key) c.in-Some.is (rw (← c.self.view_is) at c.place.ensures) in
    let found = value_there ks vs i key c.index.result.now there c.index.ensures in
    rw (← c.self.view_is) (c.len.ensures ∙ sym (ap (λ o. length (unwrap_or o [])) found))
