use Rattle.std.proofs.Common.{◌≡◌, ◌<◌, ◌++◌, ◌∷◌, [], length, ap, subst, ◌∙◌, arith, rules}
use Rattle.std.specs.List.{zip}
use Rattle.gw_meaning.specs.Tables.{with_value, IsPlace}
use Rattle.gw_entities.proofs.Keyed.{set_beside, value_there, within_beside}
use Rattle.gw_entities.proofs.TableLaws.{set_value_is}
use Rattle.gw_entities.proofs.tables.Tables.add.Goals as goal

pub index_mut-requires : goal.index_mut-requires
index_mut-requires c =
    let ks = c.self.inside.keys.keys in
    let vs = c.self.inside.values.items in
    let key = c.args.key.now in
    let i = c.in-Some.index in
    let there = subst (IsPlace (zip ks vs) key) c.in-Some.is (rw (← c.self.view_is) at c.place.ensures) in
    let within : i < length vs = within_beside ks vs i key there in
    search rules

pub returns-clause-ok : goal.returns-clause-ok
returns-clause-ok c =
    let ks = c.self.inside.keys.keys in
    let vs = c.self.inside.values.items in
    let key = c.args.key.now in
    let i = c.in-Some.index in
    let there = subst (IsPlace (zip ks vs) key) c.in-Some.is (rw (← c.self.view_is) at c.place.ensures) in
    let (long, apart) = c.self.invariant in
    let was = c.index_mut.result.now in
    let found = value_there ks vs i key was there c.index_mut.ensures.value in
    let written = set_beside ks vs i key c.push.new.self apart (omega (arith, long)) there ∙ set_value_is (zip ks vs) key c.push.new.self there.0 there.2 in
    let more : c.push.new.self ≡ was ++ c.args.value ∷ [] = c.in_ok-push.ensures.ok in
    rw (← c.self.view_is, found) (written ∙ ap (with_value (zip ks vs) key) more)
