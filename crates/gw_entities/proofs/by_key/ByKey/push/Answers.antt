use Rattle.std.proofs.Common.{◌≡◌, ◌++◌, ◌∷◌, [], rules}
use Rattle.indexmap.specs.IndexSet.{insert_key}
use Rattle.gw_names.specs.Keys.{key_eq}
use Rattle.gw_entities.proofs.Beside.{pushed_beside}
use Rattle.gw_entities.proofs.by_key.ByKey.push.Goals as goal

pub invariant_of-self-2 : goal.invariant_of-self-2
invariant_of-self-2 g c =
    let ks = c.self.inside.keys.keys in
    let vs = c.self.inside.values.items in
    let key = c.args.key.now in
    let none = rw (← c.self.view_is) at c.requires in
    let keys : c.insert.new.self.keys ≡ insert_key key_eq ks key = search rules in
    let values : c.push.new.self.items ≡ vs ++ c.args.value ∷ [] = search rules in
    (pushed_beside ks c.insert.new.self.keys vs c.push.new.self.items key c.args.value c.self.invariant none keys values).0

pub returns-clause-ok : goal.returns-clause-ok
returns-clause-ok g c =
    let ks = c.self.inside.keys.keys in
    let vs = c.self.inside.values.items in
    let key = c.args.key.now in
    let none = rw (← c.self.view_is) at c.requires in
    let keys : c.insert.new.self.keys ≡ insert_key key_eq ks key = search rules in
    let values : c.push.new.self.items ≡ vs ++ c.args.value ∷ [] = search rules in
    rw (← c.self.view_is)
    (pushed_beside ks c.insert.new.self.keys vs c.push.new.self.items key c.args.value c.self.invariant none keys values).1
