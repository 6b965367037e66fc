use Rattle.std.proofs.Common.{◌≡◌, Some, sym, ap, ◌∙◌}
use Rattle.std.specs.List.{find}
use Rattle.gw_names.specs.declared.key.Key.{Key}
use Rattle.gw_names.specs.Keys.{key_eq}
use Rattle.gw_entities.proofs.QueueArrivalLaws.{key_same, find_passes}
use Rattle.gw_entities.proofs.key_table.place_by_hash.Goals as goal

pub returns-in-Some-clause-there : goal.returns-in-Some-clause-there
returns-in-Some-clause-there c =
    let key = c.args.key.now in
    let ks = c.args.set.now.keys in
    let k = c.in-Some.field-0-1.now in
    let found : Some k ≡ find (key_eq key) ks = c.in-Some.ensures.key in
    let same = key_same key k (find_passes (key_eq key) ks k found) in
    c.in-Some.ensures.stored ∙ ap (λ (q : Key). Some q) (sym same)
