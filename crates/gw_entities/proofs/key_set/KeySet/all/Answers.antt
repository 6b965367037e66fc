use Rattle.std.proofs.Common.{◌≡◌, ◌+◌, ◌++◌, refl, ◌∙◌, rules}
use Rattle.std.specs.List.{IsDistinct}
use Rattle.gw_names.specs.Keys.{key_eq}
use Rattle.gw_entities.proofs.Settling.{one_more}
use Rattle.gw_entities.proofs.key_set.KeySet.all.Goals as goal

pub loop-index-preserved : goal.loop-index-preserved
loop-index-preserved c =
    let xs = c.in_ok-all.all.set.keys in
    let ys = c.self.inside.recent.keys in
    let i = c.loop-index.index in
    let apart : IsDistinct key_eq (xs ++ ys) = rw c.in_ok-all.ensures c.self.invariant.0 in
    let same : c.in_ok-key.key ≡ c.at.result.now = search rules in
    rw c.in_ok-reserve.ensures.keys at c.insert.ensures.keys ∙
    one_more xs ys c.loop-index.all.set.keys i (i + 1) c.at.result.now c.in_ok-key.key apart c.at.ensures same refl c.loop-index.invariant
