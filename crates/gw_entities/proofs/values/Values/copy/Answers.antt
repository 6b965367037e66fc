use Rattle.std.proofs.Common.{◌++◌, length, map, ap, ◌∙◌, sym, subst}
use Rattle.gw_entities.specs.Values.{block_values, in_blocks, AreFull}
use Rattle.gw_entities.proofs.Blocks.{same_values}
use Rattle.gw_entities.proofs.values.Values.copy.Goals as goal

pub invariant_of-result : goal.invariant_of-result
invariant_of-result c =
    let same = c.in_ok-same_blocks.ensures ∙ ap (λ l. map block_values l) c.deref.ensures.value in
    let values = same_values c.in_ok-same_blocks.field-0.items c.self.inside.blocks.items same in
    (c.self.invariant.0 ∙ ap length (sym values), c.self.invariant.1, subst AreFull (sym same) c.self.invariant.2)

pub returns : goal.returns
returns c =
    let same = c.in_ok-same_blocks.ensures ∙ ap (λ l. map block_values l) c.deref.ensures.value in
    let values = same_values c.in_ok-same_blocks.field-0.items c.self.inside.blocks.items same in
    let last = c.in_ok-copy.field-0.items in
    ap (λ l. l ++ last) values ∙ (ap (λ l. in_blocks c.self.inside.blocks.items ++ l) c.in_ok-copy.ensures ∙ c.self.view_is)
