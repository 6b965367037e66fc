use Rattle.std.proofs.Common.{◌≡◌, length, map, ap, sym, ◌∙◌}
use Rattle.gw_shared.specs.Values.{block_values}
use Rattle.gw_shared.proofs.Laws.{same_parts}
use Rattle.gw_shared.proofs.Laid.{same_laid}
use Rattle.gw_shared.proofs.values.SharedValues.copy.Goals as goal

pub invariant_of-result : goal.invariant_of-result
invariant_of-result g c =
    let bs = c.self.inside.blocks.items in
    let new = c.in_ok-copy_blocks.field-0.items in
    let same : map block_values new ≡ map block_values bs = c.in_ok-copy_blocks.ensures ∙ ap (map block_values) c.deref.ensures.value in (
      c.self.invariant.0 ∙ ap length (sym (same_parts block_values new bs same)),
      same_laid block_values bs new same c.self.invariant.1,
    )

pub returns : goal.returns
returns g c =
    let bs = c.self.inside.blocks.items in
    let new = c.in_ok-copy_blocks.field-0.items in
    let same : map block_values new ≡ map block_values bs = c.in_ok-copy_blocks.ensures ∙ ap (map block_values) c.deref.ensures.value in
    same_parts block_values new bs same ∙ c.self.view_is
