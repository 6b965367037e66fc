use Rattle.std.proofs.Common.{◌≡◌, ◌++◌, map, ap, ap₂, ◌∙◌, sym, subst, arith, rules, length}
use Rattle.gw_shared.specs.Growing.{block_items, AreFull}
use Rattle.gw_shared.proofs.Laws.{same_parts}
use Rattle.gw_shared.proofs.growing.Growing.copy.Goals as goal

pub invariant_of-result : goal.invariant_of-result
invariant_of-result g c =
    let blocks = c.in_ok-blocks.blocks.items in
    let same : map block_items blocks ≡ map block_items c.self.inside.blocks.items = c.in_ok-blocks.ensures ∙ ap (λ l. map block_items l) c.deref.ensures.value in
    let items = same_parts block_items blocks c.self.inside.blocks.items same in (
      c.self.invariant.0 ∙ ap length (sym items),
      c.self.invariant.1,
      subst AreFull (sym same) c.self.invariant.2,
      λ some. omega (arith, c.in_ok-last.ensures.capacity, c.extend_from_slice.ensures.capacity),
    )

pub returns : goal.returns
returns g c =
    let blocks = c.in_ok-blocks.blocks.items in
    let same : map block_items blocks ≡ map block_items c.self.inside.blocks.items = c.in_ok-blocks.ensures ∙ ap (λ l. map block_items l) c.deref.ensures.value in
    let items = same_parts block_items blocks c.self.inside.blocks.items same in
    let last : c.extend_from_slice.new.self.items ≡ c.self.inside.last.items = search rules in
    ap₂ (λ l m. l ++ m) items last ∙ c.self.view_is
