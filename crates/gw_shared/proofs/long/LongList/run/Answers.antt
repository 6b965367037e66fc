use Rattle.std.proofs.Common.{◌+◌, ◌<◌, length, slice_get, refl, sym, ap, ◌∙◌, arith}
use Rattle.std.proofs.lemmas.List.{length-drop}
use Rattle.gw_shared.specs.Lists.{chunk_items, joined}
use Rattle.gw_shared.proofs.Laws.{get_in, get_behind}
use Rattle.gw_shared.proofs.long.LongList.run.Goals as goal

pub returns-clause-run : goal.returns-clause-run
returns-clause-run g c = λ k h.
    let cs = c.self.inside.chunks.items in
    let gone = c.self.inside.gone in
    let at = c.find-place.ensures in
    let q = c.find-place.result.chunk in
    let r = c.find-place.result.offset in
    let x = c.index.result.now in
    let there = c.index.ensures in
    let within : r + k < length (chunk_items x) = omega (arith, h, ap length c.from.ensures, length-drop r (chunk_items x)) in
    rw (← c.self.view_is)
    (sym (get_behind (joined cs) gone (c.args.index + k) (gone + (c.args.index + k)) refl)
    ∙ (get_in chunk_items cs q (r + k) (gone + (c.args.index + k)) x at.within there (omega (arith, at.before)) within
    ∙ (get_behind (chunk_items x) r k (r + k) refl ∙ ap (λ l. slice_get l k) (sym c.from.ensures))))
