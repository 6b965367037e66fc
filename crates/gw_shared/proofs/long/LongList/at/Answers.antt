use Rattle.std.proofs.Common.{◌+◌, refl, sym, ◌∙◌}
use Rattle.gw_shared.specs.Lists.{chunk_items, joined}
use Rattle.gw_shared.proofs.Laws.{get_in, get_behind}
use Rattle.gw_shared.proofs.long.LongList.at.Goals as goal

pub returns : goal.returns
returns g c =
    let cs = c.self.inside.chunks.items in
    let gone = c.self.inside.gone in
    let at = c.find-place.ensures in
    let x = c.index.result.now in
    let there = c.index.ensures in
    rw (← c.self.view_is)
    (sym (get_behind (joined cs) gone c.args.index (gone + c.args.index) refl)
    ∙ (get_in chunk_items cs c.find-place.result.chunk c.find-place.result.offset (gone + c.args.index) x at.within there at.before (at.inside x there)
    ∙ c.at.ensures))
