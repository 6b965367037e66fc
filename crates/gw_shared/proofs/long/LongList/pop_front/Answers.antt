use Rattle.std.proofs.Common.{◌∙◌}
use Rattle.gw_shared.specs.Lists.{chunk_items, joined}
use Rattle.gw_shared.proofs.Laws.{get_in, pop_behind}
use Rattle.gw_shared.proofs.long.LongList.pop_front.Goals as goal

pub returns-clause-items : goal.returns-clause-items
returns-clause-items g c =
    let cs = c.self.inside.chunks.items in
    let gone = c.self.inside.gone in
    let at = c.find-place.ensures in
    let chunk = c.index.result.now in
    let there = c.index.ensures in
    rw (← c.self.view_is)
    (pop_behind (joined cs) (joined c.drop_gone-count.new.chunks.items) gone c.drop_gone-count.result c.at-x.result.now
    (get_in chunk_items cs c.find-place.result.chunk c.find-place.result.offset gone chunk at.within there at.before (at.inside chunk there)
    ∙ c.at-x.ensures)
    c.drop_gone-count.ensures.items c.drop_gone-count.ensures.gone)
