use Rattle.std.proofs.Common.{◌∙◌}
use Rattle.gw_shared.proofs.Full as full
use Rattle.gw_shared.specs.Lists.{chunk_items}
use Rattle.gw_shared.proofs.Laws.{remove_in, get_in}
use Rattle.gw_shared.proofs.edits.remove_in.Goals as goal

pub returns-clause-value : goal.returns-clause-value
returns-clause-value g c =
    let at = c.requires.place in
    let x = c.index_mut-chunk.result.now in
    let there = c.index_mut-chunk.ensures.value in
    get_in chunk_items c.args.chunks.now.items c.args.place.chunk c.args.place.offset c.args.index x at.within there at.before (at.inside x there)
    ∙ c.remove-x.ensures.value

pub returns-clause-items : goal.returns-clause-items
returns-clause-items g c =
    let at = c.requires.place in
    let x = c.index_mut-chunk.result.now in
    let there = c.index_mut-chunk.ensures.value in
    c.drop_if_empty.ensures.items
    ∙ remove_in chunk_items c.args.chunks.now.items c.args.place.chunk c.args.place.offset c.args.index x at.within there at.before
    c.remove-x.new.self (at.inside x there) c.remove-x.ensures.items

pub returns-clause-full : goal.returns-clause-full
returns-clause-full g c = λ n h are.
    c.drop_if_empty.ensures.full n h (full.set_behind n c.args.place.chunk c.args.chunks.now.items c.remove-x.new.self are h)
