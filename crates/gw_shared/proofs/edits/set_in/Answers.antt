use Rattle.std.proofs.Common.{length, ap, ◌∙◌}
use Rattle.std.proofs.lemmas.List.{length-set}
use Rattle.gw_shared.specs.Lists.{chunk_items}
use Rattle.gw_shared.proofs.Full as full
use Rattle.gw_shared.proofs.Laws.{set_in}
use Rattle.gw_shared.proofs.edits.set_in.Goals as goal

pub returns-clause-items : goal.returns-clause-items
returns-clause-items g c =
    let at = c.requires.place in
    let x = c.index_mut.result.now in
    let there = c.index_mut.ensures.value in
    set_in chunk_items c.args.chunks.now.items c.args.place.chunk c.args.place.offset c.args.index x at.within there at.before c.set.new.self
    c.args.x (at.inside x there) c.set.ensures.items

pub returns-clause-full : goal.returns-clause-full
returns-clause-full g c = λ n are.
    let x = c.index_mut.result.now in
    full.same_length n c.args.place.chunk c.args.chunks.now.items x c.set.new.self are c.index_mut.ensures.value
    (ap (λ l. length l) c.set.ensures.items ∙ length-set (chunk_items x) c.args.place.offset c.args.x)
