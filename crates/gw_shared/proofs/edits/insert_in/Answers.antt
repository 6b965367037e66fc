use Rattle.std.proofs.Common.{◌+◌, set, arith}
use Rattle.gw_shared.proofs.Full as full
use Rattle.gw_shared.specs.Lists.{chunk_items}
use Rattle.gw_shared.proofs.Laws.{insert_in, split_in}
use Rattle.gw_shared.proofs.edits.insert_in.Goals as goal

pub returns-then-len-lt-CHUNK-clause-items : goal.returns-then-len-lt-CHUNK-clause-items
returns-then-len-lt-CHUNK-clause-items g c =
    let at = c.requires.place in
    let x = c.index_mut-chunk.result.now in
    let there = c.index_mut-chunk.ensures.value in
    let inside = at.inside x there in
    insert_in chunk_items c.args.chunks.now.items c.args.place.chunk c.args.place.offset c.args.index x at.within there at.before
    c.insert.new.self c.args.x (omega (arith, inside)) c.insert.ensures.items

pub returns-clause-items : goal.returns-clause-items
returns-clause-items g c =
    let at = c.requires.place in
    let x = c.index_mut-chunk.result.now in
    let there = c.index_mut-chunk.ensures.value in
    let inside = at.inside x there in
    rw c.in-Ok.ensures.items
    (split_in chunk_items c.args.chunks.now.items c.args.place.chunk c.args.place.offset c.args.index x at.within there at.before
    (c.args.place.chunk + 1) c.insert_splitting-back.new.self c.insert_splitting-back.result c.args.x (omega arith) (omega (arith, inside))
    c.insert_splitting-back.ensures.items)

pub returns-then-len-lt-CHUNK-clause-full : goal.returns-then-len-lt-CHUNK-clause-full
returns-then-len-lt-CHUNK-clause-full g c = λ n h are. full.set_behind n c.args.place.chunk c.args.chunks.now.items c.insert.new.self are h

pub returns-clause-full : goal.returns-clause-full
returns-clause-full g c = λ n h are.
    let q = c.args.place.chunk in
    let y = c.insert_splitting-back.new.self in
    rw c.in-Ok.ensures.items
    (full.insert_behind n (q + 1) (set c.args.chunks.now.items q y) c.insert_splitting-back.result
    (full.set_behind n q c.args.chunks.now.items y are h) (omega (arith, h)))
