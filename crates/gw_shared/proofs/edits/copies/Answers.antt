use Rattle.std.proofs.Common.{◌≡◌, ◌<◌, length, map, refl, arith, rules}
use Rattle.gw_shared.specs.Lists.{chunk_items}
use Rattle.gw_shared.proofs.Laws.{twins_more}
use Rattle.gw_shared.proofs.edits.copies.Goals as goal

pub loop-at-preserved : goal.loop-at-preserved
loop-at-preserved g c =
    let xs = c.args.chunks.now.items in
    let all : c.len-at-end.result ≡ length xs = search rules in
    let test = c.loop-at-test.true in
    let within : c.loop-at.at < length xs = omega (arith, all, test) in
    rw c.in_ok-push_back.ensures.items
    (twins_more chunk_items c.loop-at.copies.items xs c.loop-at.at c.index.result.now c.in_ok-copy.field-0 (map chunk_items xs)
    within refl c.loop-at.invariant c.index.ensures c.in_ok-copy.ensures)
