use Rattle.std.proofs.Common.{◌≡◌, set, ◌-◌, ◌<◌, length, map, ap, ◌∙◌, arith, rules}
use Rattle.std.proofs.lemmas.List.{length_push}
use Rattle.gw_shared.specs.Values.{block_values, HasRoom}
use Rattle.gw_shared.proofs.Laws.{push_last, same_set, same_parts}
use Rattle.gw_shared.proofs.Laid.{last_room, some_room, begun, grown, same_laid}
use Rattle.gw_shared.proofs.values.push_in.Goals as goal

pub returns-in_err-push-clause-err : goal.returns-in_err-push-clause-err
returns-in_err-push-clause-err g c =
    let bs = c.args.blocks.now.items in
    let q = c.len-last.result - 1 in
    let y = c.push.new.self in
    let same = same_parts block_values (set bs q y) bs (same_set block_values bs q c.index_mut.result.now y c.index_mut.ensures.value c.in_err-push.ensures.err) in
    search rules

pub returns-in_err-push-clause-laid : goal.returns-in_err-push-clause-laid
returns-in_err-push-clause-laid g c =
    let bs = c.args.blocks.now.items in
    let q = c.len-last.result - 1 in
    let y = c.push.new.self in
    same_laid block_values bs (set bs q y) (same_set block_values bs q c.index_mut.result.now y c.index_mut.ensures.value c.in_err-push.ensures.err) c.requires

pub returns-then-has_room-clause-ok : goal.returns-then-has_room-clause-ok
returns-then-has_room-clause-ok g c =
    let bs = c.args.blocks.now.items in
    let n = c.len-last.result in
    let all : n ≡ length bs = search rules in
    let room : HasRoom (map block_values bs) = search rules in
    let some = some_room block_values bs room in
    push_last block_values bs n c.index_mut.result.now c.push.new.self c.args.value all (omega (arith, all, some)) c.index_mut.ensures.value c.in_ok-push.ensures.ok

pub returns-then-has_room-clause-laid : goal.returns-then-has_room-clause-laid
returns-then-has_room-clause-laid g c =
    let bs = c.args.blocks.now.items in
    let n = c.len-last.result in
    let x = c.index_mut.result.now in
    let all : n ≡ length bs = search rules in
    let room : HasRoom (map block_values bs) = search rules in
    let some = some_room block_values bs room in
    let many : 0 < n = omega (arith, all, some) in
    let less = (last_room block_values bs n x all many c.index_mut.ensures.value).1 room in
    let longer = ap length c.in_ok-push.ensures.ok ∙ length_push (block_values x) c.args.value in
    grown block_values bs n x c.push.new.self all many c.index_mut.ensures.value less (omega (arith, longer)) c.requires

pub returns-clause-laid : goal.returns-clause-laid
returns-clause-laid g c =
    let bs = c.args.blocks.now.items in
    let full : HasRoom (map block_values bs) → ⊥ = search rules in
    let one = ap length c.in_ok-block.ensures in
    rw c.in_ok-push-2.ensures.items (begun block_values bs c.in_ok-block.block c.requires full one)
