use Rattle.std.proofs.Common.{◌≡◌, ◌<◌, ◌-◌, length, set, refl, rules}
use Rattle.gw_shared.proofs.Full as full
use Rattle.gw_shared.specs.Lists.{chunk_items}
use Rattle.gw_shared.proofs.Laws.{push_last}
use Rattle.gw_shared.proofs.edits.push_in.Goals as goal
use Rattle.gw_shared.proofs.edits.push_in.Goals.{then-count-gt0+else-len-lt-CHUNK, else-count-gt0}

pub returns-then-len-lt-CHUNK-clause-items : goal.returns-then-len-lt-CHUNK-clause-items
returns-then-len-lt-CHUNK-clause-items g c =
    let all : c.len-count.result ≡ length c.args.chunks.now.items = search rules in
    push_last chunk_items c.args.chunks.now.items c.len-count.result c.index_mut-last.result.now c.push.new.self c.args.x all c.if-count-gt0.true
    c.index_mut-last.ensures.value c.push.ensures.items

pub returns-then-len-lt-CHUNK-clause-full : goal.returns-then-len-lt-CHUNK-clause-full
returns-then-len-lt-CHUNK-clause-full g c = λ n are.
    let cs = c.args.chunks.now.items in
    let q = c.len-count.result - 1 in
    let x = c.index_mut-last.result.now in
    let there = c.index_mut-last.ensures.value in
    let less : length (chunk_items x) < 64 = search rules in
    full.set_behind n q cs c.push.new.self are (full.behind n q cs x are there less)

pub returns-clause-full : goal.returns-clause-full
returns-clause-full g c = λ n are. rw c.push_back_reserved.ensures.items (elim c.if-count-gt0.branch [
  | then-count-gt0+else-len-lt-CHUNK w ↦
      let q = c.len-count.result - 1 in
      let x = w.index_mut-last.result.now in
      rw w.chunks-is (full.push_behind n (set c.args.chunks.now.items q x) _
      (full.same_length n q c.args.chunks.now.items x x are w.index_mut-last.ensures.value refl))
  | else-count-gt0 w ↦ rw w.chunks-is (full.push_behind n c.args.chunks.now.items _ are)
])
