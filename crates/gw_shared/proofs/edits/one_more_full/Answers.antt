use Rattle.std.proofs.Common.{◌≡◌, ◌<◌, suc, add-one, length, rules}
use Rattle.gw_shared.specs.Lists.{chunk_items, AreFull}
use Rattle.gw_shared.proofs.Full as full
use Rattle.gw_shared.proofs.edits.one_more_full.Goals as goal

pub returns-then-len-eq-CHUNK : goal.returns-then-len-eq-CHUNK
returns-then-len-eq-CHUNK g c =
    let cs = c.args.chunks.now.items in
    let n = c.args.full in
    let x = c.index.result.now in
    let within : n < length cs = search rules in
    let whole : length (chunk_items x) ≡ 64 = search rules in
    let more : AreFull (suc n) cs = full.one_more n cs x c.requires within c.index.ensures whole in
    rw add-one more
