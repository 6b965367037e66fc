use Rattle.std.proofs.Common.{length, refl, ap, arith}
use Rattle.std.proofs.lemmas.Bool.Decides.{nat_tests}
use Rattle.gw_shared.specs.Values.{block_values}
use Rattle.gw_shared.proofs.Laid.{last_room}
use Rattle.gw_shared.proofs.values.has_room.Goals as goal

pub returns-then-count-gt0 : goal.returns-then-count-gt0
returns-then-count-gt0 g c =
    let bs = c.args.blocks.now in
    let b = c.index-blocks-count.result in
    let room = last_room block_values bs (length bs) b refl c.if-count-gt0.true c.index-blocks-count.is in
    let long = ap length c.values.ensures in (
      λ less. room.0 (grind (arith, nat_tests)),
      λ has. let less = room.1 has in grind (arith, nat_tests),
    )
