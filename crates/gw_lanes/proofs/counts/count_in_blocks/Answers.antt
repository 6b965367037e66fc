use Rattle.std.proofs.Common.{ap, ◌∙◌, w32, ℤ, take}
use Rattle.std.specs.List.{sum_by}
use Rattle.std.proofs.lemmas.Int.{to_z-of_z}
use Rattle.std.proofs.lemmas.List.{take_all}
use Rattle.gw_lanes.specs.Counts.{count_at_most}
use Rattle.gw_lanes.proofs.counts.count_in_blocks.Goals as goal

pub returns : goal.returns
returns c =
    let blocks = c.args.blocks.now in
    c.loop-block.invariant.counted
    ∙ ap (λ (m : ℤ). sum_by (count_at_most m) (take c.loop-block.block-index blocks)) (to_z-of_z w32 c.args.limit c.ranges.limit)
    ∙ ap (sum_by (count_at_most c.args.limit)) (take_all _ blocks c.loop-block-test.false)
