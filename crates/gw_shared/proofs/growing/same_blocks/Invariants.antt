use Rattle.std.proofs.Common.{◌≡◌, map, take}
use Rattle.gw_shared.specs.Growing.{block_items}
use Rattle.gw_shared.proofs.growing.same_blocks.Given as goal

abbrev pub invariant-loop-block : goal.invariant-loop-block
invariant-loop-block g l = map block_items l.same.items ≡ map block_items (take l.block-index l.blocks)
