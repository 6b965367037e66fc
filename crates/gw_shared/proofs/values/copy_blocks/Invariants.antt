use Rattle.std.proofs.Common.{◌≡◌, map, take}
use Rattle.gw_shared.specs.Values.{block_values}
use Rattle.gw_shared.proofs.values.copy_blocks.Given as goal

abbrev pub invariant-loop-block : goal.invariant-loop-block
invariant-loop-block g l = map block_values l.copies.items ≡ map block_values (take l.block-index l.blocks)
