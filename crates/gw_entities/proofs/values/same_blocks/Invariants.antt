use Rattle.std.proofs.Common.{◌≡◌, map, take}
use Rattle.gw_entities.specs.Values.{block_values}
use Rattle.gw_entities.proofs.values.same_blocks.Given as goal

abbrev pub invariant-loop-block : goal.invariant-loop-block
invariant-loop-block l = map block_values l.same.items ≡ map block_values (take l.block-index l.blocks)
