use Rattle.std.proofs.Common.{◌≡◌, map}
use Rattle.gw_shared.specs.Values.{block_values}
use Rattle.gw_shared.proofs.values.share_blocks.Given as goal

abbrev pub invariant-loop-at : goal.invariant-loop-at
invariant-loop-at g l = map block_values l.blocks.items ≡ map block_values l.initial.blocks.items
