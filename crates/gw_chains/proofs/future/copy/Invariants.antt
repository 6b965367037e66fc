use Rattle.std.proofs.Common.{◌≡◌, take}
use Rattle.gw_chains.specs.Blocks.{all_items}
use Rattle.gw_chains.proofs.future.copy.Given as goal

abbrev pub invariant-loop-i : goal.invariant-loop-i
invariant-loop-i l = all_items l.copies.items ≡ all_items (take l.i l.blocks.items)
