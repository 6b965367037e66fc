use Rattle.std.proofs.Common.{◌≡◌, map, take}
use Rattle.gw_shared.specs.Lists.{chunk_items}
use Rattle.gw_shared.proofs.edits.copies.Given as goal

abbrev pub invariant-loop-at : goal.invariant-loop-at
invariant-loop-at g l = map chunk_items l.copies.items ≡ take l.at (map chunk_items l.chunks.items)
