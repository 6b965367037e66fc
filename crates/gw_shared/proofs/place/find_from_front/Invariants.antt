use Rattle.std.proofs.Common.{◌≡◌, ◌≤◌, length, take}
use Rattle.gw_shared.specs.Lists.{joined}
use Rattle.gw_shared.proofs.place.find_from_front.Given as goal

-- so many items are in the chunks that were passed
abbrev pub invariant-loop-chunk : goal.invariant-loop-chunk
invariant-loop-chunk g l = (l.start ≡ length (joined (take l.chunk l.chunks.items))) × (l.start ≤ l.index)
