use Rattle.std.proofs.Common.{◌≡◌, take}
use Rattle.gw_entities.proofs.values.in_one_piece.Given as goal

abbrev pub invariant-loop-index : goal.invariant-loop-index
invariant-loop-index l = l.piece.items ≡ take l.index l.values.items
