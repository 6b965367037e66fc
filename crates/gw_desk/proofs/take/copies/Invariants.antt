use Rattle.std.proofs.Common.{◌≡◌, ◌++◌, drop}
use Rattle.gw_desk.proofs.take.copies.Given as goal

abbrev pub invariant-loop-edit : goal.invariant-loop-edit
invariant-loop-edit l = l.copies.items ++ drop l.edit-index l.edits ≡ l.edits
