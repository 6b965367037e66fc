use Rattle.std.proofs.Common.{◌≡◌, ◌++◌, take}
use Rattle.gw_model.proofs.lines.copy_behind.Given as goal

abbrev pub invariant-loop-line : goal.invariant-loop-line
invariant-loop-line l = l.made.items ≡ l.initial.made.items ++ take l.line-index l.lines
