use Rattle.std.proofs.Common.{◌≡◌, None, drop}
use Rattle.gw_touch.specs.Touching.{last_block}
use Rattle.gw_touch.proofs.lines.last_block.Given as goal

abbrev pub invariant-loop-line : goal.invariant-loop-line
invariant-loop-line l = last_block l.last (drop l.line-index l.lines) ≡ last_block None l.lines
