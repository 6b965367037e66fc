use Rattle.std.proofs.Common.{◌≡◌, length}
use Rattle.gw_lines.specs.Edits.{edit_lines, short_lines}
use Rattle.gw_lines.proofs.edit.short_lines.Given as goal

-- the lines that are left are as short as the whole
abbrev pub invariant-loop-rest : goal.invariant-loop-rest
invariant-loop-rest l = short_lines (edit_lines l.rest) ≡ short_lines (edit_lines l.text)

abbrev pub decreases-loop-rest : goal.decreases-loop-rest
decreases-loop-rest l = length l.rest
