use Rattle.std.proofs.Common.{◌≡◌, [], length}
use Rattle.gw_lines.specs.Edits.{edit_lines}
use Rattle.gw_lines.specs.Pairs.{open_lines}
use Rattle.gw_lines.proofs.edit.open_lines.Given as goal

-- the lines that are left have pairs after the points so far as all lines do
abbrev pub invariant-loop-rest : goal.invariant-loop-rest
invariant-loop-rest l = open_lines l.points.items (edit_lines l.rest) ≡ open_lines [] (edit_lines l.text)

abbrev pub decreases-loop-rest : goal.decreases-loop-rest
decreases-loop-rest l = length l.rest
