use Rattle.std.proofs.Common.{◌≡◌, length}
use Rattle.gw_lines.specs.Edits.{edit_lines, completed_by}
use Rattle.gw_lines.proofs.edit.complete.Given as goal

-- the lines that are left complete the statement as it is as all lines complete the first
abbrev pub invariant-loop-rest : goal.invariant-loop-rest
invariant-loop-rest l = completed_by l.statement (edit_lines l.rest) ≡ completed_by l.initial.statement (edit_lines l.text)

abbrev pub decreases-loop-rest : goal.decreases-loop-rest
decreases-loop-rest l = length l.rest
