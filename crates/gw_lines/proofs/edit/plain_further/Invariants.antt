use Rattle.std.proofs.Common.{◌≡◌, length}
use Rattle.gw_lines.specs.Edits.{edit_lines, plain_further}
use Rattle.gw_lines.proofs.edit.plain_further.Given as goal

-- the lines that are left are as plain as the whole
abbrev pub invariant-loop-rest : goal.invariant-loop-rest
invariant-loop-rest l = plain_further (edit_lines l.rest) ≡ plain_further (edit_lines l.text)

abbrev pub decreases-loop-rest : goal.decreases-loop-rest
decreases-loop-rest l = length l.rest
