use Rattle.std.proofs.Common.{◌≡◌, ◌+◌, ◌≤◌, length, None}
use Rattle.gw_lines.specs.Models.{lines_of, statements_of}
use Rattle.gw_lines.proofs.Models.{with_front}
use Rattle.gw_lines.proofs.model.read_lines.Given as goal

-- the statements so far and those of the lines that are left, after the one under way, are those of all lines
abbrev pub invariant-loop-rest : goal.invariant-loop-rest
invariant-loop-rest l = (l.number + length l.rest ≤ length l.bytes)
    × (with_front l.statements.items (statements_of l.under (l.number + 1) (lines_of l.rest)) ≡ statements_of None 1 (lines_of l.bytes))

abbrev pub decreases-loop-rest : goal.decreases-loop-rest
decreases-loop-rest l = length l.rest
