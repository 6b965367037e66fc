use Rattle.std.proofs.Common.{◌≡◌, ◌≤◌, drop}
use Rattle.gw_lines.specs.Numbers.{number_after}
use Rattle.gw_lines.proofs.number.number_after.Given as goal

-- the digits that are left, after the number so far, spell the whole
abbrev pub invariant-loop-b : goal.invariant-loop-b
invariant-loop-b l = (l.number ≤ l.most) × (number_after l.most l.number (drop l.b-index l.text) ≡ number_after l.most l.first l.text)
