use Rattle.std.proofs.Common.{◌≡◌, ◌≤◌, ◌+◌, drop, filter, length}
use Rattle.gw_meaning.specs.Listing.{is_command}
use Rattle.gw_touch.proofs.lines.count_commands.Given as goal

abbrev pub invariant-loop-line : goal.invariant-loop-line
invariant-loop-line l =
    (l.count ≤ l.line-index) ×
    (l.count + length (filter is_command (drop l.line-index l.lines)) ≡ length (filter is_command l.lines))
