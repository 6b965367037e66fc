use Rattle.std.proofs.Common.{◌≡◌, drop, max}
use Rattle.gw_model.specs.Spliced.{greatest_number}
use Rattle.gw_model.proofs.lines.greatest_number.Given as goal

abbrev pub invariant-loop-line : goal.invariant-loop-line
invariant-loop-line l = max l.greatest (greatest_number (drop l.line-index l.lines)) ≡ greatest_number l.lines
