use Rattle.std.proofs.Common.{◌≡◌, ◌+◌, ◌++◌, drop}
use Rattle.gw_script.specs.Printing.{lines_from}
use Rattle.gw_script.proofs.listing.put_lines.Given as goal

abbrev pub invariant-loop-line : goal.invariant-loop-line
invariant-loop-line l = record {
  put : l.text.items ++ lines_from (l.place + 1) (drop l.line-index l.lines) ≡ l.initial.text.items ++ lines_from 1 l.lines;
  place : l.place ≡ l.line-index;
}
