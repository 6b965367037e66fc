use Rattle.std.proofs.Common.{◌≡◌, ◌≤◌, ◌*◌, take}
use Rattle.gw_report.specs.Tables.{squares_of}
use Rattle.gw_report.proofs.moments.squares_of.Given as goal

abbrev pub invariant-loop-number : goal.invariant-loop-number
invariant-loop-number l = record {
  value : l.squares ≡ squares_of (take l.number-index l.numbers);
  bound : l.squares ≤ l.number-index * 1000000000000000000;
}
