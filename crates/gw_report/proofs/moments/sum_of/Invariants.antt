use Rattle.std.proofs.Common.{◌≡◌, ◌≤◌, ◌*◌, take}
use Rattle.gw_nums.specs.Range.{magnitude}
use Rattle.gw_report.specs.Tables.{sum_of}
use Rattle.gw_report.proofs.moments.sum_of.Given as goal

abbrev pub invariant-loop-number : goal.invariant-loop-number
invariant-loop-number l = record {
  value : l.sum ≡ sum_of (take l.number-index l.numbers);
  bound : magnitude l.sum ≤ l.number-index * 1000000000;
}
