use Rattle.std.proofs.Common.{◌≡◌, ◌≤◌, ◌-◌, length, take}
use Rattle.gw_report.specs.Moments.{AreValues}
use Rattle.gw_report.proofs.tables.numbers_of.Given as goal

abbrev pub invariant-loop-numbers : goal.invariant-loop-numbers
invariant-loop-numbers l = record {
  front : l.numbers.items ≡ take (length l.numbers.items) l.values;
  within : length l.numbers.items ≤ length l.values;
  values : AreValues l.numbers.items;
}

abbrev pub decreases-loop-numbers : goal.decreases-loop-numbers
decreases-loop-numbers l = length l.values - length l.numbers.items
