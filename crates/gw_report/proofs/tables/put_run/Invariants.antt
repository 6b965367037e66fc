use Rattle.std.proofs.Common.{◌≡◌, ◌≤◌, ◌<◌, ◌++◌, ℕ, get_or, pos, take}
use Rattle.gw_nums.specs.Range.{magnitude}
use Rattle.gw_report.proofs.tables.put_run.Given as goal

abbrev pub invariant-loop-value : goal.invariant-loop-value
invariant-loop-value l = record {
  items : l.numbers.items ≡ l.initial.numbers.items ++ take l.value-index l.run;
  values : (k : ℕ) → k < l.value-index → magnitude (get_or l.run k (pos 0)) ≤ 1000000000;
}
