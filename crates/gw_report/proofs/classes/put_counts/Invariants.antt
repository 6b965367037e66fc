use Rattle.std.proofs.Common.{◌≡◌, ◌≤◌, ◌++◌, ◌*◌, ◌^◌, drop}
use Rattle.gw_report.specs.Layout.{rows_of}
use Rattle.gw_report.specs.Tables.{table_columns, class_lines}
use Rattle.gw_report.proofs.classes.put_counts.Given as goal

abbrev pub invariant-loop-i : goal.invariant-loop-i
invariant-loop-i l = record {
  rows : l.out ++ rows_of table_columns (class_lines l.limits l.all l.i l.so_far (drop l.i l.counts))
      ≡ l.initial.out ++ rows_of table_columns (class_lines l.limits l.all 0 0 l.counts);
  bound : l.so_far ≤ l.i * 2 ^ 32;
}
