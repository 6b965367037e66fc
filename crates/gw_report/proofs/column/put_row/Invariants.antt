use Rattle.std.proofs.Common.{◌≡◌, ◌≤◌, ◌++◌, map}
use Rattle.std.specs.Slice.Iter.{iter_rest}
use Rattle.std.specs.Iterator.Adapters.{zip_first, zip_second}
use Rattle.gw_report.specs.Layout.{blanks, row_behind}
use Rattle.gw_report.specs.Cells.{column_of, text_of_cell}
use Rattle.gw_report.proofs.column.put_row.Given as goal

abbrev pub invariant-loop-column : goal.invariant-loop-column
invariant-loop-column l = record {
  row : l.sheet ++ row_behind (blanks l.gap) (map column_of (iter_rest (zip_first l.column-iterator)))
      (map text_of_cell (iter_rest (zip_second l.column-iterator)))
      ≡ l.initial.sheet ++ row_behind (blanks 0) (map column_of l.columns) (map text_of_cell l.cells);
  gap : l.gap ≤ 1;
}
