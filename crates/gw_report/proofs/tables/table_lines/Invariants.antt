use Rattle.std.proofs.Common.{◌≡◌, ◌++◌, drop}
use Rattle.std.specs.List.{flat_map}
use Rattle.gw_report.specs.Layout.{rows_of}
use Rattle.gw_report.specs.Tables.{table_columns, table_lines}
use Rattle.gw_report.proofs.tables.table_lines.Given as goal

abbrev pub invariant-loop-index : goal.invariant-loop-index
invariant-loop-index l =
    l.lines ++ rows_of table_columns (flat_map (table_lines l.version l.state) (drop l.index l.tables))
    ≡ rows_of table_columns (flat_map (table_lines l.version l.state) l.tables)
