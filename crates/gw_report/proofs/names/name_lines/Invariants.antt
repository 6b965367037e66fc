use Rattle.std.proofs.Common.{◌≡◌, ◌≤◌, ◌+◌, ◌++◌, drop}
use Rattle.gw_report.specs.Layout.{rows_of}
use Rattle.gw_report.specs.Names.{name_columns, name_lines}
use Rattle.gw_report.specs.NameKeys.{names_among}
use Rattle.gw_report.proofs.names.name_lines.Given as goal

abbrev pub invariant-loop-key : goal.invariant-loop-key
invariant-loop-key l = record {
  rows : l.lines ++ rows_of name_columns (name_lines l.version l.next (names_among (drop l.key-index l.names)))
      ≡ rows_of name_columns (name_lines l.version 10000 (names_among l.names));
  below : l.next ≤ 10000 + l.key-index;
}
