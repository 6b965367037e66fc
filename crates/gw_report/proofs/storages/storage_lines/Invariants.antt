use Rattle.std.proofs.Common.{◌≡◌, ◌++◌, map, drop}
use Rattle.gw_report.specs.Layout.{rows_of}
use Rattle.gw_report.specs.Storages.{storage_columns, storage_line}
use Rattle.gw_report.proofs.storages.storage_lines.Given as goal

abbrev pub invariant-loop-index : goal.invariant-loop-index
invariant-loop-index l =
    l.lines ++ rows_of storage_columns (map (storage_line l.version l.state) (drop l.index l.storages))
    ≡ rows_of storage_columns (map (storage_line l.version l.state) l.storages)
