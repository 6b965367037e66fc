use Rattle.std.proofs.Common.{◌≡◌, ◌++◌, map, drop}
use Rattle.gw_report.specs.Layout.{rows_of}
use Rattle.gw_report.specs.Facilities.{facility_columns, facility_line}
use Rattle.gw_report.proofs.facilities.facility_lines.Given as goal

abbrev pub invariant-loop-index : goal.invariant-loop-index
invariant-loop-index l =
    l.lines ++ rows_of facility_columns (map (facility_line l.state) (drop l.index l.facilities))
    ≡ rows_of facility_columns (map (facility_line l.state) l.facilities)
