use Rattle.std.proofs.Common.{◌≡◌, ◌++◌, sym, arith, rules}
use Rattle.gw_names.specs.declared.key.Key.{Key}
use Rattle.gw_meaning.specs.Records.{Ownership}
use Rattle.gw_report.specs.Layout.{row_of}
use Rattle.gw_report.specs.Facilities.{facility_columns, facility_line}
use Rattle.gw_report.proofs.Rows.{none_left}
use Rattle.gw_report.proofs.Sections.{row_more}
use Rattle.gw_report.proofs.facilities.facility_lines.Goals as goal
use Rattle.gw_report.proofs.facilities.facility_lines.Goals.{in-Some+in_ok-put_facility, in_default}

pub loop-index-preserved : goal.loop-index-preserved
loop-index-preserved c =
    let s = c.args.state.now in
    let facilities = c.facilities-facilities.result.now in
    elim c.match-at.branch [
      | in-Some+in_ok-put_facility w ↦
          let f : Key × Ownership = (w.in-Some.key.now, w.in-Some.facility) in
          let put : c.match-at.lines ≡ c.loop-index.lines ++ row_of facility_columns (facility_line s f) = search rules in
          row_more facility_columns (facility_line s) facilities c.loop-index.index f c.loop-index.lines
          c.match-at.lines _ (sym w.in-Some.ensures) put c.loop-index.invariant
      | in_default w ↦ absurd (none_left facilities c.loop-index.index (omega arith) (sym w.in_default.ensures))
    ]
