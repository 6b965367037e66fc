use Rattle.std.proofs.Common.{◌≡◌, ◌++◌, ℤ, List, sym, arith, rules}
use Rattle.gw_names.specs.declared.key.Key.{Key}
use Rattle.gw_report.specs.Layout.{rows_of}
use Rattle.gw_report.specs.Tables.{table_columns, table_lines}
use Rattle.gw_report.proofs.Rows.{none_left}
use Rattle.gw_report.proofs.Sections.{rows_more}
use Rattle.gw_report.proofs.tables.table_lines.Goals as goal
use Rattle.gw_report.proofs.tables.table_lines.Goals.{in-Some+in_ok-put_table, in_default}

pub loop-index-preserved : goal.loop-index-preserved
loop-index-preserved c =
    let t = c.args.version.now in
    let s = c.args.state.now in
    let tables = c.tables-tables.result.now in
    elim c.match-at.branch [
      | in-Some+in_ok-put_table w ↦
          let e : Key × List ℤ = (w.in-Some.key.now, w.in-Some.values.now) in
          let put : c.match-at.lines ≡ c.loop-index.lines ++ rows_of table_columns (table_lines t s e) = search rules in
          rows_more table_columns (table_lines t s) tables c.loop-index.index e c.loop-index.lines
          c.match-at.lines _ (sym w.in-Some.ensures) put c.loop-index.invariant
      | in_default w ↦ absurd (none_left tables c.loop-index.index (omega arith) (sym w.in_default.ensures))
    ]
