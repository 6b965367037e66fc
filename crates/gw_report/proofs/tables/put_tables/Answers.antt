use Rattle.std.proofs.Common.{◌++◌, ap, ◌∙◌}
use Rattle.std.specs.List.{flat_map}
use Rattle.std.proofs.lemmas.Result.{on_ok_weaker}
use Rattle.gw_report.specs.Layout.{rows_of}
use Rattle.gw_report.specs.Cells.{if_any}
use Rattle.gw_report.specs.Tables.{table_columns, table_lines, tables_text}
use Rattle.gw_report.proofs.Sections.{section_shown}
use Rattle.gw_report.proofs.tables.put_tables.Goals as goal

pub returns : goal.returns
unfolding tables_text
returns c =
    let lines = c.as_slice.ensures ∙ c.in_ok-lines.ensures in
    let rows = flat_map (table_lines c.args.version.now c.args.state.now) c.args.state.now.entities.tables in
    let shown = section_shown table_columns rows in
    on_ok_weaker c.put_section.result (λ put. put ∙ ap (λ l. c.args.out.now.items ++ if_any c.table_heading.result.now l) lines ∙
    ap (λ h. c.args.out.now.items ++ if_any h (rows_of table_columns rows)) c.table_heading.ensures ∙
    ap (λ l. c.args.out.now.items ++ l) shown) c.put_section.ensures
