use Rattle.std.proofs.Common.{◌++◌, map, ap, ◌∙◌}
use Rattle.std.proofs.lemmas.Result.{on_ok_weaker}
use Rattle.gw_report.specs.Layout.{rows_of}
use Rattle.gw_report.specs.Cells.{if_any}
use Rattle.gw_report.specs.Storages.{storage_columns, storage_line, storages_text}
use Rattle.gw_report.proofs.Sections.{section_shown}
use Rattle.gw_report.proofs.storages.put_storages.Goals as goal

pub returns : goal.returns
unfolding storages_text
returns c =
    let lines = c.as_slice.ensures ∙ c.in_ok-lines.ensures in
    let rows = map (storage_line c.args.version.now c.args.state.now) c.args.state.now.entities.storages in
    let shown = section_shown storage_columns rows in
    on_ok_weaker c.put_section.result (λ put. put ∙ ap (λ l. c.args.out.now.items ++ if_any c.storage_heading.result.now l) lines ∙
    ap (λ h. c.args.out.now.items ++ if_any h (rows_of storage_columns rows)) c.storage_heading.ensures ∙
    ap (λ l. c.args.out.now.items ++ l) shown) c.put_section.ensures
