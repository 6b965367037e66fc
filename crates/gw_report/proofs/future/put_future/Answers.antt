use Rattle.std.proofs.Common.{◌++◌, map, ap, ◌∙◌}
use Rattle.std.proofs.lemmas.Result.{on_ok_weaker}
use Rattle.gw_report.specs.Layout.{rows_of}
use Rattle.gw_report.specs.Cells.{if_any}
use Rattle.gw_report.specs.Chains.{by_time, future_columns, future_line, future_text}
use Rattle.gw_report.proofs.Sections.{section_shown}
use Rattle.gw_report.proofs.future.put_future.Goals as goal

pub returns : goal.returns
unfolding future_text
returns c =
    let lines = c.as_slice.ensures ∙ c.in_ok-lines.ensures ∙
    ap (λ es. rows_of future_columns (map (future_line c.args.version.now) (by_time es))) c.future.ensures in
    let rows = map (future_line c.args.version.now) (by_time c.args.state.now.future) in
    let shown = section_shown future_columns rows in
    on_ok_weaker c.put_section.result (λ put. put ∙ ap (λ l. c.args.out.now.items ++ if_any c.future_heading.result.now l) lines ∙
    ap (λ h. c.args.out.now.items ++ if_any h (rows_of future_columns rows)) c.future_heading.ensures ∙
    ap (λ l. c.args.out.now.items ++ l) shown)
    c.put_section.ensures
