use Rattle.std.proofs.Common.{◌++◌, map, option_to_list, ap, ◌∙◌}
use Rattle.std.proofs.lemmas.Result.{on_ok_weaker}
use Rattle.gw_report.specs.Layout.{rows_of}
use Rattle.gw_report.specs.Cells.{if_any}
use Rattle.gw_report.specs.Chains.{current_columns, current_line, current_text}
use Rattle.gw_report.proofs.Sections.{section_shown}
use Rattle.gw_report.proofs.current.put_current.Goals as goal

pub returns : goal.returns
unfolding current_text
returns c =
    let lines = c.as_slice.ensures ∙ c.in_ok-lines.ensures in
    let rows = map (current_line c.args.version.now) (option_to_list c.args.state.now.active ++ c.args.state.now.current) in
    let shown = section_shown current_columns rows in
    on_ok_weaker c.put_section.result (λ put. put ∙ ap (λ l. c.args.out.now.items ++ if_any c.current_heading.result.now l) lines ∙
    ap (λ h. c.args.out.now.items ++ if_any h (rows_of current_columns rows)) c.current_heading.ensures ∙
    ap (λ l. c.args.out.now.items ++ l) shown) c.put_section.ensures
