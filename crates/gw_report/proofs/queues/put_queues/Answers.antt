use Rattle.std.proofs.Common.{◌++◌, map, ap, ◌∙◌}
use Rattle.std.proofs.lemmas.Result.{on_ok_weaker}
use Rattle.gw_report.specs.Layout.{rows_of}
use Rattle.gw_report.specs.Cells.{if_any}
use Rattle.gw_report.specs.Queues.{queue_columns, queue_line, queues_text}
use Rattle.gw_report.proofs.Sections.{section_shown}
use Rattle.gw_report.proofs.queues.put_queues.Goals as goal

pub returns : goal.returns
unfolding queues_text
returns c =
    let lines = c.as_slice.ensures ∙ c.in_ok-lines.ensures in
    let rows = map (queue_line c.args.state.now) c.args.state.now.entities.queues in
    let shown = section_shown queue_columns rows in
    on_ok_weaker c.put_section.result (λ put. put ∙ ap (λ l. c.args.out.now.items ++ if_any c.queue_heading.result.now l) lines ∙
    ap (λ h. c.args.out.now.items ++ if_any h (rows_of queue_columns rows)) c.queue_heading.ensures ∙
    ap (λ l. c.args.out.now.items ++ l) shown) c.put_section.ensures
