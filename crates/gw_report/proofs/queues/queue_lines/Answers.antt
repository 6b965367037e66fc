use Rattle.std.proofs.Common.{◌≡◌, ◌++◌, sym, arith, rules}
use Rattle.gw_report.specs.Layout.{row_of}
use Rattle.gw_report.specs.Queues.{queue_columns, queue_line}
use Rattle.gw_report.proofs.Rows.{none_left}
use Rattle.gw_report.proofs.Sections.{row_more}
use Rattle.gw_report.proofs.queues.queue_lines.Goals as goal
use Rattle.gw_report.proofs.queues.queue_lines.Goals.{in-Some+in_ok-put_queue, in_default}

pub loop-index-preserved : goal.loop-index-preserved
loop-index-preserved c =
    let s = c.args.state.now in
    let queues = c.queues-queues.result.now in
    elim c.match-at.branch [
      | in-Some+in_ok-put_queue w ↦
          let put : c.match-at.lines ≡ c.loop-index.lines ++ row_of queue_columns (queue_line s (w.in-Some.key.now, w.in-Some.queue)) =
          search rules in
          row_more queue_columns (queue_line s) queues c.loop-index.index (w.in-Some.key.now, w.in-Some.queue) c.loop-index.lines c.match-at.lines
          _ (sym w.in-Some.ensures) put c.loop-index.invariant
      | in_default w ↦ absurd (none_left queues c.loop-index.index (omega arith) (sym w.in_default.ensures))
    ]
