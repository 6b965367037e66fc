use Rattle.std.proofs.Common.{◌≡◌, ◌++◌, map, drop}
use Rattle.gw_report.specs.Layout.{rows_of}
use Rattle.gw_report.specs.Queues.{queue_columns, queue_line}
use Rattle.gw_report.proofs.queues.queue_lines.Given as goal

abbrev pub invariant-loop-index : goal.invariant-loop-index
invariant-loop-index l =
    l.lines ++ rows_of queue_columns (map (queue_line l.state) (drop l.index l.queues))
    ≡ rows_of queue_columns (map (queue_line l.state) l.queues)
