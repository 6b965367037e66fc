use Rattle.std.proofs.Common.{◌≡◌, take}
use Rattle.std.specs.List.{flat_map}
use Rattle.gw_report.specs.Layout.{row_of}
use Rattle.gw_report.specs.Chains.{future_columns, future_line}
use Rattle.gw_report.proofs.future.future_lines.Given as goal

abbrev pub invariant-loop-event : goal.invariant-loop-event
invariant-loop-event l = l.lines ≡ flat_map (λ e. row_of future_columns (future_line l.version e)) (take l.event-index l.event-items)
