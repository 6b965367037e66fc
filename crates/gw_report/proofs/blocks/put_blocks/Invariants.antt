use Rattle.std.proofs.Common.{◌≡◌, take}
use Rattle.std.specs.List.{flat_map}
use Rattle.gw_report.specs.Layout.{rows_of}
use Rattle.gw_report.specs.Blocks.{block_columns, block_lines}
use Rattle.gw_report.proofs.blocks.put_blocks.Given as goal

abbrev pub invariant-loop-line : goal.invariant-loop-line
invariant-loop-line l = l.lines ≡ flat_map (λ x. rows_of block_columns (block_lines l.version l.state x)) (take l.line-index l.line-items)
