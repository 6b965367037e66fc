use Rattle.std.proofs.Common.{◌≡◌, ◌++◌, map, option_to_list, drop}
use Rattle.gw_report.specs.Layout.{rows_of}
use Rattle.gw_report.specs.Chains.{current_columns, current_line}
use Rattle.gw_report.proofs.current.current_lines.Given as goal

abbrev pub invariant-loop-index : goal.invariant-loop-index
invariant-loop-index l =
    l.lines ++ rows_of current_columns (map (current_line l.version) (drop l.index l.chain.items))
    ≡ rows_of current_columns (map (current_line l.version) (option_to_list l.state.active ++ l.state.current))
