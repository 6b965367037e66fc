use Rattle.std.proofs.Common.{◌≡◌, ◌≤◌, ◌++◌, drop, true}
use Rattle.gw_names.specs.Words.{upper_of}
use Rattle.gw_lines.specs.Listed.{listed_of}
use Rattle.gw_lines.proofs.listed.listed.Given as goal

-- what was copied and what is still to be copied are the whole list, and no byte opens more than one parenthesis
abbrev pub invariant-loop-b : goal.invariant-loop-b
invariant-loop-b l = (l.depth ≤ l.b-index)
    × (l.text.items ++ upper_of (listed_of l.skips l.depth (drop l.b-index l.bytes)) ≡ upper_of (listed_of true 0 l.bytes))
