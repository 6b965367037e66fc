use Rattle.std.proofs.Common.{◌≡◌, [], drop}
use Rattle.gw_lines.specs.Expressions.{before, run}
use Rattle.gw_lines.proofs.expression.read_tokens.Given as goal

-- the bytes that are left lead from here to where all of them lead
abbrev pub invariant-loop-b : goal.invariant-loop-b
invariant-loop-b l = run (drop l.b-index l.text) l.reader ≡ run l.text (before l.depth [] [])
