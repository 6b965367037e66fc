use Rattle.std.proofs.Common.{◌≡◌, length}
use Rattle.gw_lines.specs.declared.class.Class.TheVariants as class
use Rattle.gw_lines.specs.Classes.{pieces_of}
use Rattle.gw_lines.specs.Pairs.{with_pairs}
use Rattle.gw_lines.proofs.pairs.points_with.Given as goal

-- the pairs that are left come after the points so far as all pairs after those before them
abbrev pub invariant-loop-rest : goal.invariant-loop-rest
invariant-loop-rest l = with_pairs l.count l.points.items (pieces_of class.Pair l.rest)
    ≡ with_pairs l.count l.initial.points.items (pieces_of class.Pair l.text)

abbrev pub decreases-loop-rest : goal.decreases-loop-rest
decreases-loop-rest l = length l.rest
