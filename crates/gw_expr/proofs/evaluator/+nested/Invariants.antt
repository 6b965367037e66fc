use Rattle.std.proofs.Common.{[], ◌+◌, ◌*◌, ◌≤◌, length}
use Rattle.gw_expr.specs.Evaluation.{definitions_within}
use Rattle.gw_expr.specs.Worlds.{Says}
use Rattle.gw_expr.proofs.Parts.{HaveLeft}
use Rattle.gw_expr.proofs.evaluator.+nested.Given as goal

abbrev pub decreases-argument : goal.decreases-argument
decreases-argument g l = l.depth * 20 + 10

abbrev pub decreases-at_argument : goal.decreases-at_argument
decreases-at_argument g l = l.depth * 20 + 11

abbrev pub decreases-computed : goal.decreases-computed
decreases-computed g l = l.depth * 20 + 7

abbrev pub decreases-of_function : goal.decreases-of_function
decreases-of_function g l = l.depth * 20 + 2

abbrev pub decreases-of_variable : goal.decreases-of_variable
decreases-of_variable g l = l.depth * 20 + 2

abbrev pub decreases-computed_long : goal.decreases-computed_long
decreases-computed_long g l = l.depth * 20 + 6

abbrev pub decreases-term : goal.decreases-term
decreases-term g l = l.depth * 20 + 8

abbrev pub decreases-part_of_few : goal.decreases-part_of_few
decreases-part_of_few g l = l.depth * 20 + 5

abbrev pub decreases-part_of_many : goal.decreases-part_of_many
decreases-part_of_many g l = l.depth * 20 + 5

abbrev pub decreases-of_atom : goal.decreases-of_atom
decreases-of_atom g l = l.depth * 20 + 4

abbrev pub decreases-alone : goal.decreases-alone
decreases-alone g l = l.depth * 20 + 5

abbrev pub decreases-whole_argument : goal.decreases-whole_argument
decreases-whole_argument g l = l.depth * 20 + 9

abbrev pub decreases-whole_of_function : goal.decreases-whole_of_function
decreases-whole_of_function g l = l.depth * 20 + 3

-- what the parts before this one made of the values that waited; of few, no more than those parts
abbrev pub invariant-computed-loop-part : goal.invariant-computed-loop-part
invariant-computed-loop-part g l =
    HaveLeft (Says (g.D.Defs.variable_of l.defs) (g.D.Defs.function_of l.defs)) g.W.World.replies
    (definitions_within l.depth) l.tokens [] l.fn.world l.part-index l.values l.world
    × (length l.values ≤ l.part-index)

abbrev pub invariant-computed_long-loop-part : goal.invariant-computed_long-loop-part
invariant-computed_long-loop-part g l =
    HaveLeft (Says (g.D.Defs.variable_of l.defs) (g.D.Defs.function_of l.defs)) g.W.World.replies
    (definitions_within l.depth) l.tokens [] l.fn.world l.part-index l.values l.world
