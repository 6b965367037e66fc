use Rattle.gw_lines.proofs.Parts.{part_first, others_first}
use Rattle.gw_lines.proofs.operands.first_part.Goals as goal

pub returns-then-more-clause-part : goal.returns-then-more-clause-part
returns-then-more-clause-part c = rw c.piece.ensures.front (part_first c.args.more c.args.rest.now c.if-more.true)

pub returns-then-more-clause-others : goal.returns-then-more-clause-others
returns-then-more-clause-others c =
    rw (c.piece.ensures.ended, c.piece.ensures.behind)
    (others_first c.args.more c.args.rest.now c.if-more.true)
