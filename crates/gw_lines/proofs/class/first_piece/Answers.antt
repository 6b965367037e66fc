use Rattle.gw_lines.proofs.Pieces.{first_part}
use Rattle.gw_lines.proofs.class.first_piece.Goals as goal

pub returns-clause-pieces : goal.returns-clause-pieces
returns-clause-pieces c = λ some. rw (c.piece.ensures.behind, c.piece.ensures.front) (first_part c.args.class c.args.text.now some)
