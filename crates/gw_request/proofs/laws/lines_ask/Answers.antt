use Rattle.gw_request.proofs.Lines.{lines_ask}
use Rattle.gw_request.proofs.Others.{others_are_told}
use Rattle.gw_request.proofs.laws.lines_ask.Goals as goal

pub returns : goal.returns
returns c = record { asked = lines_ask; others = others_are_told }
