use Rattle.gw_edit.proofs.OutcomeLaws.{edits_make}
use Rattle.gw_edit.proofs.laws.edits_make.Goals as goal

pub returns : goal.returns
returns c = edits_make
