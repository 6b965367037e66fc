use Rattle.gw_edit.proofs.SpelledLaws.{edits_are_spelled}
use Rattle.gw_edit.proofs.laws.edits_are_spelled.Goals as goal

pub returns : goal.returns
returns c = edits_are_spelled
