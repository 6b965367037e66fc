use Rattle.gw_edit.proofs.PositionLaws.{edit_in_positions}
use Rattle.gw_edit.proofs.laws.edit_in_positions.Goals as goal

pub returns : goal.returns
returns c = edit_in_positions
