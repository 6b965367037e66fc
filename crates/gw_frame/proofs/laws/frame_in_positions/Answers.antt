use Rattle.gw_frame.proofs.PositionFrame.{frame_in_positions}
use Rattle.gw_frame.proofs.laws.frame_in_positions.Goals as goal

pub returns : goal.returns
returns c = frame_in_positions
