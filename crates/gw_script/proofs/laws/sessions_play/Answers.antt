use Rattle.gw_script.proofs.Playing.{sessions_play}
use Rattle.gw_script.proofs.laws.sessions_play.Goals as goal

pub returns : goal.returns
returns c = sessions_play
