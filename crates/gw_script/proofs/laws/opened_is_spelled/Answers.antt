use Rattle.gw_script.proofs.Opened.{opened_is_spelled}
use Rattle.gw_script.proofs.laws.opened_is_spelled.Goals as goal

pub returns : goal.returns
returns c = opened_is_spelled
