use Rattle.gw_edit.proofs.Untouching.{untouched_alike}
use Rattle.gw_edit.proofs.laws.untouched.Goals as goal

pub returns : goal.returns
returns c = untouched_alike
