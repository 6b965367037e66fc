use Rattle.gw_laws.proofs.WaitingTests.{telling_changes_nothing}
use Rattle.gw_laws.proofs.laws.telling_changes_nothing.Goals as goal

pub returns : goal.returns
returns c = telling_changes_nothing
