use Rattle.gw_laws.proofs.StorageLaws.{storages_are_within}
use Rattle.gw_laws.proofs.GrantLaws.{nobody_waits_at_room}
use Rattle.gw_laws.proofs.laws.storages_are_within.Goals as goal

pub returns : goal.returns
returns c = record { within = storages_are_within; room = nobody_waits_at_room }
