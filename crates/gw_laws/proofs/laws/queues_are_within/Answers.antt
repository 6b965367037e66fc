use Rattle.gw_laws.proofs.QueueLaws.{queues_are_within}
use Rattle.gw_laws.proofs.laws.queues_are_within.Goals as goal

pub returns : goal.returns
returns c = queues_are_within
