use Rattle.gw_laws.proofs.StartLaws.{starts_are_done_in_order, no_more_starts_than_there_are}
use Rattle.gw_laws.proofs.laws.starts_are_counted.Goals as goal

pub returns : goal.returns
returns c = record { order = starts_are_done_in_order; few = no_more_starts_than_there_are }
