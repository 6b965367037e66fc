use Rattle.std.proofs.Common.{ap, ◌∙◌}
use Rattle.std.specs.Option.{is_some}
use Rattle.gw_entities.proofs.QueueArrivalLaws.{came_is}
use Rattle.gw_entities.proofs.queue_arrivals.QueueArrivals.has.Goals as goal

pub returns : goal.returns
returns c =
    rw (← c.self.view_is) (c.is_some.ensures ∙ (ap is_some c.get.ensures ∙ came_is c.self.inside.own.entries c.args.key.now c.args.number))
