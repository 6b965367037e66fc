use Rattle.std.proofs.Common.{map, ap, sym, subst, ◌∙◌}
use Rattle.gw_meaning.specs.QueueArrivals.{AreOnce}
use Rattle.gw_entities.specs.Keeping.{queue_arrival_of}
use Rattle.gw_entities.specs.Owned.{AreRising}
use Rattle.gw_entities.proofs.QueueArrivalLaws.{with_queue_arrival_is, once_with}
use Rattle.gw_entities.proofs.ItemLaws.{some_key}
use Rattle.gw_entities.proofs.OwnLaws.{rising_with}
use Rattle.gw_entities.proofs.queue_arrivals.QueueArrivals.add.Goals as goal

pub invariant_of-self : goal.invariant_of-self
invariant_of-self c =
    let within = rw (← c.self.view_is) at c.requires.key in
    let es = c.self.inside.own.entries in
    let (k, at) = some_key c.self.inside.own.keys c.args.key within in
    let (rising, once) = c.self.invariant in
    let now = c.put.ensures.entries k at in (
      subst AreRising (sym now) (rising_with c.args.number k tt es rising),
      subst AreOnce (sym (ap (λ l. map queue_arrival_of l) now ∙ with_queue_arrival_is es k c.args.number tt)) (once_with es k c.args.number rising once),
    )

pub returns : goal.returns
returns c =
    rw (← c.self.view_is) (λ k at.
    ap (λ l. map queue_arrival_of l) (c.put.ensures.entries k at) ∙ with_queue_arrival_is c.self.inside.own.entries k c.args.number tt)
