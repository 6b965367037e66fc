use Rattle.std.proofs.Common.{ap, ◌∙◌, rules}
use Rattle.std.proofs.lemmas.List.Sorted.{answers_always}
use Rattle.gw_meaning.specs.declared.transaction.Event.{Event}
use Rattle.gw_report.specs.Chains.{by_time}
use Rattle.gw_report.proofs.Order.{sorted_is}
use Rattle.gw_report.proofs.future.by_time.Goals as goal

pub returns : goal.returns
returns c =
    let key = λ (e : Event). e.time in
    let keys = answers_always _ _ _ (λ f a r next called. search rules) in
    sorted_is key c.in_ok-events.events.items c.sort_by_key.new.self.items (c.in_ok-sort_by_key.ensures.sorted key keys)
    (c.in_ok-sort_by_key.ensures.stable key keys)
    ∙ ap by_time c.in_ok-events.ensures
