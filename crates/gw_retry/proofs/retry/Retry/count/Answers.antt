use Rattle.std.proofs.Common.{length, filter, ap, ◌∙◌}
use Rattle.gw_meaning.specs.Changes.{is_woken}
use Rattle.gw_retry.proofs.Waiters.{woken_by_one}
use Rattle.gw_retry.proofs.retry.Retry.count.Goals as goal

pub returns : goal.returns
returns c =
    let vs = c.args.self.now.waiters in
    c.count_woken.ensures ∙ (ap (λ l. length (filter (is_woken l) vs)) c.from_ref.ensures.value ∙ ap length (woken_by_one c.args.thing.now vs))
