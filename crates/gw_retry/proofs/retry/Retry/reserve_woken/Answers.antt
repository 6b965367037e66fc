use Rattle.std.proofs.Common.{length, filter, ap, ◌∙◌}
use Rattle.gw_meaning.specs.Changes.{is_woken}
use Rattle.gw_retry.proofs.Waiters.{count_waiters}
use Rattle.gw_retry.proofs.retry.Retry.reserve_woken.Goals as goal

pub returns-clause-count : goal.returns-clause-count
returns-clause-count c =
    let written = c.args.written.now in
    c.count_woken-count.ensures ∙
    (count_waiters c.self.inside.readings written c.self.inside.next c.self.inside.waiting.items c.self.invariant.0 ∙
    ap (λ v. length (filter (is_woken written) v.waiters)) c.self.view_is)
