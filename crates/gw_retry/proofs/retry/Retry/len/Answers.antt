use Rattle.std.proofs.Common.{length, sym, ap, ◌∙◌}
use Rattle.gw_retry.proofs.Waiters.{length_waiters}
use Rattle.gw_retry.proofs.retry.Retry.len.Goals as goal

pub returns-clause-len : goal.returns-clause-len
returns-clause-len c =
    c.len.ensures.len ∙ (sym (length_waiters c.self.inside.readings.lists c.self.inside.waiting.items) ∙ ap (λ v. length v.waiters) c.self.view_is)
