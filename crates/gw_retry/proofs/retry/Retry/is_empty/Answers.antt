use Rattle.std.proofs.Common.{length, sym, ap, ◌∙◌}
use Rattle.std.specs.Prelude.{◌==◌}
use Rattle.gw_retry.proofs.Waiters.{length_waiters}
use Rattle.gw_retry.proofs.retry.Retry.is_empty.Goals as goal

pub returns : goal.returns
returns c =
    c.is_empty.ensures ∙ ap (λ n. n == 0)
    (sym (length_waiters c.self.inside.readings.lists c.self.inside.waiting.items) ∙ ap (λ v. length v.waiters) c.self.view_is)
