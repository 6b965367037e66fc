use Rattle.std.proofs.Common.{ap, ◌∙◌}
use Rattle.gw_retry.proofs.Waiters.{kept_laid, waiters_laid}
use Rattle.gw_retry.proofs.retry.Retry.forget_read.Goals as goal

pub invariant_of-self : goal.invariant_of-self
invariant_of-self c = (
  kept_laid c.self.inside.readings c.lay_anew.new.readings c.self.inside.next c.self.inside.waiting.items c.lay_anew.new.waiting.items
      c.lay_anew.ensures.listed c.lay_anew.ensures.grouped c.lay_anew.ensures.same c.self.invariant.0,
  c.self.invariant.1,
  c.self.invariant.2,
)

pub returns-then-len : goal.returns-then-len
returns-then-len c =
    waiters_laid c.self.inside.readings c.lay_anew.new.readings c.self.inside.next c.self.inside.waiting.items c.lay_anew.new.waiting.items
    c.lay_anew.ensures.same c.self.invariant.0 ∙ ap (λ v. v.waiters) c.self.view_is
