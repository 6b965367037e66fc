use Rattle.std.proofs.Common.{◌≡◌, false, filter, sym, ap, ◌∙◌}
use Rattle.std.specs.List.{list_any}
use Rattle.gw_meaning.specs.Changes.{is_woken}
use Rattle.gw_meaning.specs.Watching.{is_watched}
use Rattle.gw_retry.proofs.Waiters.{none_woken, not_true}
use Rattle.gw_retry.proofs.retry.Retry.is_untouched.Goals as goal

pub returns-else-is_empty : goal.returns-else-is_empty
returns-else-is_empty c = λ h.
    let r = c.self.inside.readings in
    let written = c.args.written.now in
    let none : list_any (is_watched r.marks) written ≡ false = sym c.is_any_marked.ensures ∙ not_true c.is_any_marked.result h in
    ap (λ v. filter (is_woken written) v.waiters) (sym c.self.view_is) ∙
    none_woken r written c.self.inside.next c.self.inside.waiting.items none c.self.invariant.0
