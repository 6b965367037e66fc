use Rattle.std.proofs.Common.{◌≡◌, ◌++◌, ◌∷◌, [], sym, ap, subst, ◌∙◌}
use Rattle.gw_chains.proofs.DelayLaws.{on_err}
use Rattle.gw_meaning.specs.Watching.{Waiter}
use Rattle.gw_retry.specs.declared.retry.Waiting.{Waiting}
use Rattle.gw_retry.specs.Waiting.{waiters_of, IsListed, AreKept}
use Rattle.gw_retry.proofs.Waiters.{same_waiters, kept_more, kept_joined, waiters_joined}
use Rattle.gw_retry.proofs.retry.Retry.watch.Goals as goal

pub invariant_of-self-in_err-place : goal.invariant_of-self-in_err-place
invariant_of-self-in_err-place c =
    let s = c.add.new.self in
    let next = c.self.inside.next in
    let kept : AreKept s next c.reserve.new.self.items =
    subst (AreKept s next) (sym c.reserve.ensures.items)
    (kept_more c.self.inside.readings s next c.self.inside.waiting.items c.add.ensures.lists c.add.ensures.marks c.self.invariant.0) in
    (kept, c.self.invariant.1, c.self.invariant.2)

pub returns-in_err-place-clause-err : goal.returns-in_err-place-clause-err
returns-in_err-place-clause-err c =
    let r = c.self.inside.readings in
    let s = c.add.new.self in
    let ws = c.self.inside.waiting.items in
    on_err c.from_residual-in_err-place.result _
    (ap (waiters_of s.lists) c.reserve.ensures.items ∙ (same_waiters r s ws c.add.ensures.lists c.self.invariant.0.listed ∙
    (ap (λ v. v.waiters) c.self.view_is ∙ c.forget_read.ensures)))

pub invariant_of-self-2 : goal.invariant_of-self-2
invariant_of-self-2 c =
    let s = c.add.new.self in
    let next = c.self.inside.next in
    let w : Waiting = record { transaction = c.args.x; place = c.in_ok-place.place; order = next } in
    let kept : AreKept s next c.reserve.new.self.items =
    subst (AreKept s next) (sym c.reserve.ensures.items)
    (kept_more c.self.inside.readings s next c.self.inside.waiting.items c.add.ensures.lists c.add.ensures.marks c.self.invariant.0) in
    let new : IsListed s w = record { list = c.args.read; there = c.in_ok-place.ensures.there; marked = c.in_ok-place.ensures.marked } in (
      kept_joined s w c.reserve.new.self.items c.join.new.waiting.items c.join.ensures.joined new kept,
      c.self.invariant.1,
      c.self.invariant.2,
    )

pub returns-clause-ok : goal.returns-clause-ok
returns-clause-ok c =
    let r = c.self.inside.readings in
    let s = c.add.new.self in
    let ws = c.self.inside.waiting.items in
    let next = c.self.inside.next in
    let w : Waiting = record { transaction = c.args.x; place = c.in_ok-place.place; order = next } in
    let kept : AreKept s next c.reserve.new.self.items =
    subst (AreKept s next) (sym c.reserve.ensures.items)
    (kept_more r s next ws c.add.ensures.lists c.add.ensures.marks c.self.invariant.0) in
    let old : waiters_of s.lists c.reserve.new.self.items ≡ c.args.self.now.waiters =
    ap (waiters_of s.lists) c.reserve.ensures.items ∙ (same_waiters r s ws c.add.ensures.lists c.self.invariant.0.listed ∙
    (ap (λ v. v.waiters) c.self.view_is ∙ c.forget_read.ensures)) in
    let last : Waiter = record { transaction = c.args.x; read = c.args.read } in
    waiters_joined s w c.reserve.new.self.items c.join.new.waiting.items c.args.read c.join.ensures.joined kept c.in_ok-place.ensures.there ∙
    ap (λ vs. vs ++ last ∷ []) old
