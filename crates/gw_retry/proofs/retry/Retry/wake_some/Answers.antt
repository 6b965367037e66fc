use Rattle.std.proofs.Common.{◌≡◌, ◌+◌, ◌≤◌, ◌++◌, not, length, filter, map, sym, ap, subst, ◌∙◌, arith}
use Rattle.std.specs.Prelude.{vec_len, vec_capacity}
use Rattle.std.specs.List.Sorted.{IsPermutation}
use Rattle.std.proofs.lemmas.List.Sorted.{length_permutation}
use Rattle.gw_meaning.specs.Watching.{transactions_of}
use Rattle.gw_meaning.specs.Changes.{is_woken, all_lined_up}
use Rattle.gw_retry.specs.declared.retry.Waiting.{Waiting}
use Rattle.gw_retry.specs.Waiting.{is_written, waiters_of, AreKept}
use Rattle.gw_retry.proofs.Waiters.{count_waiters, kept_others, others_wait, woken_are}
use Rattle.gw_retry.proofs.retry.Retry.wake_some.Goals as goal

pub take_woken-requires-clause-room : goal.take_woken-requires-clause-room
take_woken-requires-clause-room c =
    let r = c.self.inside.readings in
    let written = c.args.written.now in
    let ws = c.self.inside.waiting.items in
    let count = count_waiters r written c.self.inside.next ws c.self.invariant.0 in
    let view = ap (λ v. length (filter (is_woken written) v.waiters)) c.self.view_is in
    let room = ap (λ v. v.room) c.self.view_is in
    let enough : length (filter (λ (w : Waiting). is_written r.lists written w.place) ws) ≤ c.self.inside.waiting.room =
    omega (arith, count, view, room, c.requires.going) in
    enough

pub take_woken-requires-clause-capacity : goal.take_woken-requires-clause-capacity
take_woken-requires-clause-capacity c =
    let r = c.self.inside.readings in
    let written = c.args.written.now in
    let ws = c.self.inside.waiting.items in
    let count = count_waiters r written c.self.inside.next ws c.self.invariant.0 in
    let view = ap (λ v. length (filter (is_woken written) v.waiters)) c.self.view_is in
    let room = ap (λ v. v.room) c.self.view_is in
    let enough : vec_len c.self.inside.going + length (filter (λ (w : Waiting). is_written r.lists written w.place) ws)
    ≤ vec_capacity c.self.inside.going =
    omega (arith, count, view, room, c.requires.going, c.self.invariant.2) in
    enough

pub line_up_all-requires : goal.line_up_all-requires
line_up_all-requires c =
    let r = c.self.inside.readings in
    let written = c.args.written.now in
    let ws = c.self.inside.waiting.items in
    let goes = filter (λ (w : Waiting). is_written r.lists written w.place) ws in
    let gone : c.take_woken.new.going.items ≡ goes =
    c.take_woken.ensures.going ∙ ap (λ l. l ++ goes) c.self.invariant.1 in
    let long = length_permutation c.take_woken.new.going.items c.sort_by_order.new.going.items c.sort_by_order.ensures.moved in
    let count = count_waiters r written c.self.inside.next ws c.self.invariant.0 in
    let view = ap (λ v. length (filter (is_woken written) v.waiters)) c.self.view_is in
    omega (arith, ap length c.as_slice.ensures.value, long, ap length gone, count, view, c.requires.room)

pub invariant_of-self : goal.invariant_of-self
invariant_of-self c =
    let r = c.self.inside.readings in
    let s = c.unmark.new.self in
    let next = c.self.inside.next in
    let ws = c.self.inside.waiting.items in
    let kept : AreKept s next c.take_woken.new.waiting.items =
    subst (AreKept s next) (sym c.take_woken.ensures.waiting)
    (kept_others r s c.args.written.now next ws c.unmark.ensures.lists c.unmark.ensures.marks c.self.invariant.0) in
    (kept, c.clear.ensures.items, c.clear.ensures.len)

pub returns-clause-current : goal.returns-clause-current
returns-clause-current c =
    let r = c.self.inside.readings in
    let written = c.args.written.now in
    let ws = c.self.inside.waiting.items in
    let goes = filter (λ (w : Waiting). is_written r.lists written w.place) ws in
    let gone : c.take_woken.new.going.items ≡ goes =
    c.take_woken.ensures.going ∙ ap (λ l. l ++ goes) c.self.invariant.1 in
    let going = c.sort_by_order.new.going.items in
    let moved : IsPermutation goes going = subst (λ l. IsPermutation l going) gone c.sort_by_order.ensures.moved in
    let are = woken_are r written c.self.inside.next ws going c.self.invariant.0 moved c.sort_by_order.ensures.sorted in
    let view = ap (λ v. transactions_of (filter (is_woken written) v.waiters)) c.self.view_is in
    c.line_up_all.ensures ∙ ap (λ xs. all_lined_up xs c.args.current.now.items)
    (ap (map (λ (w : Waiting). w.transaction)) c.as_slice.ensures.value ∙ (sym are ∙ view))

pub returns-clause-waiters : goal.returns-clause-waiters
returns-clause-waiters c =
    let r = c.self.inside.readings in
    let s = c.unmark.new.self in
    let written = c.args.written.now in
    let ws = c.self.inside.waiting.items in
    ap (waiters_of s.lists) c.take_woken.ensures.waiting ∙
    (others_wait r s written c.self.inside.next ws c.unmark.ensures.lists c.self.invariant.0 ∙
    ap (λ v. filter (λ w. not (is_woken written w)) v.waiters) c.self.view_is)
