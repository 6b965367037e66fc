use Rattle.std.proofs.Common.{arith}
use Rattle.std.proofs.lemmas.Grind.{common_steps}
use Rattle.gw_record.proofs.KeepLaws.{due_kept}
use Rattle.gw_record.proofs.RecordLaws.{state_kept, there_last}
use Rattle.gw_record.proofs.recorded.Recorded.keep_state.Goals as goal

pub invariant_of-self : goal.invariant_of-self
invariant_of-self c =
    let (within, multiple, due, streams) = c.self.invariant in
    (within, multiple, due, rw c.share.ensures streams)

pub returns-in_err-share-clause-records : goal.returns-in_err-share-clause-records
returns-in_err-share-clause-records c = grind (arith, common_steps)

pub invariant_of-self-in_err-state : goal.invariant_of-self-in_err-state
invariant_of-self-in_err-state c =
    let (within, multiple, due, streams) = c.self.invariant in
    (within, multiple, due, rw c.share.ensures streams)

pub returns-in_err-state-clause-records : goal.returns-in_err-state-clause-records
returns-in_err-state-clause-records c = grind (arith, common_steps)

pub invariant_of-self-in-Continue-branch-3 : goal.invariant_of-self-in-Continue-branch-3
invariant_of-self-in-Continue-branch-3 c =
    let (within, multiple, due, streams) = c.self.invariant in
    (within, multiple, rw c.in_ok-push.ensures.items (due_kept _ _ _ _ _ _ _ due), rw c.share.ensures streams)

pub invariant_of-self-in_err-push : goal.invariant_of-self-in_err-push
invariant_of-self-in_err-push c = grind (arith, common_steps)

pub returns-in_err-push-clause-records : goal.returns-in_err-push-clause-records
returns-in_err-push-clause-records c = grind (arith, common_steps)

pub returns-in_ok-push-clause-records : goal.returns-in_ok-push-clause-records
returns-in_ok-push-clause-records c = rw (c.in_ok-push.ensures.items, c.in_ok-state.ensures, c.share.ensures) (λ t seed h.
    let kept = rw (← c.self.view_is) at h in
    let wanted = (rw (← c.self.view_is) at c.requires) t seed kept in
    state_kept t seed _ kept wanted)

pub returns-in_ok-push-clause-ok : goal.returns-in_ok-push-clause-ok
returns-in_ok-push-clause-ok c = rw c.in_ok-push.ensures.items (there_last _ _)

pub returns-in_ok-push-clause-same : goal.returns-in_ok-push-clause-same
returns-in_ok-push-clause-same c = grind (arith, common_steps)

pub returns-else-not-is_there-clause-ok : goal.returns-else-not-is_there-clause-ok
returns-else-not-is_there-clause-ok c = grind (arith, common_steps)
