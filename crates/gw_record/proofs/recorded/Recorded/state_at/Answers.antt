use Rattle.gw_record.proofs.RecordLaws.{state_had}
use Rattle.gw_record.proofs.recorded.Recorded.state_at.Goals as goal

pub returns : goal.returns
returns c = λ t seed h.
    let kept = rw (← c.self.view_is) at h in
    let found = rw c.as_slice.ensures.value at c.state_in.ensures.found in
    let none = rw c.as_slice.ensures.value at c.state_in.ensures.none in
    rw (← c.self.view_is) (state_had t seed _ c.args.moment c.state_in.result kept c.if-moment-self.false found none)
