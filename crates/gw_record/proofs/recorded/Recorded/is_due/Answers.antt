use Rattle.std.proofs.Common.{arith, ◌<◌}
use Rattle.std.proofs.lemmas.Bool.Decides.{nat_tests}
use Rattle.gw_record.proofs.KeepLaws.{kept_up}
use Rattle.gw_record.proofs.recorded.Recorded.is_due.Goals as goal

pub returns : goal.returns
returns c = λ no t seed h.
    let (within, next, due, streams) = c.self.invariant in
    let fewer : c.self.inside.tip.complete < c.self.inside.due = grind (arith, nat_tests) in
    rw (← c.self.view_is) (kept_up t seed _ _ (rw (← c.self.view_is) at h) due fewer)
