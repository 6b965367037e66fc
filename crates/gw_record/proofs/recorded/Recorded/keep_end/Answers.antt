use Rattle.std.proofs.Common.{rules, length, ◌<◌}
use Rattle.gw_record.proofs.RecordLaws.{end_kept}
use Rattle.gw_record.proofs.recorded.Recorded.keep_end.Goals as goal

pub returns-in_ok-push-clause-records : goal.returns-in_ok-push-clause-records
returns-in_ok-push-clause-records c = rw c.in_ok-push.ensures.items (λ t seed h.
    let kept = rw (← c.self.view_is) at h in
    let there = rw (← c.self.view_is) at c.requires in
    let more : length c.self.inside.ends.items < c.self.inside.tip.complete = search rules in
    end_kept t seed _ kept more there)
