use Rattle.gw_retry.proofs.Grouped.{cuts_rise, group_long}
use Rattle.gw_retry.proofs.groups.count_group.Goals as goal

pub overflow_sub-result : goal.overflow_sub-result
overflow_sub-result c =
    cuts_rise c.args.waiting.now.items c.args.place c.start_of-start.result c.end_of.result c.start_of-start.ensures c.end_of.ensures.cut

pub returns-clause-count : goal.returns-clause-count
returns-clause-count c =
    group_long c.args.waiting.now.items c.args.place c.start_of-start.result c.end_of.result c.start_of-start.ensures c.end_of.ensures.cut
