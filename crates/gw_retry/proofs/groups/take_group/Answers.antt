use Rattle.std.proofs.Common.{◌++◌, take, drop, ap, ◌∙◌, arith}
use Rattle.gw_retry.proofs.Grouped.{cuts_rise, group_is, group_long, others_are}
use Rattle.gw_retry.proofs.groups.take_group.Goals as goal

pub overflow_sub-count : goal.overflow_sub-count
overflow_sub-count c =
    cuts_rise c.args.waiting.now.items c.args.place c.start_of-start.result c.end_of.result c.start_of-start.ensures c.end_of.ensures.cut

pub take_run-requires-clause-room : goal.take_run-requires-clause-room
take_run-requires-clause-room c =
    let long = group_long c.args.waiting.now.items c.args.place c.start_of-start.result c.end_of.result c.start_of-start.ensures c.end_of.ensures.cut in
    omega (arith, long, c.requires.room)

pub take_run-requires-clause-within : goal.take_run-requires-clause-within
take_run-requires-clause-within c =
    let rise = cuts_rise c.args.waiting.now.items c.args.place c.start_of-start.result c.end_of.result c.start_of-start.ensures c.end_of.ensures.cut in
    omega (arith, rise, c.end_of.ensures.cut.within)

pub take_run-requires-clause-capacity : goal.take_run-requires-clause-capacity
take_run-requires-clause-capacity c =
    let long = group_long c.args.waiting.now.items c.args.place c.start_of-start.result c.end_of.result c.start_of-start.ensures c.end_of.ensures.cut in
    omega (arith, long, c.requires.capacity)

pub returns-clause-going : goal.returns-clause-going
returns-clause-going c =
    let start = c.start_of-start.result in
    let end = c.end_of.result in
    c.take_run.ensures.taken ∙ ap (λ l. c.args.going.now.items ++ l)
    (group_is c.args.waiting.now.items c.args.place start end c.start_of-start.ensures c.end_of.ensures.cut)

pub returns-clause-len : goal.returns-clause-len
returns-clause-len c =
    let long = group_long c.args.waiting.now.items c.args.place c.start_of-start.result c.end_of.result c.start_of-start.ensures c.end_of.ensures.cut in
    omega (arith, c.take_run.ensures.len, long)

pub returns-clause-waiting : goal.returns-clause-waiting
returns-clause-waiting c =
    let all = c.args.waiting.now.items in
    let start = c.start_of-start.result in
    let end = c.end_of.result in
    let rise = cuts_rise all c.args.place start end c.start_of-start.ensures c.end_of.ensures.cut in
    c.take_run.ensures.items ∙ (ap (λ k. take start all ++ drop k all) (omega (arith, rise)) ∙
    others_are all c.args.place start end c.start_of-start.ensures c.end_of.ensures.cut)

pub returns-clause-room : goal.returns-clause-room
returns-clause-room c =
    let long = group_long c.args.waiting.now.items c.args.place c.start_of-start.result c.end_of.result c.start_of-start.ensures c.end_of.ensures.cut in
    omega (arith, c.take_run.ensures.room, long)
