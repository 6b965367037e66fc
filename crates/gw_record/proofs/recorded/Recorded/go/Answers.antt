use Rattle.std.proofs.Common.{◌<◌, rules}
use Rattle.gw_record.proofs.RecordLaws.{made, forgotten}
use Rattle.gw_record.proofs.recorded.Recorded.go.Goals as goal

pub returns-in_err-turn-clause-records : goal.returns-in_err-turn-clause-records
returns-in_err-turn-clause-records c =
    let t = c.args.version.now in
    let before = rw (← c.self.view_is) at c.in_ok-keep.ensures.records t c.args.seed c.requires.records in
    let forgets = rw c.begin.ensures at c.in_err-turn.ensures.forgets in
    rw c.in_err-turn.ensures.err.0 (forgotten t c.args.seed _ c.step.new.notes.firsts before forgets.each forgets.clock)

pub returns-in-Moved-clause-records : goal.returns-in-Moved-clause-records
returns-in-Moved-clause-records c =
    let t = c.args.version.now in
    let before = rw (← c.self.view_is) at c.in_ok-keep.ensures.records t c.args.seed c.requires.records in
    let kept = rw (← c.self.view_is) at c.in_ok-keep.ensures.ok t c.args.seed c.requires.records in
    let told = rw c.in-Moved.is at c.in_ok-turn.ensures.told in
    let read = rw (c.in-Moved.is, c.begin.ensures) at c.in_ok-turn.ensures.notes in
    let clock = rw read.now at c.lemma_clock_steps_rise.ensures in
    let room : c.self.inside.moment < t.limit = search rules in
    rw c.move_on.ensures (made t c.args.seed _ c.step.new.state c.step.new.notes.firsts before kept room told read.each clock)

pub returns-in_default-clause-records : goal.returns-in_default-clause-records
returns-in_default-clause-records c =
    let t = c.args.version.now in
    let before = rw (← c.self.view_is) at c.in_ok-keep.ensures.records t c.args.seed c.requires.records in
    let told = rw c.in_default.is at c.in_ok-turn.ensures.told in
    let forgets = rw (c.in_default.is, c.begin.ensures) at c.in_ok-turn.ensures.notes in
    rw told.1 (forgotten t c.args.seed _ c.step.new.notes.firsts before forgets.each forgets.clock)
