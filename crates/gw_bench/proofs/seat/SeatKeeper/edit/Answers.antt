use Rattle.gw_bench.specs.Telling.{IsRefused, SeatDoes}
use Rattle.gw_bench.proofs.seat.SeatKeeper.edit.Goals as goal

pub returns-in-Ok-clause-accepted : goal.returns-in-Ok-clause-accepted
returns-in-Ok-clause-accepted g c =
    SeatDoes.accepted_as c.args.edit c.in-Ok.number c.edit.new.pass c.in-Ok.ensures.front c.in-Ok.ensures.new c.in-Ok.ensures.ok

pub returns-in-Err-HistoryFull-clause-refused : goal.returns-in-Err-HistoryFull-clause-refused
returns-in-Err-HistoryFull-clause-refused g c =
    SeatDoes.refused_for c.args.edit _ c.edit.new.pass c.in-Err-HistoryFull.ensures.front (IsRefused.row_is_full (rw c.in-Err-HistoryFull.field-0-is at c.in-Err-HistoryFull.ensures.err))

pub returns-in-Err-Refused-clause-refused : goal.returns-in-Err-Refused-clause-refused
returns-in-Err-Refused-clause-refused g c =
    let says = rw c.in-Err-Refused.field-0-is at c.in-Err-Refused.ensures.err in
    SeatDoes.refused_for c.args.edit c.in-Err-Refused.fault c.edit.new.pass c.in-Err-Refused.ensures.front
    (IsRefused.by_version c.in-Err-Refused.fault says.1 says.2)

pub returns-in-Err-Memory-clause-refused : goal.returns-in-Err-Memory-clause-refused
returns-in-Err-Memory-clause-refused g c =
    SeatDoes.refused_for c.args.edit _ c.edit.new.pass c.in-Err-Memory.ensures.front IsRefused.out_of_memory
