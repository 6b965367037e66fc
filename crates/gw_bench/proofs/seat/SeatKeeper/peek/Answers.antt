use Rattle.gw_desk.specs.declared.answer.Answer.TheVariants as answers
use Rattle.gw_bench.specs.Telling.{SeatDoes}
use Rattle.gw_bench.proofs.seat.SeatKeeper.peek.Goals as goal

pub returns-in-Ok : goal.returns-in-Ok
returns-in-Ok g c = SeatDoes.peeked c.args.rep c.args.k c.in-Ok.answer c.peek.new.pass c.in-Ok.ensures.seen c.in-Ok.ensures.ok

pub returns-in-Err : goal.returns-in-Err
returns-in-Err g c = SeatDoes.peeked c.args.rep c.args.k answers.Memory c.peek.new.pass c.in-Err.ensures.seen tt
