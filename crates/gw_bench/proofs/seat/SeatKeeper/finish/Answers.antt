use Rattle.gw_desk.specs.declared.answer.Answer.TheVariants as answers
use Rattle.gw_bench.specs.Telling.{SeatDoes}
use Rattle.gw_bench.proofs.seat.SeatKeeper.finish.Goals as goal

pub returns-in-Ok : goal.returns-in-Ok
returns-in-Ok g c = SeatDoes.finished c.args.rep c.args.k c.in-Ok.answer c.finished-answer.new.self.pass c.in-Ok.ensures.seen c.in-Ok.ensures.ok

pub returns-in-Err : goal.returns-in-Err
returns-in-Err g c = SeatDoes.finished c.args.rep c.args.k answers.Memory c.finished-answer.new.self.pass c.in-Err.ensures.seen tt
