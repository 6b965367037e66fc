use Rattle.std.proofs.Common.{arith}
use Rattle.std.proofs.lemmas.Grind.{common_steps}
use Rattle.std.proofs.lemmas.Result.{err_from_is_err_and}
use Rattle.gw_script.specs.Replying.{Replies, fallback_of}
use Rattle.gw_script.specs.Turns.{BreaksOff}
use Rattle.gw_script.proofs.Answering.{broken_refused, if_err_at}
use Rattle.gw_script.proofs.sessions.fulfil.Goals as goal

pub returns-in_err-send-in-Ok-clause-err : goal.returns-in_err-send-in-Ok-clause-err
returns-in_err-send-in-Ok-clause-err g c = grind (arith, common_steps)

pub returns-in_err-send_refused-in-Err-clause-err : goal.returns-in_err-send_refused-in-Err-clause-err
returns-in_err-send_refused-in-Err-clause-err g c =
    let exit = c.from_residual-in_err-send_refused-in-Err in
    let p = err_from_is_err_and exit.result exit.ensures.1 in
    let fault = c.in_err-send_refused-in-Err.field-0.0 in
    let refused = rw c.fallback-fallback.ensures at c.in_err-send_refused-in-Err.ensures.err in
    let old = c.args.sink.now in
    let new = c.send_refused.new.sink in
    let replies = Replies g.D.Keeper.version g.D.Keeper.does g.D.Keeper.works c.args.keeper.now c.args.n c.args.request in
    if_err_at exit.result (BreaksOff g.K.Sink.wrote g.K.Sink.failures replies (fallback_of c.args.request) c.args.keeper.now old new c.answer.new.keeper)
    p.0 fault p.1 p.2
    (broken_refused g.K.Sink.wrote g.K.Sink.failures g.met.K.Sink.nothing g.D.Keeper.version g.D.Keeper.does g.D.Keeper.works g.met.D.Keeper.in_vain g.met.D.Keeper.worked_in_vain c.args.keeper.now
    c.answer.new.keeper c.args.n c.args.request old new fault c.in-Err.ensures.err refused)

pub returns-in_ok-send-in-Ok-clause-ok : goal.returns-in_ok-send-in-Ok-clause-ok
returns-in_ok-send-in-Ok-clause-ok g c = grind (arith, common_steps)

pub returns-in_ok-send_refused-in-Err-clause-ok : goal.returns-in_ok-send_refused-in-Err-clause-ok
returns-in_ok-send_refused-in-Err-clause-ok g c = grind (arith, common_steps)
