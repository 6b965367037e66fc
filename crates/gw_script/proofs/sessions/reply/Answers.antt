use Rattle.std.proofs.Common.{◌≡◌, false, refl, sym, ◌∙◌}
use Rattle.std.specs.Prelude.{codes}
use Rattle.std.proofs.lemmas.Result.{IfOk-weaker}
use Rattle.gw_request.specs.Requests.{request_of}
use Rattle.gw_script.specs.Replying.{Answers, unread, is_quit, fallback_of}
use Rattle.gw_script.proofs.Answering.{broken_if}
use Rattle.gw_script.proofs.Asking.{unread_goes_on}
use Rattle.gw_script.proofs.sessions.reply.Goals as goal

pub returns-in-Err-clause-quit : goal.returns-in-Err-clause-quit
returns-in-Err-clause-quit g c =
    IfOk-weaker c.refuse_unread.result (λ quit. quit ≡ false) (λ quit. quit ≡ is_quit (request_of c.args.line.now))
    (λ quit goes. goes ∙ sym (unread_goes_on c.args.line.now c.in-Err.ensures.memory)) c.refuse_unread.ensures.quit

pub returns-in-Err-clause-err : goal.returns-in-Err-clause-err
returns-in-Err-clause-err g c =
    broken_if c.refuse_unread.result g.K.Sink.wrote g.K.Sink.failures (Answers g.D.Keeper.version g.D.Keeper.does g.D.Keeper.works c.args.keeper.now c.args.n c.args.line.now)
    (fallback_of (request_of c.args.line.now)) c.args.keeper.now c.args.sink.now c.refuse_unread.new.sink
    (codes "refused E7\n") c.args.keeper.now (unread c.in-Err.ensures.memory refl refl)
    c.refuse_unread.ensures.fault c.refuse_unread.ensures.part c.refuse_unread.ensures.counted
