use Rattle.std.proofs.Common.{◌≡◌, Some, option_copied, rules}
use Rattle.gw_script.proofs.Answering.{refused_if}
use Rattle.gw_script.proofs.sessions.send_refused.Goals as goal

pub returns-in-Some-clause-err : goal.returns-in-Some-clause-err
returns-in-Some-clause-err g c =
    let is : option_copied c.args.fallback ≡ Some c.in-Some.text.now = search rules in
    refused_if c.send.result g.K.Sink.wrote g.K.Sink.failures (option_copied c.args.fallback)
    c.args.sink.now c.send.new.sink c.in-Some.text.now is c.send.ensures.fault c.send.ensures.part c.send.ensures.counted
