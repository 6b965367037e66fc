use Rattle.std.proofs.Common.{inr}
use Rattle.std.proofs.lemmas.Result.{IfErr-weaker, IfOk-weaker}
use Rattle.gw_script.proofs.Rightly.{desk_serves, desk_stops}
use Rattle.gw_script.proofs.sessions.session.Goals as goal

pub returns-clause-serves : goal.returns-clause-serves
returns-clause-serves g c =
    let opened = c.in_ok-desk.ensures in
    let right = desk_serves g.S.Source.took g.S.Source.ended g.S.Source.failures g.K.Sink.wrote g.K.Sink.failures c.args.model.now c.args.options
    c.in_ok-desk.desk c.session_on.new.keeper c.args.source.now c.session_on.new.source c.args.sink.now c.session_on.new.sink opened.desk opened.opens in
    IfOk-weaker c.session_on.result _ _ (λ over serves. (c.in_ok-desk.desk, c.session_on.new.keeper, opened.opens, right over serves))
    c.session_on.ensures.serves

pub returns-clause-stops : goal.returns-clause-stops
returns-clause-stops g c =
    let opened = c.in_ok-desk.ensures in
    let right = desk_stops g.S.Source.took g.S.Source.ended g.S.Source.failures g.K.Sink.wrote g.K.Sink.failures c.args.model.now c.args.options
    c.in_ok-desk.desk c.session_on.new.keeper c.args.source.now c.session_on.new.source c.args.sink.now c.session_on.new.sink opened.desk opened.opens in
    IfErr-weaker c.session_on.result _ _ (λ fault stops. inr (c.in_ok-desk.desk, c.session_on.new.keeper, opened.opens, right fault stops))
    c.session_on.ensures.stops
