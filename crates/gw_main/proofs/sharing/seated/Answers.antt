use Rattle.std.proofs.Common.{◌≡◌, ◌∙◌, List, [], inr, subst}
use Rattle.std.proofs.lemmas.Result.{IfOk-weaker, IfErr-weaker}
use Rattle.gw_meaning.specs.declared.edit.Edit.{Edit}
use Rattle.gw_edit.specs.Leading.{version_of}
use Rattle.gw_bench.specs.Telling.{SeatDoes, SeatWorks}
use Rattle.gw_script.specs.Sessions.{Serves, Stops}
use Rattle.gw_main.specs.Sharing.{SeatAnswers}
use Rattle.gw_main.proofs.Mapped.{serves_seen, stops_seen}
use Rattle.gw_main.proofs.sharing.seated.Goals as goal

pub returns-clause-serves : goal.returns-clause-serves
returns-clause-serves g c =
    let opening = g.N.RowName.opening in
    let session = c.session_on-over in
    let unread : c.new-seat.result.pass ≡ [] = c.new-seat.ensures ∙ c.in-Ok.ensures in
    IfOk-weaker session.result _ _ (λ over h. (
      session.new.keeper.pass,
      subst (λ (front : List Edit). Serves (SeatAnswers opening) g.S.Source.took g.S.Source.ended g.S.Source.failures
          g.K.Sink.wrote g.K.Sink.failures front c.args.source.now session.new.source c.args.sink.now session.new.sink
          session.new.keeper.pass over) unread
          (serves_seen (λ seat. seat.pass) (version_of opening) (SeatDoes opening) (SeatWorks opening) g.S.Source.took
          g.S.Source.ended g.S.Source.failures g.K.Sink.wrote g.K.Sink.failures c.new-seat.result session.new.keeper
          c.args.source.now session.new.source c.args.sink.now session.new.sink over h),
    )) session.ensures.serves

pub returns-clause-stops : goal.returns-clause-stops
returns-clause-stops g c =
    let opening = g.N.RowName.opening in
    let session = c.session_on-over in
    let unread : c.new-seat.result.pass ≡ [] = c.new-seat.ensures ∙ c.in-Ok.ensures in
    IfErr-weaker session.result _ _ (λ fault h. inr (
      session.new.keeper.pass,
      subst (λ (front : List Edit). Stops (SeatAnswers opening) g.S.Source.took g.S.Source.ended g.S.Source.failures
          g.K.Sink.wrote g.K.Sink.failures front c.args.source.now session.new.source c.args.sink.now session.new.sink
          session.new.keeper.pass fault) unread
          (stops_seen (λ seat. seat.pass) (version_of opening) (SeatDoes opening) (SeatWorks opening) g.S.Source.took
          g.S.Source.ended g.S.Source.failures g.K.Sink.wrote g.K.Sink.failures c.new-seat.result session.new.keeper
          c.args.source.now session.new.source c.args.sink.now session.new.sink fault h),
    )) session.ensures.stops
