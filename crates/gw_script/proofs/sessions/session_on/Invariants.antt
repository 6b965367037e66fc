use Rattle.std.proofs.Common.{◌≡◌, ◌+◌}
use Rattle.gw_script.specs.Replying.{Answers}
use Rattle.gw_script.proofs.Turning.{Turned}
use Rattle.gw_script.proofs.sessions.session_on.Given as goal

abbrev pub invariant-lines : goal.invariant-lines
invariant-lines g l = record {
  turned : Turned (Answers g.D.Keeper.version g.D.Keeper.does g.D.Keeper.works) g.S.Source.took g.K.Sink.wrote l.initial.keeper l.keeper (l.n + 1)
      l.budget l.initial.source l.source l.initial.sink l.sink;
  reads : g.S.Source.failures l.source ≡ g.S.Source.failures l.initial.source;
  writes : g.K.Sink.failures l.sink ≡ g.K.Sink.failures l.initial.sink;
}

abbrev pub decreases-lines : goal.decreases-lines
decreases-lines g l = l.budget
