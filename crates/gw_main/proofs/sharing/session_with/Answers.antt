use Rattle.std.proofs.Common.{◌≡◌, ◌≤◌, rules}
use Rattle.gw_main.proofs.Shared.{served_alone, served_beside, stopped_alone, stopped_beside}
use Rattle.gw_main.proofs.sharing.session_with.Goals as goal

pub returns-then-workers-eq0-clause-serves : goal.returns-then-workers-eq0-clause-serves
returns-then-workers-eq0-clause-serves g c =
    let none : c.args.workers ≡ 0 = search rules in
    let session = c.session in
    served_alone g.S.Source.took g.S.Source.ended g.S.Source.failures g.K.Sink.wrote g.K.Sink.failures c.args.model.now c.args.options c.args.workers
    c.args.source.now session.new.source c.args.sink.now session.new.sink none session.result session.ensures.serves

pub returns-then-workers-eq0-clause-stops : goal.returns-then-workers-eq0-clause-stops
returns-then-workers-eq0-clause-stops g c =
    let none : c.args.workers ≡ 0 = search rules in
    let session = c.session in
    stopped_alone g.S.Source.took g.S.Source.ended g.S.Source.failures g.K.Sink.wrote g.K.Sink.failures c.args.model.now c.args.options c.args.workers
    c.args.source.now session.new.source c.args.sink.now session.new.sink none session.result session.ensures.stops

pub returns-clause-serves : goal.returns-clause-serves
returns-clause-serves g c =
    let some : 1 ≤ c.args.workers = search rules in
    let session = c.beside in
    served_beside g.S.Source.took g.S.Source.ended g.S.Source.failures g.K.Sink.wrote g.K.Sink.failures c.args.model.now c.args.options c.args.workers
    c.args.source.now session.new.source c.args.sink.now session.new.sink some c.in_ok-version.version c.in_ok-version.ensures.opens session.result
    session.ensures.serves

pub returns-clause-stops : goal.returns-clause-stops
returns-clause-stops g c =
    let some : 1 ≤ c.args.workers = search rules in
    let session = c.beside in
    stopped_beside g.S.Source.took g.S.Source.ended g.S.Source.failures g.K.Sink.wrote g.K.Sink.failures c.args.model.now c.args.options c.args.workers
    c.args.source.now session.new.source c.args.sink.now session.new.sink some c.in_ok-version.version c.in_ok-version.ensures.opens session.result
    session.ensures.stops
