use Rattle.std.proofs.Common.{map}
use Rattle.std.specs.Fn.{FnOnceReturnsAt}
use Rattle.gw_main.proofs.Usual.{no_texts, usual_run}
use Rattle.gw_main.proofs.run.run.Goals as goal

pub returns-clause-usual : goal.returns-clause-usual
returns-clause-usual g c = λ none.
    let texts = map g.W.AsStr.text c.args.words.now in
    usual_run g.S.Source.took g.S.Source.ended g.S.Source.failures g.K.Sink.wrote g.K.Sink.failures g.met.S.Source.nothing c.args.reader.now
    c.proceed.new.reader c.args.writer.now c.proceed.new.writer
    (FnOnceReturnsAt g.O.FnOnce c.args.opener) g.F.Source.took g.F.Source.ended g.F.Source.failures g.E.Sink.wrote g.E.Sink.failures c.args.errors.now
    c.proceed.new.errors c.proceed.result
    texts (no_texts g.W.AsStr.text c.args.words.now none)
    (record { meant = c.read_words-meant.result; reading = c.read_words-meant.ensures; done = c.proceed.ensures })
