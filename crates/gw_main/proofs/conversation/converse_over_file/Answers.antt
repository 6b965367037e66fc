use Rattle.std.proofs.Common.{refl}
use Rattle.std.proofs.lemmas.Result.{IfErr-weaker, IfOk-weaker, err_from_is_err_and}
use Rattle.gw_script.specs.Turns.{stopped_by}
use Rattle.gw_script.proofs.Answering.{if_err_at}
use Rattle.gw_main.specs.Files.{FileFails, TakesFile, in_file, unopened}
use Rattle.gw_main.proofs.FileConversing.{fails_over}
use Rattle.gw_main.proofs.conversation.converse_over_file.Goals as goal

pub returns-in_err-file-clause-fails : goal.returns-in_err-file-clause-fails
returns-in_err-file-clause-fails g c =
    let exit = c.from_residual in
    let p = err_from_is_err_and exit.result exit.ensures.1 in
    let fault = c.in_err-file.field-0.0 in
    if_err_at exit.result (FileFails g.F.Source.took g.F.Source.ended g.F.Source.failures g.S.Source.took g.S.Source.ended g.S.Source.failures
    g.K.Sink.wrote g.K.Sink.failures c.args.workers c.args.options c.args.opened c.args.reader.now c.args.reader.now c.args.writer.now c.args.writer.now)
    p.0 (stopped_by fault) p.1 p.2 (unopened fault c.in_err-file.was refl refl refl)

pub returns-in_err-bytes-clause-fails : goal.returns-in_err-bytes-clause-fails
returns-in_err-bytes-clause-fails g c =
    let exit = c.from_residual-in_err-bytes in
    let p = err_from_is_err_and exit.result exit.ensures.1 in
    let fault = c.in_err-bytes.field-0.0 in
    if_err_at exit.result (FileFails g.F.Source.took g.F.Source.ended g.F.Source.failures g.S.Source.took g.S.Source.ended g.S.Source.failures
    g.K.Sink.wrote g.K.Sink.failures c.args.workers c.args.options c.args.opened c.args.reader.now c.args.reader.now c.args.writer.now c.args.writer.now)
    p.0 (stopped_by fault) p.1 p.2 (in_file c.in_ok-file.file c.read_all.new.source c.read_all.new.budget fault c.in_ok-file.was
    (rw c.new-budget.ensures at c.in_err-bytes.ensures.fault) refl refl refl)

pub returns-clause-converses : goal.returns-clause-converses
returns-clause-converses g c =
    let taken : TakesFile g.F.Source.took g.F.Source.ended g.F.Source.failures c.args.opened c.in_ok-bytes.bytes.items =
    record {
      file = c.in_ok-file.file;
      behind = c.read_all.new.source;
      left = c.read_all.new.budget;
      is_file = c.in_ok-file.was;
      takes =
          rw c.new-budget.ensures at c.in_ok-bytes.ensures.all;
      uncounted = c.in_ok-bytes.ensures.uncounted;
    } in
    IfOk-weaker c.session_with.result _ _ (λ over h. record {
      model = c.in_ok-bytes.bytes.items;
      book = h.0;
      taken = taken;
      opens = h.1;
      serves = h.2;
    }) (rw c.deref.ensures.value at c.session_with.ensures.serves)

pub returns-clause-fails : goal.returns-clause-fails
returns-clause-fails g c =
    let taken : TakesFile g.F.Source.took g.F.Source.ended g.F.Source.failures c.args.opened c.in_ok-bytes.bytes.items =
    record {
      file = c.in_ok-file.file;
      behind = c.read_all.new.source;
      left = c.read_all.new.budget;
      is_file = c.in_ok-file.was;
      takes =
          rw c.new-budget.ensures at c.in_ok-bytes.ensures.all;
      uncounted = c.in_ok-bytes.ensures.uncounted;
    } in
    IfErr-weaker c.session_with.result _ _ (λ fault h. fails_over g.F.Source.took g.F.Source.ended g.F.Source.failures g.S.Source.took
    g.S.Source.ended g.S.Source.failures g.K.Sink.wrote g.K.Sink.failures c.args.workers c.args.options c.args.opened c.args.reader.now c.session_with.new.source c.args.writer.now
    c.session_with.new.sink c.in_ok-bytes.bytes.items fault taken h) (rw c.deref.ensures.value at c.session_with.ensures.stops)
