use Rattle.std.proofs.Common.{refl}
use Rattle.std.proofs.lemmas.Result.{IfErr-weaker, IfOk-weaker, err_from_is_err_and}
use Rattle.gw_script.specs.Turns.{stopped_by}
use Rattle.gw_script.proofs.Answering.{if_err_at}
use Rattle.gw_main.specs.Conversations.{Fails, Takes, in_model}
use Rattle.gw_main.proofs.Conversing.{fails_behind}
use Rattle.gw_main.proofs.conversation.converse.Goals as goal

pub returns-in_err-model-clause-fails : goal.returns-in_err-model-clause-fails
returns-in_err-model-clause-fails g c =
    let exit = c.from_residual in
    let p = err_from_is_err_and exit.result exit.ensures.1 in
    let fault = c.in_err-model.field-0.0 in
    if_err_at exit.result (Fails g.S.Source.took g.S.Source.ended g.S.Source.failures g.K.Sink.wrote g.K.Sink.failures c.args.workers c.args.options c.args.reader.now
    c.split_model.new.source c.args.writer.now c.args.writer.now) p.0 (stopped_by fault) p.1 p.2
    (in_model c.split_model.new.budget fault (rw c.new-budget.ensures at c.in_err-model.ensures.fault) refl refl)

pub returns-clause-converses : goal.returns-clause-converses
returns-clause-converses g c =
    let taken : Takes g.S.Source.took g.S.Source.ended g.S.Source.failures c.args.reader.now c.split_model.new.source c.in_ok-model.model.items =
    record { left = c.split_model.new.budget; takes = rw c.new-budget.ensures at c.in_ok-model.ensures.model; uncounted = c.in_ok-model.ensures.uncounted }
    in
    IfOk-weaker c.session_with.result _ _ (λ over h. record {
      between = c.split_model.new.source;
      model = c.in_ok-model.model.items;
      book = h.0;
      taken = taken;
      opens = h.1;
      serves = h.2;
    }) (rw c.deref.ensures.value at c.session_with.ensures.serves)

pub returns-clause-fails : goal.returns-clause-fails
returns-clause-fails g c =
    let taken : Takes g.S.Source.took g.S.Source.ended g.S.Source.failures c.args.reader.now c.split_model.new.source c.in_ok-model.model.items =
    record { left = c.split_model.new.budget; takes = rw c.new-budget.ensures at c.in_ok-model.ensures.model; uncounted = c.in_ok-model.ensures.uncounted }
    in
    IfErr-weaker c.session_with.result _ _ (λ fault h. fails_behind g.S.Source.took g.S.Source.ended g.S.Source.failures g.K.Sink.wrote g.K.Sink.failures
    c.args.workers c.args.options c.args.reader.now c.split_model.new.source c.session_with.new.source c.args.writer.now c.session_with.new.sink c.in_ok-model.model.items fault
    taken h) (rw c.deref.ensures.value at c.session_with.ensures.stops)
