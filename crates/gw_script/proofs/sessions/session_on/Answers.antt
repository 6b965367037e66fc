use Rattle.std.proofs.Common.{◌≡◌, ◌+◌, ◌++◌, ◌∷◌, [], ap, sym, ◌∙◌, refl, inl, inr, true, false, length-append, arith}
use Rattle.std.proofs.lemmas.Result.{err_from_is_err_and}
use Rattle.gw_io.specs.Line.{without_cr_of}
use Rattle.gw_request.specs.Requests.{request_of}
use Rattle.gw_script.specs.declared.fault.Over.TheVariants as overs
use Rattle.gw_script.specs.Replying.{Answers, is_quit}
use Rattle.gw_script.specs.Sessions.{nothing, quit, with_its_line_feed, at_the_end, with_line_feed, without_line_feed, Stops}
use Rattle.gw_script.specs.Turns.{over_if, stopped_by}
use Rattle.gw_script.proofs.Answering.{if_err_at}
use Rattle.gw_script.proofs.Turning.{turned_none, turned_line, serves_last, stops_reading, stops_answering, says_whole, says_last, ended_if}
use Rattle.gw_script.proofs.sessions.session_on.Goals as goal

pub lines-init : goal.lines-init
lines-init g c = record {
  turned = rw c.new-budget.ensures (turned_none (Answers g.D.Keeper.version g.D.Keeper.does g.D.Keeper.works)
      g.S.Source.took g.K.Sink.wrote c.args.keeper.now c.args.source.now c.args.sink.now (g.met.S.Source.nothing c.args.source.now)
      (g.met.K.Sink.nothing c.args.sink.now));
  reads = refl;
  writes = refl;
}

pub returns-in_err-line-clause-stops : goal.returns-in_err-line-clause-stops
returns-in_err-line-clause-stops g c =
    let answers = Answers g.D.Keeper.version g.D.Keeper.does g.D.Keeper.works in
    let exit = c.from_residual in
    let p = err_from_is_err_and exit.result exit.ensures.1 in
    let fault = c.in_err-line.field-0.0 in
    let known = c.lines.invariant in
    let stops = stops_reading answers g.S.Source.took g.K.Sink.wrote g.met.S.Source.onward g.met.K.Sink.onward g.S.Source.failures g.K.Sink.failures
    known.turned g.S.Source.ended fault known.reads known.writes c.in_err-line.ensures.fault in
    if_err_at exit.result (Stops answers g.S.Source.took g.S.Source.ended g.S.Source.failures g.K.Sink.wrote g.K.Sink.failures c.args.keeper.now
    c.args.source.now c.read_line.new.source c.args.sink.now c.lines.sink c.lines.keeper) p.0 (stopped_by fault) p.1 p.2 stops

pub returns-in_err-reply-in-Whole-clause-stops : goal.returns-in_err-reply-in-Whole-clause-stops
returns-in_err-reply-in-Whole-clause-stops g c =
    let answers = Answers g.D.Keeper.version g.D.Keeper.does g.D.Keeper.works in
    let at = rw c.in-Whole.is at c.in_ok-line.ensures in
    let text = c.in-Whole.line.items in
    let exit = c.from_residual-in_err-reply-in-Whole in
    let p = err_from_is_err_and exit.result exit.ensures.1 in
    let fault = c.in_err-reply-in-Whole.field-0.0 in
    let known = c.lines.invariant in
    let w : c.without_cr.result.now ≡ without_cr_of text = c.without_cr.ensures ∙ ap without_cr_of c.deref.ensures.value in
    let b = rw w at c.in_err-reply-in-Whole.ensures.err in
    let said = says_whole answers c.lines.keeper c.reply.new.keeper (c.lines.n + 1) text (b.front ++ b.left) at.line b.answers in
    let stops = stops_answering answers g.S.Source.took g.K.Sink.wrote g.met.S.Source.onward g.met.K.Sink.onward g.S.Source.failures g.K.Sink.failures
    known.turned g.S.Source.ended (text ++ 10 ∷ []) (without_cr_of text) 0 (with_its_line_feed (text, refl) refl)
    (λ earlier. with_line_feed earlier text at.line)
    said.0 fault (at.uncounted ∙ known.reads) known.writes
    (omega (arith, at.spent, length-append text (10 ∷ []))) at.taken b said.1 in
    if_err_at exit.result (Stops answers g.S.Source.took g.S.Source.ended g.S.Source.failures g.K.Sink.wrote g.K.Sink.failures c.args.keeper.now
    c.args.source.now c.read_line.new.source c.args.sink.now c.reply.new.sink c.reply.new.keeper) p.0 fault p.1 p.2 stops

pub returns-then-branch-clause-serves : goal.returns-then-branch-clause-serves
returns-then-branch-clause-serves g c =
    let answers = Answers g.D.Keeper.version g.D.Keeper.does g.D.Keeper.works in
    let at = rw c.in-Whole.is at c.in_ok-line.ensures in
    let text = c.in-Whole.line.items in
    let w : c.without_cr.result.now ≡ without_cr_of text = c.without_cr.ensures ∙ ap without_cr_of c.deref.ensures.value in
    let r = rw w at c.in_ok-reply-in-Whole.ensures.ok in
    let q : is_quit (request_of (without_cr_of text)) ≡ true =
    ap (λ l. is_quit (request_of l)) (sym w) ∙ (sym c.in_ok-reply-in-Whole.ensures.quit ∙ c.if-branch.true) in
    let known = c.lines.invariant in
    serves_last answers g.S.Source.took g.K.Sink.wrote g.met.S.Source.onward g.met.K.Sink.onward g.S.Source.failures g.K.Sink.failures known.turned
    g.S.Source.ended (text ++ 10 ∷ []) r.front overs.Quit 0 at.taken r.written
    (quit c.lines.keeper c.reply.new.keeper (c.lines.n + 1) text r.front at.line q r.answers)
    (with_its_line_feed (text, refl) refl) (omega (arith, at.spent, length-append text (10 ∷ [])))
    (at.uncounted ∙ known.reads) (c.in_ok-reply-in-Whole.ensures.same ∙ known.writes)

pub lines-preserved : goal.lines-preserved
lines-preserved g c =
    let at = rw c.in-Whole.is at c.in_ok-line.ensures in
    let text = c.in-Whole.line.items in
    let w : c.without_cr.result.now ≡ without_cr_of text = c.without_cr.ensures ∙ ap without_cr_of c.deref.ensures.value in
    let r = rw w at c.in_ok-reply-in-Whole.ensures.ok in
    let q : is_quit (request_of (without_cr_of text)) ≡ false =
    ap (λ l. is_quit (request_of l)) (sym w) ∙ (sym c.in_ok-reply-in-Whole.ensures.quit ∙ c.if-branch.false) in
    record {
      turned = turned_line (Answers g.D.Keeper.version g.D.Keeper.does g.D.Keeper.works)
          g.S.Source.took g.K.Sink.wrote g.met.S.Source.onward g.met.K.Sink.onward text c.lines.invariant.turned at.line at.taken at.spent q r;
      reads = at.uncounted ∙ c.lines.invariant.reads;
      writes = c.in_ok-reply-in-Whole.ensures.same ∙ c.lines.invariant.writes;
    }

pub returns-in-End-clause-serves : goal.returns-in-End-clause-serves
returns-in-End-clause-serves g c =
    let at = rw c.in-End.is at c.in_ok-line.ensures in
    let known = c.lines.invariant in
    serves_last (Answers g.D.Keeper.version g.D.Keeper.does g.D.Keeper.works)
    g.S.Source.took g.K.Sink.wrote g.met.S.Source.onward g.met.K.Sink.onward g.S.Source.failures g.K.Sink.failures known.turned g.S.Source.ended [] []
    overs.InputEnd 1 at.taken (g.met.K.Sink.nothing c.lines.sink) (nothing c.lines.keeper (c.lines.n + 1)) (at.line, refl)
    (omega (arith, at.spent)) (at.uncounted ∙ known.reads) known.writes

pub returns-in_err-quit-in-Last-clause-stops : goal.returns-in_err-quit-in-Last-clause-stops
returns-in_err-quit-in-Last-clause-stops g c =
    let answers = Answers g.D.Keeper.version g.D.Keeper.does g.D.Keeper.works in
    let at = rw c.in-Last.is at c.in_ok-line.ensures in
    let text = c.in-Last.line.items in
    let exit = c.from_residual-in_err-quit-in-Last in
    let p = err_from_is_err_and exit.result exit.ensures.1 in
    let fault = c.in_err-quit-in-Last.field-0.0 in
    let known = c.lines.invariant in
    let b = rw c.deref-in-Last.ensures.value at c.in_err-quit-in-Last.ensures.err in
    let said = says_last answers c.lines.keeper c.reply-in-Last.new.keeper (c.lines.n + 1) text (b.front ++ b.left) at.line.0 b.answers in
    let stops = stops_answering answers g.S.Source.took g.K.Sink.wrote g.met.S.Source.onward g.met.K.Sink.onward g.S.Source.failures g.K.Sink.failures
    known.turned g.S.Source.ended text text 1 (at_the_end at.line.2 refl) (λ earlier. without_line_feed earlier text at.line.0)
    (over_if (is_quit (request_of text))) fault (at.uncounted ∙ known.reads) known.writes
    (omega (arith, at.spent)) at.taken b said in
    if_err_at exit.result (Stops answers g.S.Source.took g.S.Source.ended g.S.Source.failures g.K.Sink.wrote g.K.Sink.failures c.args.keeper.now
    c.args.source.now c.read_line.new.source c.args.sink.now c.reply-in-Last.new.sink c.reply-in-Last.new.keeper) p.0 fault p.1 p.2 stops

pub returns-in-Last-clause-serves : goal.returns-in-Last-clause-serves
returns-in-Last-clause-serves g c =
    let answers = Answers g.D.Keeper.version g.D.Keeper.does g.D.Keeper.works in
    let at = rw c.in-Last.is at c.in_ok-line.ensures in
    let text = c.in-Last.line.items in
    let r = rw c.deref-in-Last.ensures.value at c.in_ok-quit-in-Last.ensures.ok in
    let q = rw c.deref-in-Last.ensures.value at c.in_ok-quit-in-Last.ensures.quit in
    let said = says_last answers c.lines.keeper c.reply-in-Last.new.keeper (c.lines.n + 1) text r.front at.line.0 r.answers in
    let ends = ended_if (is_quit (request_of text)) (g.S.Source.ended c.read_line.new.source) text at.line.2 in
    let known = c.lines.invariant in
    rw (c.over_if.ensures, q)
    (serves_last answers g.S.Source.took g.K.Sink.wrote g.met.S.Source.onward g.met.K.Sink.onward g.S.Source.failures g.K.Sink.failures known.turned
    g.S.Source.ended text r.front (over_if (is_quit (request_of text))) 1 at.taken r.written
    said ends (omega (arith, at.spent)) (at.uncounted ∙ known.reads) (c.in_ok-quit-in-Last.ensures.same ∙ known.writes))
