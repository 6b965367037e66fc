use Rattle.std.proofs.Common.{◌≡◌, length, sym, ap, ◌∙◌}
use Rattle.std.specs.Prelude.{codes}
use Rattle.gw_script.specs.Answers.{ReportsAll, numbers_of}
use Rattle.gw_script.proofs.Answering.{reports_all_none}
use Rattle.gw_script.proofs.Reporting.{on_err, all_refused, all_whole}
use Rattle.gw_script.proofs.queries.report_all.Goals as goal

pub returns-in_err-numbers-clause-err : goal.returns-in_err-numbers-clause-err
returns-in_err-numbers-clause-err g c = on_err c.from_residual.result
    (ReportsAll g.D.Keeper.version g.D.Keeper.does c.args.keeper.now c.args.k (codes "memory\n") c.args.keeper.now)
    (reports_all_none g.D.Keeper.version g.D.Keeper.does c.args.keeper.now c.args.k)

pub returns-in_err-text-clause-err : goal.returns-in_err-text-clause-err
returns-in_err-text-clause-err g c = on_err c.from_residual-in_err-text.result
    (ReportsAll g.D.Keeper.version g.D.Keeper.does c.args.keeper.now c.args.k (codes "memory\n") c.args.keeper.now)
    (reports_all_none g.D.Keeper.version g.D.Keeper.does c.args.keeper.now c.args.k)

pub returns-in_err-put_reports-clause-err : goal.returns-in_err-put_reports-clause-err
returns-in_err-put_reports-clause-err g c =
    let keeper = c.args.keeper.now in
    let all : c.deref.result.now ≡ numbers_of (g.D.Keeper.version keeper).replications =
    c.deref.ensures.value ∙ (c.in_ok-numbers.ensures ∙ ap numbers_of c.replications.ensures) in
    on_err c.from_residual-in_err-put_reports.result (ReportsAll g.D.Keeper.version g.D.Keeper.does keeper c.args.k (codes "memory\n") c.put_reports.new.keeper)
    (all_refused g.D.Keeper.version g.D.Keeper.does keeper c.put_reports.new.keeper c.args.k c.deref.result.now all c.in_err-put_reports.ensures.err)

pub returns-clause-ok : goal.returns-clause-ok
returns-clause-ok g c =
    let keeper = c.args.keeper.now in
    let all : c.deref.result.now ≡ numbers_of (g.D.Keeper.version keeper).replications =
    c.deref.ensures.value ∙ (c.in_ok-numbers.ensures ∙ ap numbers_of c.replications.ensures) in
    let counted : c.len.result ≡ length c.deref.result.now = c.len.ensures ∙ sym c.deref.ensures.len in
    all_whole g.D.Keeper.version g.D.Keeper.does keeper c.put_reports.new.keeper c.args.k c.len.result c.deref.result.now c.in_ok-text.text.items
    c.put_reports.new.text.items all counted c.in_ok-text.ensures c.in_ok-put_reports.ensures.ok
