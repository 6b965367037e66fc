use Rattle.std.proofs.Common.{◌≡◌, subst, sym}
use Rattle.std.proofs.lemmas.Result.{on_ok_weaker}
use Rattle.gw_desk.specs.Book.{Book}
use Rattle.gw_bench.specs.Growing.{Settles}
use Rattle.gw_bench.proofs.Refusals.{refused_settles}
use Rattle.gw_bench.proofs.held.settle.Goals as goal

pub returns-in-Ok-clause-ok : goal.returns-in-Ok-clause-ok
returns-in-Ok-clause-ok c = Settles.accepts c.in-Ok.field-0 c.edit.new.self c.in-Ok.ensures.accepted

pub returns-in-Err-clause-ok : goal.returns-in-Err-clause-ok
returns-in-Err-clause-ok c =
    on_ok_weaker c.went_on.result (λ own. subst (λ (b : Book). Settles c.args.desk.now c.args.edit b) (sym c.in-Err.ensures.err)
    (refused_settles c.args.desk.now c.args.edit c.in-Err.fault c.requires c.in-Err.ensures.refused own)) c.went_on.ensures
