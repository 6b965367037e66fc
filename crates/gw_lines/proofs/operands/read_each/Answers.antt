use Rattle.std.proofs.lemmas.Result.{err_from_is_err_and}
use Rattle.std.proofs.Common.{◌∙◌, sym}
use Rattle.gw_lines.proofs.Parts.{form_at, next_form, form_fails, goes_on_left, none_left}
use Rattle.gw_lines.proofs.operands.read_each.Goals as goal

pub returns-in_err-add-clause-operands : goal.returns-in_err-add-clause-operands
returns-in_err-add-clause-operands c =
    let p = err_from_is_err_and c.from_residual.result c.from_residual.ensures.1 in
    rw (p.1, p.2)
    (form_fails _ c.loop-form.invariant (form_at _ _ _ c.loop-form-test.true) c.first_part-goes_on.ensures.here
    c.first_part-goes_on.ensures.part c.in_err-add.ensures)

pub loop-form-preserved : goal.loop-form-preserved
loop-form-preserved c =
    next_form c.loop-form.invariant (form_at _ _ _ c.loop-form-test.true) c.first_part-goes_on.ensures.here
    c.first_part-goes_on.ensures.part c.first_part-goes_on.ensures.others c.in_ok-add.ensures
    c.missing_after-missing.ensures

pub returns-clause-more : goal.returns-clause-more
returns-clause-more c =
    sym (goes_on_left c.loop-form.more c.loop-form.rest.now)
    ∙ rw (none_left _ _ c.loop-form-test.false) at c.loop-form.invariant.more
