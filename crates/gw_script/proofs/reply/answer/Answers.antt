use Rattle.std.proofs.Common.{refl, subst, sym}
use Rattle.std.proofs.lemmas.Result.{on_err_weaker}
use Rattle.gw_edit.specs.declared.fault.EditFault.TheVariants as faults
use Rattle.gw_desk.specs.declared.play.Event.TheVariants as events
use Rattle.gw_desk.specs.declared.play.Reply.TheVariants as replies
use Rattle.gw_script.specs.Changes.{refuses}
use Rattle.gw_script.proofs.Answering.{memory_told}
use Rattle.gw_script.proofs.reply.answer.Goals as goal

pub returns-in-Edit-clause-err : goal.returns-in-Edit-clause-err
returns-in-Edit-clause-err g c =
    let old = c.args.keeper.now in
    let e = c.in-Edit.change in
    rw c.in-Edit.is (on_err_weaker c.edit.result (λ same. refuses faults.Memory
    (subst (λ d. g.D.Keeper.does old (events.Edit e) (replies.Refused faults.Memory) d) (sym same) (g.met.D.Keeper.in_vain old (events.Edit e) refl))
    memory_told) c.edit.ensures.err)
