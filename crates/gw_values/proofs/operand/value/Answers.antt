use Rattle.gw_values.proofs.Evaluating.{constant_decides}
use Rattle.gw_values.proofs.operand.value.Goals as goal

pub returns-in-Some : goal.returns-in-Some
returns-in-Some c =
    let context = c.args.context in
    rw c.in-Some.ensures
    (constant_decides context.run.version.now context.run.seed context.state.now context.asker.now c.in-Some.value c.args.notes.now)
