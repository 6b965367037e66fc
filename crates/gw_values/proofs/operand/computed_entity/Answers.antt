use Rattle.gw_meaning.specs.Evaluation.{value_prog, numbered}
use Rattle.gw_asking.proofs.Binding.{decides_left, decides_then, decides_comes}
use Rattle.gw_values.proofs.operand.computed_entity.Goals as goal

pub returns-in_err-number : goal.returns-in_err-number
returns-in_err-number c =
    decides_left c.args.context.run.version.now c.args.context.run.seed (value_prog c.args.context.state.now c.args.context.asker.now c.args.operand.now) numbered _
    c.in_err-number.field-0.0 _ _ c.from_residual.ensures.1 c.in_err-number.ensures

pub returns : goal.returns
returns c =
    let t = c.args.context.run.version.now in
    let seed = c.args.context.run.seed in
    let n = c.in_ok-number.number in
    decides_then t seed (value_prog c.args.context.state.now c.args.context.asker.now c.args.operand.now) numbered n _ _ _ _ c.in_ok-number.ensures
    (decides_comes t seed (numbered n) _ _ c.key_numbered.ensures)
