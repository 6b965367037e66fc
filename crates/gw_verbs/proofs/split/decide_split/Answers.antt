use Rattle.std.proofs.Common.{ℤ, option_copied}
use Rattle.gw_meaning.specs.declared.moves.Move.{Move}
use Rattle.gw_meaning.specs.Evaluation.{Eval, value_there}
use Rattle.gw_meaning.specs.Step.{split_value}
use Rattle.gw_asking.proofs.Binding.{decides_left, decides_then}
use Rattle.gw_verbs.proofs.split.decide_split.Goals as goal

pub returns-in_err-copies : goal.returns-in_err-copies
returns-in_err-copies c =
    let t = c.args.context.run.version.now in
    let seed = c.args.context.run.seed in
    let s = c.args.context.state.now in
    let rest : ℤ → Eval Move = λ n. split_value s c.args.id (option_copied c.args.label) n in
    decides_left t seed (value_there s c.args.context.asker.now (option_copied c.args.copies)) rest _ c.in_err-copies.field-0.0 _ _ c.from_residual.ensures.1 c.in_err-copies.ensures

pub returns : goal.returns
returns c =
    let t = c.args.context.run.version.now in
    let seed = c.args.context.run.seed in
    let s = c.args.context.state.now in
    let rest : ℤ → Eval Move = λ n. split_value s c.args.id (option_copied c.args.label) n in
    decides_then t seed (value_there s c.args.context.asker.now (option_copied c.args.copies)) rest c.in_ok-copies.copies _ _ _ _ c.in_ok-copies.ensures c.split_value.ensures
