use Rattle.std.proofs.Common.{ℤ, option_copied, refl, rules}
use Rattle.std.proofs.lemmas.Result.{err_from_is_err_and}
use Rattle.gw_nums.specs.Millionths.{times}
use Rattle.gw_expr.specs.Evaluation.{function_of}
use Rattle.gw_meaning.specs.Evaluation.{Eval, value_or_zero, evaluated, in_range, ◌~>◌}
use Rattle.gw_asking.proofs.Binding.{decides_exit, decides_then, decides_comes}
use Rattle.gw_values.proofs.Evaluating.{seen_decides}
use Rattle.gw_values.proofs.times.time_by_function.Goals as goal

pub returns-in_err-mean : goal.returns-in_err-mean
returns-in_err-mean c =
    let p = err_from_is_err_and c.from_residual.result c.from_residual.ensures.1 in
    let t = c.args.context.run.version.now in
    let seed = c.args.context.run.seed in
    let s = c.args.context.state.now in
    let q = c.args.context.asker.now in
    let by = evaluated s q (function_of c.args.of.now) in
    let rest : ℤ → Eval ℤ = λ m. by ~> (λ y. in_range (times m y)) in
    decides_exit t seed (value_or_zero s q (option_copied c.args.mean)) rest _ _ _ c.in_err-mean.field-0.0 _ _ refl p.1 p.2 c.in_err-mean.ensures

pub returns-in_err-by : goal.returns-in_err-by
returns-in_err-by c =
    let p = err_from_is_err_and c.from_residual-in_err-by.result c.from_residual-in_err-by.ensures.1 in
    let t = c.args.context.run.version.now in
    let seed = c.args.context.run.seed in
    let s = c.args.context.state.now in
    let q = c.args.context.asker.now in
    let by = evaluated s q (function_of c.args.of.now) in
    let rest : ℤ → Eval ℤ = λ m. by ~> (λ y. in_range (times m y)) in
    let there = seen_decides c.in_err-by.ensures (search rules) in
    decides_then t seed (value_or_zero s q (option_copied c.args.mean)) rest c.in_ok-mean.mean _ _ _ _ c.in_ok-mean.ensures
    (decides_exit t seed by (λ y. in_range (times c.in_ok-mean.mean y)) _ _ _ c.in_err-by.field-0.0 _ _ refl p.1 p.2 there)

pub returns : goal.returns
returns c =
    let t = c.args.context.run.version.now in
    let seed = c.args.context.run.seed in
    let s = c.args.context.state.now in
    let q = c.args.context.asker.now in
    let by = evaluated s q (function_of c.args.of.now) in
    let rest : ℤ → Eval ℤ = λ m. by ~> (λ y. in_range (times m y)) in
    let there = seen_decides c.in_ok-by.ensures (search rules) in
    decides_then t seed (value_or_zero s q (option_copied c.args.mean)) rest c.in_ok-mean.mean _ _ _ _ c.in_ok-mean.ensures
    (decides_then t seed by (λ y. in_range (times c.in_ok-mean.mean y)) c.in_ok-by.by _ _ _ _ there
    (decides_comes t seed (in_range (times c.in_ok-mean.mean c.in_ok-by.by)) c.multiplied.result _ c.multiplied.ensures))
