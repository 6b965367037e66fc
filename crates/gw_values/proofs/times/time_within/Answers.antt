use Rattle.std.proofs.Common.{◌≡◌, ℤ, option_copied, refl}
use Rattle.std.proofs.lemmas.Result.{err_from_is_err_and}
use Rattle.gw_meaning.specs.Evaluation.{Eval, value_or_zero, sample, ◌~>◌}
use Rattle.gw_asking.proofs.Binding.{decides_exit, decides_then}
use Rattle.std.proofs.Common.{option_copied, ℤ, refl}
use Rattle.gw_values.proofs.times.time_within.Goals as goal

pub returns-in_err-range : goal.returns-in_err-range
returns-in_err-range c =
    let p = err_from_is_err_and c.from_residual-in_err-range.result c.from_residual-in_err-range.ensures.1 in
    let t = c.args.context.run.version.now in
    let seed = c.args.context.run.seed in
    let s = c.args.context.state.now in
    let range = value_or_zero s c.args.context.asker.now (option_copied c.args.range) in
    let rest : ℤ → Eval ℤ = λ m. range ~> (λ r. sample m r) in
    decides_then t seed (value_or_zero s c.args.context.asker.now (option_copied c.args.mean)) rest c.in_ok-mean.mean _ _ _ _ c.in_ok-mean.ensures
    (decides_exit t seed range (λ r. sample c.in_ok-mean.mean r) _ _ _ c.in_err-range.field-0.0 _ _ refl p.1 p.2 c.in_err-range.ensures)

pub returns : goal.returns
returns c =
    let t = c.args.context.run.version.now in
    let seed = c.args.context.run.seed in
    let s = c.args.context.state.now in
    let range = value_or_zero s c.args.context.asker.now (option_copied c.args.range) in
    let rest : ℤ → Eval ℤ = λ m. range ~> (λ r. sample m r) in
    decides_then t seed (value_or_zero s c.args.context.asker.now (option_copied c.args.mean)) rest c.in_ok-mean.mean _ _ _ _ c.in_ok-mean.ensures
    (decides_then t seed range (λ r. sample c.in_ok-mean.mean r) c.in_ok-range.range _ _ _ _ c.in_ok-range.ensures c.sample.ensures)

pub returns-in_err-mean : goal.returns-in_err-mean
returns-in_err-mean c =
    let p = err_from_is_err_and c.from_residual.result c.from_residual.ensures.1 in
    let t = c.args.context.run.version.now in
    let seed = c.args.context.run.seed in
    let s = c.args.context.state.now in
    let first = value_or_zero s c.args.context.asker.now (option_copied c.args.mean) in
    let rest : ℤ → Eval ℤ = λ m. value_or_zero s c.args.context.asker.now (option_copied c.args.range) ~> (λ r. sample m r) in
    let whole : (first ~> rest) ≡ (first ~> rest) = refl in
    decides_exit t seed first rest _ _ _ c.in_err-mean.field-0.0 _ _ whole p.1 p.2 c.in_err-mean.ensures
