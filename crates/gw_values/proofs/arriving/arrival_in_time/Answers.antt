use Rattle.std.proofs.Common.{Option, option_copied, ℤ, refl}
use Rattle.std.proofs.lemmas.Result.{err_from_is_err_and}
use Rattle.gw_meaning.specs.declared.moves.Arrival.{Arrival}
use Rattle.gw_meaning.specs.Evaluation.{Eval, value_or_zero, time_prog, ◌~>◌}
use Rattle.gw_meaning.specs.Step.{arrival_at}
use Rattle.gw_asking.proofs.Binding.{decides_exit, decides_then, decides_comes}
use Rattle.gw_values.proofs.arriving.arrival_in_time.Goals as goal

pub returns-in_err-time : goal.returns-in_err-time
returns-in_err-time c =
    let p = err_from_is_err_and c.from_residual.result c.from_residual.ensures.1 in
    decides_exit c.args.context.run.version.now c.args.context.run.seed
    (time_prog c.args.context.state.now c.args.context.asker.now (option_copied c.args.mean) (option_copied c.args.range)) _ _ _ _ c.in_err-time.field-0.0 _ _ refl p.1 p.2
    c.in_err-time.ensures

pub returns-in_err-priority : goal.returns-in_err-priority
returns-in_err-priority c =
    let p = err_from_is_err_and c.from_residual-in_err-priority.result c.from_residual-in_err-priority.ensures.1 in
    let t = c.args.context.run.version.now in
    let seed = c.args.context.run.seed in
    let s = c.args.context.state.now in
    let priority = value_or_zero s c.args.context.asker.now (option_copied c.args.priority) in
    let rest : ℤ → Eval (Option Arrival) = λ t. priority ~> (λ p. arrival_at s c.args.id t p) in
    decides_then t seed (time_prog s c.args.context.asker.now (option_copied c.args.mean) (option_copied c.args.range)) rest c.in_ok-time.time _ _ _ _
    c.in_ok-time.ensures
    (decides_exit t seed priority _ _ _ _ c.in_err-priority.field-0.0 _ _ refl p.1 p.2 c.in_err-priority.ensures)

pub returns : goal.returns
returns c =
    let t = c.args.context.run.version.now in
    let seed = c.args.context.run.seed in
    let s = c.args.context.state.now in
    let priority = value_or_zero s c.args.context.asker.now (option_copied c.args.priority) in
    let rest : ℤ → Eval (Option Arrival) = λ t. priority ~> (λ p. arrival_at s c.args.id t p) in
    decides_then t seed (time_prog s c.args.context.asker.now (option_copied c.args.mean) (option_copied c.args.range)) rest c.in_ok-time.time _ _ _ _
    c.in_ok-time.ensures
    (decides_then t seed priority (λ p. arrival_at s c.args.id c.in_ok-time.time p) c.in_ok-priority.priority _ _ _ _ c.in_ok-priority.ensures
    (decides_comes t seed (arrival_at s c.args.id c.in_ok-time.time c.in_ok-priority.priority) c.arrival_at.result _ c.arrival_at.ensures))
