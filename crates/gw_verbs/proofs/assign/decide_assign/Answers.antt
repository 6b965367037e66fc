use Rattle.std.proofs.Common.{◌≡◌, ℤ, option_copied, rules}
use Rattle.gw_names.specs.declared.key.Key.{Key}
use Rattle.gw_meaning.specs.declared.moves.Move.{Move}
use Rattle.gw_meaning.specs.Parameters.{parameter_at}
use Rattle.gw_meaning.specs.Evaluation.{Eval, entity_prog, value_there, ◌~>◌}
use Rattle.gw_meaning.specs.Step.{assign_with}
use Rattle.gw_asking.specs.Deciding.{Comes}
use Rattle.gw_asking.proofs.Binding.{decides_left, decides_then, decides_comes}
use Rattle.gw_verbs.proofs.assign.decide_assign.Goals as goal

pub returns-in_err-key : goal.returns-in_err-key
returns-in_err-key c =
    let t = c.args.context.run.version.now in
    let seed = c.args.context.run.seed in
    let s = c.args.context.state.now in
    let q = c.args.context.asker.now in
    let rest : Key → Eval Move = λ key.
    value_there s q (option_copied c.args.value) ~> (λ v. assign_with c.args.id c.args.sign key (parameter_at s.parameters q.number key) v) in
    decides_left t seed (entity_prog s q (option_copied c.args.parameter)) rest _ c.in_err-key.field-0.0 _ _ c.from_residual.ensures.1 c.in_err-key.ensures

pub returns-in_err-value : goal.returns-in_err-value
returns-in_err-value c =
    let t = c.args.context.run.version.now in
    let seed = c.args.context.run.seed in
    let s = c.args.context.state.now in
    let q = c.args.context.asker.now in
    let rest : Key → Eval Move = λ key.
    value_there s q (option_copied c.args.value) ~> (λ v. assign_with c.args.id c.args.sign key (parameter_at s.parameters q.number key) v) in
    let key = c.in_ok-key.key in
    let last : ℤ → Eval Move = λ v. assign_with c.args.id c.args.sign key (parameter_at s.parameters q.number key) v in
    decides_then t seed (entity_prog s q (option_copied c.args.parameter)) rest key _ _ _ _ c.in_ok-key.ensures
    (decides_left t seed (value_there s q (option_copied c.args.value)) last _ c.in_err-value.field-0.0 _ _
    c.from_residual-in_err-value.ensures.1 c.in_err-value.ensures)

pub returns : goal.returns
returns c =
    let t = c.args.context.run.version.now in
    let seed = c.args.context.run.seed in
    let s = c.args.context.state.now in
    let q = c.args.context.asker.now in
    let rest : Key → Eval Move = λ key.
    value_there s q (option_copied c.args.value) ~> (λ v. assign_with c.args.id c.args.sign key (parameter_at s.parameters q.number key) v) in
    let key = c.in_ok-key.key in
    let last : ℤ → Eval Move = λ v. assign_with c.args.id c.args.sign key (parameter_at s.parameters q.number key) v in
    let n = c.in_ok-value.value in
    let was : c.get-was.result ≡ parameter_at s.parameters q.number key = search rules in
    let here : Comes (last n) c.assign_with.result = rw (was) at c.assign_with.ensures in
    decides_then t seed (entity_prog s q (option_copied c.args.parameter)) rest key _ _ _ _ c.in_ok-key.ensures
    (decides_then t seed (value_there s q (option_copied c.args.value)) last n _ _ _ _ c.in_ok-value.ensures (decides_comes t seed (last n) _ _ here))
