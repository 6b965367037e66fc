use Rattle.std.proofs.Common.{◌≡◌, ℤ, Option, option_copied, rules}
use Rattle.gw_names.specs.declared.key.Key.{Key}
use Rattle.gw_meaning.specs.declared.moves.Move.{Move}
use Rattle.gw_meaning.specs.Parameters.{parameter_at}
use Rattle.gw_meaning.specs.Evaluation.{Eval, entity_prog, ◌~>◌}
use Rattle.gw_meaning.specs.Step.{left_of, loop_with}
use Rattle.gw_asking.specs.Deciding.{Comes}
use Rattle.std.proofs.Common.{Ok, Err, subst}
use Rattle.gw_asking.proofs.Binding.{decides_left, decides_then, decides_comes}
use Rattle.gw_verbs.proofs.loops.decide_loop.Goals as goal

pub returns-in_err-key : goal.returns-in_err-key
returns-in_err-key c =
    let t = c.args.context.run.version.now in
    let seed = c.args.context.run.seed in
    let s = c.args.context.state.now in
    let q = c.args.context.asker.now in
    let rest : Key → Eval Move = λ key.
    left_of (parameter_at s.parameters q.number key) ~> (λ left. loop_with c.args.id key left (option_copied c.args.label)) in
    decides_left t seed (entity_prog s q (option_copied c.args.parameter)) rest _ c.in_err-key.field-0.0 _ _ c.from_residual.ensures.1 c.in_err-key.ensures

pub returns-in_err-left : goal.returns-in_err-left
returns-in_err-left c =
    let t = c.args.context.run.version.now in
    let seed = c.args.context.run.seed in
    let s = c.args.context.state.now in
    let q = c.args.context.asker.now in
    let rest : Key → Eval Move = λ key.
    left_of (parameter_at s.parameters q.number key) ~> (λ left. loop_with c.args.id key left (option_copied c.args.label)) in
    let key = c.in_ok-key.key in
    let last : ℤ → Eval Move = λ left. loop_with c.args.id key left (option_copied c.args.label) in
    let held : c.get.result ≡ parameter_at s.parameters q.number key = search rules in
    let why = c.in_err-left.field-0.0 in
    let none : Comes (left_of (parameter_at s.parameters q.number key)) (Err why) =
    subst (λ (o : Option ℤ). Comes (left_of o) (Err why)) held c.in_err-left.ensures in
    decides_then t seed (entity_prog s q (option_copied c.args.parameter)) rest key _ _ _ _ c.in_ok-key.ensures
    (decides_left t seed (left_of (parameter_at s.parameters q.number key)) last _ why _ _ c.from_residual-in_err-left.ensures.1
    (decides_comes t seed (left_of (parameter_at s.parameters q.number key)) (Err why) _ none))

pub returns : goal.returns
returns c =
    let t = c.args.context.run.version.now in
    let seed = c.args.context.run.seed in
    let s = c.args.context.state.now in
    let q = c.args.context.asker.now in
    let rest : Key → Eval Move = λ key.
    left_of (parameter_at s.parameters q.number key) ~> (λ left. loop_with c.args.id key left (option_copied c.args.label)) in
    let key = c.in_ok-key.key in
    let last : ℤ → Eval Move = λ left. loop_with c.args.id key left (option_copied c.args.label) in
    let held : c.get.result ≡ parameter_at s.parameters q.number key = search rules in
    let left = c.in_ok-left.left in
    let one : Comes (left_of (parameter_at s.parameters q.number key)) (Ok left) =
    subst (λ (o : Option ℤ). Comes (left_of o) (Ok left)) held c.in_ok-left.ensures in
    decides_then t seed (entity_prog s q (option_copied c.args.parameter)) rest key _ _ _ _ c.in_ok-key.ensures
    (decides_then t seed (left_of (parameter_at s.parameters q.number key)) last left _ _ _ _
    (decides_comes t seed (left_of (parameter_at s.parameters q.number key)) (Ok left) _ one) c.loop_with.ensures)
