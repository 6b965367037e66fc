use Rattle.std.proofs.Common.{◌≡◌, ℤ, [], Some, Ok, true, false, option_copied, refl, rules}
use Rattle.gw_meaning.specs.declared.moves.Move.{Move}
use Rattle.gw_meaning.specs.Evaluation.{Eval, value_there, ◌~>◌}
use Rattle.gw_meaning.specs.Step.{holds, test_values}
use Rattle.gw_asking.proofs.Binding.{decides_left, decides_then, decides_comes}
use Rattle.gw_asking.specs.Deciding.{Comes}
use Rattle.gw_verbs.proofs.test.test_or_lead.Goals as goal

pub returns-in_err-first : goal.returns-in_err-first
returns-in_err-first c =
    let t = c.args.context.run.version.now in
    let seed = c.args.context.run.seed in
    let s = c.args.context.state.now in
    let q = c.args.context.asker.now in
    let last : ℤ → ℤ → Eval Move = λ a b. test_values c.args.id c.args.relation (Some c.args.label.now) [] a b in
    let second = value_there s q (option_copied c.args.second) in
    let rest : ℤ → Eval Move = λ a. second ~> last a in
    let first = value_there s q (option_copied c.args.first) in
    decides_left t seed first rest _ c.in_err-first.field-0.0 _ _ c.from_residual.ensures.1 c.in_err-first.ensures

pub returns-in_err-second : goal.returns-in_err-second
returns-in_err-second c =
    let t = c.args.context.run.version.now in
    let seed = c.args.context.run.seed in
    let s = c.args.context.state.now in
    let q = c.args.context.asker.now in
    let last : ℤ → ℤ → Eval Move = λ a b. test_values c.args.id c.args.relation (Some c.args.label.now) [] a b in
    let second = value_there s q (option_copied c.args.second) in
    let rest : ℤ → Eval Move = λ a. second ~> last a in
    let first = value_there s q (option_copied c.args.first) in
    let a = c.in_ok-first.first in
    decides_then t seed first rest a _ _ _ _ c.in_ok-first.ensures
    (decides_left t seed second (last a) _ c.in_err-second.field-0.0 _ _ c.from_residual-in_err-second.ensures.1 c.in_err-second.ensures)

pub returns-then-holds : goal.returns-then-holds
returns-then-holds c =
    let t = c.args.context.run.version.now in
    let seed = c.args.context.run.seed in
    let s = c.args.context.state.now in
    let q = c.args.context.asker.now in
    let last : ℤ → ℤ → Eval Move = λ a b. test_values c.args.id c.args.relation (Some c.args.label.now) [] a b in
    let second = value_there s q (option_copied c.args.second) in
    let rest : ℤ → Eval Move = λ a. second ~> last a in
    let first = value_there s q (option_copied c.args.first) in
    let a = c.in_ok-first.first in
    let b = c.in_ok-second.second in
    let passes : holds c.args.relation a b ≡ true = search rules in
    let m = Ok c.pass.result in
    let here : Comes (last a b) m = rw (passes, c.pass.ensures) refl in
    decides_then t seed first rest a m _ _ _ c.in_ok-first.ensures
    (decides_then t seed second (last a) b m _ _ _ c.in_ok-second.ensures (decides_comes t seed (last a b) m _ here))

pub returns : goal.returns
returns c =
    let t = c.args.context.run.version.now in
    let seed = c.args.context.run.seed in
    let s = c.args.context.state.now in
    let q = c.args.context.asker.now in
    let last : ℤ → ℤ → Eval Move = λ a b. test_values c.args.id c.args.relation (Some c.args.label.now) [] a b in
    let second = value_there s q (option_copied c.args.second) in
    let rest : ℤ → Eval Move = λ a. second ~> last a in
    let first = value_there s q (option_copied c.args.first) in
    let a = c.in_ok-first.first in
    let b = c.in_ok-second.second in
    let fails : holds c.args.relation a b ≡ false = search rules in
    decides_then t seed first rest a _ _ _ _ c.in_ok-first.ensures
    (decides_then t seed second (last a) b _ _ _ _ c.in_ok-second.ensures (rw fails c.lead_to.ensures))
