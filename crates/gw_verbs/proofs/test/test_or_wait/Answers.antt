use Rattle.std.proofs.Common.{◌≡◌, ℤ, List, [], None, Ok, Err, option_copied, subst, rules}
use Rattle.gw_meaning.specs.declared.moves.Move.{Move}
use Rattle.gw_meaning.specs.declared.watched.Watched.{Watched}
use Rattle.gw_meaning.specs.Evaluation.{Eval, value_traced, ◌~>◌}
use Rattle.gw_meaning.specs.Step.{test_values}
use Rattle.gw_asking.specs.Deciding.{Decides, Comes}
use Rattle.gw_asking.proofs.Binding.{decides_left, decides_then, decides_comes}
use Rattle.gw_verbs.proofs.test.test_or_wait.Goals as goal

pub returns-in_err-first : goal.returns-in_err-first
returns-in_err-first c =
    let t = c.args.context.run.version.now in
    let seed = c.args.context.run.seed in
    let s = c.args.context.state.now in
    let q = c.args.context.asker.now in
    let last : ℤ × List Watched → ℤ × List Watched → Eval Move = λ a b. test_values c.args.id c.args.relation None b.1 a.0 b.0 in
    let rest : ℤ × List Watched → Eval Move = λ a. value_traced s q a.1 (option_copied c.args.second) ~> last a in
    let none : c.new-read.result.items ≡ [] = search rules in
    decides_left t seed (value_traced s q [] (option_copied c.args.first)) rest _ c.in_err-first.field-0.0 _ _ c.from_residual.ensures.1
    (subst (λ (list : List Watched). Decides t seed (value_traced s q list (option_copied c.args.first)) (Err c.in_err-first.field-0.0) c.args.notes.now c.value_traced.new.notes) none c.in_err-first.ensures)

pub returns-in_err-second : goal.returns-in_err-second
returns-in_err-second c =
    let t = c.args.context.run.version.now in
    let seed = c.args.context.run.seed in
    let s = c.args.context.state.now in
    let q = c.args.context.asker.now in
    let last : ℤ × List Watched → ℤ × List Watched → Eval Move = λ a b. test_values c.args.id c.args.relation None b.1 a.0 b.0 in
    let rest : ℤ × List Watched → Eval Move = λ a. value_traced s q a.1 (option_copied c.args.second) ~> last a in
    let none : c.new-read.result.items ≡ [] = search rules in
    let a : ℤ × List Watched = (c.in_ok-first.first, c.value_traced.new.read.items) in
    decides_then t seed (value_traced s q [] (option_copied c.args.first)) rest a _ _ _ _ (subst (λ (list : List Watched). Decides t seed (value_traced s q list (option_copied c.args.first)) (Ok a) c.args.notes.now c.value_traced.new.notes) none c.in_ok-first.ensures)
    (decides_left t seed (value_traced s q a.1 (option_copied c.args.second)) (last a) _ c.in_err-second.field-0.0 _ _
    c.from_residual-in_err-second.ensures.1 c.in_err-second.ensures)

pub returns : goal.returns
returns c =
    let t = c.args.context.run.version.now in
    let seed = c.args.context.run.seed in
    let s = c.args.context.state.now in
    let q = c.args.context.asker.now in
    let last : ℤ × List Watched → ℤ × List Watched → Eval Move = λ a b. test_values c.args.id c.args.relation None b.1 a.0 b.0 in
    let rest : ℤ × List Watched → Eval Move = λ a. value_traced s q a.1 (option_copied c.args.second) ~> last a in
    let none : c.new-read.result.items ≡ [] = search rules in
    let a : ℤ × List Watched = (c.in_ok-first.first, c.value_traced.new.read.items) in
    let b : ℤ × List Watched = (c.in_ok-second.second, c.value_traced-2.new.read.items) in
    let m = Ok c.pass_or_watch.result in
    let here : Comes (last a b) m = rw c.holds.ensures at c.pass_or_watch.ensures in
    decides_then t seed (value_traced s q [] (option_copied c.args.first)) rest a m _ _ _ (subst (λ (list : List Watched). Decides t seed (value_traced s q list (option_copied c.args.first)) (Ok a) c.args.notes.now c.value_traced.new.notes) none c.in_ok-first.ensures)
    (decides_then t seed (value_traced s q a.1 (option_copied c.args.second)) (last a) b m _ _ _ c.in_ok-second.ensures
    (decides_comes t seed (last a b) m _ here))
