use Rattle.std.proofs.Common.{◌≡◌, ℕ, Ok, Some, min, option_copied, refl, rules}
use Rattle.gw_meaning.specs.Evaluation.{Eval, gives, units_prog}
use Rattle.gw_asking.specs.Deciding.{Comes}
use Rattle.gw_asking.proofs.Binding.{decides_left, decides_then, decides_comes}
use Rattle.gw_verbs.proofs.link.leaving.Goals as goal

pub returns-in_err-units : goal.returns-in_err-units
returns-in_err-units c =
    let t = c.args.context.run.version.now in
    let seed = c.args.context.run.seed in
    let units = units_prog c.args.context.state.now c.args.context.asker.now (Some c.in-Some.expr.now) in
    let rest : ℕ → Eval ℕ = λ n. gives (min n c.args.there) in
    let count : option_copied c.args.count ≡ Some c.in-Some.expr.now = search rules in
    rw count (decides_left t seed units rest _ c.in_err-units.field-0.0 _ _ c.from_residual.ensures.1 c.in_err-units.ensures)

pub returns : goal.returns
returns c =
    let t = c.args.context.run.version.now in
    let seed = c.args.context.run.seed in
    let units = units_prog c.args.context.state.now c.args.context.asker.now (Some c.in-Some.expr.now) in
    let rest : ℕ → Eval ℕ = λ n. gives (min n c.args.there) in
    let count : option_copied c.args.count ≡ Some c.in-Some.expr.now = search rules in
    let n = c.in_ok-units.units in
    let least : c.min.result ≡ min n c.args.there = search rules in
    let here : Comes (rest n) (Ok c.min.result) = rw least refl in
    rw count
    (decides_then t seed units rest n (Ok c.min.result) _ _ _ c.in_ok-units.ensures (decides_comes t seed (rest n) (Ok c.min.result) _ here))
