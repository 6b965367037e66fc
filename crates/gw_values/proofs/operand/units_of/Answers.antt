use Rattle.std.proofs.Common.{◌≡◌, ℕ, ℤ, Ok, Err, option_copied, false, true, refl, rules, pos}
use Rattle.std.proofs.lemmas.Result.{err_from_is_err_and}
use Rattle.gw_nums.specs.Range.{is_below, magnitude}
use Rattle.gw_expr.specs.declared.stop.Stop.TheVariants.{BadCount}
use Rattle.gw_expr.specs.declared.halt.End.TheVariants as ends
use Rattle.gw_meaning.specs.Evaluation.{Eval, gives, ends_with, stops_if, value_prog, units_prog, ◌~>◌}
use Rattle.gw_expr.specs.declared.halt.Halt.TheVariants as halts
use Rattle.gw_asking.proofs.Binding.{decides_exit, decides_whole, decides_comes}
use Rattle.gw_values.proofs.operand.units_of.Goals as goal

pub returns-in_err-units : goal.returns-in_err-units
returns-in_err-units c =
    let p = err_from_is_err_and c.from_residual.result c.from_residual.ensures.1 in
    let t = c.args.context.run.version.now in
    let seed = c.args.context.run.seed in
    let s = c.args.context.state.now in
    let first = value_prog s c.args.context.asker.now c.in-Some.expr.now in
    let rest : ℤ → Eval ℕ = λ n. stops_if (is_below n (pos 1)) BadCount (gives (magnitude n)) in
    let whole : units_prog s c.args.context.asker.now (option_copied c.args.operand) ≡ (first ~> rest) = search rules in
    decides_exit t seed first rest _ _ _ c.in_err-units.field-0.0 _ _ whole p.1 p.2 c.in_err-units.ensures

pub returns-then-get-lt1 : goal.returns-then-get-lt1
returns-then-get-lt1 c =
    let t = c.args.context.run.version.now in
    let seed = c.args.context.run.seed in
    let s = c.args.context.state.now in
    let first = value_prog s c.args.context.asker.now c.in-Some.expr.now in
    let rest : ℤ → Eval ℕ = λ n. stops_if (is_below n (pos 1)) BadCount (gives (magnitude n)) in
    let whole : units_prog s c.args.context.asker.now (option_copied c.args.operand) ≡ (first ~> rest) = search rules in
    let n = c.in_ok-units.units in
    let below : is_below n (pos 1) ≡ true = search rules in
    let here : rest n ≡ ends_with (ends.Error BadCount) = rw below refl in
    rw c.stop.ensures
    (decides_whole t seed first rest _ n (Err (halts.End (ends.Error BadCount))) c.args.notes.now c.value.new.notes c.value.new.notes whole c.in_ok-units.ensures
    (decides_comes t seed (rest n) (Err (halts.End (ends.Error BadCount))) c.value.new.notes here))

pub returns : goal.returns
returns c =
    let t = c.args.context.run.version.now in
    let seed = c.args.context.run.seed in
    let s = c.args.context.state.now in
    let first = value_prog s c.args.context.asker.now c.in-Some.expr.now in
    let rest : ℤ → Eval ℕ = λ n. stops_if (is_below n (pos 1)) BadCount (gives (magnitude n)) in
    let whole : units_prog s c.args.context.asker.now (option_copied c.args.operand) ≡ (first ~> rest) = search rules in
    let n = c.in_ok-units.units in
    let below : is_below n (pos 1) ≡ false = search rules in
    let size : c.magnitude.result ≡ magnitude n = c.magnitude.ensures.value in
    let here : rest n ≡ gives c.magnitude.result = rw (below, size) refl in
    decides_whole t seed first rest _ n (Ok c.magnitude.result) c.args.notes.now c.value.new.notes c.value.new.notes whole c.in_ok-units.ensures
    (decides_comes t seed (rest n) (Ok c.magnitude.result) c.value.new.notes here)
