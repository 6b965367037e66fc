use Rattle.std.proofs.Common.{◌≡◌, ℤ, option_copied, rules}
use Rattle.gw_meaning.specs.declared.moves.Move.{Move}
use Rattle.std.proofs.Common.{◌≡◌, Ok, Err, true, refl, rules}
use Rattle.gw_nums.specs.Range.{is_negative, magnitude}
use Rattle.gw_expr.specs.declared.stop.Stop.TheVariants.{BadCount}
use Rattle.gw_expr.specs.declared.halt.End.TheVariants as ends
use Rattle.gw_meaning.specs.declared.moves.Change.TheVariants as changes
use Rattle.gw_meaning.specs.declared.moves.Fate.TheVariants as fates
use Rattle.gw_meaning.specs.declared.moves.Move.TheVariants as moves
use Rattle.gw_meaning.specs.Evaluation.{Eval, gives, ends_with, stops_if, value_or_zero}
use Rattle.gw_expr.specs.declared.halt.Halt.TheVariants as halts
use Rattle.gw_asking.specs.Deciding.{Comes}
use Rattle.gw_asking.proofs.Binding.{decides_left, decides_then, decides_comes}
use Rattle.gw_verbs.proofs.terminate.decide_terminate.Goals as goal

pub returns-in_err-count : goal.returns-in_err-count
returns-in_err-count c =
    let t = c.args.context.run.version.now in
    let seed = c.args.context.run.seed in
    let s = c.args.context.state.now in
    let q = c.args.context.asker.now in
    let rest : ℤ → Eval Move = λ v. stops_if (is_negative v) BadCount (gives (moves.Enter c.args.id changes.Nothing (fates.Destroyed (magnitude v)))) in
    decides_left t seed (value_or_zero s q (option_copied c.args.count)) rest _ c.in_err-count.field-0.0 _ _ c.from_residual.ensures.1 c.in_err-count.ensures

pub returns : goal.returns
returns c =
    let t = c.args.context.run.version.now in
    let seed = c.args.context.run.seed in
    let s = c.args.context.state.now in
    let q = c.args.context.asker.now in
    let rest : ℤ → Eval Move = λ v. stops_if (is_negative v) BadCount (gives (moves.Enter c.args.id changes.Nothing (fates.Destroyed (magnitude v)))) in
    let key = c.in_ok-count.count in
    let here : Comes (rest key) (Ok c.enter_for.result) = search rules in
    decides_then t seed (value_or_zero s q (option_copied c.args.count)) rest key (Ok c.enter_for.result) _ _ _ c.in_ok-count.ensures (decides_comes t seed (rest key) (Ok c.enter_for.result) _ here)

pub returns-then-is_negative : goal.returns-then-is_negative
returns-then-is_negative c =
    let t = c.args.context.run.version.now in
    let seed = c.args.context.run.seed in
    let s = c.args.context.state.now in
    let q = c.args.context.asker.now in
    let rest : ℤ → Eval Move = λ v. stops_if (is_negative v) BadCount (gives (moves.Enter c.args.id changes.Nothing (fates.Destroyed (magnitude v)))) in
    let key = c.in_ok-count.count in
    let below : is_negative key ≡ true = search rules in
    let here : rest key ≡ ends_with (ends.Error BadCount) = rw below refl in
    rw c.stop.ensures
    (decides_then t seed (value_or_zero s q (option_copied c.args.count)) rest key
    (Err (halts.End (ends.Error BadCount))) _ _ _ c.in_ok-count.ensures (decides_comes t seed (rest key) (Err (halts.End (ends.Error BadCount))) _ here))
