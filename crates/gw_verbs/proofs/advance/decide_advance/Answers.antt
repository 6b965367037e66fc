use Rattle.std.proofs.Common.{◌≡◌, ℤ, option_copied, rules}
use Rattle.gw_meaning.specs.declared.moves.Move.{Move}
use Rattle.std.proofs.Common.{◌≡◌, Ok, Err, true, refl, rules}
use Rattle.gw_nums.specs.Range.{is_negative, magnitude}
use Rattle.gw_expr.specs.declared.stop.Stop.TheVariants.{NegativeTime}
use Rattle.gw_expr.specs.declared.halt.End.TheVariants as ends
use Rattle.gw_meaning.specs.declared.moves.Change.TheVariants as changes
use Rattle.gw_meaning.specs.declared.moves.Move.TheVariants as moves
use Rattle.gw_meaning.specs.Evaluation.{Eval, gives, ends_with, stops_if, time_prog}
use Rattle.gw_meaning.specs.Step.{delay_of}
use Rattle.gw_expr.specs.declared.halt.Halt.TheVariants as halts
use Rattle.gw_asking.specs.Deciding.{Comes}
use Rattle.gw_asking.proofs.Binding.{decides_left, decides_then, decides_comes}
use Rattle.gw_verbs.proofs.advance.decide_advance.Goals as goal

pub returns-in_err-time : goal.returns-in_err-time
returns-in_err-time c =
    let t = c.args.context.run.version.now in
    let seed = c.args.context.run.seed in
    let s = c.args.context.state.now in
    let q = c.args.context.asker.now in
    let rest : ℤ → Eval Move = λ v. stops_if (is_negative v) NegativeTime (gives (moves.Enter c.args.id changes.Nothing (delay_of s (magnitude v)))) in
    decides_left t seed (time_prog s q (option_copied c.args.mean) (option_copied c.args.range)) rest _ c.in_err-time.field-0.0 _ _ c.from_residual.ensures.1 c.in_err-time.ensures

pub returns : goal.returns
returns c =
    let t = c.args.context.run.version.now in
    let seed = c.args.context.run.seed in
    let s = c.args.context.state.now in
    let q = c.args.context.asker.now in
    let rest : ℤ → Eval Move = λ v. stops_if (is_negative v) NegativeTime (gives (moves.Enter c.args.id changes.Nothing (delay_of s (magnitude v)))) in
    let key = c.in_ok-time.time in
    let here : Comes (rest key) (Ok c.enter_for.result) = search rules in
    decides_then t seed (time_prog s q (option_copied c.args.mean) (option_copied c.args.range)) rest key (Ok c.enter_for.result) _ _ _ c.in_ok-time.ensures (decides_comes t seed (rest key) (Ok c.enter_for.result) _ here)

pub returns-then-is_negative : goal.returns-then-is_negative
returns-then-is_negative c =
    let t = c.args.context.run.version.now in
    let seed = c.args.context.run.seed in
    let s = c.args.context.state.now in
    let q = c.args.context.asker.now in
    let rest : ℤ → Eval Move = λ v. stops_if (is_negative v) NegativeTime (gives (moves.Enter c.args.id changes.Nothing (delay_of s (magnitude v)))) in
    let key = c.in_ok-time.time in
    let below : is_negative key ≡ true = search rules in
    let here : rest key ≡ ends_with (ends.Error NegativeTime) = rw below refl in
    rw c.stop.ensures
    (decides_then t seed (time_prog s q (option_copied c.args.mean) (option_copied c.args.range)) rest key
    (Err (halts.End (ends.Error NegativeTime))) _ _ _ c.in_ok-time.ensures (decides_comes t seed (rest key) (Err (halts.End (ends.Error NegativeTime))) _ here))
