use Rattle.std.proofs.Common.{◌≡◌, ℤ, Ok, option_copied, refl, rules}
use Rattle.gw_names.specs.declared.key.Key.TheVariants as keys
use Rattle.gw_meaning.specs.declared.entity_change.Update.TheVariants as updates
use Rattle.gw_meaning.specs.declared.moves.Change.TheVariants as changes
use Rattle.gw_meaning.specs.declared.moves.Fate.TheVariants as fates
use Rattle.gw_meaning.specs.declared.moves.Move.{Move}
use Rattle.gw_meaning.specs.declared.moves.Move.TheVariants as moves
use Rattle.gw_meaning.specs.Evaluation.{Eval, value_there}
use Rattle.gw_meaning.specs.Step.{tabulate_to}
use Rattle.gw_asking.specs.Deciding.{Comes}
use Rattle.gw_asking.proofs.Binding.{decides_left, decides_then, decides_comes}
use Rattle.gw_verbs.proofs.tabulate.tabulate_with.Goals as goal

pub returns-in_err-value : goal.returns-in_err-value
returns-in_err-value c =
    let t = c.args.context.run.version.now in
    let seed = c.args.context.run.seed in
    let s = c.args.context.state.now in
    let q = c.args.context.asker.now in
    let rest : ℤ → Eval Move = λ v. tabulate_to c.args.id (keys.Defined c.args.name.now) v in
    decides_left t seed (value_there s q (option_copied c.args.argument)) rest _ c.in_err-value.field-0.0 _ _ c.from_residual.ensures.1 c.in_err-value.ensures

pub returns : goal.returns
returns c =
    let t = c.args.context.run.version.now in
    let seed = c.args.context.run.seed in
    let s = c.args.context.state.now in
    let q = c.args.context.asker.now in
    let rest : ℤ → Eval Move = λ v. tabulate_to c.args.id (keys.Defined c.args.name.now) v in
    let value = c.in_ok-value.value in
    let made : c.enter_doing.result ≡ moves.Enter c.args.id (changes.Entity (keys.Defined c.args.name.now, updates.Table value)) fates.Active = search rules in
    let here : Comes (rest value) (Ok c.enter_doing.result) = rw made refl in
    decides_then t seed (value_there s q (option_copied c.args.argument)) rest value (Ok c.enter_doing.result) _ _ _ c.in_ok-value.ensures (decides_comes t seed (rest value) (Ok c.enter_doing.result) _ here)
