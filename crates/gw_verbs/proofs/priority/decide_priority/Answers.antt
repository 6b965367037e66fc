use Rattle.std.proofs.Common.{ℤ, option_copied}
use Rattle.gw_meaning.specs.declared.moves.Move.{Move}
use Rattle.std.proofs.Common.{Ok, refl}
use Rattle.gw_meaning.specs.declared.moves.Change.TheVariants as changes
use Rattle.gw_meaning.specs.declared.moves.Fate.TheVariants as fates
use Rattle.gw_meaning.specs.declared.moves.Move.TheVariants as moves
use Rattle.gw_meaning.specs.declared.transaction_change.TransactionChange.TheVariants as own
use Rattle.gw_meaning.specs.Evaluation.{Eval, gives, value_there}
use Rattle.gw_asking.specs.Deciding.{Comes}
use Rattle.gw_asking.proofs.Binding.{decides_left, decides_then, decides_comes}
use Rattle.gw_verbs.proofs.priority.decide_priority.Goals as goal

pub returns-in_err-to : goal.returns-in_err-to
returns-in_err-to c =
    let t = c.args.context.run.version.now in
    let seed = c.args.context.run.seed in
    let s = c.args.context.state.now in
    let q = c.args.context.asker.now in
    let rest : ℤ → Eval Move = λ p. gives (moves.Enter c.args.id (changes.Transaction (own.Priority p)) fates.Active) in
    decides_left t seed (value_there s q (option_copied c.args.priority)) rest _ c.in_err-to.field-0.0 _ _ c.from_residual.ensures.1 c.in_err-to.ensures

pub returns : goal.returns
returns c =
    let t = c.args.context.run.version.now in
    let seed = c.args.context.run.seed in
    let s = c.args.context.state.now in
    let q = c.args.context.asker.now in
    let rest : ℤ → Eval Move = λ p. gives (moves.Enter c.args.id (changes.Transaction (own.Priority p)) fates.Active) in
    let key = c.in_ok-to.to in
    let here : Comes (rest key) (Ok c.enter_with.result) = rw c.enter_with.ensures refl in
    decides_then t seed (value_there s q (option_copied c.args.priority)) rest key (Ok c.enter_with.result) _ _ _ c.in_ok-to.ensures (decides_comes t seed (rest key) (Ok c.enter_with.result) _ here)
