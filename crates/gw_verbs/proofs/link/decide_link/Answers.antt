use Rattle.std.proofs.Common.{◌≡◌, Ok, Some, option_copied, refl, rules}
use Rattle.gw_names.specs.declared.key.Key.{Key}
use Rattle.gw_expr.specs.declared.expr.Expr.TheVariants.{Order}
use Rattle.gw_meaning.specs.declared.moves.Change.TheVariants as changes
use Rattle.gw_meaning.specs.declared.moves.Fate.TheVariants as fates
use Rattle.gw_meaning.specs.declared.moves.Move.{Move}
use Rattle.gw_meaning.specs.declared.moves.Move.TheVariants as moves
use Rattle.gw_meaning.specs.Evaluation.{Eval, entity_prog, gives}
use Rattle.gw_asking.specs.Deciding.{Comes}
use Rattle.gw_asking.proofs.Binding.{decides_left, decides_then, decides_comes}
use Rattle.gw_verbs.proofs.link.decide_link.Goals as goal

pub returns-in_err-key-in-Order : goal.returns-in_err-key-in-Order
returns-in_err-key-in-Order c =
    let t = c.args.context.run.version.now in
    let seed = c.args.context.run.seed in
    let s = c.args.context.state.now in
    let q = c.args.context.asker.now in
    let entity = option_copied c.args.entity in
    let rest : Key → Eval Move = λ key. gives (moves.Enter c.args.id changes.Nothing (fates.Linked key c.in-Order.discipline)) in
    let order : option_copied c.args.order ≡ Some (Order c.in-Order.discipline) = search rules in
    rw order (decides_left t seed (entity_prog s q entity) rest _ c.in_err-key-in-Order.field-0.0 _ _ c.from_residual.ensures.1 c.in_err-key-in-Order.ensures)

pub returns-in_ok-key-in-Order : goal.returns-in_ok-key-in-Order
returns-in_ok-key-in-Order c =
    let t = c.args.context.run.version.now in
    let seed = c.args.context.run.seed in
    let s = c.args.context.state.now in
    let q = c.args.context.asker.now in
    let entity = option_copied c.args.entity in
    let key = c.in_ok-key-in-Order.key in
    let rest : Key → Eval Move = λ key. gives (moves.Enter c.args.id changes.Nothing (fates.Linked key c.in-Order.discipline)) in
    let order : option_copied c.args.order ≡ Some (Order c.in-Order.discipline) = search rules in
    let made : c.link_to.result ≡ moves.Enter c.args.id changes.Nothing (fates.Linked key c.in-Order.discipline) = search rules in
    let here : Comes (rest key) (Ok c.link_to.result) = rw made refl in
    rw order
    (decides_then t seed (entity_prog s q entity) rest key (Ok c.link_to.result) _ _ _ c.in_ok-key-in-Order.ensures
    (decides_comes t seed (rest key) (Ok c.link_to.result) _ here))
