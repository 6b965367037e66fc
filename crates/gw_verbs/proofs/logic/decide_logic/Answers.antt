use Rattle.std.proofs.Common.{◌≡◌, option_copied, rules}
use Rattle.gw_names.specs.declared.key.Key.{Key}
use Rattle.gw_meaning.specs.declared.moves.Move.{Move}
use Rattle.std.proofs.Common.{Ok, refl}
use Rattle.gw_meaning.specs.declared.auxiliary.Auxiliary.TheVariants as auxiliaries
use Rattle.gw_meaning.specs.Entities.{switch_at}
use Rattle.gw_meaning.specs.Evaluation.{Eval, entity_prog}
use Rattle.gw_meaning.specs.Step.{logic_to, switched}
use Rattle.gw_asking.specs.Deciding.{Comes}
use Rattle.gw_asking.proofs.Binding.{decides_left, decides_then, decides_comes}
use Rattle.gw_verbs.proofs.logic.decide_logic.Goals as goal

pub returns-in_err-key : goal.returns-in_err-key
returns-in_err-key c =
    let t = c.args.context.run.version.now in
    let seed = c.args.context.run.seed in
    let s = c.args.context.state.now in
    let q = c.args.context.asker.now in
    let rest : Key → Eval Move = λ key. logic_to c.args.id key (switched c.in-Logic.switching (switch_at s.entities key)) in
    let is : c.args.operator ≡ auxiliaries.Logic c.in-Logic.switching = search rules in
    rw is
    (decides_left t seed (entity_prog s q (option_copied c.args.entity)) rest _ c.in_err-key.field-0.0 _ _ c.from_residual.ensures.1 c.in_err-key.ensures)

pub returns : goal.returns
returns c =
    let t = c.args.context.run.version.now in
    let seed = c.args.context.run.seed in
    let s = c.args.context.state.now in
    let q = c.args.context.asker.now in
    let rest : Key → Eval Move = λ key. logic_to c.args.id key (switched c.in-Logic.switching (switch_at s.entities key)) in
    let key = c.in_ok-key.key in
    let set : c.switched-set.result ≡ switched c.in-Logic.switching (switch_at s.entities key) = search rules in
    let here : Comes (rest key) (Ok c.enter_doing.result) = rw (c.enter_doing.ensures, set) refl in
    let is : c.args.operator ≡ auxiliaries.Logic c.in-Logic.switching = search rules in
    rw is
    (decides_then t seed (entity_prog s q (option_copied c.args.entity)) rest key (Ok c.enter_doing.result) _ _ _ c.in_ok-key.ensures (decides_comes t seed (rest key) (Ok c.enter_doing.result) _ here))
