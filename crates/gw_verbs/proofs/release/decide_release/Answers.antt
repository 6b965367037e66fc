use Rattle.std.proofs.Common.{◌≡◌, option_copied, rules}
use Rattle.gw_names.specs.declared.key.Key.{Key}
use Rattle.gw_meaning.specs.declared.moves.Move.{Move}
use Rattle.gw_meaning.specs.Machine.{delay_at}
use Rattle.gw_meaning.specs.Entities.{facility_at}
use Rattle.gw_meaning.specs.Evaluation.{Eval, entity_prog}
use Rattle.gw_meaning.specs.Step.{release_to, is_owner, first_number}
use Rattle.gw_asking.specs.Deciding.{Comes}
use Rattle.gw_asking.proofs.Binding.{decides_left, decides_then, decides_comes}
use Rattle.gw_verbs.proofs.release.decide_release.Goals as goal

pub returns-in_err-key : goal.returns-in_err-key
returns-in_err-key c =
    let t = c.args.context.run.version.now in
    let seed = c.args.context.run.seed in
    let s = c.args.context.state.now in
    let q = c.args.context.asker.now in
    let rest : Key → Eval Move = λ key. release_to c.args.id key (is_owner (facility_at s.entities key).owner c.args.x.now.number) (first_number (delay_at s.delays key)) in
    decides_left t seed (entity_prog s q (option_copied c.args.entity)) rest _ c.in_err-key.field-0.0 _ _ c.from_residual.ensures.1 c.in_err-key.ensures

pub returns : goal.returns
returns c =
    let t = c.args.context.run.version.now in
    let seed = c.args.context.run.seed in
    let s = c.args.context.state.now in
    let q = c.args.context.asker.now in
    let rest : Key → Eval Move = λ key. release_to c.args.id key (is_owner (facility_at s.entities key).owner c.args.x.now.number) (first_number (delay_at s.delays key)) in
    let key = c.in_ok-key.key in
    let owns : c.is_owner-owns.result ≡ is_owner (facility_at s.entities key).owner c.args.x.now.number = search rules in
    let here : Comes (rest key) c.release_to.result = rw (owns, c.first_waiting-next.ensures) at c.release_to.ensures in
    decides_then t seed (entity_prog s q (option_copied c.args.entity)) rest key _ _ _ _ c.in_ok-key.ensures (decides_comes t seed (rest key) _ _ here)
