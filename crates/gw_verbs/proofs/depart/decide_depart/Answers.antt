use Rattle.std.proofs.Common.{◌≡◌, ℕ, option_copied, rules}
use Rattle.gw_names.specs.declared.key.Key.{Key}
use Rattle.gw_meaning.specs.declared.moves.Move.{Move}
use Rattle.gw_meaning.specs.QueueArrivals.{came}
use Rattle.gw_meaning.specs.Entities.{line_at}
use Rattle.gw_meaning.specs.Evaluation.{Eval, entity_prog, units_prog, ◌~>◌}
use Rattle.gw_meaning.specs.Step.{depart_units}
use Rattle.gw_asking.specs.Deciding.{Comes}
use Rattle.gw_asking.proofs.Binding.{decides_left, decides_then, decides_comes}
use Rattle.gw_verbs.proofs.depart.decide_depart.Goals as goal

pub returns-in_err-key : goal.returns-in_err-key
returns-in_err-key c =
    let t = c.args.context.run.version.now in
    let seed = c.args.context.run.seed in
    let s = c.args.context.state.now in
    let q = c.args.context.asker.now in
    let rest : Key → Eval Move = λ key.
    units_prog s q (option_copied c.args.units) ~> (λ n. depart_units c.args.id key (line_at s.entities key) (came s.entities.queue_arrivals key c.args.x.now.number) n) in
    decides_left t seed (entity_prog s q (option_copied c.args.entity)) rest _ c.in_err-key.field-0.0 _ _ c.from_residual.ensures.1 c.in_err-key.ensures

pub returns-in_err-units : goal.returns-in_err-units
returns-in_err-units c =
    let t = c.args.context.run.version.now in
    let seed = c.args.context.run.seed in
    let s = c.args.context.state.now in
    let q = c.args.context.asker.now in
    let rest : Key → Eval Move = λ key.
    units_prog s q (option_copied c.args.units) ~> (λ n. depart_units c.args.id key (line_at s.entities key) (came s.entities.queue_arrivals key c.args.x.now.number) n) in
    let key = c.in_ok-key.key in
    let last : ℕ → Eval Move = λ n. depart_units c.args.id key (line_at s.entities key) (came s.entities.queue_arrivals key c.args.x.now.number) n in
    decides_then t seed (entity_prog s q (option_copied c.args.entity)) rest key _ _ _ _ c.in_ok-key.ensures
    (decides_left t seed (units_prog s q (option_copied c.args.units)) last _ c.in_err-units.field-0.0 _ _
    c.from_residual-in_err-units.ensures.1 c.in_err-units.ensures)

pub returns : goal.returns
returns c =
    let t = c.args.context.run.version.now in
    let seed = c.args.context.run.seed in
    let s = c.args.context.state.now in
    let q = c.args.context.asker.now in
    let rest : Key → Eval Move = λ key.
    units_prog s q (option_copied c.args.units) ~> (λ n. depart_units c.args.id key (line_at s.entities key) (came s.entities.queue_arrivals key c.args.x.now.number) n) in
    let key = c.in_ok-key.key in
    let last : ℕ → Eval Move = λ n. depart_units c.args.id key (line_at s.entities key) (came s.entities.queue_arrivals key c.args.x.now.number) n in
    let n = c.in_ok-units.units in
    let line : c.queue-line.result ≡ line_at s.entities key = search rules in
    let at_once : c.has_come-at_once.result ≡ came s.entities.queue_arrivals key c.args.x.now.number = search rules in
    let here : Comes (last n) c.depart_units.result = rw (line, at_once, c.from.ensures) at c.depart_units.ensures in
    decides_then t seed (entity_prog s q (option_copied c.args.entity)) rest key _ _ _ _ c.in_ok-key.ensures
    (decides_then t seed (units_prog s q (option_copied c.args.units)) last n _ _ _ _ c.in_ok-units.ensures (decides_comes t seed (last n) _ _ here))
