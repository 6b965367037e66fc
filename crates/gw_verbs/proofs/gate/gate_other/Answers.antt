use Rattle.std.proofs.Common.{[], Some, None}
use Rattle.gw_names.specs.declared.key.Key.{Key}
use Rattle.gw_meaning.specs.declared.moves.Move.{Move}
use Rattle.gw_meaning.specs.declared.watched.Watched.{Watched}
use Rattle.gw_meaning.specs.Evaluation.{Eval, entity_prog, entity_traced}
use Rattle.gw_meaning.specs.Step.{gate_at}
use Rattle.gw_asking.proofs.Binding.{decides_left, decides_then, decides_comes}
use Rattle.std.specs.Prelude.{List}
use Rattle.gw_verbs.proofs.gate.gate_other.Goals as goal

pub returns-in_err-key-in-Some : goal.returns-in_err-key-in-Some
returns-in_err-key-in-Some c =
    let t = c.args.context.run.version.now in
    let seed = c.args.context.run.seed in
    let s = c.args.context.state.now in
    let q = c.args.context.asker.now in
    let rest : Key → Eval Move = λ key. gate_at s c.args.id c.args.condition (Some c.in-Some.label.now) key [] 0 in
    rw c.in-Some.is (decides_left t seed (entity_prog s q (Some c.args.entity.now)) rest _ c.in_err-key-in-Some.field-0.0 _ _
    c.from_residual.ensures.1 c.in_err-key-in-Some.ensures)

pub returns-in_ok-key-in-Some : goal.returns-in_ok-key-in-Some
returns-in_ok-key-in-Some c =
    let t = c.args.context.run.version.now in
    let seed = c.args.context.run.seed in
    let s = c.args.context.state.now in
    let q = c.args.context.asker.now in
    let rest : Key → Eval Move = λ key. gate_at s c.args.id c.args.condition (Some c.in-Some.label.now) key [] 0 in
    rw c.in-Some.is (decides_then t seed (entity_prog s q (Some c.args.entity.now)) rest c.in_ok-key-in-Some.key _ _ _ _
    c.in_ok-key-in-Some.ensures (c.gate_or_lead.ensures []))

pub returns-in_err-key-in-None : goal.returns-in_err-key-in-None
returns-in_err-key-in-None c =
    let t = c.args.context.run.version.now in
    let seed = c.args.context.run.seed in
    let s = c.args.context.state.now in
    let q = c.args.context.asker.now in
    let rest : Key × List Watched → Eval Move = λ r. gate_at s c.args.id c.args.condition None r.0 r.1 0 in
    rw c.in-None.is (decides_left t seed (entity_traced s q (Some c.args.entity.now)) rest _ c.in_err-key-in-None.field-0.0 _ _
    c.from_residual-in_err-key-in-None.ensures.1 c.in_err-key-in-None.ensures)

pub returns-in_ok-key-in-None : goal.returns-in_ok-key-in-None
returns-in_ok-key-in-None c =
    let t = c.args.context.run.version.now in
    let seed = c.args.context.run.seed in
    let s = c.args.context.state.now in
    let q = c.args.context.asker.now in
    let rest : Key × List Watched → Eval Move = λ r. gate_at s c.args.id c.args.condition None r.0 r.1 0 in
    rw c.in-None.is (decides_then t seed (entity_traced s q (Some c.args.entity.now)) rest _ _ _ _ _ c.in_ok-key-in-None.ensures
    (decides_comes t seed _ c.gate_or_wait.result _ c.gate_or_wait.ensures))
