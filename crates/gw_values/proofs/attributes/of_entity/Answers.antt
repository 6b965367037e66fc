use Rattle.std.proofs.Common.{ℤ}
use Rattle.gw_names.specs.declared.key.Key.{Key}
use Rattle.gw_meaning.specs.Evaluation.{Eval, subject_prog, entity_value}
use Rattle.gw_asking.proofs.Binding.{decides_then, decides_comes}
use Rattle.gw_values.proofs.attributes.of_entity.Goals as goal

pub returns : goal.returns
returns c =
    let t = c.args.context.run.version.now in
    let seed = c.args.context.run.seed in
    let first = subject_prog c.args.of.now in
    let rest : Key → Eval ℤ = λ key. entity_value c.args.context.state.now c.args.class key in
    decides_then t seed first rest c.in_ok-key.key _ _ _ _ c.in_ok-key.ensures
    (decides_comes t seed (rest c.in_ok-key.key) c.entity_value.result _ c.entity_value.ensures)
