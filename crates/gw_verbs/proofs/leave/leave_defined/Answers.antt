use Rattle.std.proofs.Common.{◌≡◌, ℕ, option_copied, rules}
use Rattle.gw_meaning.specs.declared.moves.Move.{Move}
use Rattle.gw_names.specs.declared.key.Key.TheVariants as keys
use Rattle.gw_meaning.specs.Entities.{store_at}
use Rattle.gw_meaning.specs.Evaluation.{Eval, units_prog}
use Rattle.gw_meaning.specs.Step.{leave_units}
use Rattle.gw_asking.proofs.Binding.{decides_left, decides_then}
use Rattle.gw_verbs.proofs.leave.leave_defined.Goals as goal

pub returns-in_err-units : goal.returns-in_err-units
returns-in_err-units c =
    let t = c.args.context.run.version.now in
    let seed = c.args.context.run.seed in
    let s = c.args.context.state.now in
    let q = c.args.context.asker.now in
    let name = c.args.name.now in
    let rest : ℕ → Eval Move = λ n. leave_units s c.args.id name (store_at s.entities (keys.Defined name)) n in
    decides_left t seed (units_prog s q (option_copied c.args.units)) rest _ c.in_err-units.field-0.0 _ _ c.from_residual.ensures.1 c.in_err-units.ensures

pub returns : goal.returns
returns c =
    let t = c.args.context.run.version.now in
    let seed = c.args.context.run.seed in
    let s = c.args.context.state.now in
    let q = c.args.context.asker.now in
    let name = c.args.name.now in
    let rest : ℕ → Eval Move = λ n. leave_units s c.args.id name (store_at s.entities (keys.Defined name)) n in
    let store : c.storage-storage.result ≡ store_at s.entities (keys.Defined name) = search rules in
    decides_then t seed (units_prog s q (option_copied c.args.units)) rest c.in_ok-units.units _ _ _ _ c.in_ok-units.ensures
    (rw (store, c.from.ensures) at c.leave_units.ensures)
