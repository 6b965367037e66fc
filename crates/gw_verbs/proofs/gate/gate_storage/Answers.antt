use Rattle.std.proofs.Common.{◌≡◌, ℕ, [], true, option_copied, rules}
use Rattle.gw_names.specs.declared.key.Key.TheVariants as keys
use Rattle.gw_meaning.specs.declared.item.Asked.TheVariants as asking
use Rattle.gw_meaning.specs.declared.item.Item.TheVariants as items
use Rattle.gw_meaning.specs.declared.moves.Move.{Move}
use Rattle.gw_meaning.specs.Evaluation.{Eval}
use Rattle.gw_meaning.specs.Step.{reads_capacity, gate_at}
use Rattle.gw_asking.proofs.Binding.{decides_asked}
use Rattle.gw_verbs.proofs.gate.gate_storage.Goals as goal

pub returns : goal.returns
returns c =
    let t = c.args.context.run.version.now in
    let seed = c.args.context.run.seed in
    let s = c.args.context.state.now in
    let name = c.args.name.now in
    let rest : ℕ → Eval Move = λ n. gate_at s c.args.id c.args.condition (option_copied c.args.label) (keys.Defined name) [] n in
    let reads : reads_capacity c.args.condition ≡ true = search rules in
    let noted = rw c.name.ensures at c.in_ok-capacity.ensures.ok in
    let answer = rw c.name.ensures at c.in_ok-capacity.ensures.answer in
    let led = rw (c.key-2.ensures, answer) at c.gate_at-2.ensures in
    rw reads (decides_asked t seed (items.Named asking.Storage name) rest c.gate_at-2.result _ _ _ noted led)
