use Rattle.std.proofs.Common.{◌≡◌, option_copied, rules}
use Rattle.gw_names.specs.declared.key.Key.TheVariants as keys
use Rattle.gw_meaning.specs.declared.item.Asked.TheVariants as asking
use Rattle.gw_meaning.specs.declared.item.Item.TheVariants as items
use Rattle.gw_meaning.specs.Evaluation.{asks}
use Rattle.gw_meaning.specs.Step.{tabulate_prog, tabulate_with}
use Rattle.gw_asking.proofs.Binding.{decides_asked}
use Rattle.gw_verbs.proofs.tabulate.decide_tabulate.Goals as goal

pub returns-in_ok-argument-in-Table : goal.returns-in_ok-argument-in-Table
returns-in_ok-argument-in-Table c =
    let t = c.args.context.run.version.now in
    let seed = c.args.context.run.seed in
    let s = c.args.context.state.now in
    let q = c.args.context.asker.now in
    let name = c.in-Table.name in
    let rest = tabulate_with s q c.args.id (keys.Defined name) in
    let whole : tabulate_prog s q c.args.id (option_copied c.args.table) ≡ asks (items.Named asking.Table name) rest = search rules in
    let noted = c.in_ok-argument-in-Table.ensures.ok in
    let led = rw (c.in_ok-argument-in-Table.ensures.answer) at c.tabulate_with.ensures in
    rw whole (decides_asked t seed (items.Named asking.Table name) rest c.tabulate_with.result _ _ _ noted led)
