use Rattle.std.proofs.Common.{◌≡◌, ap, ◌∙◌}
use Rattle.gw_meaning.specs.declared.item.Item.TheVariants as items
use Rattle.gw_meaning.specs.Machine.{raised}
use Rattle.gw_meaning.specs.Step.{command_prog}
use Rattle.gw_asking.proofs.Binding.{decides_asked}
use Rattle.gw_scan.proofs.commands.decide_command.Goals as goal

pub returns : goal.returns
returns c =
    let t = c.args.run.version.now in
    let seed = c.args.run.seed in
    let s = c.args.state.now in
    let done : c.commands.result ≡ s.commands = c.commands.ensures in
    let i : c.saturating_add-next.result ≡ raised s.commands = c.saturating_add-next.ensures ∙ ap raised done in
    let noted = rw i at c.in_ok-command.ensures.ok in
    let answer = rw i at c.in_ok-command.ensures.answer in
    decides_asked t seed (items.Cmd (raised s.commands)) (command_prog s) _ _ _ _ noted (rw (← answer) c.command_move.ensures)
