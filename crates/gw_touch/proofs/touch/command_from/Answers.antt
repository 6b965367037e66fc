use Rattle.std.proofs.Common.{rules, arith, ◌≡◌, ◌-◌, ◌≤◌, length, filter, take}
use Rattle.gw_meaning.specs.Listing.{is_command}
use Rattle.gw_touch.proofs.Places.{few_commands}
use Rattle.gw_touch.proofs.touch.command_from.Goals as goal

pub overflow_add-result : goal.overflow_add-result
overflow_add-result c =
    let lines = c.args.version.now.lines in
    let few : length (filter is_command (take (c.args.place - 1) lines)) ≤ length lines =
    few_commands is_command (c.args.place - 1) lines in
    let long : length lines ≤ 2000 = c.lines.ensures.well.statements in
    let count : c.count_commands.result ≡ length (filter is_command (take (c.args.place - 1) lines)) = search rules in
    let small : c.count_commands.result ≤ 2000 = omega arith in
    search rules
