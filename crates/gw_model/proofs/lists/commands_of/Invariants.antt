use Rattle.std.proofs.Common.{◌≡◌, drop, ◌++◌}
use Rattle.std.specs.List.{filter_map}
use Rattle.gw_meaning.specs.Listing.{command_of}
use Rattle.gw_model.proofs.lists.commands_of.Given as goal

abbrev pub invariant-loop-line : goal.invariant-loop-line
invariant-loop-line l = l.commands.items ++ filter_map command_of (drop l.line-index l.lines) ≡ filter_map command_of l.lines
