use Rattle.std.proofs.Common.{rules, arith, ◌≡◌}
use Rattle.gw_model.specs.Listed.{numbered}
use Rattle.gw_model.proofs.Numbers.{numbered_listed}
use Rattle.gw_model.proofs.version.Version.new.Goals as goal

pub from_lines-requires : goal.from_lines-requires
from_lines-requires c =
    let made : c.in_ok-lines.lines.items ≡ numbered 1 c.args.statements.items = search rules in
    rw made (numbered_listed 1 c.args.statements.items (omega arith))
