use Rattle.gw_lines.specs.Operands.{left}
use Rattle.gw_lines.specs.Parts.{parts_of}
use Rattle.gw_lines.proofs.Parts.{IsAt}
use Rattle.gw_lines.proofs.operands.read_each.Given as goal

abbrev pub invariant-loop-form : goal.invariant-loop-form
invariant-loop-form l =
    IsAt l.forms (parts_of l.text) l.form-index l.n (left l.more l.rest) l.operands.items l.missing
