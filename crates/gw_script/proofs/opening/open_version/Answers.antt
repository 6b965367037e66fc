use Rattle.std.proofs.Common.{sym, subst}
use Rattle.gw_script.specs.Opening.{Refuses}
use Rattle.gw_script.proofs.Refusing.{line_refuses}
use Rattle.gw_script.proofs.opening.open_version.Goals as goal

pub returns-in-Err-clause-refuses : goal.returns-in-Err-clause-refuses
returns-in-Err-clause-refuses c =
    let f = c.in-Err.faulty in
    subst (Refuses c.args.model.now c.args.options) (sym c.line_fault.ensures)
    (line_refuses c.args.model.now c.args.options f.line f.fault c.in-Err.ensures.fault)
