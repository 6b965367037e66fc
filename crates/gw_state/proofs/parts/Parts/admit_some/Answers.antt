use Rattle.std.proofs.Common.{rules}
use Rattle.gw_state.specs.States.{machine_of}
use Rattle.gw_state.proofs.parts.Parts.admit_some.Goals as goal

pub returns-clause-admitted : goal.returns-clause-admitted
returns-clause-admitted c =
    let h = c.let_in_some.ensures.let_in (machine_of c.args.self.now) in
    search (rules, h)
