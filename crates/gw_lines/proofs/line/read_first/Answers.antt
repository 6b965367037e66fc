use Rattle.gw_lines.specs.Spelling.{Spells}
use Rattle.gw_lines.specs.Faulty.{FirstFault}
use Rattle.gw_lines.proofs.Results.{gives_found, gives_fault, gives_same}
use Rattle.gw_lines.proofs.Lines.{spells_found, spells_again}
use Rattle.gw_lines.proofs.Faults.{fault_found, fault_again}
use Rattle.gw_lines.proofs.line.read_first.Goals as goal

pub returns-clause-found : goal.returns-clause-found
returns-clause-found c =
    let text = c.args.text.now in
    gives_found (Spells text) c.wanted.result _ (spells_found text) c.wanted.ensures

pub returns-clause-only : goal.returns-clause-only
returns-clause-only c = λ s spelled. gives_same c.wanted.result _ _ (spells_again c.args.text.now s spelled) c.wanted.ensures

pub returns-clause-fault : goal.returns-clause-fault
returns-clause-fault c =
    let text = c.args.text.now in
    gives_fault (FirstFault text) c.wanted.result _ (fault_found text) c.wanted.ensures

pub returns-clause-faulty : goal.returns-clause-faulty
returns-clause-faulty c = λ f first. gives_same c.wanted.result _ _ (fault_again first) c.wanted.ensures
