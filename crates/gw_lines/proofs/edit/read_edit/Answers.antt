use Rattle.std.proofs.Common.{◌≡◌, false}
use Rattle.gw_lines.specs.Pairs.{wants_pairs}
use Rattle.gw_lines.proofs.Whole.{spelled_whole}
use Rattle.gw_lines.specs.Edits.{SpellsEdit, FirstFaultOfEdit}
use Rattle.gw_lines.proofs.Results.{gives_found, gives_fault, gives_same}
use Rattle.gw_lines.proofs.Edits.{edits_are_read, edits_are_refused}
use Rattle.gw_lines.proofs.edit.read_edit.Goals as goal

pub returns-clause-found : goal.returns-clause-found
returns-clause-found c =
    let text = c.args.text.now in
    gives_found (SpellsEdit text) c.read_lines.result _ (λ s. (edits_are_read text s).0) c.read_lines.ensures

pub returns-clause-whole : goal.returns-clause-whole
returns-clause-whole c =
    let text = c.args.text.now in
    gives_found (λ s. wants_pairs s ≡ false) c.read_lines.result _ (λ s e. spelled_whole ((edits_are_read text s).0 e)) c.read_lines.ensures

pub returns-clause-only : goal.returns-clause-only
returns-clause-only c = λ s spelled. gives_same c.read_lines.result _ _ ((edits_are_read c.args.text.now s).1 spelled) c.read_lines.ensures

pub returns-clause-fault : goal.returns-clause-fault
returns-clause-fault c =
    let text = c.args.text.now in
    gives_fault (FirstFaultOfEdit text) c.read_lines.result _ (λ f. (edits_are_refused text f).0) c.read_lines.ensures

pub returns-clause-faulty : goal.returns-clause-faulty
returns-clause-faulty c = λ f first. gives_same c.read_lines.result _ _ ((edits_are_refused c.args.text.now f).1 first) c.read_lines.ensures
