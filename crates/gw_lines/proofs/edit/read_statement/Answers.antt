use Rattle.std.proofs.Common.{[], ◌∷◌}
use Rattle.gw_lines.specs.Points.{SpellsLines}
use Rattle.gw_lines.specs.Edits.{FaultOfLines}
use Rattle.gw_lines.proofs.Results.{gives_found, gives_fault, gives_same}
use Rattle.gw_lines.proofs.Edits.{alone_is_read, alone_is_refused}
use Rattle.gw_lines.proofs.edit.read_statement.Goals as goal

pub returns-clause-found : goal.returns-clause-found
returns-clause-found c =
    let line = c.args.line.now in
    gives_found (SpellsLines (line ∷ [])) c.read_alone.result _ (λ s. (alone_is_read line s).0) c.read_alone.ensures

pub returns-clause-only : goal.returns-clause-only
returns-clause-only c = λ s spelled. gives_same c.read_alone.result _ _ ((alone_is_read c.args.line.now s).1 spelled) c.read_alone.ensures

pub returns-clause-fault : goal.returns-clause-fault
returns-clause-fault c =
    let line = c.args.line.now in
    gives_fault (FaultOfLines (line ∷ [])) c.read_alone.result _ (λ f. (alone_is_refused line f).0) c.read_alone.ensures

pub returns-clause-faulty : goal.returns-clause-faulty
returns-clause-faulty c = λ f first. gives_same c.read_alone.result _ _ ((alone_is_refused c.args.line.now f).1 first) c.read_alone.ensures
