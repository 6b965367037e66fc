use Rattle.gw_scan.proofs.StepLaws.{acted, acted_reads, halted_told}
use Rattle.gw_scan.proofs.steps.step.Goals as goal

pub returns-in-Ok-clause-told : goal.returns-in-Ok-clause-told
returns-in-Ok-clause-told c =
    acted c.args.version.now c.args.seed c.args.state.now c.act.new.state c.args.notes.now c.act.new.notes c.requires c.in-Ok.ensures

pub returns-in-Ok-clause-notes : goal.returns-in-Ok-clause-notes
returns-in-Ok-clause-notes c =
    acted_reads c.args.version.now c.args.seed c.args.state.now c.act.new.state c.args.notes.now c.act.new.notes c.requires c.in-Ok.ensures

pub returns-in-Err-clause-told : goal.returns-in-Err-clause-told
returns-in-Err-clause-told c =
    halted_told c.args.version.now c.args.seed c.args.state.now c.in-Err.halt c.halted.result c.act.new.state c.args.notes.now c.act.new.notes
    c.requires c.in-Err.ensures c.halted.ensures.told
