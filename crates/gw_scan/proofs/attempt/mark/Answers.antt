use Rattle.gw_meaning.specs.Step.{mark_prog}
use Rattle.gw_asking.proofs.Binding.{decides_comes}
use Rattle.gw_scan.proofs.attempt.mark.Goals as goal

pub returns : goal.returns
returns c =
    decides_comes c.args.run.version.now c.args.run.seed (mark_prog c.args.id) c.decide_mark.result c.args.notes.now c.decide_mark.ensures
