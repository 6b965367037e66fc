use Rattle.gw_meaning.specs.Step.{buffer_prog}
use Rattle.gw_asking.proofs.Binding.{decides_comes}
use Rattle.gw_scan.proofs.attempt.buffer.Goals as goal

pub returns : goal.returns
returns c =
    decides_comes c.args.run.version.now c.args.run.seed (buffer_prog c.args.id) c.decide_buffer.result c.args.notes.now c.decide_buffer.ensures
