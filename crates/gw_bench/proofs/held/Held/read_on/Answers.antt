use Rattle.gw_bench.proofs.GrowLaws.{grown_none, grown_one}
use Rattle.gw_bench.proofs.held.Held.read_on.Goals as goal

pub boxes-init : goal.boxes-init
boxes-init g c = (grown_none c.args.self.now, c.requires)

pub boxes-preserved : goal.boxes-preserved
boxes-preserved g c =
    let taken = rw c.if-not-branch.false at c.in_ok-take_one.ensures.ok in
    (grown_one c.args.self.now c.boxes.self c.take_one.new.self taken.0 c.boxes.invariant.0 taken.1, c.boxes.invariant.1)
