use Rattle.gw_scan.specs.Courses.{met_by}
use Rattle.gw_scan.proofs.Courses.{can_be_made, goes}
use Rattle.gw_scan.proofs.attempt.hand_on_met.Goals as goal

pub hand_on-requires : goal.hand_on-requires
hand_on-requires g c =
    let s = g.R.Course.machine c.args.course.now in
    can_be_made c.args.run.version.now c.args.run.seed s (met_by s s.active c.args.id c.args.block.now) c.args.decided g.before
    c.args.notes.now c.requires.1.0 c.requires.1.1

pub returns : goal.returns
returns g c =
    let s = g.R.Course.machine c.args.course.now in
    goes c.args.run.version.now c.args.run.seed g.R.Course.makes (met_by s s.active c.args.id c.args.block.now) c.args.decided
    c.hand_on.result c.args.course.now c.hand_on.new.course g.before c.args.notes.now c.requires.1.1 c.hand_on.ensures
