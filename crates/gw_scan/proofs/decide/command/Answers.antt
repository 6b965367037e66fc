use Rattle.std.proofs.Common.{◌≡◌, rules, subst}
use Rattle.gw_meaning.specs.Machine.{Machine}
use Rattle.gw_meaning.specs.Step.{move_prog}
use Rattle.gw_asking.specs.Deciding.{Decides}
use Rattle.gw_scan.proofs.Courses.{can_be_made, idle_next}
use Rattle.gw_scan.proofs.decide.command.Goals as goal

pub hand_on-requires : goal.hand_on-requires
hand_on-requires g c =
    let t = c.args.run.version.now in
    let seed = c.args.run.seed in
    let s = g.C.Course.machine c.args.course.now in
    let idle : s.remaining ≡ 0 = search rules in
    let decided = subst (λ (m : Machine). Decides t seed (move_prog m 0) c.decide_command.result c.args.notes.now c.decide_command.new.notes) c.state.ensures c.decide_command.ensures in
    can_be_made t seed s (move_prog s 0) _ _ _ (idle_next t seed s idle) decided
