use Rattle.std.proofs.Common.{◌≤◌, ◌<◌, None, Some, subst, rules}
use Rattle.gw_meaning.specs.Machine.{Machine}
use Rattle.gw_meaning.specs.Step.{step}
use Rattle.gw_scan.specs.Stepping.{EndsAs}
use Rattle.gw_record.proofs.ReachLaws.{goes_on, ends_on}
use Rattle.gw_desk.proofs.Looks.{seen_ended, seen_open, seen_long}
use Rattle.gw_desk.proofs.look.look_at_tip.Goals as goal

pub returns-in-Some : goal.returns-in-Some
returns-in-Some c =
    let Ends : Machine → Type 0 = λ s. EndsAs (step c.args.version.now c.args.seed s) (Some c.in-Some.end) in
    let end = ends_on _ c.in-Some.end (subst Ends c.state.ensures (rw c.in-Some.is at c.in_ok-end.ensures)) in
    rw (c.seen_at_end.ensures, c.tip.ensures, c.complete.ensures, c.state-in-Some.ensures)
    (seen_ended c.args.version.now c.args.seed c.args.k c.args.run.now c.requires.records c.requires.some c.requires.none c.in-Some.end end)

pub returns-then-tip-limit : goal.returns-then-tip-limit
returns-then-tip-limit c =
    let Ends : Machine → Type 0 = λ s. EndsAs (step c.args.version.now c.args.seed s) None in
    let goes = goes_on _ (subst Ends c.state.ensures (rw c.in-None.is at c.in_ok-end.ensures)) in
    let less : c.args.run.now.moment < c.args.version.now.limit = search rules in
    seen_open c.args.version.now c.args.seed c.args.k c.args.run.now c.requires.records c.requires.some c.requires.none goes.0 goes.1 less

pub returns-else-tip-limit : goal.returns-else-tip-limit
returns-else-tip-limit c =
    let Ends : Machine → Type 0 = λ s. EndsAs (step c.args.version.now c.args.seed s) None in
    let goes = goes_on _ (subst Ends c.state.ensures (rw c.in-None.is at c.in_ok-end.ensures)) in
    let over : c.args.version.now.limit ≤ c.args.run.now.moment = search rules in
    seen_long c.args.version.now c.args.seed c.args.k c.args.run.now c.requires.records c.requires.some c.requires.none goes.0 goes.1 over
