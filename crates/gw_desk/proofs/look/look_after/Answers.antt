use Rattle.std.proofs.Common.{None}
use Rattle.gw_record.specs.Lookups.{IsEndOf}
use Rattle.gw_desk.proofs.Looks.{complete_there, seen_complete, seen_ended, seen_long}
use Rattle.gw_desk.proofs.look.look_after.Goals as goal

pub returns-in-Some : goal.returns-in-Some
returns-in-Some c = λ t seed h reached.
    let end = (rw c.in-Some.is at c.start_end.ensures) t seed h in
    seen_complete t seed c.args.k c.args.run.now h c.requires.start c.in-Some.moment end.0 end.1

pub unreachable-requires : goal.unreachable-requires
unreachable-requires c =
    let (t, seed, h, stopped) = c.requires.stopped in
    let none : IsEndOf t seed c.args.run.now c.args.k None = (rw c.in-None.is at c.start_end.ensures) t seed h in
    complete_there t seed c.args.k c.args.run.now h c.requires.some (rw c.in-Complete.is at stopped)
    (λ m s low there done. none m s c.requires.some low there done)

pub returns-in-Ended : goal.returns-in-Ended
returns-in-Ended c = λ t seed h reached.
    let none : IsEndOf t seed c.args.run.now c.args.k None = (rw c.in-None.is at c.start_end.ensures) t seed h in
    let ends = rw c.in-Ended.is at reached in
    rw (c.seen_at_end.ensures, c.tip.ensures, c.complete.ensures, c.state.ensures)
    (seen_ended t seed c.args.k c.args.run.now h c.requires.some none c.in-Ended.end ends.1)

pub returns-in-Limit : goal.returns-in-Limit
returns-in-Limit c = λ t seed h reached.
    let none : IsEndOf t seed c.args.run.now c.args.k None = (rw c.in-None.is at c.start_end.ensures) t seed h in
    let on = rw c.in-Limit.is at reached in
    seen_long t seed c.args.k c.args.run.now h c.requires.some none on.2.0 on.2.1 on.1
