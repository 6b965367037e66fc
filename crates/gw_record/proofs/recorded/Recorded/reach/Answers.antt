use Rattle.std.proofs.Common.{◌-◌, ◌<◌, Option, Some, None, rules, ap, sym, subst, ◌∙◌}
use Rattle.gw_meaning.specs.Machine.{raised}
use Rattle.gw_meaning.specs.Step.{step}
use Rattle.gw_scan.specs.Stepping.{EndsAs}
use Rattle.gw_record.specs.Tape.{Tape}
use Rattle.gw_record.specs.Extending.{tallied}
use Rattle.gw_record.specs.Reaching.{AreWanted}
use Rattle.gw_record.proofs.ReachLaws.{wanted_more, tallied_more, goes_on, ends_on}
use Rattle.gw_record.proofs.recorded.Recorded.reach.Goals.{in-Some, in-None}
use Rattle.gw_expr.specs.declared.halt.End.{End}
use Rattle.gw_record.proofs.recorded.Recorded.reach.Goals as goal

pub loop-moment-preserved : goal.loop-moment-preserved
loop-moment-preserved c =
    let t = c.args.version.now in
    let seed = c.args.seed in
    let from = c.args.self.now.moment in
    let i = c.loop-moment.invariant in
    let fewer : c.loop-moment.self.tip.complete < c.args.k = search rules in
    let went = (rw c.in-Moved.is at c.in_ok-go.ensures.told) in
    let counted = (rw c.in-Moved.is at c.in_ok-go.ensures.tally) in
    record {
      records = c.in_ok-go.ensures.records;
      every = c.in_ok-go.ensures.every ∙ i.every;
      start = c.in_ok-go.ensures.start ∙ i.start;
      moment = search rules;
      grows = search rules;
      wanted = subst (λ n. AreWanted c.args.version.now c.args.seed c.args.k c.args.self.now.moment n) (sym went)
          (wanted_more t seed c.args.k from c.loop-moment.self.moment c.loop-moment.self.tip i.wanted i.records.tip fewer);
      tally = counted ∙ (ap (λ n. raised n) i.tally ∙ (tallied_more c.args.tally.now from c.loop-moment.self.moment i.grows ∙
          ap (λ n. tallied c.args.tally.now (n - c.args.self.now.moment)) (sym went)));
    }

pub returns-clause-reached : goal.returns-clause-reached
returns-clause-reached c =
    let t = c.args.version.now in
    let Ends : Option End → Tape → Type 0 = λ end r. EndsAs (step t c.args.seed r.tip) end in
    let fewer : c.loop-moment.self.tip.complete < c.args.k = search rules in
    elim c.match-branch-4.branch [
      | in-Some w ↦
          let end = w.in-Some.end in
          let ends = subst (Ends (Some end)) c.self-2.view_is (rw w.in-Some.is at c.in_ok-end.ensures) in
          rw w.result-is (fewer, ends_on (step t c.args.seed c.loop-moment.self.tip) end ends)
      | in-None w ↦
          let goes = subst (Ends None) c.self-2.view_is (rw w.in-None.is at c.in_ok-end.ensures) in
          rw w.result-is (fewer, search rules, goes_on _ goes)
    ]
