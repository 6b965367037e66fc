use Rattle.std.proofs.Common.{◌≡◌, ◌∙◌, ap, ap₂, sym, subst, ℕ, List, []}
use Rattle.gw_meaning.specs.Machine.{Machine}
use Rattle.gw_uses.specs.declared.first_uses.FirstUses.{FirstUses}
use Rattle.gw_record.specs.declared.kept.Kept.{Kept}
use Rattle.gw_record.specs.Tape.{Tape, Records, from_tip}
use Rattle.gw_record.proofs.KeepLaws.{due_all}
use Rattle.gw_record.proofs.RecordLaws.{begun_at_tip}
use Rattle.gw_record.proofs.recorded.Recorded.branch.Goals as goal

pub invariant_of-self : goal.invariant_of-self
invariant_of-self c =
    let (within, multiple, due, streams) = c.self.invariant in
    (within, multiple, due, streams ∙ sym (ap (λ (s : Machine). s.streams) c.share.ensures))

pub returns-in_err-share-clause-same : goal.returns-in_err-share-clause-same
returns-in_err-share-clause-same c =
    let was : Machine → Tape = λ tip. record {
      every = c.self.inside.every;
      start = c.self.inside.start;
      moment = c.self.inside.moment;
      tip = tip;
      kept = c.self.inside.kept.items;
      ends = c.self.inside.ends.items;
      firsts = c.self.inside.notes.firsts;
    } in
    ap was c.share.ensures ∙ c.self.view_is

pub invariant_of-self-in_err-copy : goal.invariant_of-self-in_err-copy
invariant_of-self-in_err-copy c =
    let (within, multiple, due, streams) = c.self.invariant in
    (within, multiple, due, streams ∙ sym (ap (λ (s : Machine). s.streams) c.share.ensures))

pub returns-in_err-copy-clause-same : goal.returns-in_err-copy-clause-same
returns-in_err-copy-clause-same c =
    let was : Machine → Tape = λ tip. record {
      every = c.self.inside.every;
      start = c.self.inside.start;
      moment = c.self.inside.moment;
      tip = tip;
      kept = c.self.inside.kept.items;
      ends = c.self.inside.ends.items;
      firsts = c.self.inside.notes.firsts;
    } in
    ap was c.share.ensures ∙ c.self.view_is

pub invariant_of-self-in_err-ends : goal.invariant_of-self-in_err-ends
invariant_of-self-in_err-ends c =
    let (within, multiple, due, streams) = c.self.invariant in
    (within, multiple, due, streams ∙ sym (ap (λ (s : Machine). s.streams) c.share.ensures))

pub returns-in_err-ends-clause-same : goal.returns-in_err-ends-clause-same
returns-in_err-ends-clause-same c =
    let was : Machine → Tape = λ tip. record {
      every = c.self.inside.every;
      start = c.self.inside.start;
      moment = c.self.inside.moment;
      tip = tip;
      kept = c.self.inside.kept.items;
      ends = c.self.inside.ends.items;
      firsts = c.self.inside.notes.firsts;
    } in
    ap was c.share.ensures ∙ c.self.view_is

pub invariant_of-self-in_err-notes : goal.invariant_of-self-in_err-notes
invariant_of-self-in_err-notes c =
    let (within, multiple, due, streams) = c.self.invariant in
    (within, multiple, due, streams ∙ sym (ap (λ (s : Machine). s.streams) c.share.ensures))

pub returns-in_err-notes-clause-same : goal.returns-in_err-notes-clause-same
returns-in_err-notes-clause-same c =
    let was : Machine → Tape = λ tip. record {
      every = c.self.inside.every;
      start = c.self.inside.start;
      moment = c.self.inside.moment;
      tip = tip;
      kept = c.self.inside.kept.items;
      ends = c.self.inside.ends.items;
      firsts = c.self.inside.notes.firsts;
    } in
    ap was c.share.ensures ∙ c.self.view_is

pub invariant_of-result : goal.invariant_of-result
invariant_of-result c =
    let (within, multiple, due, streams) = c.self.invariant in
    let noted : c.in_ok-notes.notes.streams ≡ c.self.inside.notes.streams = λ i. (c.in_ok-notes.ensures i).streams in
    let shared : c.in_ok-copy.field-0.streams ≡ c.self.inside.tip.streams = ap (λ (s : Machine). s.streams) (c.in_ok-copy.ensures ∙ c.share.ensures) in
    (within, multiple, due_all _ _ _ _ _, noted ∙ (streams ∙ sym shared))

pub invariant_of-self-2 : goal.invariant_of-self-2
invariant_of-self-2 c =
    let (within, multiple, due, streams) = c.self.invariant in
    (within, multiple, due, streams ∙ sym (ap (λ (s : Machine). s.streams) c.share.ensures))

pub returns-clause-value : goal.returns-clause-value
returns-clause-value c =
    let tip : c.in_ok-copy.field-0 ≡ c.self.inside.tip = c.in_ok-copy.ensures ∙ c.share.ensures in
    let ends : c.in_ok-ends.ends.items ≡ c.self.inside.ends.items = c.in_ok-ends.ensures.items ∙ c.as_slice.ensures.value in
    let firsts : c.in_ok-notes.notes.firsts ≡ c.self.inside.notes.firsts = λ i. (c.in_ok-notes.ensures i).firsts in
    let made : Machine → List Kept → List ℕ → FirstUses → Tape = λ tip kept ends firsts. record {
      every = c.self.inside.every;
      start = c.self.inside.moment;
      moment = c.self.inside.moment;
      tip = tip;
      kept = kept;
      ends = ends;
      firsts = firsts;
    } in
    ap₂ (λ tip kept. made tip kept c.in_ok-ends.ends.items c.in_ok-notes.notes.firsts) tip c.new.ensures.items
    ∙ (ap₂ (made c.self.inside.tip []) ends firsts ∙ ap from_tip c.self.view_is)

pub returns-clause-records : goal.returns-clause-records
returns-clause-records c = λ t seed h.
    subst (λ (r : Tape). Records t seed r) (sym (returns-clause-value c)) (begun_at_tip t seed c.args.self.now h)

pub returns-clause-same : goal.returns-clause-same
returns-clause-same c =
    let was : Machine → Tape = λ tip. record {
      every = c.self.inside.every;
      start = c.self.inside.start;
      moment = c.self.inside.moment;
      tip = tip;
      kept = c.self.inside.kept.items;
      ends = c.self.inside.ends.items;
      firsts = c.self.inside.notes.firsts;
    } in
    ap was c.share.ensures ∙ c.self.view_is
