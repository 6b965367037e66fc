use Rattle.std.proofs.Common.{◌≡◌, ◌≢◌, ◌+◌, ◌≤◌, [], ◌∷◌, Some, true, false, arith, length, length-append, refl, slice_get, take, ap, subst, sym, ◌∙◌}
use Rattle.std.specs.Prelude.{nat_lt}
use Rattle.std.proofs.lemmas.Bool.Decides.{nat_tests}
use Rattle.std.proofs.lemmas.List.{take_all}
use Rattle.gw_meaning.specs.Changes.{all_lined_up, due, lined_up}
use Rattle.gw_meaning.specs.Step.{least_time}
use Rattle.gw_chains.specs.Blocks.{after, time_of}
use Rattle.gw_chains.proofs.EventLaws.{all_lined_append, due_within, none_more_due, one_due, one_kept, one_left}
use Rattle.gw_chains.proofs.BlockLaws.{is_within, contains_at, event_on, next_there, event_at, time_at, time_within}
use Rattle.gw_chains.proofs.Leasts.{least_both}
use Rattle.gw_chains.proofs.block.Block.line_up_due.Goals as goal
use Rattle.gw_chains.proofs.block.Block.line_up_due.Goals.{then-ticks-now, else-ticks-now+then-ticks-now-2, else-ticks-now+else-ticks-now-2}

pub loop-index-init : goal.loop-index-init
loop-index-init c = record {
  come = refl;
  room = omega arith;
  least = refl;
  later = omega (arith, c.ticks-now.ensures.value, c.ticks-now.ensures.bound);
}

pub index-ticks-requires : goal.index-ticks-requires
index-ticks-requires c =
    let h = is_within c.self.invariant c.args.self.now.items (ap (λ s. s.items) c.self.view_is) c.loop-index.index
    (omega (arith, c.loop-index-test.true, c.len-index-end.ensures.len)) in
    omega (arith, h)

pub index-requires : goal.index-requires
index-requires c =
    let h = is_within c.self.invariant c.args.self.now.items (ap (λ s. s.items) c.self.view_is) c.loop-index.index
    (omega (arith, c.loop-index-test.true, c.len-index-end.ensures.len)) in
    omega (arith, h, c.self.invariant.long)

pub index-requires-then-ticks-now : goal.index-requires-then-ticks-now
index-requires-then-ticks-now c =
    let h = is_within c.self.invariant c.args.self.now.items (ap (λ s. s.items) c.self.view_is) c.loop-index.index
    (omega (arith, c.loop-index-test.true, c.len-index-end.ensures.len)) in
    contains_at c.self.invariant c.loop-index.index c.index.result.now h c.index.ensures

pub line_up_ref-requires : goal.line_up_ref-requires
line_up_ref-requires c =
    let t = c.args.time in
    let es = c.args.self.now.items in
    let i = c.loop-index.index in
    let u = c.index-ticks.result.now in
    let h = is_within c.self.invariant es (ap (λ s. s.items) c.self.view_is) i (omega (arith, c.loop-index-test.true, c.len-index-end.ensures.len)) in
    let at = event_on c.self.invariant es (ap (λ s. s.items) c.self.view_is) i u u h c.index-ticks.ensures in
    let now : at.event.time ≡ t = at.time ∙ (c.if-ticks-now.true ∙ c.ticks-now.ensures.value) in
    let one = one_due es i at.event (next_there es i at.event at.there) t now in
    omega (
      arith,
      c.loop-index.invariant.room,
      c.requires,
      due_within t (i + 1) es,
      ap length one,
      length-append (due t (take i es)) (at.event.transaction ∷ []),
    )

pub loop-index-preserved : goal.loop-index-preserved
loop-index-preserved c =
    let b = c.self.inside in
    let t = c.args.time in
    let es = c.args.self.now.items in
    let i = c.loop-index.index in
    let u = c.index-ticks.result.now in
    let n = c.loop-index.least in
    let start = c.args.current.now.items in
    let k = c.loop-index.invariant in
    let value = c.ticks-now.ensures.value in
    let h = is_within c.self.invariant es (ap (λ s. s.items) c.self.view_is) i (omega (arith, c.loop-index-test.true, c.len-index-end.ensures.len)) in
    let at = event_on c.self.invariant es (ap (λ s. s.items) c.self.view_is) i u u h c.index-ticks.ensures in
    let e = at.event in
    let time : e.time ≡ u = at.time in
    let more = next_there es i e at.there in
    elim c.if-ticks-now.branch [
      | then-ticks-now w ↦
          let x = w.index-then-ticks-now.result.now in
          let there = ap (λ s. slice_get s.items i) (sym c.self.view_is)
          ∙ event_at b.transactions b.times.items b.keys.items i u w.index.result.now x c.self.invariant.long h
          c.index-ticks.ensures w.index.ensures w.index-then-ticks-now.ensures in
          let next = next_there es i (record { time = u; transaction = x }) there in
          let one = one_due es i (record { time = u; transaction = x }) next t (w.if-ticks-now.true ∙ value) in
          let now : nat_lt t u ≡ false = grind (arith, nat_tests, w.if-ticks-now.true, value) in
          record {
            come = ap (λ v. v.items) w.current-is
                ∙ (w.line_up_ref.ensures.items
                ∙ (ap (lined_up x) k.come
                ∙ sym (ap (λ xs. all_lined_up xs start) one ∙ all_lined_append (due t (take i es)) (x ∷ []) start)));
            room = omega (
              arith,
              k.room,
              ap (λ v. v.room) w.current-is,
              w.line_up_ref.ensures.room,
              ap length one,
              length-append (due t (take i es)) (x ∷ []),
            );
            least = ap time_of w.least-is
                ∙ (k.least ∙ sym (ap least_time (one_left es i (record { time = u; transaction = x }) next (λ y. nat_lt t y.time) now)));
            later = omega (arith, w.least-is, k.later);
          }
      | else-ticks-now+then-ticks-now-2 w ↦
          let other : e.time ≢ t = λ same. w.if-ticks-now.false (sym time ∙ (same ∙ sym value)) in
          let none = none_more_due es i e more t other in
          let later : nat_lt t e.time ≡ true = grind (arith, nat_tests, time, w.if-ticks-now-2.true, value) in
          let low : u ≤ 1001000000000 = subst (λ m. m ≤ 1001000000000) (sym c.index-ticks.ensures) (time_at b.times.items i u c.self.invariant.times h) in
          let front : time_of u ≡ least_time (e ∷ []) = time_within u low ∙ ap (λ m. Some m) (sym time) in
          record {
            come = ap (λ v. v.items) w.current-is ∙ (k.come ∙ ap (λ xs. all_lined_up xs start) (sym none));
            room = omega (arith, k.room, ap (λ v. v.room) w.current-is, ap length none);
            least = ap time_of (w.least-is ∙ w.min-least.ensures)
                ∙ (least_both n u (after t (take i es)) (e ∷ []) k.least front
                ∙ sym (ap least_time (one_kept es i e more (λ y. nat_lt t y.time) later)));
            later = omega (arith, w.least-is, w.min-least.ensures, k.later, w.if-ticks-now-2.true, value);
          }
      | else-ticks-now+else-ticks-now-2 w ↦
          let other : e.time ≢ t = λ same. w.if-ticks-now.false (sym time ∙ (same ∙ sym value)) in
          let none = none_more_due es i e more t other in
          let gone : nat_lt t e.time ≡ false = grind (arith, nat_tests, time, w.if-ticks-now-2.false, value) in
          record {
            come = ap (λ v. v.items) w.current-is ∙ (k.come ∙ ap (λ xs. all_lined_up xs start) (sym none));
            room = omega (arith, k.room, ap (λ v. v.room) w.current-is, ap length none);
            least = ap time_of w.least-is ∙ (k.least ∙ sym (ap least_time (one_left es i e more (λ y. nat_lt t y.time) gone)));
            later = omega (arith, w.least-is, k.later);
          }
    ]

pub returns-clause-current : goal.returns-clause-current
returns-clause-current c =
    let es = c.args.self.now.items in
    let end : length es ≤ c.loop-index.index = omega (arith, c.loop-index-test.false, c.len-index-end.ensures.len) in
    c.loop-index.invariant.come ∙ ap (λ xs. all_lined_up (due c.args.time xs) c.args.current.now.items) (take_all c.loop-index.index es end)

pub returns-clause-room : goal.returns-clause-room
returns-clause-room c =
    let es = c.args.self.now.items in
    let end : length es ≤ c.loop-index.index = omega (arith, c.loop-index-test.false, c.len-index-end.ensures.len) in
    omega (arith, c.loop-index.invariant.room, ap (λ xs. length (due c.args.time xs)) (take_all c.loop-index.index es end))

pub returns-clause-least : goal.returns-clause-least
returns-clause-least c =
    let es = c.args.self.now.items in
    let end : length es ≤ c.loop-index.index = omega (arith, c.loop-index-test.false, c.len-index-end.ensures.len) in
    c.loop-index.invariant.least ∙ ap (λ xs. least_time (after c.args.time xs)) (take_all c.loop-index.index es end)

pub returns-clause-later : goal.returns-clause-later
returns-clause-later c = c.loop-index.invariant.later
