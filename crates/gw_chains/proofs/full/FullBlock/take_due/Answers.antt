use Rattle.std.proofs.Common.{◌≡◌, ◌≢◌, ◌+◌, ◌≤◌, arith, filter, length, not, ap, sym, ◌∙◌}
use Rattle.gw_meaning.specs.Changes.{all_lined_up, due, is_due}
use Rattle.gw_meaning.specs.Step.{least_time}
use Rattle.gw_chains.specs.Blocks.{after, since, time_of}
use Rattle.gw_chains.proofs.EventLaws.{kept_and_due}
use Rattle.gw_chains.proofs.Leasts.{due_there, stay_there, least_there, none_due_at, all_stay}
use Rattle.gw_chains.proofs.full.FullBlock.take_due.Goals as goal
use Rattle.gw_chains.proofs.full.FullBlock.take_due.Goals.{then-self-ticks, else-self-ticks}

pub line_up_due-self-inside-requires : goal.line_up_due-self-inside-requires
line_up_due-self-inside-requires c =
    let t = c.args.time in
    let b = c.self.inside in
    let items = c.args.self.now.items in
    let there = ap (λ b. due t b.items) c.deref.ensures
    ∙ due_there t b.least b.block.value.items items (c.if-self-ticks.true ∙ c.ticks.ensures.value) (ap (λ s. s.items) c.self.view_is) in
    omega (arith, ap length there, kept_and_due t items, c.requires.room)

-- the block after the call
pub record Taken (c : goal.Joined-self-ticks) : Type 0 where
  pub least : time_of c.if-self-ticks.self-inside.least ≡ least_time (since c.if-self-ticks.self-inside.least c.if-self-ticks.self-inside.block.value.items)
  pub come : c.if-self-ticks.current.items ≡ all_lined_up (due c.args.time c.args.self.now.items) c.args.current.now.items
  pub stay : since c.if-self-ticks.self-inside.least c.if-self-ticks.self-inside.block.value.items ≡
      filter (λ e. not (is_due c.args.time e)) c.args.self.now.items
  pub room : c.args.current.now.room ≤ c.if-self-ticks.current.room + length (due c.args.time c.args.self.now.items)

taken : (c : goal.Joined-self-ticks) → Taken c
taken c =
    let t = c.args.time in
    let b = c.self.inside in
    let es = b.block.value.items in
    let items = c.args.self.now.items in
    let view = ap (λ s. s.items) c.self.view_is in
    elim c.if-self-ticks.branch [
      | then-self-ticks w ↦
          let here : b.least ≡ t = w.if-self-ticks.true ∙ c.ticks.ensures.value in
          let gone = ap (λ b. due t b.items) w.deref.ensures ∙ due_there t b.least es items here view in
          let m = w.line_up_due-self-inside.result in
          let later = w.line_up_due-self-inside.ensures.later in
          let least = w.line_up_due-self-inside.ensures.least ∙ ap (λ b. least_time (after t b.items)) w.deref.ensures in
          record {
            least = rw w.self-inside-is (least_there t b.least es items here view m later least);
            come = ap (λ v. v.items) w.current-is
                ∙ (w.line_up_due-self-inside.ensures.current ∙ ap (λ xs. all_lined_up xs c.args.current.now.items) gone);
            stay = rw w.self-inside-is (stay_there t b.least es items here view m later least);
            room = omega (arith, ap (λ v. v.room) w.current-is, w.line_up_due-self-inside.ensures.room, ap length gone);
          }
      | else-self-ticks w ↦
          let other : b.least ≢ t = λ same. w.if-self-ticks.false (same ∙ sym c.ticks.ensures.value) in
          let is = c.self.invariant ∙ ap least_time view in
          let none = none_due_at t b.least items is c.requires.before other in
          record {
            least = rw w.self-inside-is c.self.invariant;
            come = ap (λ v. v.items) w.current-is ∙ ap (λ xs. all_lined_up xs c.args.current.now.items) (sym none);
            stay = rw w.self-inside-is (view ∙ all_stay t b.least items is c.requires.before other);
            room = omega (arith, ap (λ v. v.room) w.current-is);
          }
    ]

pub invariant_of-self : goal.invariant_of-self
invariant_of-self c = (taken c).least

pub returns-clause-current : goal.returns-clause-current
returns-clause-current c = (taken c).come

pub returns-clause-future : goal.returns-clause-future
returns-clause-future c = (taken c).stay

pub returns-clause-room : goal.returns-clause-room
returns-clause-room c = omega (arith, (taken c).room, ap length (taken c).stay, kept_and_due c.args.time c.args.self.now.items)

pub returns-clause-least : goal.returns-clause-least
returns-clause-least c = (taken c).least
