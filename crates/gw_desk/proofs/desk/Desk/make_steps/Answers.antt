use Rattle.std.proofs.Common.{sym}
use Rattle.gw_record.specs.Reaching.{Reaches}
use Rattle.gw_desk.proofs.FinishLaws.{old_records, still_book, finishes, reached, is_there, on_each}
use Rattle.gw_desk.proofs.desk.Desk.make_steps.Goals as goal

pub reach-requires : goal.reach-requires
reach-requires c =
    let seed = rw (← c.self.view_is) at c.requires.seed in
    let found = rw c.as_slice.ensures.value at c.in-Some.ensures.place in
    (old_records _ c.args.rep c.args.seed c.in-Some.place c.index_mut.result.now c.index_mut.result.now.run c.self.invariant.0 seed (sym found)
    c.index_mut.ensures.value).0

pub invariant_of-self : goal.invariant_of-self
invariant_of-self c =
    let seed = rw (← c.self.view_is) at c.requires.seed in
    let found = rw c.as_slice.ensures.value at c.in-Some.ensures.place in (
      still_book _ c.args.rep c.args.seed c.in-Some.place c.index_mut.result.now c.reach.new.self c.self.invariant.0 seed (sym found)
          c.index_mut.ensures.value c.reach.new.tally c.reach.ensures.records c.reach.ensures.every c.reach.ensures.start,
      c.self.invariant.1,
      c.self.invariant.2,
    )

pub unreachable-requires : goal.unreachable-requires
unreachable-requires c =
    let seed = rw (← c.self.view_is) at c.requires.seed in
    let none = rw c.as_slice.ensures.value at c.in-None.ensures.place in
    is_there _ c.args.rep c.args.seed c.self.invariant.0 seed (sym none)

pub returns-clause-steps : goal.returns-clause-steps
returns-clause-steps c =
    let seed = rw (← c.self.view_is) at c.requires.seed in
    let found = rw c.as_slice.ensures.value at c.in-Some.ensures.place in
    rw (← c.self.view_is) (finishes _ c.args.rep c.args.seed c.in-Some.place c.index_mut.result.now c.reach.new.self c.self.invariant.0 seed (sym found)
    c.index_mut.ensures.value c.args.k c.reach.new.tally c.reach.ensures.every c.reach.ensures.start c.reach.ensures.grows
    c.reach.ensures.wanted c.reach.ensures.tally)

pub returns-clause-desk : goal.returns-clause-desk
returns-clause-desk c =
    let seed = rw (← c.self.view_is) at c.requires.seed in
    let found = rw c.as_slice.ensures.value at c.in-Some.ensures.place in
    still_book _ c.args.rep c.args.seed c.in-Some.place c.index_mut.result.now c.reach.new.self c.self.invariant.0 seed (sym found)
    c.index_mut.ensures.value c.reach.new.tally c.reach.ensures.records c.reach.ensures.every c.reach.ensures.start

pub returns-clause-reached : goal.returns-clause-reached
returns-clause-reached c =
    let seed = rw (← c.self.view_is) at c.requires.seed in
    let found = rw c.as_slice.ensures.value at c.in-Some.ensures.place in
    on_each (Reaches c.self.inside.version c.args.seed c.args.k c.reach.new.self) _ c.reach.result c.reach.ensures.reached
    (λ reach h. reached _ c.args.rep c.args.seed c.in-Some.place c.index_mut.result.now c.reach.new.self c.self.invariant.0 seed (sym found)
    c.index_mut.ensures.value c.args.k reach h)
