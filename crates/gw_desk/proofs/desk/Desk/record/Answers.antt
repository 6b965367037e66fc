use Rattle.std.proofs.Common.{sym, ◌∙◌}
use Rattle.gw_desk.proofs.FinishLaws.{old_records, offered, offered_in_vain, still_book, is_there}
use Rattle.gw_desk.proofs.desk.Desk.record.Goals as goal

pub unreachable-requires : goal.unreachable-requires
unreachable-requires c =
    let seed = rw (← c.self.view_is) at c.requires.seed in
    let none = rw c.as_slice.ensures.value at c.in-None.ensures.place in
    is_there _ c.args.rep c.args.seed c.self.invariant.0 seed (sym none)

pub go_on-requires-clause-zero : goal.go_on-requires-clause-zero
go_on-requires-clause-zero c =
    let seed = rw (← c.self.view_is) at c.requires.seed in
    let found = rw c.as_slice.ensures.value at c.in-Some.ensures.place in
    (old_records _ c.args.rep c.args.seed c.in-Some.place c.index_mut.result.now c.index_mut.result.now.run c.self.invariant.0 seed (sym found)
    c.index_mut.ensures.value).2

pub go_on-requires-clause-every : goal.go_on-requires-clause-every
go_on-requires-clause-every c =
    let seed = rw (← c.self.view_is) at c.requires.seed in
    let every = rw (← c.self.view_is) at c.requires.every in
    let found = rw c.as_slice.ensures.value at c.in-Some.ensures.place in
    every ∙ sym (old_records _ c.args.rep c.args.seed c.in-Some.place c.index_mut.result.now c.index_mut.result.now.run c.self.invariant.0 seed
    (sym found) c.index_mut.ensures.value).1

pub invariant_of-self : goal.invariant_of-self
invariant_of-self c =
    let seed = rw (← c.self.view_is) at c.requires.seed in
    let records = rw (← c.self.view_is) at c.requires.records in
    let found = rw c.as_slice.ensures.value at c.in-Some.ensures.place in
    let d = c.index_mut.result.now in
    let new = c.go_on.new.own in
    let old = old_records _ c.args.rep c.args.seed c.in-Some.place d new c.self.invariant.0 seed (sym found) c.index_mut.ensures.value in
    let still = c.go_on.ensures.records c.self.inside.version c.args.seed old.0 records in (
      still_book _ c.args.rep c.args.seed c.in-Some.place d new c.self.invariant.0 seed (sym found) c.index_mut.ensures.value
          c.self.inside.tally still c.go_on.ensures.every c.go_on.ensures.start,
      c.self.invariant.1,
      c.self.invariant.2,
    )

pub returns-clause-offers : goal.returns-clause-offers
returns-clause-offers c =
    let seed = rw (← c.self.view_is) at c.requires.seed in
    let found = rw c.as_slice.ensures.value at c.in-Some.ensures.place in
    rw (← c.self.view_is) (offered _ c.args.rep c.args.seed c.in-Some.place c.index_mut.result.now c.go_on.new.own c.self.invariant.0 seed (sym found)
    c.index_mut.ensures.value c.args.run c.go_on.result c.go_on.ensures.continues)

pub returns-clause-err : goal.returns-clause-err
returns-clause-err c =
    let seed = rw (← c.self.view_is) at c.requires.seed in
    let found = rw c.as_slice.ensures.value at c.in-Some.ensures.place in
    rw (← c.self.view_is) (offered_in_vain _ c.args.rep c.args.seed c.in-Some.place c.index_mut.result.now c.go_on.new.own c.self.invariant.0 seed
    (sym found) c.index_mut.ensures.value c.go_on.result c.go_on.ensures.err)

pub returns-clause-desk : goal.returns-clause-desk
returns-clause-desk c = (invariant_of-self c).0
