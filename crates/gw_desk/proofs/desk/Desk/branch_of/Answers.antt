use Rattle.std.proofs.Common.{sym}
use Rattle.gw_desk.proofs.FinishLaws.{is_there, branch_is}
use Rattle.gw_desk.proofs.desk.Desk.branch_of.Goals as goal

pub unreachable-requires : goal.unreachable-requires
unreachable-requires c =
    let seed = rw (← c.self.view_is) at c.requires in
    let none = rw c.as_slice.ensures.value at c.in_default.ensures.place in
    is_there _ c.args.rep c.args.seed c.self.invariant.0 seed (sym none)

pub returns-clause-branch : goal.returns-clause-branch
returns-clause-branch c =
    let seed = rw (← c.self.view_is) at c.requires in
    let found = rw c.as_slice.ensures.value at c.in-Some.ensures.place in
    let d = c.index_mut.result.now in
    rw (← c.self.view_is) (branch_is _ c.args.rep c.args.seed c.in-Some.place d d.run c.self.invariant.0 seed (sym found) c.index_mut.ensures.value
    c.branch-index_mut.result c.branch-index_mut.ensures.value c.branch-index_mut.ensures.records)
