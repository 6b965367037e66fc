use Rattle.std.proofs.Common.{sym, ◌∙◌, arith}
use Rattle.gw_table.proofs.LookupLaws.{none_at, some_at, value_in_is}
use Rattle.gw_table.proofs.RoomLaws.{low_from_room, finds_room}
use Rattle.gw_table.proofs.SetLaws.{set_in_place, listed_in_place, listed_new, set_new}
use Rattle.gw_table.proofs.table.Table.set.Goals as goal
use Rattle.gw_table.proofs.table.Table.set.Goals.{then-is_none, else-is_none}

pub index-requires : goal.index-requires
index-requires g c =
    let room = rw (← c.self.view_is) at c.requires in
    rw c.self.inside.values.ok.0 (low_from_room _ _ c.self.invariant _ _ room)

pub overflow_cast-number : goal.overflow_cast-number
overflow_cast-number g c =
    let room = rw (← c.self.view_is) at c.requires in
    let low = low_from_room _ _ c.self.invariant _ _ room in
    let none = none_at c.self.inside.values.items c.args.number c.index.result.now low c.index.ensures c.if-is_none.ensures in
    let found = finds_room _ _ c.self.invariant _ _ c.args.value none (room (value_in_is _ _ c.self.invariant _ ∙ none)) in
    let few = found.2 in
    omega (arith, few)

pub push_reserved-requires : goal.push_reserved-requires
push_reserved-requires g c =
    let room = rw (← c.self.view_is) at c.requires in
    let low = low_from_room _ _ c.self.invariant _ _ room in
    let none = none_at c.self.inside.values.items c.args.number c.index.result.now low c.index.ensures c.if-is_none.ensures in
    let found = finds_room _ _ c.self.invariant _ _ c.args.value none (room (value_in_is _ _ c.self.invariant _ ∙ none)) in
    rw c.self.inside.numbers.ok.0 found.1

pub index_mut-requires : goal.index_mut-requires
index_mut-requires g c =
    let room = rw (← c.self.view_is) at c.requires in
    let low = low_from_room _ _ c.self.invariant _ _ room in
    elim c.if-is_none.branch [
      | then-is_none w ↦ rw (w.self-inside-is, c.self.inside.values.ok.0) low
      | else-is_none w ↦ rw (w.self-inside-is, c.self.inside.values.ok.0) low
    ]

pub invariant_of-self : goal.invariant_of-self
invariant_of-self g c =
    let room = rw (← c.self.view_is) at c.requires in
    let low = low_from_room _ _ c.self.invariant _ _ room in
    elim c.if-is_none.branch [
      | then-is_none w ↦
          let none = none_at c.self.inside.values.items c.args.number c.index.result.now low c.index.ensures w.if-is_none.ensures in
          rw (w.self-inside-is, w.push_reserved.ensures.items) (listed_new _ _ c.self.invariant c.args.number c.args.value none low)
      | else-is_none w ↦
          let some = some_at c.self.inside.values.items c.args.number c.index.result.now low c.index.ensures w.if-is_none.ensures in
          rw w.self-inside-is (listed_in_place _ _ c.self.invariant c.args.number some.0 c.args.value some.1)
    ]

pub returns-clause-entries : goal.returns-clause-entries
returns-clause-entries g c =
    let room = rw (← c.self.view_is) at c.requires in
    let low = low_from_room _ _ c.self.invariant _ _ room in
    elim c.if-is_none.branch [
      | then-is_none w ↦
          let none = none_at c.self.inside.values.items c.args.number c.index.result.now low c.index.ensures w.if-is_none.ensures in
          rw (← c.self.view_is, w.self-inside-is, w.push_reserved.ensures.items) (sym (set_new _ _ c.self.invariant c.args.number c.args.value none low))
      | else-is_none w ↦
          let some = some_at c.self.inside.values.items c.args.number c.index.result.now low c.index.ensures w.if-is_none.ensures in
          rw (← c.self.view_is, w.self-inside-is) (sym (set_in_place _ _ c.self.invariant c.args.number some.0 c.args.value some.1))
    ]
