use Rattle.std.proofs.Common.{sym, ◌∙◌}
use Rattle.gw_table.proofs.LookupLaws.{value_in_is, listed_at, pair_is, no_pair}
use Rattle.gw_table.proofs.table.Table.pair.Goals as goal

pub returns-in_err-get : goal.returns-in_err-get
returns-in_err-get g c =
    let past = rw c.deref.ensures.value at c.in_err-get.ensures.lookup in
    rw (c.from_residual.ensures, ← c.self.view_is) (sym (no_pair _ _ c.self.invariant c.args.place past.3))

pub returns-in_err-get-2 : goal.returns-in_err-get-2
returns-in_err-get-2 g c =
    let read = rw c.deref.ensures.value at c.in_ok-get.ensures.lookup in
    let at = c.from-number.ensures ∙ read.1 in
    let there = listed_at _ _ c.self.invariant c.args.place c.in_ok-get.field-0.now read.3.0 read.1 in
    let none = rw (← c.self.view_is, c.from-number.ensures) at c.in_err-get-2.ensures in
    let is = value_in_is _ _ c.self.invariant c.in_ok-get.field-0.now in
    let wrong = none ∙ (is ∙ there.1) in
    absurd cc

pub returns : goal.returns
returns g c =
    let read = rw c.deref.ensures.value at c.in_ok-get.ensures.lookup in
    let some = rw (← c.self.view_is, c.from-number.ensures) at c.in_ok-get-2.ensures in
    rw (← c.self.view_is, c.from-number.ensures)
    (sym (pair_is _ _ c.self.invariant c.args.place c.in_ok-get.field-0.now c.in_ok-get-2.field-0 read.3.0 read.1 (sym some)))
