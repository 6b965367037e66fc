use Rattle.std.proofs.Common.{None, sym, ◌∙◌}
use Rattle.std.proofs.Math.ListN.{get_or-eq_default}
use Rattle.gw_table.proofs.LookupLaws.{value_in_is}
use Rattle.gw_table.proofs.table.Table.get.Goals as goal

pub returns-in_err-get : goal.returns-in_err-get
returns-in_err-get g c =
    let past = rw c.deref.ensures.value at c.in_err-get.ensures.lookup in
    rw (c.from_residual.ensures, ← c.self.view_is)
    (sym (value_in_is _ _ c.self.invariant c.args.number ∙ get_or-eq_default c.self.inside.values.items None past.3))

pub returns : goal.returns
returns g c =
    let read = rw c.deref.ensures.value at c.in_ok-get.ensures.lookup in
    rw (← c.self.view_is) (read.3.1 None ∙ sym (value_in_is _ _ c.self.invariant c.args.number))
