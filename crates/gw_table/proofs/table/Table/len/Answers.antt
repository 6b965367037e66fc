use Rattle.std.proofs.Common.{nat_eq, sym, subst, ◌∙◌}
use Rattle.std.specs.List.{IsDistinct}
use Rattle.gw_table.proofs.LookupLaws.{keys_are, length_is}
use Rattle.gw_table.proofs.table.Table.len.Goals as goal

pub returns-clause-len : goal.returns-clause-len
returns-clause-len g c = rw (← c.self.view_is, c.len.ensures) (c.self.inside.numbers.ok.0 ∙ sym (length_is _ _ c.self.invariant))

pub returns-clause-distinct : goal.returns-clause-distinct
returns-clause-distinct g c =
    rw (← c.self.view_is) (subst (IsDistinct nat_eq) (sym (keys_are _ _ c.self.invariant)) c.self.invariant.once)
