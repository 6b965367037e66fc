use Rattle.std.proofs.Common.{None, refl, sym, ◌∙◌, arith}
use Rattle.gw_table.proofs.LookupLaws.{pairs_of-alike}
use Rattle.gw_table.proofs.RoomLaws.{length-le_values, longer_alike, listed_longer}
use Rattle.gw_table.proofs.table.Table.grow.Goals as goal

pub overflow_sub-size : goal.overflow_sub-size
overflow_sub-size g c =
    let few = length-le_values _ _ c.self.invariant in
    grind (arith, few)

pub invariant_of-self-in-Continue-branch-2 : goal.invariant_of-self-in-Continue-branch-2
invariant_of-self-in-Continue-branch-2 g c =
    let old = c.self.inside.values.ok.0 in
    let short = c.self.invariant.short in
    let long = sym c.resize.new.self.ok.0 ∙ c.in_ok-resize.ensures.len in
    let alike = longer_alike c.self.inside.values.items c.resize.new.self.items c.max-size.result long
    (λ k l. c.in_ok-resize.ensures.by_index.0 k None (omega (arith, l, old)) (omega (arith, l, old)))
    (λ k past l. c.in_ok-resize.ensures.by_index.1 k None refl (omega (arith, past, old)) l) in
    rw c.reserve.ensures.items (listed_longer _ _ _ c.self.invariant alike (omega (arith, short, long, old)))

pub returns-in_ok-resize-clause-entries : goal.returns-in_ok-resize-clause-entries
returns-in_ok-resize-clause-entries g c =
    let old = c.self.inside.values.ok.0 in
    let long = sym c.resize.new.self.ok.0 ∙ c.in_ok-resize.ensures.len in
    let alike = longer_alike c.self.inside.values.items c.resize.new.self.items c.max-size.result long
    (λ k l. c.in_ok-resize.ensures.by_index.0 k None (omega (arith, l, old)) (omega (arith, l, old)))
    (λ k past l. c.in_ok-resize.ensures.by_index.1 k None refl (omega (arith, past, old)) l) in
    rw (← c.self.view_is, c.reserve.ensures.items) (pairs_of-alike c.resize.new.self.items c.self.inside.values.items _ (λ n _. alike n))
