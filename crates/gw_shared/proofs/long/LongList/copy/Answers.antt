use Rattle.std.proofs.Common.{length, drop, sym, ap, ◌∙◌}
use Rattle.gw_shared.specs.Lists.{chunk_items}
use Rattle.gw_shared.proofs.Laws.{same_parts}
use Rattle.gw_shared.proofs.Full as full
use Rattle.gw_shared.proofs.long.LongList.copy.Goals as goal

pub invariant_of-result : goal.invariant_of-result
invariant_of-result g c =
    let old = c.self.inside.chunks.items in
    let new = c.in_ok-copies.field-0.items in
    let (long, less, most, are) = c.self.invariant in
    let same = same_parts chunk_items new old c.in_ok-copies.ensures in
    (long ∙ ap (λ l. length l) (sym same), less, most, full.same c.self.inside.full old new c.in_ok-copies.ensures are)

pub returns : goal.returns
returns g c =
    rw (← c.self.view_is)
    (ap (λ l. drop c.self.inside.gone l) (same_parts chunk_items c.in_ok-copies.field-0.items c.self.inside.chunks.items c.in_ok-copies.ensures))
