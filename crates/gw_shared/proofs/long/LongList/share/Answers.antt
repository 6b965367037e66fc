use Rattle.std.proofs.Common.{length, drop, sym, ap, ◌∙◌}
use Rattle.gw_shared.specs.Lists.{chunk_items}
use Rattle.gw_shared.proofs.Laws.{same_parts}
use Rattle.gw_shared.proofs.Full as full
use Rattle.gw_shared.proofs.long.LongList.share.Goals as goal

pub invariant_of-self : goal.invariant_of-self
invariant_of-self g c =
    let old = c.self.inside.chunks.items in
    let new = c.share_all.new.chunks.items in
    let (long, less, most, are) = c.self.invariant in
    let same = same_parts chunk_items new old c.share_all.ensures.same in
    (long ∙ ap (λ l. length l) (sym same), less, most, full.same c.self.inside.full old new c.share_all.ensures.same are)

pub returns-clause-items : goal.returns-clause-items
returns-clause-items g c =
    rw (← c.self.view_is)
    (ap (λ l. drop c.self.inside.gone l) (same_parts chunk_items c.share_all.new.chunks.items c.self.inside.chunks.items c.share_all.ensures.same))
