use Rattle.std.proofs.Common.{◌+◌, drop, refl, ap, ◌∙◌, arith}
use Rattle.gw_shared.specs.Lists.{joined}
use Rattle.gw_shared.proofs.Laws.{set_behind}
use Rattle.gw_shared.proofs.long.LongList.set.Goals as goal

pub returns-clause-items : goal.returns-clause-items
returns-clause-items g c =
    let xs = joined c.self.inside.chunks.items in
    let gone = c.self.inside.gone in
    let (long, less, most, are) = c.self.invariant in
    rw (← c.self.view_is)
    (ap (λ l. drop gone l) c.set_in.ensures.items ∙ set_behind xs gone c.args.index (gone + c.args.index) c.args.x refl (omega (arith, long, less)))
