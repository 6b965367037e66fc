use Rattle.std.proofs.Common.{◌+◌, length, ◌<◌, sym, drop, refl, ap, ◌∙◌, arith}
use Rattle.std.proofs.lemmas.List.{length-drop}
use Rattle.std.proofs.lemmas.List.Edits.{length-remove}
use Rattle.gw_shared.proofs.Full as full
use Rattle.gw_shared.specs.Lists.{joined}
use Rattle.gw_shared.proofs.Laws.{remove_behind, get_behind}
use Rattle.gw_shared.proofs.long.LongList.remove.Goals as goal

pub returns-clause-items : goal.returns-clause-items
returns-clause-items g c =
    let xs = joined c.self.inside.chunks.items in
    let gone = c.self.inside.gone in
    let (long, less, most, are) = c.self.invariant in
    rw (← c.self.view_is)
    (ap (λ l. drop gone l) c.remove_in-x.ensures.items ∙ remove_behind xs gone c.args.index (gone + c.args.index) refl (omega (arith, long, less)))

pub returns-clause-value : goal.returns-clause-value
returns-clause-value g c =
    let xs = joined c.self.inside.chunks.items in
    let gone = c.self.inside.gone in
    rw (← c.self.view_is) (sym (get_behind xs gone c.args.index (gone + c.args.index) refl) ∙ c.remove_in-x.ensures.value)

pub invariant_of-self : goal.invariant_of-self
invariant_of-self g c =
    let cs = c.self.inside.chunks.items in
    let xs = joined cs in
    let j = c.self.inside.gone + c.args.index in
    let (long, less, most, are) = c.self.invariant in
    let there = rw (← c.self.view_is) at c.requires.within in
    let behind = length-drop c.self.inside.gone xs in
    let within : j < length xs = omega (arith, there, behind, long, less) in
    let e = ap (λ l. length l) c.remove_in-x.ensures.items in
    let fewer = length-remove xs j within in
    let m = c.min-self-inside.result in
    let is = c.min-self-inside.ensures in (
      omega (arith, e, fewer, long),
      omega (arith, long, within),
      omega (arith, most),
      c.remove_in-x.ensures.full m (omega (arith, is)) (full.fewer c.self.inside.full m cs are (omega (arith, is))),
    )
