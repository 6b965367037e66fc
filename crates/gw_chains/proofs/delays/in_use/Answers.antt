use Rattle.std.proofs.Common.{◌≡◌, ◌-◌, ◌<◌, suc, length, take, sym, ap, ◌∙◌, arith, rules}
use Rattle.gw_chains.specs.Chains.{delays_of}
use Rattle.gw_chains.specs.Delays.{chains_of}
use Rattle.gw_chains.proofs.Beside.{no_items, one_less}
use Rattle.gw_chains.proofs.delays.in_use.Goals as goal

pub loop-count-preserved : goal.loop-count-preserved
loop-count-preserved c =
    let cs = c.args.chains.now in
    let i = c.loop-count.count - 1 in
    let some : 0 < c.loop-count.count = search rules in
    let most = c.loop-count.invariant.0 in
    let within : i < length cs = omega (arith, some, most) in
    let next : suc i ≡ c.loop-count.count = omega (arith, some) in
    let none = no_items c.index-chains-count.result.items (sym c.is_empty.ensures ∙ c.if-is_empty.true) in (
      omega (arith, most),
      λ keys.
          one_less keys cs i c.index-chains-count.result within c.index-chains-count.is none ∙
          (ap (λ m. delays_of (chains_of keys (take m cs))) next ∙ c.loop-count.invariant.1 keys),
    )
