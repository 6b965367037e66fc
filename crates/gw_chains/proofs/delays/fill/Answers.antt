use Rattle.std.proofs.Common.{◌<◌, ◌≤◌, ◌∷◌, [], length, length-append, max, ap}
use Rattle.std.proofs.Common.{◌∙◌, arith, rules}
use Rattle.std.proofs.lemmas.Grind.{common_steps}
use Rattle.gw_chains.proofs.Beside.{one_more}
use Rattle.gw_chains.proofs.delays.fill.Goals as goal

pub loop-alloc-preserved : goal.loop-alloc-preserved
loop-alloc-preserved c =
    let cs = c.loop-alloc.chains.items in
    let own = c.new.result in
    let some : length cs < c.args.count = search rules in
    let more = ap length c.in_ok-push.ensures.items ∙ length-append cs (own ∷ []) in
    let long : length c.push.new.self.items ≤ max (length c.args.chains.now.items) c.args.count =
    grind (arith, common_steps) in (
      long,
      λ keys.
          rw c.in_ok-push.ensures.items (one_more keys cs own c.new.ensures ∙ c.loop-alloc.invariant.1 keys),
    )
