use Rattle.std.proofs.Common.{◌≡◌, length, arith, rules}
use Rattle.gw_entities.specs.declared.values.Block.{Block}
use Rattle.gw_entities.specs.Values.{block_values}
use Rattle.gw_entities.proofs.Blocks.{more_full, more_count}
use Rattle.gw_entities.proofs.values.Values.settle.Goals as goal

pub invariant_of-self-2 : goal.invariant_of-self-2
invariant_of-self-2 c =
    let bs = c.self.inside.blocks.items in
    let b : Block = record { values = c.in_ok-values.values } in
    let full : length (block_values b) ≡ 4096 = search rules in
    let bound = c.if-self-gt-LIMIT.false in
    let count = c.self.invariant.0 in
    let more = more_count bs b full in
    rw c.in_ok-push.ensures.items (omega (arith, count, more), omega (arith, bound), more_full bs b c.self.invariant.2 full)
