use Rattle.std.proofs.Common.{◌≡◌, ◌≤◌, ◌++◌, ◌∷◌, [], length, arith, rules}
use Rattle.std.specs.Vec.{vec_capacity}
use Rattle.gw_shared.specs.declared.growing.Block.{Block}
use Rattle.gw_shared.specs.Growing.{block_items}
use Rattle.gw_shared.proofs.Blocks.{more_full, more_count}
use Rattle.gw_shared.proofs.growing.Growing.settle.Goals as goal

pub invariant_of-self-in-Ok : goal.invariant_of-self-in-Ok
invariant_of-self-in-Ok g c =
    let bs = c.self.inside.blocks.items in
    let b : Block g.row.T.Denot = record { items = c.in-Ok.items } in
    let full : length (block_items b) ≡ 1024 = search rules in
    let bound = c.if-self-gt-LIMIT.false in
    let count = c.self.invariant.0 in
    let more = more_count block_items bs b full in
    let pushed : c.push_reserved.new.self.items ≡ bs ++ b ∷ [] = search rules in
    let room : 1024 ≤ vec_capacity c.replace.new.dest = search rules in
    rw pushed (omega (arith, count, more), omega (arith, bound), more_full block_items bs b c.self.invariant.2 full, λ some. room)
