use Rattle.std.proofs.Common.{◌≤◌, ◌/◌, length, arith, rules}
use Rattle.gw_shared.specs.Lists.{chunk_items}
use Rattle.gw_shared.proofs.Laws.{insert_front, insert_back}
use Rattle.gw_shared.proofs.chunk.Chunk.insert_splitting.Goals as goal
use Rattle.gw_shared.proofs.chunk.Chunk.insert_splitting.Goals.{then-index-half, else-index-half}

pub returns-clause-items : goal.returns-clause-items
returns-clause-items g c =
    let xs = chunk_items c.args.self.now in
    let half = c.len-half.result / 2 in
    let within : half ≤ length xs = search rules in
    elim c.if-index-half.branch [
      | then-index-half w ↦
          let low : c.args.index ≤ half = search rules in
          let e = insert_front xs half c.args.index c.args.x within low in grind arith
      | else-index-half w ↦
          let high : half ≤ c.args.index = omega arith in
          let e = insert_back xs half c.args.index c.args.x within high in grind arith
    ]
