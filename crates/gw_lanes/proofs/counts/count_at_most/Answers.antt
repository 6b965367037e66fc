use Rattle.std.proofs.Common.{arith, w32}
use Rattle.std.specs.Prelude.{int_le}
use Rattle.std.proofs.lemmas.Int.{to_z-of_z}
use Rattle.std.proofs.lemmas.List.Sums.{count_by-le-length}
use Rattle.gw_lanes.proofs.Classes.{counted}
use Rattle.gw_lanes.proofs.counts.count_at_most.Goals as goal

pub returns-clause-value : goal.returns-clause-value
returns-clause-value c =
    counted c.args.limit _ c.args.values.now c.as_chunks.result.1.now c.as_chunks.result.0.now c.count_in_blocks.result c.count_each.result
    (to_z-of_z w32 c.args.limit c.ranges.limit) c.as_chunks.ensures.front c.as_chunks.ensures.back c.count_in_blocks.ensures c.count_each.ensures.value

pub returns-clause-bound : goal.returns-clause-bound
returns-clause-bound c = omega (arith, returns-clause-value c, count_by-le-length (λ z. int_le z c.args.limit) c.args.values.now)

pub overflow_add-result : goal.overflow_add-result
overflow_add-result c =
    record { fits = omega (arith, returns-clause-value c, count_by-le-length (λ z. int_le z c.args.limit) c.args.values.now) }
