use Rattle.std.proofs.Common.{arith}
use Rattle.std.specs.Prelude.{int_le}
use Rattle.std.proofs.lemmas.Int.{to_z-of_z}
use Rattle.std.proofs.lemmas.List.Sums.{count_by-le-length}
use Rattle.gw_lanes.proofs.Classes.{in_block}
use Rattle.gw_lanes.proofs.counts.count_in_block.Goals as goal

pub returns-clause-value : goal.returns-clause-value
returns-clause-value c =
    in_block _ (λ y z f g. grind (arith, to_z-of_z)) c.args.limit c.ranges.limit c.args.block.now c.each_fits.ensures c.told-block

pub returns-clause-bound : goal.returns-clause-bound
returns-clause-bound c =
    omega (arith, returns-clause-value c, count_by-le-length (λ z. int_le z c.args.limit) c.args.block.now, c.told-block)
