use Rattle.std.proofs.Common.{◌==◌, ◌∙◌, sym, arith, w64}
use Rattle.std.proofs.lemmas.Simd.{bitmask_splat}
use Rattle.gw_lanes.proofs.Firsts.{none_marked, place_of_mark, place_within}
use Rattle.gw_lanes.proofs.lanes.first_lane.Goals as goal

pub returns-then-equal-eq0-clause-place : goal.returns-then-equal-eq0-clause-place
returns-then-equal-eq0-clause-place c =
    let value = c.args.value in
    let block = c.args.block.now in
    sym (none_marked value block (sym (bitmask_splat w64 (λ m n. m == n) block 8 value c.told-block (omega arith)) ∙ c.if-equal-eq0.true))

pub returns-clause-place : goal.returns-clause-place
returns-clause-place c =
    let value = c.args.value in
    let block = c.args.block.now in
    place_of_mark value block _ (bitmask_splat w64 (λ m n. m == n) block 8 value c.told-block (omega arith)) (omega (arith, c.told-block)) c.if-equal-eq0.false

pub returns-clause-bound : goal.returns-clause-bound
returns-clause-bound c =
    let value = c.args.value in
    let block = c.args.block.now in
    omega (arith, c.told-block, place_within value block _ (returns-clause-place c))
