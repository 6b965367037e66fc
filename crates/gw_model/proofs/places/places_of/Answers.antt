use Rattle.std.proofs.Common.{◌≡◌, ◌≤◌, length, filter, take, arith}
use Rattle.std.proofs.lemmas.Grind.{common_steps}
use Rattle.std.proofs.lemmas.List.{length-take-le}
use Rattle.gw_meaning.specs.Listing.{is_block}
use Rattle.gw_model.proofs.Answering.{no_more_blocks}
use Rattle.gw_model.proofs.places.places_of.Goals as goal

pub loop-index-init : goal.loop-index-init
loop-index-init c = grind (arith, common_steps)

pub overflow_cast-position : goal.overflow_cast-position
overflow_cast-position c =
    let front = take c.loop-index.index c.args.lines.now in
    let few : length (filter is_block front) ≤ length front = no_more_blocks front in
    let size : length front ≡ c.loop-index.index = length-take-le c.loop-index.index c.args.lines.now c.loop-index.invariant.within in
    let counted : c.loop-index.before ≡ length (filter is_block front) = c.loop-index.invariant.counted in
    let within : c.loop-index.index ≤ length c.args.lines.now = c.loop-index.invariant.within in
    let most : length c.args.lines.now ≤ 2000 = c.requires in
    omega arith

pub overflow_sub-before : goal.overflow_sub-before
overflow_sub-before c = grind (arith, common_steps)

pub overflow_cast-place : goal.overflow_cast-place
overflow_cast-place c = grind (arith, common_steps)

pub loop-index-preserved-then-is_block : goal.loop-index-preserved-then-is_block
loop-index-preserved-then-is_block c = grind (arith, common_steps)

pub loop-index-preserved : goal.loop-index-preserved
loop-index-preserved c = grind (arith, common_steps)

pub returns : goal.returns
returns c = grind (arith, common_steps)
