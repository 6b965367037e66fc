use Rattle.std.proofs.Common.{◌<◌, length, length-set, arith, refl, ap}
use Rattle.gw_chains.specs.Blocks.{all_items}
use Rattle.gw_chains.proofs.Leasts.{nobody_there}
use Rattle.gw_chains.proofs.FutureLaws.{on_block, one_less, passing, before_block, sizes, block_stays, block_goes, removed, passed_all}
use Rattle.gw_chains.proofs.future.take_from_full.Goals as goal

pub loop-index-init : goal.loop-index-init
loop-index-init c = record {
  passed = passing c.args.time c.args.blocks.now.items c.args.current.now.items 18446744073709551615 c.requires.before refl;
  room = c.requires.room;
  taken = omega arith;
}

pub take_due-stay-requires-clause-room : goal.take_due-stay-requires-clause-room
take_due-stay-requires-clause-room c =
    let bs = c.loop-index.blocks.items in
    let within : c.loop-index.index < length bs = omega (arith, c.loop-index-test.true, c.len.ensures) in
    omega (arith, c.loop-index.invariant.room, on_block bs c.loop-index.index c.index_mut.result.now within c.index_mut.ensures.value)

pub take_due-stay-requires-clause-before : goal.take_due-stay-requires-clause-before
take_due-stay-requires-clause-before c =
    let bs = c.loop-index.blocks.items in
    let within : c.loop-index.index < length bs = omega (arith, c.loop-index-test.true, c.len.ensures) in
    before_block c.args.time (all_items c.args.blocks.now.items) c.args.current.now.items bs c.loop-index.index c.loop-index.least
    c.loop-index.current.items c.loop-index.invariant.passed c.index_mut.result.now within c.index_mut.ensures.value

pub loop-index-smaller-then-stay : goal.loop-index-smaller-then-stay
loop-index-smaller-then-stay c =
    let bs = c.loop-index.blocks.items in
    let i = c.loop-index.index in
    let within : i < length bs = omega (arith, c.loop-index-test.true, c.len.ensures) in
    omega (arith, within, ap length c.remove.ensures.items, one_less bs i c.take_due-stay.new.self within)

pub loop-index-preserved-then-stay : goal.loop-index-preserved-then-stay
loop-index-preserved-then-stay c =
    let bs = c.loop-index.blocks.items in
    let i = c.loop-index.index in
    let b = c.index_mut.result.now in
    let u = c.take_due-stay.new.self in
    let h = c.loop-index.invariant in
    let all = all_items c.args.blocks.now.items in
    let start = c.args.current.now.items in
    let within : i < length bs = omega (arith, c.loop-index-test.true, c.len.ensures) in
    let kept = c.take_due-stay.ensures.future in
    let nobody = nobody_there c.take_due-stay.result u.items c.take_due-stay.ensures.least c.if-stay.true in
    let size = sizes bs i b u within c.index_mut.ensures.value in
    let same = removed bs i u within nobody in
    record {
      passed = rw (c.remove.ensures.items, c.take_due-stay.ensures.current)
          (block_goes c.args.time all start bs i c.loop-index.least c.loop-index.current.items h.passed b within c.index_mut.ensures.value u kept nobody);
      room = omega (arith, h.room, size, c.take_due-stay.ensures.room, ap (λ cs. length (all_items cs)) c.remove.ensures.items, ap length same);
      taken = omega (arith, h.taken, size, c.take_due-stay.ensures.room, ap (λ cs. length (all_items cs)) c.remove.ensures.items, ap length same);
    }

pub loop-index-smaller : goal.loop-index-smaller
loop-index-smaller c =
    let bs = c.loop-index.blocks.items in
    omega (arith, c.loop-index-test.true, c.len.ensures, length-set bs c.loop-index.index c.take_due-stay.new.self)

pub loop-index-preserved : goal.loop-index-preserved
loop-index-preserved c =
    let bs = c.loop-index.blocks.items in
    let i = c.loop-index.index in
    let b = c.index_mut.result.now in
    let u = c.take_due-stay.new.self in
    let h = c.loop-index.invariant in
    let all = all_items c.args.blocks.now.items in
    let start = c.args.current.now.items in
    let within : i < length bs = omega (arith, c.loop-index-test.true, c.len.ensures) in
    let kept = c.take_due-stay.ensures.future in
    let size = sizes bs i b u within c.index_mut.ensures.value in
    record {
      passed = rw (c.min-least.ensures, c.take_due-stay.ensures.current)
          (block_stays c.args.time all start bs i c.loop-index.least c.loop-index.current.items h.passed b within c.index_mut.ensures.value u kept
          c.take_due-stay.result c.take_due-stay.ensures.least);
      room = omega (arith, h.room, size, c.take_due-stay.ensures.room);
      taken = omega (arith, h.taken, size, c.take_due-stay.ensures.room);
    }

pub returns-clause-current : goal.returns-clause-current
returns-clause-current c =
    let bs = c.loop-index.blocks.items in
    let end = passed_all c.args.time (all_items c.args.blocks.now.items) c.args.current.now.items bs c.loop-index.index c.loop-index.least
    c.loop-index.current.items c.loop-index.invariant.passed (omega (arith, c.loop-index-test.false, c.len.ensures)) in
    end.0

pub returns-clause-future : goal.returns-clause-future
returns-clause-future c =
    let bs = c.loop-index.blocks.items in
    let end = passed_all c.args.time (all_items c.args.blocks.now.items) c.args.current.now.items bs c.loop-index.index c.loop-index.least
    c.loop-index.current.items c.loop-index.invariant.passed (omega (arith, c.loop-index-test.false, c.len.ensures)) in
    end.1

pub returns-clause-room : goal.returns-clause-room
returns-clause-room c = omega (arith, c.loop-index.invariant.taken)

pub returns-clause-least : goal.returns-clause-least
returns-clause-least c =
    let bs = c.loop-index.blocks.items in
    let end = passed_all c.args.time (all_items c.args.blocks.now.items) c.args.current.now.items bs c.loop-index.index c.loop-index.least
    c.loop-index.current.items c.loop-index.invariant.passed (omega (arith, c.loop-index-test.false, c.len.ensures)) in
    end.2
