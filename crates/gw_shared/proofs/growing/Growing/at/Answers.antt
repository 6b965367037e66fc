use Rattle.std.proofs.Common.{◌≡◌, ◌%◌, ◌<◌, length, refl, ap, sym, ◌∙◌, arith, rules}
use Rattle.std.proofs.lemmas.Nat.{mod_below}
use Rattle.std.proofs.lemmas.Option.{slice_get_read}
use Rattle.std.specs.List.{slice_get}
use Rattle.std.specs.Vec.{vec_len}
use Rattle.gw_shared.specs.Growing.{block_items, in_blocks}
use Rattle.gw_shared.proofs.Blocks.{within, whole, item, in_front}
use Rattle.gw_shared.proofs.growing.Growing.at.Goals as goal

pub index-requires-2 : goal.index-requires-2
index-requires-2 g c =
    let bs = c.self.inside.blocks.items in
    let count = c.self.invariant.0 in
    let test = c.if-index-self.false in
    let all : vec_len c.self.inside.blocks ≡ length bs = search rules in
    rw all (within block_items bs c.args.index c.self.invariant.2 (omega (arith, count, test)))

pub index-requires-3 : goal.index-requires-3
index-requires-3 g c =
    let bs = c.self.inside.blocks.items in
    let count = c.self.invariant.0 in
    let test = c.if-index-self.false in
    let there = within block_items bs c.args.index c.self.invariant.2 (omega (arith, count, test)) in
    let all = whole block_items bs _ c.index-2.result.now c.self.invariant.2 there c.index-2.ensures in
    let items : vec_len c.deref.result.now ≡ length (block_items c.index-2.result.now) = search rules in
    let small = mod_below c.args.index 1024 (omega arith) in
    rw items (omega (arith, all, small))

pub returns : goal.returns
returns g c =
    let bs = c.self.inside.blocks.items in
    let count = c.self.invariant.0 in
    let test = c.if-index-self.false in
    let i = c.args.index in
    let inside : i < length (in_blocks bs) = omega (arith, count, test) in
    let there = within block_items bs i c.self.invariant.2 inside in
    let b = c.index-2.result.now in
    let all = whole block_items bs _ b c.self.invariant.2 there c.index-2.ensures in
    let small = mod_below i 1024 (omega arith) in
    let xs = c.deref.result.now.items in
    let items : xs ≡ block_items b = search rules in
    let long = ap length items in
    let found = slice_get_read xs (length xs) (i % 1024) _ refl (omega (arith, all, long, small)) c.index-3.ensures in
    rw (← c.self.view_is) (in_front (in_blocks bs) c.self.inside.last.items i inside ∙ (item block_items bs i b c.self.invariant.2 inside c.index-2.ensures ∙
    (ap (λ l. slice_get l (i % 1024)) (sym items) ∙ found)))
