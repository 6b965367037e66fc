use Rattle.std.proofs.Common.{◌≡◌, ◌-◌, ◌%◌, ◌/◌, ◌<◌, ◌++◌, length, take, ap, ap₂, sym, ◌∙◌, arith, rules}
use Rattle.std.proofs.lemmas.Nat.{div-add-mod', mod_below}
use Rattle.std.proofs.lemmas.List.{length-take-le, take-append-le}
use Rattle.std.specs.Vec.{vec_len}
use Rattle.gw_shared.specs.Growing.{block_items, in_blocks}
use Rattle.gw_shared.proofs.Blocks.{within, whole, front, taken, taken_full, take_behind}
use Rattle.gw_shared.proofs.growing.Growing.truncate.Goals as goal

pub returns-then-count-self : goal.returns-then-count-self
returns-then-count-self g c =
    let xs = in_blocks c.self.inside.blocks.items in
    let last = c.self.inside.last.items in
    let n = c.args.count - c.self.inside.settled in
    let count = c.self.invariant.0 in
    let test = c.if-count-self.true in
    rw (← c.self.view_is) (ap (λ l. xs ++ l) c.truncate.ensures.items ∙ sym (take_behind xs last n c.args.count (omega (arith, count, test))))

pub index-requires : goal.index-requires
index-requires g c =
    let bs = c.self.inside.blocks.items in
    let count = c.self.invariant.0 in
    let test = c.if-count-self.false in
    let all : vec_len c.self.inside.blocks ≡ length bs = search rules in
    rw all (within block_items bs c.args.count c.self.invariant.2 (omega (arith, count, test)))

pub slice_bounds-extend_from_slice-end : goal.slice_bounds-extend_from_slice-end
slice_bounds-extend_from_slice-end g c =
    let bs = c.self.inside.blocks.items in
    let count = c.self.invariant.0 in
    let test = c.if-count-self.false in
    let there = within block_items bs c.args.count c.self.invariant.2 (omega (arith, count, test)) in
    let all = whole block_items bs _ c.index.result.now c.self.invariant.2 there c.index.ensures in
    let items : length c.as_slice.result.now ≡ length (block_items c.index.result.now) = search rules in
    let small = mod_below c.args.count 1024 (omega arith) in
    sym (length-take-le (c.args.count % 1024) c.as_slice.result.now (omega (arith, all, items, small)))

pub invariant_of-self-2 : goal.invariant_of-self-2
invariant_of-self-2 g c =
    let bs = c.self.inside.blocks.items in
    let count = c.self.invariant.0 in
    let bound = c.self.invariant.1 in
    let test = c.if-count-self.false in
    let there = within block_items bs c.args.count c.self.invariant.2 (omega (arith, count, test)) in
    let parts = div-add-mod' c.args.count 1024 in
    let room = c.self.invariant.3 (omega (arith, there)) in
    rw c.truncate-2.ensures.items (
      sym (front block_items bs (c.args.count / 1024) c.self.invariant.2 (omega (arith, there))),
      omega (arith, bound, test, parts),
      taken_full block_items bs (c.args.count / 1024) c.self.invariant.2,
      λ some. omega (arith, room, c.clear.ensures.capacity, c.extend_from_slice.ensures.capacity),
    )

pub returns : goal.returns
returns g c =
    let bs = c.self.inside.blocks.items in
    let xs = in_blocks bs in
    let n = c.args.count in
    let count = c.self.invariant.0 in
    let test = c.if-count-self.false in
    let inside : n < length xs = omega (arith, count, test) in
    let b = c.index.result.now in
    let items : c.as_slice.result.now ≡ block_items b = search rules in
    let last : c.extend_from_slice.new.self.items ≡ take (n % 1024) (block_items b) =
    c.in-Ok.ensures.items ∙ ap₂ (λ l m. l ++ take (n % 1024) m) c.clear.ensures.items items in
    rw (← c.self.view_is) (ap₂ (λ l m. in_blocks l ++ m) c.truncate-2.ensures.items last ∙
    (sym (taken block_items bs n b c.self.invariant.2 inside c.index.ensures) ∙ sym (take-append-le n xs c.self.inside.last.items (omega (arith, inside)))))
