use Rattle.std.proofs.Common.{◌≡◌, ◌/◌, ◌%◌, length, refl, ap, sym, ◌∙◌, arith, rules}
use Rattle.std.proofs.lemmas.Option.{slice_get_read}
use Rattle.std.specs.List.{slice_get}
use Rattle.std.specs.Vec.{vec_len}
use Rattle.gw_shared.specs.Values.{block_values}
use Rattle.gw_shared.proofs.Laws.{get_in}
use Rattle.gw_shared.proofs.Laid.{stands}
use Rattle.gw_shared.proofs.values.SharedValues.at.Goals as goal

pub index-requires : goal.index-requires
index-requires g c =
    let bs = c.self.inside.blocks.items in
    let there = rw (← c.self.view_is) at c.requires in
    let all : vec_len c.self.inside.blocks ≡ length bs = search rules in
    rw all (stands block_values bs c.args.index c.self.invariant.1 there).within

pub offset_bounds-values-index : goal.offset_bounds-values-index
offset_bounds-values-index g c =
    let bs = c.self.inside.blocks.items in
    let there = rw (← c.self.view_is) at c.requires in
    let inside = (stands block_values bs c.args.index c.self.invariant.1 there).inside c.index.result.now c.index.ensures in
    let long = ap length c.values.ensures in
    omega (arith, inside, long)

pub bounds-values-index : goal.bounds-values-index
bounds-values-index g c =
    let bs = c.self.inside.blocks.items in
    let there = rw (← c.self.view_is) at c.requires in
    let inside = (stands block_values bs c.args.index c.self.invariant.1 there).inside c.index.result.now c.index.ensures in
    let long = ap length c.values.ensures in
    omega (arith, inside, long)

pub returns : goal.returns
returns g c =
    let bs = c.self.inside.blocks.items in
    let i = c.args.index in
    let there = rw (← c.self.view_is) at c.requires in
    let b = c.index.result.now in
    let place = stands block_values bs i c.self.invariant.1 there in
    let inside = place.inside b c.index.ensures in
    let xs = c.values.result.now in
    let long = ap length c.values.ensures in
    let found = slice_get_read xs (length xs) (i % 16) _ refl (omega (arith, inside, long)) c.index-values-index.is in
    rw (← c.self.view_is) (get_in block_values bs (i / 16) (i % 16) i b place.within c.index.ensures place.before inside
    ∙ (ap (λ l. slice_get l (i % 16)) (sym c.values.ensures) ∙ found))
