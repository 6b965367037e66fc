use mathlib.Core.Logic.{inl}
use Rattle.std.proofs.Common.{◌≡◌, ◌/◌, ◌%◌, None, length, refl, set, ap, sym, ◌∙◌, arith, rules}
use Rattle.std.proofs.lemmas.List.{get_or-set_same, length-set}
use Rattle.std.proofs.lemmas.Option.{slice_get_read}
use Rattle.std.specs.List.{slice_get}
use Rattle.std.specs.Vec.{vec_len, with_item}
use Rattle.gw_shared.specs.declared.values.Block.{Block}
use Rattle.gw_shared.specs.Values.{block_values, in_blocks}
use Rattle.gw_shared.proofs.Laws.{get_in, same_set, same_parts}
use Rattle.gw_shared.proofs.Laid.{stands, changed, same_laid, own_values, alike}
use Rattle.gw_shared.proofs.values.SharedValues.at_mut.Goals as goal

pub index_mut-requires : goal.index_mut-requires
index_mut-requires g c =
    let bs = c.self.inside.blocks.items in
    let there = rw (← c.self.view_is) at c.requires in
    let all : vec_len c.self.inside.blocks ≡ length bs = search rules in
    rw all (stands block_values bs c.args.index c.self.invariant.1 there).within

pub invariant_of-self : goal.invariant_of-self
invariant_of-self g c =
    let bs = c.self.inside.blocks.items in
    let new = set bs (c.args.index / 16) c.own.new.self in
    let same = same_set block_values bs (c.args.index / 16) c.index_mut.result.now c.own.new.self c.index_mut.ensures.value c.own.ensures.values in (
      c.self.invariant.0 ∙ ap length (sym (same_parts block_values new bs same)),
      same_laid block_values bs new same c.self.invariant.1,
    )

pub returns-in_err-own : goal.returns-in_err-own
returns-in_err-own g c =
    let bs = c.self.inside.blocks.items in
    let q = c.args.index / 16 in
    let new = set bs q c.own.new.self in
    let same = same_set block_values bs q c.index_mut.result.now c.own.new.self c.index_mut.ensures.value c.own.ensures.values in
    let list : in_blocks new ≡ c.args.self.now = same_parts block_values new bs same ∙ c.self.view_is in
    search rules

pub index_mut-block-requires : goal.index_mut-block-requires
index_mut-block-requires g c =
    let bs = c.self.inside.blocks.items in
    let there = rw (← c.self.view_is) at c.requires in
    let all : c.self.inside.blocks.len ≡ length bs = search rules in
    rw all (stands block_values bs c.args.index c.self.invariant.1 there).within

pub index_mut-requires-2 : goal.index_mut-requires-2
index_mut-requires-2 g c =
    let bs = c.self.inside.blocks.items in
    let q = c.args.index / 16 in
    let there = rw (← c.self.view_is) at c.requires in
    let place = stands block_values bs c.args.index c.self.invariant.1 there in
    let inside = place.inside c.index_mut.result.now c.index_mut.ensures.value in
    let own : c.index_mut-block.result.now ≡ c.own.new.self = c.index_mut-block.ensures.value ∙ get_or-set_same bs q c.own.new.self _ place.within in
    let alone : c.index_mut-block.result.now.shared ≡ None = ap (λ b. b.shared) own ∙ c.in_ok-own.ensures.own in
    let values = sym (own_values c.index_mut-block.result.now alone) ∙ (ap block_values own ∙ c.own.ensures.values) in
    let long = ap length values in
    let all : vec_len c.index_mut-block.result.now.own ≡ length c.index_mut-block.result.now.own.items = search rules in
    rw all (omega (arith, inside, long))

pub invariant_of-self-lent : goal.invariant_of-self-lent
invariant_of-self-lent g c = λ w.
    let bs = c.self.inside.blocks.items in
    let i = c.args.index in
    let x = c.index_mut.result.now in
    let z = c.index_mut-block.result.now in
    let there = rw (← c.self.view_is) at c.requires in
    let place = stands block_values bs i c.self.invariant.1 there in
    let own : z ≡ c.own.new.self = c.index_mut-block.ensures.value ∙ get_or-set_same bs (i / 16) c.own.new.self _ place.within in
    let alone : z.shared ≡ None = ap (λ b. b.shared) own ∙ c.in_ok-own.ensures.own in
    let values = sym (own_values z alone) ∙ (ap block_values own ∙ c.own.ensures.values) in
    let new : Block g.row.V.Denot = record { shared = z.shared; own = with_item z.own (i % 16) w } in
    let written = own_values new alone ∙ ap (λ l. set l (i % 16) w) values in
    let all = changed block_values bs i x c.own.new.self new w c.self.invariant.1 there c.index_mut.ensures.value written in
    (c.self.invariant.0 ∙ (sym (length-set (in_blocks bs) i w) ∙ ap length (sym all.0)), all.1)

pub returns : goal.returns
returns g c =
    let bs = c.self.inside.blocks.items in
    let i = c.args.index in
    let x = c.index_mut.result.now in
    let z = c.index_mut-block.result.now in
    let there = rw (← c.self.view_is) at c.requires in
    let place = stands block_values bs i c.self.invariant.1 there in
    let inside = place.inside x c.index_mut.ensures.value in
    let own : z ≡ c.own.new.self = c.index_mut-block.ensures.value ∙ get_or-set_same bs (i / 16) c.own.new.self _ place.within in
    let alone : z.shared ≡ None = ap (λ b. b.shared) own ∙ c.in_ok-own.ensures.own in
    let values = sym (own_values z alone) ∙ (ap block_values own ∙ c.own.ensures.values) in
    let long = ap length values in
    let found = slice_get_read z.own.items (length z.own.items) (i % 16) _ refl (omega (arith, inside, long)) c.index_mut-2.ensures.value in (
      ap (λ F. inl (c.index_mut-2.result.ghost_name, F)) (alike _ _ λ w.
          let new : Block g.row.V.Denot = record { shared = z.shared; own = with_item z.own (i % 16) w } in
          let written = own_values new alone ∙ ap (λ l. set l (i % 16) w) values in
          (changed block_values bs i x c.own.new.self new w c.self.invariant.1 there c.index_mut.ensures.value written).0 ∙ ap (λ l. set l i w) c.self.view_is),
      record {
        value = rw (← c.self.view_is) (get_in block_values bs (i / 16) (i % 16) i x place.within c.index_mut.ensures.value place.before inside
            ∙ (ap (λ l. slice_get l (i % 16)) (sym values) ∙ found));
        writes_back = tt;
      },
    )
