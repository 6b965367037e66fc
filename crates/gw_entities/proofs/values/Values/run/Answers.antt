use Rattle.std.proofs.Common.{◌≡◌, ◌+◌, ◌%◌, ◌<◌, length, ap, ◌∙◌, arith, rules, sym, refl}
use Rattle.std.proofs.lemmas.List.{length-drop}
use Rattle.std.proofs.lemmas.Nat.{div-add-mod'}
use Rattle.std.specs.List.{slice_get}
use Rattle.std.specs.Vec.{vec_len}
use Rattle.gw_shared.proofs.Laws.{get_behind}
use Rattle.gw_entities.specs.Values.{block_values, in_blocks}
use Rattle.gw_entities.proofs.Blocks.{count as count_all, within, whole, small, value, value_in_front}
use Rattle.gw_entities.proofs.values.Values.run.Goals as goal

pub index-requires : goal.index-requires
index-requires c =
    let bs = c.self.inside.blocks.items in
    let count = c.self.invariant.0 in
    let test = c.if-index-self.false in
    let all : vec_len c.self.inside.blocks ≡ length bs = search rules in
    rw all (within bs c.args.index c.self.invariant.2 (omega (arith, count, test)))

pub split_at-requires : goal.split_at-requires
split_at-requires c =
    let bs = c.self.inside.blocks.items in
    let count = c.self.invariant.0 in
    let test = c.if-index-self.false in
    let there = within bs c.args.index c.self.invariant.2 (omega (arith, count, test)) in
    let b = c.index.result.now in
    let values : c.as_slice-values.result.now ≡ block_values b = search rules in
    let all = whole bs _ b c.self.invariant.2 there c.index.ensures in
    let less = small c.args.index in
    rw values (omega (arith, all, less))

pub returns-clause-some : goal.returns-clause-some
returns-clause-some c =
    let bs = c.self.inside.blocks.items in
    let count = c.self.invariant.0 in
    let test = c.if-index-self.false in
    let there = within bs c.args.index c.self.invariant.2 (omega (arith, count, test)) in
    let b = c.index.result.now in
    let values : c.as_slice-values.result.now ≡ block_values b = search rules in
    let all = ap length values ∙ whole bs _ b c.self.invariant.2 there c.index.ensures in
    let less = small c.args.index in
    let back = ap length c.split_at.ensures.back ∙ length-drop (c.args.index % 4096) c.as_slice-values.result.now in
    omega (arith, all, less, back)

pub returns-clause-run : goal.returns-clause-run
returns-clause-run c = λ k h.
    let bs = c.self.inside.blocks.items in
    let count = c.self.invariant.0 in
    let test = c.if-index-self.false in
    let i = c.args.index in
    let inside : i < length (in_blocks bs) = omega (arith, count, test) in
    let there = within bs i c.self.invariant.2 inside in
    let b = c.index.result.now in
    let xs = c.as_slice-values.result.now in
    let values : xs ≡ block_values b = search rules in
    let all = ap length values ∙ whole bs _ b c.self.invariant.2 there c.index.ensures in
    let back = ap length c.split_at.ensures.back ∙ length-drop (i % 4096) xs in
    let below : i % 4096 + k < 4096 = omega (arith, h, all, back) in
    let here = value bs i k b c.self.invariant.2 inside c.index.ensures below in
    let last = c.self.inside.last.items in
    let total = count_all bs c.self.invariant.2 in
    let parts = div-add-mod' i 4096 in
    rw (← c.self.view_is)
    (value_in_front (in_blocks bs) last (i + k) (omega (arith, all, inside, below, parts, total))
    ∙ (here
    ∙ (ap (λ l. slice_get l (i % 4096 + k)) (sym values)
    ∙ (get_behind xs (i % 4096) k (i % 4096 + k) refl ∙ ap (λ l. slice_get l k) (sym c.split_at.ensures.back)))))
