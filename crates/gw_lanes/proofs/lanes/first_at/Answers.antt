use Rattle.std.proofs.Common.{IfSome, IfNone, All, ◌≢◌, ◌≡◌, ◌*◌, ◌/◌, ◌-◌, length, take, sym, ap, subst, ◌∙◌, arith}
use Rattle.std.specs.List.{concat}
use Rattle.gw_lanes.specs.FirstAt.{first_at, IsFirstAt}
use Rattle.gw_lanes.proofs.Firsts.{blocks_in_front, in_values, if_found, if_nowhere}
use Rattle.gw_lanes.proofs.lanes.first_at.Goals as goal

pub returns-in-Some-clause-place : goal.returns-in-Some-clause-place
returns-in-Some-clause-place c = in_values c.args.value c.args.values.now _ _ c.in-Some.place c.as_chunks.ensures.front c.in-Some.ensures

pub returns-in-Some-clause-found : goal.returns-in-Some-clause-found
returns-in-Some-clause-found c =
    let value = c.args.value in
    let values = c.args.values.now in
    subst (λ o. IfSome o (λ k. IsFirstAt value values k)) (sym (returns-in-Some-clause-place c)) (if_found value values)

pub first_from-requires-clause-before : goal.first_from-requires-clause-before
first_from-requires-clause-before c =
    let value = c.args.value in
    let values = c.args.values.now in
    let e : length values - length c.as_chunks.result.1.now ≡ length values / 8 * 8 = omega (arith, c.as_chunks.ensures.back_len) in
    ap (λ n. first_at value (take n values)) e
    ∙ ap (first_at value) (sym (blocks_in_front 8 (length values / 8) values))
    ∙ ap (λ blocks. first_at value (concat blocks)) (sym c.as_chunks.ensures.front)
    ∙ sym c.first_in_blocks.ensures
    ∙ c.in_default.is

pub returns-clause-found : goal.returns-clause-found
returns-clause-found c =
    let value = c.args.value in
    let values = c.args.values.now in
    subst (λ o. IfSome o (λ k. IsFirstAt value values k)) (sym c.first_from.ensures) (if_found value values)

pub returns-clause-nowhere : goal.returns-clause-nowhere
returns-clause-nowhere c =
    let value = c.args.value in
    let values = c.args.values.now in
    subst (λ o. IfNone o (All (λ n. n ≢ value) values)) (sym c.first_from.ensures) (if_nowhere value values)
