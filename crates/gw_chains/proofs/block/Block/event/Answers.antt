use Rattle.std.proofs.Common.{◌≡◌, ◌≤◌, true, false, slice_get, sym, ap, subst, ◌∙◌, arith}
use Rattle.gw_chains.proofs.BlockLaws.{is_within, event_at, time_at, contains_at}
use Rattle.gw_chains.proofs.block.Block.event.Goals as goal

pub index-requires : goal.index-requires
index-requires c = omega (arith, (is_within c.self.invariant c.args.self.now.items (ap (λ s. s.items) c.self.view_is) c.args.index c.requires))

pub unreachable-requires : goal.unreachable-requires
unreachable-requires c =
    let low : c.index.result.now ≤ 1001000000000 =
    subst (λ n. n ≤ 1001000000000) (sym c.index.ensures) (time_at c.self.inside.times.items c.args.index _ c.self.invariant.times
    (is_within c.self.invariant c.args.self.now.items (ap (λ s. s.items) c.self.view_is) c.args.index c.requires)) in
    let no : false ≡ true = c.in_default.ensures.in_range.1 low in
    absurd cc

pub index-requires-2 : goal.index-requires-2
index-requires-2 c =
    omega (
      arith,
      (is_within c.self.invariant c.args.self.now.items (ap (λ s. s.items) c.self.view_is) c.args.index c.requires),
      c.self.invariant.long,
    )

pub index-requires-3 : goal.index-requires-3
index-requires-3 c =
    contains_at c.self.invariant c.args.index c.index-2.result.now
    (is_within c.self.invariant c.args.self.now.items (ap (λ s. s.items) c.self.view_is) c.args.index c.requires) c.index-2.ensures

pub returns : goal.returns
returns c =
    let b = c.self.inside in
    let time : c.in-Some.time ≡ c.index.result.now = c.in-Some.ensures.value in
    ap (λ s. slice_get s.items c.args.index) (sym c.self.view_is)
    ∙ rw time (event_at b.transactions b.times.items b.keys.items c.args.index c.index.result.now c.index-2.result.now c.index-3.result.now
    c.self.invariant.long
    (is_within c.self.invariant c.args.self.now.items (ap (λ s. s.items) c.self.view_is) c.args.index c.requires)
    c.index.ensures c.index-2.ensures c.index-3.ensures)
