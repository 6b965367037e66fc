use Rattle.std.proofs.Common.{◌≡◌, ℕ, ◌<◌, ◌+◌, Bool, true, false, nat_eq, get_or, length, refl, ap, sym, subst, ◌∙◌, arith}
use Rattle.std.proofs.lemmas.Bool.Decides.{nat_tests}
use Rattle.std.proofs.lemmas.List.{get_or_default}
use Rattle.gw_meaning.specs.declared.moves.Arrival.{Arrival}
use Rattle.gw_chains.proofs.counts.Counts.reserve_all.Goals as goal

pub loop-arrival-preserved : goal.loop-arrival-preserved
loop-arrival-preserved c = record {
  entries = c.reserve.ensures.entries ∙ c.loop-arrival.invariant.entries;
  ids = λ k d less. go k d less (nat_eq k i) refl;
} where
  i : ℕ
  i = c.loop-arrival.arrival-index

  go : (k : ℕ) (d : Arrival) → k < i + 1 → (b : Bool) → nat_eq k i ≡ b → (get_or c.args.arrivals.now k d).id < c.reserve.new.self.limit
  go k d less true e =
      let at : k ≡ i = grind (arith, nat_tests) in
      let within : i < length c.args.arrivals.now = omega (arith, c.loop-arrival-test.true) in
      let item : c.arrival-item.result ≡ get_or c.args.arrivals.now k d =
      c.arrival-item.is ∙ (get_or_default c.args.arrivals.now i c.arrival-item.result d within ∙ ap (λ j. get_or c.args.arrivals.now j d) (sym at)) in
      subst (λ (a : Arrival). a.id < c.reserve.new.self.limit) item c.in_ok-reserve.ensures.ok
  go k d less false e =
      let before = c.loop-arrival.invariant.ids k d (grind (arith, nat_tests)) in
      omega (arith, before, c.reserve.ensures.limit)

pub returns-clause-ok : goal.returns-clause-ok
returns-clause-ok c = λ k d less. c.loop-arrival.invariant.ids k d (omega (arith, less, c.loop-arrival-test.false))
