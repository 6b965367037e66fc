use Rattle.std.proofs.Common.{◌≡◌, ◌≤◌, ◌++◌, ◌∷◌, [], true, false, append_assoc, append-nil, arith, length, slice_get, take, ap, sym, ◌∙◌}
use Rattle.std.specs.Prelude.{nat_le}
use Rattle.std.proofs.lemmas.Bool.Decides.{nat_tests}
use Rattle.std.proofs.lemmas.List.{take_all}
use Rattle.gw_chains.specs.Blocks.{since}
use Rattle.gw_chains.proofs.EventLaws.{one_kept, one_left}
use Rattle.gw_chains.proofs.BlockLaws.{next_there}
use Rattle.gw_chains.proofs.full.FullBlock.append_to.Goals as goal
use Rattle.gw_chains.proofs.full.FullBlock.append_to.Goals.{then-ticks-self+in_ok-push, else-ticks-self}

pub loop-index-init : goal.loop-index-init
loop-index-init c = sym (append-nil c.args.events.now.items)

pub loop-index-preserved : goal.loop-index-preserved
loop-index-preserved c =
    let es = c.self.inside.block.value.items in
    let n = c.self.inside.least in
    let i = c.loop-index.index in
    let e = c.event-event.result in
    let all = c.args.events.now.items in
    let time = c.ticks.ensures.value in
    let more = next_there es i e (ap (λ b. slice_get b.items i) (sym c.deref-in-loop-index.ensures) ∙ c.event-event.ensures) in
    elim c.if-ticks-self.branch [
      | then-ticks-self+in_ok-push w ↦
          let there : nat_le n e.time ≡ true = grind (arith, nat_tests, w.if-ticks-self.true, time) in
          ap (λ v. v.items) w.events-is
          ∙ (w.in_ok-push.ensures.items
          ∙ (ap (λ zs. zs ++ e ∷ []) c.loop-index.invariant
          ∙ (append_assoc all (since n (take i es)) (e ∷ []) ∙ ap (λ zs. all ++ zs) (sym (one_kept es i e more (λ x. nat_le n x.time) there)))))
      | else-ticks-self w ↦
          let gone : nat_le n e.time ≡ false = grind (arith, nat_tests, w.if-ticks-self.false, time) in
          ap (λ v. v.items) w.events-is
          ∙ (c.loop-index.invariant ∙ ap (λ zs. all ++ zs) (sym (one_left es i e more (λ x. nat_le n x.time) gone)))
    ]

pub returns : goal.returns
returns c =
    let es = c.self.inside.block.value.items in
    let end : length es ≤ c.loop-index.index =
    omega (arith, c.loop-index-test.false, c.len-index-end.ensures.len, ap (λ b. length b.items) c.deref.ensures) in
    c.loop-index.invariant
    ∙ (ap (λ xs. c.args.events.now.items ++ since c.self.inside.least xs) (take_all c.loop-index.index es end)
    ∙ ap (λ s. c.args.events.now.items ++ s.items) c.self.view_is)
