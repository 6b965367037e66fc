use Rattle.std.proofs.Common.{◌≡◌, ◌+◌, ◌++◌, ◌<◌, List, [], ◌∷◌, length, min, drop, true, false, sym, ap, ◌∙◌, arith, append-nil, append_assoc}
use Rattle.std.proofs.lemmas.Grind.{common_steps}
use Rattle.gw_meaning.specs.declared.transaction.Transaction.{Transaction}
use Rattle.gw_meaning.specs.declared.watched.Watched.{Watched}
use Rattle.gw_meaning.specs.Changes.{crossing}
use Rattle.gw_chains.specs.Chains.{with_grant, has_grant}
use Rattle.gw_chains.proofs.ChainLaws.{item_drop}
use Rattle.gw_chains.proofs.LetIn.{with_first, with_rest, with_none}
use Rattle.gw_state.proofs.Crossing.{all_crossing, crossings_are}
use Rattle.gw_state.proofs.waking.push_crossings.Goals as goal
use Rattle.gw_state.proofs.waking.push_crossings.Goals.{then-has_grant+in_ok-push_crossing, else-has_grant}

pub loop-i-preserved : goal.loop-i-preserved
loop-i-preserved c =
    let F = c.args.chain.now.items in
    let grants = c.args.grants.now in
    let i = c.loop-i.i in
    let x = c.in-Some.x.now in
    let h : i < length F = grind (arith, common_steps) in
    let first : drop i F ≡ x ∷ drop (i + 1) F = item_drop F i x h c.in-Some.ensures.1 in
    let ws : List Transaction = with_grant (drop (i + 1) grants) (drop (i + 1) F) in
    let was = c.loop-i.invariant in
    elim c.if-has_grant.branch [
      | then-has_grant+in_ok-push_crossing w ↦
          let some : has_grant grants i ≡ true = sym c.has_grant.ensures ∙ w.if-has_grant.true in
          let front : with_grant (drop i grants) (drop i F) ≡ x ∷ ws =
          ap (with_grant (drop i grants)) first ∙ with_first grants i x (drop (i + 1) F) some in
          let pushed : w.push_crossing.new.written.items ≡ c.loop-i.written.items ++ crossing x x.destination =
          w.in_ok-push_crossing.ensures ∙ ap (λ to. c.loop-i.written.items ++ crossing x to) w.id.ensures in
          rw w.written-is (ap (λ (vs : List Watched). vs ++ all_crossing ws) pushed ∙
          (append_assoc c.loop-i.written.items (crossing x x.destination) (all_crossing ws) ∙
          (ap (λ ys. c.loop-i.written.items ++ all_crossing ys) (sym front) ∙ was)))
      | else-has_grant w ↦
          let none : has_grant grants i ≡ false = sym c.has_grant.ensures ∙ w.if-has_grant.false in
          let front : with_grant (drop i grants) (drop i F) ≡ ws =
          ap (with_grant (drop i grants)) first ∙ with_rest grants i x (drop (i + 1) F) none in
          rw (w.written-is, ← front) was
    ]

pub returns : goal.returns
returns c =
    let F = c.args.chain.now.items in
    let grants = c.args.grants.now in
    let i = c.loop-i.i in
    let end : i ≡ min (length F) (length grants) = grind (arith, common_steps) in
    let none : with_grant (drop i grants) (drop i F) ≡ [] = with_none grants F i end in
    sym (append-nil c.loop-i.written.items) ∙
    (ap (λ ys. c.loop-i.written.items ++ all_crossing ys) (sym none) ∙
    (c.loop-i.invariant ∙ ap (λ ws. c.args.written.now.items ++ ws) (sym (crossings_are grants F))))
