use Rattle.std.proofs.Common.{◌≡◌, ◌+◌, ◌<◌, List, [], ◌∷◌, length, drop, true, false, sym, ap, subst, ◌∙◌, arith, drop_of_length-le}
use Rattle.gw_meaning.specs.declared.transaction.Transaction.{Transaction}
use Rattle.gw_chains.specs.Chains.{with_grant, has_grant, AreWithin}
use Rattle.gw_chains.proofs.ChainLaws.{item_drop}
use Rattle.gw_chains.proofs.LetIn.{with_first, with_rest, with_nobody, with_fewer, within_more}
use Rattle.gw_state.proofs.letting_in.reserve_blocks.Goals as goal
use Rattle.gw_state.proofs.letting_in.reserve_blocks.Goals.{then-has_grant+in_ok-reserve_block, else-has_grant}

pub overflow_add-count : goal.overflow_add-count
overflow_add-count c =
    let fewer = with_fewer c.args.grants.now c.args.chain.now.items in
    omega (arith, fewer, c.loop-i.invariant.all, c.len-i-end.ensures.bound, c.len-i-end.ensures.len)

pub loop-i-preserved : goal.loop-i-preserved
loop-i-preserved c =
    let F = c.args.chain.now.items in
    let grants = c.args.grants.now in
    let i = c.loop-i.i in
    let x = c.in-Some.x.now in
    let h : i < length F = omega arith in
    let first : drop i F ≡ x ∷ drop (i + 1) F = item_drop F i x h c.in-Some.ensures.1 in
    let ws : List Transaction = with_grant (drop (i + 1) grants) (drop (i + 1) F) in
    let was = c.loop-i.invariant in
    elim c.if-has_grant.branch [
      | then-has_grant+in_ok-reserve_block w ↦
          let some : has_grant grants i ≡ true = sym c.has_grant.ensures ∙ w.if-has_grant.true in
          let front : with_grant (drop i grants) (drop i F) ≡ x ∷ ws =
          ap (with_grant (drop i grants)) first ∙ with_first grants i x (drop (i + 1) F) some in
          let more = ap length front in
          let higher = w.in_ok-reserve_block.ensures.limit in
          let all = was.all in
          let entries = was.entries in
          let limit = was.limit in
          record {
            all = rw w.count-is (omega (arith, all, more));
            within = rw w.counts-is (λ limit above rest. was.within limit (omega (arith, higher, above))
                (subst (λ ys. AreWithin ys limit) (sym front) (within_more x.destination _ limit above w.in_ok-reserve_block.ensures.ok, rest)));
            entries = rw w.counts-is (w.in_ok-reserve_block.ensures.entries ∙ entries);
            limit = rw w.counts-is (omega (arith, limit, higher));
          }
      | else-has_grant w ↦
          let none : has_grant grants i ≡ false = sym c.has_grant.ensures ∙ w.if-has_grant.false in
          let front : with_grant (drop i grants) (drop i F) ≡ ws =
          ap (with_grant (drop i grants)) first ∙ with_rest grants i x (drop (i + 1) F) none in
          record {
            all = rw (w.count-is, ← front) was.all;
            within = rw (w.counts-is, ← front) was.within;
            entries = rw w.counts-is was.entries;
            limit = rw w.counts-is was.limit;
          }
    ]

pub returns-clause-count : goal.returns-clause-count
returns-clause-count c =
    let F = c.args.chain.now.items in
    let grants = c.args.grants.now in
    let i = c.loop-i.i in
    let last : i ≡ length F = omega arith in
    let end : drop i F ≡ [] = drop_of_length-le F (omega (arith, last)) in
    let none : with_grant (drop i grants) (drop i F) ≡ [] = ap (with_grant (drop i grants)) end ∙ with_nobody (drop i grants) in
    omega (arith, c.loop-i.invariant.all, ap length none)

pub returns-clause-within : goal.returns-clause-within
returns-clause-within c =
    let F = c.args.chain.now.items in
    let grants = c.args.grants.now in
    let i = c.loop-i.i in
    let last : i ≡ length F = omega arith in
    let end : drop i F ≡ [] = drop_of_length-le F (omega (arith, last)) in
    let none : with_grant (drop i grants) (drop i F) ≡ [] = ap (with_grant (drop i grants)) end ∙ with_nobody (drop i grants) in
    c.loop-i.invariant.within c.loop-i.counts.limit (omega arith) (subst (λ ys. AreWithin ys c.loop-i.counts.limit) (sym none) tt)
