use Rattle.std.proofs.Common.{◌≡◌, ◌+◌, ◌<◌, List, [], ◌∷◌, length, min, drop, true, false, sym, ap, subst, ◌∙◌, arith}
use Rattle.std.proofs.lemmas.Grind.{common_steps}
use Rattle.gw_meaning.specs.declared.transaction.Transaction.{Transaction}
use Rattle.gw_meaning.specs.Machine.{AreInOrder}
use Rattle.gw_chains.specs.Chains.{with_grant, has_grant, all_let_in}
use Rattle.gw_chains.proofs.LetIn.{first_in, first_out, room_to_go, sifted, sifted_in, sifted_out, within_items, with_none, room_first, room_rest, without_in_order}
use Rattle.gw_chains.proofs.chain.PriorityChain.let_in_some.Goals as goal
use Rattle.gw_chains.proofs.chain.PriorityChain.let_in_some.Goals.{then-has_grant, else-has_grant}

pub remove-x-requires-clause-room : goal.remove-x-requires-clause-room
remove-x-requires-clause-room c =
    let F = c.self.inside.transactions.items in
    let h : c.loop-i.i < length F = grind (arith, common_steps) in
    let some : has_grant c.args.grants.now c.loop-i.i ≡ true = sym c.has_grant.ensures ∙ c.if-has_grant.true in
    room_to_go c.args.grants.now F c.loop-i.i c.loop-i.self-inside.transactions.room h some c.loop-i.invariant.going

pub remove-x-requires-clause-within : goal.remove-x-requires-clause-within
remove-x-requires-clause-within c =
    let F = c.self.inside.transactions.items in
    let h : c.loop-i.i < length F = grind (arith, common_steps) in
    within_items c.args.grants.now F c.loop-i.self-inside.transactions.items c.loop-i.i c.loop-i.kept h c.loop-i.invariant.sifting

pub loop-i-preserved : goal.loop-i-preserved
loop-i-preserved c =
    let F = c.self.inside.transactions.items in
    let grants = c.args.grants.now in
    let i = c.loop-i.i in
    let kept = c.loop-i.kept in
    let items = c.loop-i.self-inside.transactions.items in
    let was = c.loop-i.invariant in
    let s = was.sifting in
    let less = was.fewer in
    let going = was.going in
    let h : i < length F = grind (arith, common_steps) in
    let ws : List Transaction = with_grant (drop (i + 1) grants) (drop (i + 1) F) in
    elim c.if-has_grant.branch [
      | then-has_grant w ↦
          let some : has_grant grants i ≡ true = sym c.has_grant.ensures ∙ w.if-has_grant.true in
          let x = w.remove-x.result in
          let there = w.remove-x.ensures.value in
          let front : with_grant (drop i grants) (drop i F) ≡ x ∷ ws = first_in grants F items i kept x h some there s in
          let more = ap length front in
          let left = w.remove-x.ensures.room in
          let taken = w.let_in.ensures.room in
          let whole = was.left in
          record {
            sifting = rw (w.self-inside-is, w.kept-is) (sifted_in grants F items w.remove-x.new.self.items i kept x h some there w.remove-x.ensures.items s);
            fewer = rw w.kept-is (omega (arith, less));
            going = rw w.self-inside-is (omega (arith, more, left, going));
            room = rw (w.current-is, w.counts-is) (room_rest ws _ x _ _ _ _ front w.let_in.ensures.room w.let_in.ensures.limit was.room);
            left = rw w.current-is (omega (arith, more, taken, whole));
            let_in = λ t. rw (w.current-is, w.counts-is) (ap (all_let_in ws) (w.let_in.ensures.let_in t) ∙
                (sym (ap (λ ys. all_let_in ys (record t { current = c.loop-i.current.items; counts = c.loop-i.counts.entries })) front) ∙
                was.let_in t));
          }
      | else-has_grant w ↦
          let none : has_grant grants i ≡ false = sym c.has_grant.ensures ∙ w.if-has_grant.false in
          let front : with_grant (drop i grants) (drop i F) ≡ ws = first_out grants F i h none in
          record {
            sifting = rw (w.self-inside-is, w.kept-is) (sifted_out grants F items i kept h none s);
            fewer = rw w.kept-is (omega (arith, less));
            going = rw (w.self-inside-is, ← front) going;
            room = rw (w.current-is, w.counts-is, ← front) was.room;
            left = rw (w.current-is, ← front) was.left;
            let_in = λ t. rw (w.current-is, w.counts-is, ← front) (was.let_in t);
          }
    ]

pub let_in-requires-clause-room : goal.let_in-requires-clause-room
let_in-requires-clause-room c =
    let F = c.self.inside.transactions.items in
    let grants = c.args.grants.now in
    let i = c.loop-i.i in
    let x = c.remove-x.result in
    let h : i < length F = grind (arith, common_steps) in
    let some : has_grant grants i ≡ true = sym c.has_grant.ensures ∙ c.if-has_grant.true in
    let front = first_in grants F c.loop-i.self-inside.transactions.items i c.loop-i.kept x h some c.remove-x.ensures.value c.loop-i.invariant.sifting in
    (room_first (with_grant (drop (i + 1) grants) (drop (i + 1) F)) _ x _ _ front c.loop-i.invariant.room).0

pub let_in-requires-clause-counts : goal.let_in-requires-clause-counts
let_in-requires-clause-counts c =
    let F = c.self.inside.transactions.items in
    let grants = c.args.grants.now in
    let i = c.loop-i.i in
    let x = c.remove-x.result in
    let h : i < length F = grind (arith, common_steps) in
    let some : has_grant grants i ≡ true = sym c.has_grant.ensures ∙ c.if-has_grant.true in
    let front = first_in grants F c.loop-i.self-inside.transactions.items i c.loop-i.kept x h some c.remove-x.ensures.value c.loop-i.invariant.sifting in
    (room_first (with_grant (drop (i + 1) grants) (drop (i + 1) F)) _ x _ _ front c.loop-i.invariant.room).1

pub invariant_of-self : goal.invariant_of-self
invariant_of-self c =
    let F = c.self.inside.transactions.items in
    let grants = c.args.grants.now in
    let end : c.loop-i.i ≡ min (length F) (length grants) = grind (arith, common_steps) in
    subst AreInOrder (sym (sifted grants F c.loop-i.self-inside.transactions.items c.loop-i.i c.loop-i.kept end c.loop-i.invariant.sifting))
    (without_in_order grants F c.self.invariant)

pub returns-clause-items : goal.returns-clause-items
returns-clause-items c =
    let F = c.self.inside.transactions.items in
    let grants = c.args.grants.now in
    let end : c.loop-i.i ≡ min (length F) (length grants) = grind (arith, common_steps) in
    rw (← c.self.view_is) (sifted grants F c.loop-i.self-inside.transactions.items c.loop-i.i c.loop-i.kept end c.loop-i.invariant.sifting)

pub returns-clause-let_in : goal.returns-clause-let_in
returns-clause-let_in c = λ t.
    let F = c.self.inside.transactions.items in
    let grants = c.args.grants.now in
    let i = c.loop-i.i in
    let end : i ≡ min (length F) (length grants) = grind (arith, common_steps) in
    let none : with_grant (drop i grants) (drop i F) ≡ [] = with_none grants F i end in
    let all = c.loop-i.invariant.let_in t in
    rw (← c.self.view_is)
    (sym (ap (λ ys. all_let_in ys (record t { current = c.loop-i.current.items; counts = c.loop-i.counts.entries })) none) ∙ all)

pub returns-clause-room : goal.returns-clause-room
returns-clause-room c =
    let F = c.self.inside.transactions.items in
    let grants = c.args.grants.now in
    let i = c.loop-i.i in
    let end : i ≡ min (length F) (length grants) = grind (arith, common_steps) in
    let none : with_grant (drop i grants) (drop i F) ≡ [] = with_none grants F i end in
    let whole = c.loop-i.invariant.left in
    rw (← c.self.view_is) (omega (arith, whole, ap length none))
