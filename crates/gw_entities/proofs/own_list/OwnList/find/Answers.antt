use Rattle.std.proofs.Common.{◌≡◌, ℕ, suc, ◌+◌, ◌≤◌, Bool, true, false, nat_eq, ◌&&◌, None, map, take, refl, sym, subst, ◌∙◌, arith, rules}
use Rattle.std.proofs.lemmas.Bool.Decides.{nat_tests}
use Rattle.std.proofs.lemmas.List.{length-map}
use Rattle.gw_entities.specs.Owned.{own_of, entry_of, AreBelow, IsCut}
use Rattle.gw_entities.proofs.ItemLaws.{entry_there, own_by_place}
use Rattle.gw_entities.proofs.OwnLaws.{none_at_first, none_more, none_left, ends, below_more, below_next, from_there, from_at}
use Rattle.gw_entities.proofs.own_list.OwnList.find.Goals as goal

both : (a b : Bool) → a ≡ true → b ≡ true → (a && b) ≡ true
both true b e f = f
both false b e f = absurd (let clash : true ≡ false = sym e in cc)

first_not : (a b : Bool) → a ≡ false → (a && b) ≡ false
first_not true b e = absurd (let clash : true ≡ false = e in cc)
first_not false b e = refl

equal_is : (a b : ℕ) → a ≡ b → nat_eq a b ≡ true
equal_is a b e = grind (arith, nat_tests)

pub loop-index-init : goal.loop-index-init
loop-index-init g c =
    let es = map (entry_of c.self.inside.keys.keys) c.self.inside.items.items in
    let cut = rw (← c.self.view_is) at c.first-first.ensures in
    record {
      low = omega arith;
      last = c.len-index-end.ensures.len;
      below = below_next c.args.number es c.first-first.result cut.below;
      none = λ k at. none_at_first c.args.number k es c.first-first.result cut;
    }

pub loop-index-preserved : goal.loop-index-preserved
loop-index-preserved g c =
    let ks = c.self.inside.keys.keys in
    let is = c.self.inside.items.items in
    let es = map (entry_of ks) is in
    let i = c.loop-index.index in
    let item = c.at-item.result.now in
    let (rising, known, apart) = c.self.invariant in
    let there = entry_there ks is i item c.at-item.ensures in
    let same : item.number ≡ c.args.number = search rules in
    let differs : nat_eq item.key c.args.key ≡ false = grind (arith, nat_tests, c.if-item-key.false) in
    record {
      low = omega (arith, c.loop-index.invariant.low);
      last = c.loop-index.invariant.last;
      below = below_more (suc c.args.number) es i (i + 1) (entry_of ks item) (omega arith) c.loop-index.invariant.below there (omega (arith, same));
      none = λ k at.
          let own = own_by_place ks is i c.args.number c.args.key k item apart known c.at-item.ensures at in
          none_more c.args.number k es i (i + 1) (entry_of ks item) (omega arith) (c.loop-index.invariant.none k at) there
          (own ∙ first_not (nat_eq item.key c.args.key) (nat_eq c.args.number item.number) differs);
    }

pub returns-then-item-number-clause-ends : goal.returns-then-item-number-clause-ends
returns-then-item-number-clause-ends g c =
    let ks = c.self.inside.keys.keys in
    let is = c.self.inside.items.items in
    let es = map (entry_of ks) is in
    let i = c.loop-index.index in
    let item = c.at-item.result.now in
    let first = rw (← c.self.view_is) at c.first-first.ensures in
    let there = entry_there ks is i item c.at-item.ensures in
    let low : c.args.number ≤ item.number =
    from_there c.args.number es c.first-first.result i (entry_of ks item) c.loop-index.invariant.low first.from there in
    let more : suc c.args.number ≤ item.number = grind (arith, c.if-item-number.true, low) in
    let cut : IsCut (suc c.args.number) es i = record {
      within = let long = length-map is (entry_of ks) in let last = c.loop-index.invariant.last in omega (arith, c.loop-index-test.true, long, last);
      below = c.loop-index.invariant.below;
      from = from_at (suc c.args.number) es i (entry_of ks item) c.self.invariant.0 there more;
    } in
    rw (← c.self.view_is) (λ k at. ends c.args.number k es i (c.loop-index.invariant.none k at) cut)

pub returns-then-item-key-clause-stands : goal.returns-then-item-key-clause-stands
returns-then-item-key-clause-stands g c =
    rw (← c.self.view_is) (λ k at.
    let ks = c.self.inside.keys.keys in
    let is = c.self.inside.items.items in
    let i = c.loop-index.index in
    let item = c.at-item.result.now in
    let (rising, known, apart) = c.self.invariant in
    let same : c.args.number ≡ item.number = search rules in
    let own = own_by_place ks is i c.args.number c.args.key k item apart known c.at-item.ensures at in
    record {
      entry = entry_of ks item;
      there = entry_there ks is i item c.at-item.ensures;
      passes = own ∙ both (nat_eq item.key c.args.key) (nat_eq c.args.number item.number) (equal_is item.key c.args.key c.if-item-key.true)
          (equal_is c.args.number item.number same);
      before = c.loop-index.invariant.none k at;
    })

pub returns-clause-ends : goal.returns-clause-ends
returns-clause-ends g c =
    let ks = c.self.inside.keys.keys in
    let is = c.self.inside.items.items in
    let es = map (entry_of ks) is in
    let n = c.len.result in
    let long = length-map is (entry_of ks) in
    let len = c.len.ensures.len in
    let same : c.loop-index.index ≡ n = search rules in
    let cut : IsCut (suc c.args.number) es n = record {
      within = omega (arith, long, len);
      below = subst (λ i. AreBelow (suc c.args.number) (take i es)) same c.loop-index.invariant.below;
      from = none_left (suc c.args.number) n es (omega (arith, long, len));
    } in
    rw (← c.self.view_is)
    (λ k at. ends c.args.number k es n (subst (λ i. own_of (take i es) c.args.number k ≡ None) same (c.loop-index.invariant.none k at)) cut)
