use Rattle.std.proofs.Common.{◌≡◌, ◌-◌, ◌<◌, suc, length, map, take, sym, subst, arith, rules}
use Rattle.std.proofs.lemmas.Bool.Decides.{nat_tests}
use Rattle.std.proofs.lemmas.List.{length-map}
use Rattle.gw_entities.specs.Owned.{entry_of, AreBelow}
use Rattle.gw_entities.proofs.ItemLaws.{entry_there}
use Rattle.gw_entities.proofs.OwnLaws.{below_to, from_at}
use Rattle.gw_entities.proofs.own_list.OwnList.begins_at.Goals as goal

pub returns-then-index-eq0 : goal.returns-then-index-eq0
returns-then-index-eq0 g c =
    rw (← c.self.view_is) (λ yes.
    let ks = c.self.inside.keys.keys in
    let is = c.self.inside.items.items in
    let es = map (entry_of ks) is in
    let i = c.args.index in
    let n = c.args.number in
    let here = c.at.result.now in
    let same : here.number ≡ n = search rules in
    let zero_is : i ≡ 0 = c.if-index-eq0.true in
    record {
      within = omega (arith, zero_is);
      below = subst (λ j. AreBelow n (take j es)) (sym zero_is) tt;
      from = from_at n es i (entry_of ks here) c.self.invariant.0 (entry_there ks is i here c.at.ensures) (omega (arith, same));
    })

pub returns : goal.returns
returns g c =
    rw (← c.self.view_is) (λ less.
    let ks = c.self.inside.keys.keys in
    let is = c.self.inside.items.items in
    let es = map (entry_of ks) is in
    let i = c.args.index in
    let n = c.args.number in
    let here = c.at.result.now in
    let before = c.at-before.result.now in
    let same : here.number ≡ n = search rules in
    let rising = c.self.invariant.0 in
    let next : i ≡ suc (i - 1) = omega (arith, c.if-index-eq0.false) in
    let low : before.number < n = grind (arith, nat_tests, less) in
    let within : i < length is = grind (arith, c.len.ensures.len) in
    record {
      within = let long = length-map is (entry_of ks) in omega (arith, within, long);
      below = below_to n es (i - 1) i (entry_of ks before) next rising (entry_there ks is (i - 1) before c.at-before.ensures) low;
      from = from_at n es i (entry_of ks here) rising (entry_there ks is i here c.at.ensures) (omega (arith, same));
    })
