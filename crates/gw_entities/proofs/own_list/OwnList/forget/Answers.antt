use Rattle.std.proofs.Common.{◌≡◌, ◌+◌, ◌-◌, ◌≤◌, ◌++◌, map, take, drop, sym, ap, subst, ◌∙◌, arith, rules}
use Rattle.gw_entities.specs.Owned.{entry_of, without_own, AreRising}
use Rattle.gw_entities.proofs.ItemLaws.{map_cut, known_cut, none_out}
use Rattle.gw_entities.proofs.OwnLaws.{without_is, rising_without}
use Rattle.gw_entities.proofs.own_list.OwnList.forget.Goals as goal

pub invariant_of-self-then-first-end : goal.invariant_of-self-then-first-end
invariant_of-self-then-first-end g c =
    let ks = c.self.inside.keys.keys in
    let is = c.self.inside.items.items in
    let f = c.first-first.result in
    let e = c.end-end.result in
    let (rising, known, apart) = c.self.invariant in
    let first = rw (← c.self.view_is) at c.first-first.ensures in
    let last = rw (← c.self.view_is) at c.end-end.ensures.cut in
    let order : f ≤ e = search rules in
    let back : f + (e - f) ≡ e = omega (arith, order) in
    let out : c.take_out.new.items.items ≡ take f is ++ drop e is =
    c.take_out.ensures ∙ (ap (λ l. take f l ++ drop (f + (e - f)) l) c.in_ok-reserve.ensures.items ∙ ap (λ m. take f is ++ drop m is) back) in
    let seen : map (entry_of ks) c.take_out.new.items.items ≡ without_own (map (entry_of ks) is) c.args.number =
    ap (λ l. map (entry_of ks) l) out ∙ (map_cut ks is f e ∙ without_is c.args.number (map (entry_of ks) is) f e order first last) in (
      subst AreRising (sym seen) (rising_without c.args.number (map (entry_of ks) is) rising),
      rw out (known_cut _ is f e known),
      apart,
    )

pub returns-in_ok-reserve-clause-ok : goal.returns-in_ok-reserve-clause-ok
returns-in_ok-reserve-clause-ok g c =
    let ks = c.self.inside.keys.keys in
    let is = c.self.inside.items.items in
    let f = c.first-first.result in
    let e = c.end-end.result in
    let first = rw (← c.self.view_is) at c.first-first.ensures in
    let last = rw (← c.self.view_is) at c.end-end.ensures.cut in
    let order : f ≤ e = search rules in
    let back : f + (e - f) ≡ e = omega (arith, order) in
    let out : c.take_out.new.items.items ≡ take f is ++ drop e is =
    c.take_out.ensures ∙ (ap (λ l. take f l ++ drop (f + (e - f)) l) c.in_ok-reserve.ensures.items ∙ ap (λ m. take f is ++ drop m is) back) in
    rw (← c.self.view_is)
    (ap (λ l. map (entry_of ks) l) out ∙ (map_cut ks is f e ∙ without_is c.args.number (map (entry_of ks) is) f e order first last))

pub returns-else-first-end-clause-ok : goal.returns-else-first-end-clause-ok
returns-else-first-end-clause-ok g c =
    let ks = c.self.inside.keys.keys in
    let is = c.self.inside.items.items in
    let es = map (entry_of ks) is in
    let f = c.first-first.result in
    let e = c.end-end.result in
    let first = rw (← c.self.view_is) at c.first-first.ensures in
    let last = rw (← c.self.view_is) at c.end-end.ensures.cut in
    let order : f ≤ e = search rules in
    let same : f ≡ e = omega (arith, order, c.if-first-end.false) in
    rw (← c.self.view_is)
    (none_out es f ∙ (ap (λ m. take f es ++ drop m es) same ∙ without_is c.args.number es f e order first last))
