use Rattle.std.proofs.Common.{◌≡◌, ◌≤◌, [], length, refl, sym, ap, ◌∙◌, arith, rules}
use Rattle.std.specs.List.{list_any}
use Rattle.std.specs.Map.{keys_of}
use Rattle.indexmap.specs.IndexSet.{insert_key}
use Rattle.gw_names.specs.Keys.{key_eq}
use Rattle.gw_meaning.specs.Changes.{lined_up}
use Rattle.gw_chains.proofs.Beside.{Pushed, filled, keys_are, pushed}
use Rattle.gw_chains.proofs.delays.DelayChains.line_up_first.Goals as goal

behind : (c : goal.After-self-1) → Pushed c.self.inside.keys.keys c.insert.new.self.keys c.fill.new.chains.items
    c.push_reserved.new.self.items c.args.key.now c.args.x c.self.inside.count
behind c =
    let ks = c.self.inside.keys.keys in
    let key = c.args.key.now in
    let own = c.line_up.new.self in
    let all = c.len.ensures.len ∙ ap length c.reserve.ensures.keys in
    let full = filled c.self.invariant all c.fill.ensures.long c.fill.ensures.delays in
    let enough : length ks ≤ length c.fill.new.chains.items = omega (arith, all, c.in_ok-fill.ensures.ok) in
    let known = sym (keys_are ks _) ∙ ap keys_of c.self.view_is in
    let new = ap (λ qs. list_any (key_eq key) qs) known ∙ c.requires.none in
    let same : c.in_ok-own.own ≡ key = search rules in
    let keys : c.insert.new.self.keys ≡ insert_key key_eq ks key =
    rw (c.insert.ensures.keys, c.reserve.ensures.keys, same) refl in
    let alone : own.items ≡ lined_up c.args.x [] =
    rw (c.line_up.ensures.items, c.reserve-3.ensures.items, c.new-chain.ensures) refl in
    rw (c.push_reserved.ensures.items, c.reserve-2.ensures.items)
    (pushed ks _ _ key own c.args.x _ full.kept enough new keys alone)

pub invariant_of-self-2 : goal.invariant_of-self-2
invariant_of-self-2 c = (behind c).kept

pub returns-clause-ok : goal.returns-clause-ok
returns-clause-ok c = rw (← c.self.view_is, ← c.fill.ensures.delays c.self.inside.keys.keys) (behind c).delays
