use Rattle.std.proofs.Common.{◌≡◌, ◌-◌, drop, length, sym, ap, ap₂, subst, ◌∙◌, arith}
use Rattle.std.proofs.lemmas.Option.{get_or_from_slice_get}
use Rattle.std.specs.List.{zip}
use Rattle.gw_meaning.specs.Tables.{with_value, IsPlace}
use Rattle.gw_meaning.specs.Machine.{Machine, UserChain, members_of, user_chain_at, waiting}
use Rattle.gw_entities.proofs.Keyed.{value_there, within_beside}
use Rattle.gw_chains.proofs.LinkedLaws.{chain_there, fewer, some_unlinked_is, written_chain, written_linked}
use Rattle.gw_chains.proofs.linked.UserChains.unlink.Goals as goal

pub at_mut-requires : goal.at_mut-requires
at_mut-requires c =
    let ks = c.self.inside.keys.keys in
    let cs = c.self.inside.chains in
    let key = c.args.key.now in
    let i = c.in-Some.index in
    let there = subst (IsPlace (zip ks cs) key) c.in-Some.is (rw (← c.self.view_is) at c.place.ensures) in
    within_beside ks cs i key there

pub overflow_sub-self : goal.overflow_sub-self
overflow_sub-self c =
    let ks = c.self.inside.keys.keys in
    let cs = c.self.inside.chains in
    let key = c.args.key.now in
    let i = c.in-Some.index in
    let there = subst (IsPlace (zip ks cs) key) c.in-Some.is (rw (← c.self.view_is) at c.place.ensures) in
    let was = c.in_ok-chain.chain.now in
    let read = sym (get_or_from_slice_get cs i was was c.in_ok-chain.ensures.value) in
    let found = value_there ks cs i key was there read in
    let gone : c.len-before.result - c.len.result ≡ length was.members - length (drop c.args.count was.members) =
    omega (arith, c.len-before.ensures.len, c.len.ensures.len, ap length c.unlink.ensures.members) in
    let less = fewer (zip ks cs) key was c.args.count c.self.inside.count _ found c.self.invariant.counted gone in
    less.0

pub invariant_of-self-2 : goal.invariant_of-self-2
invariant_of-self-2 c =
    let ks = c.self.inside.keys.keys in
    let cs = c.self.inside.chains in
    let key = c.args.key.now in
    let i = c.in-Some.index in
    let there = subst (IsPlace (zip ks cs) key) c.in-Some.is (rw (← c.self.view_is) at c.place.ensures) in
    let was = c.in_ok-chain.chain.now in
    let read = sym (get_or_from_slice_get cs i was was c.in_ok-chain.ensures.value) in
    let found = value_there ks cs i key was there read in
    let gone : c.len-before.result - c.len.result ≡ length was.members - length (drop c.args.count was.members) =
    omega (arith, c.len-before.ensures.len, c.len.ensures.len, ap length c.unlink.ensures.members) in
    let less = fewer (zip ks cs) key was c.args.count c.self.inside.count _ found c.self.invariant.counted gone in
    let now : c.unlink.new.self ≡ (let v : UserChain = record { entries = was.entries; members = drop c.args.count was.members } in v) =
    ap₂ (λ e m. let v : UserChain = record { entries = e; members = m } in v) c.unlink.ensures.entries c.unlink.ensures.members in
    written_linked ks cs i key c.unlink.new.self c.self.inside.count _ c.self.invariant there
    (less.1 ∙ ap (λ (v : UserChain). length (waiting (members_of (with_value (zip ks cs) key v)))) (sym now))

pub returns-clause-ok : goal.returns-clause-ok
returns-clause-ok c = λ s.
    let ks = c.self.inside.keys.keys in
    let cs = c.self.inside.chains in
    let key = c.args.key.now in
    let i = c.in-Some.index in
    let there = subst (IsPlace (zip ks cs) key) c.in-Some.is (rw (← c.self.view_is) at c.place.ensures) in
    let was = c.in_ok-chain.chain.now in
    let read = sym (get_or_from_slice_get cs i was was c.in_ok-chain.ensures.value) in
    let found = value_there ks cs i key was there read in
    let gone : c.len-before.result - c.len.result ≡ length was.members - length (drop c.args.count was.members) =
    omega (arith, c.len-before.ensures.len, c.len.ensures.len, ap length c.unlink.ensures.members) in
    let less = fewer (zip ks cs) key was c.args.count c.self.inside.count _ found c.self.invariant.counted gone in
    let now : c.unlink.new.self ≡ (let v : UserChain = record { entries = was.entries; members = drop c.args.count was.members } in v) =
    ap₂ (λ e m. let v : UserChain = record { entries = e; members = m } in v) c.unlink.ensures.entries c.unlink.ensures.members in
    let n = c.args.count in
    let chain = c.args.current.now.items in
    let before : Machine = record s { linked = zip ks cs; current = chain } in
    let written = written_chain ks cs i key c.unlink.new.self c.self.invariant.apart c.self.invariant.beside there ∙ ap (with_value (zip ks cs) key) now in
    let members : (user_chain_at (zip ks cs) key).members ≡ was.members = ap (λ (v : UserChain). v.members) (chain_there ks cs i key was there read) in
    rw (← c.self.view_is, written, c.unlink.ensures.current, members) (sym (some_unlinked_is n key c.args.to was before found))
