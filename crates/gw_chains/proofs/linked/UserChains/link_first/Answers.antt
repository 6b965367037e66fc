use Rattle.std.proofs.Common.{◌≡◌, ◌+◌, ◌++◌, ◌∷◌, [], None, unwrap_or, sym, ap, ◌∙◌, rules}
use Rattle.std.specs.List.{zip}
use Rattle.indexmap.specs.IndexSet.{insert_key}
use Rattle.gw_names.specs.Keys.{key_eq}
use Rattle.gw_meaning.specs.Tables.{value_of}
use Rattle.gw_meaning.specs.Changes.{linked_to}
use Rattle.gw_meaning.specs.Machine.{no_chain, user_chain_at}
use Rattle.gw_chains.proofs.LinkedLaws.{Begun, begun, one_more}
use Rattle.gw_chains.proofs.linked.UserChains.link_first.Goals as goal

behind : (c : goal.After-self-1) → Begun c.self.inside.keys.keys c.insert.new.self.keys c.self.inside.chains c.push.new.self
    c.args.key.now (linked_to c.args.discipline c.args.x (user_chain_at (zip c.self.inside.keys.keys c.self.inside.chains) c.args.key.now)) (c.self.inside.count + 1)
behind c =
    let ks = c.self.inside.keys.keys in
    let js = c.insert.new.self.keys in
    let cs = c.self.inside.chains in
    let key = c.args.key.now in
    let own = c.link.new.self in
    let none : value_of (zip ks cs) key ≡ None = rw (← c.self.view_is) at c.requires.none in
    let alone : user_chain_at (zip ks cs) key ≡ no_chain = ap (λ o. unwrap_or o no_chain) none in
    let linked : own ≡ linked_to c.args.discipline c.args.x (user_chain_at (zip ks cs) key) =
    c.in_ok-link.ensures.ok ∙ ap (linked_to c.args.discipline c.args.x) (c.new-chain.ensures ∙ sym alone) in
    let same : c.in_ok-own.own ≡ key = search rules in
    let keys : js ≡ insert_key key_eq ks key =
    c.insert.ensures.keys ∙ (ap (λ l. insert_key key_eq l c.in_ok-own.own) c.reserve.ensures.keys ∙ ap (λ k. insert_key key_eq ks k) same) in
    let chains : c.push.new.self ≡ cs ++ own ∷ [] = c.in_ok-push.ensures.ok in
    rw (chains, linked)
    (begun ks js cs key _ c.self.inside.count _ c.self.invariant none keys
    (one_more (zip ks cs) key c.args.discipline c.args.x c.self.inside.count c.self.invariant.counted))

pub invariant_of-self-2 : goal.invariant_of-self-2
invariant_of-self-2 c = (behind c).kept

pub returns-clause-ok : goal.returns-clause-ok
returns-clause-ok c = rw (← c.self.view_is) (behind c).chains
