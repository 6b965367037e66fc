use Rattle.std.proofs.Common.{◌≡◌, length, set, sym, ap, subst, ◌∙◌, rules}
use Rattle.std.proofs.lemmas.List.{set-get_or}
use Rattle.std.proofs.lemmas.Option.{get_or_from_slice_get}
use Rattle.std.specs.List.{zip}
use Rattle.gw_meaning.specs.Tables.{with_value, IsPlace}
use Rattle.gw_meaning.specs.Changes.{linked_to}
use Rattle.gw_meaning.specs.Machine.{members_of, user_chain_at, waiting}
use Rattle.gw_entities.proofs.Keyed.{within_beside}
use Rattle.gw_chains.proofs.LinkedLaws.{chain_there, one_more, written_chain, written_linked}
use Rattle.gw_chains.proofs.linked.UserChains.link.Goals as goal

pub at_mut-requires : goal.at_mut-requires
at_mut-requires c =
    let ks = c.self.inside.keys.keys in
    let cs = c.self.inside.chains in
    let key = c.args.key.now in
    let i = c.in-Some.index in
    let there = subst (IsPlace (zip ks cs) key) c.in-Some.is (rw (← c.self.view_is) at c.place.ensures) in
    within_beside ks cs i key there

pub invariant_of-self-2 : goal.invariant_of-self-2
invariant_of-self-2 c =
    let ks = c.self.inside.keys.keys in
    let cs = c.self.inside.chains in
    let key = c.args.key.now in
    let i = c.in-Some.index in
    let there = subst (IsPlace (zip ks cs) key) c.in-Some.is (rw (← c.self.view_is) at c.place.ensures) in
    let x = c.in_ok-at_mut.field-0.now in
    let read = sym (get_or_from_slice_get cs i x x c.in_ok-at_mut.ensures.value) in
    let linked : c.link.new.self ≡ linked_to c.args.discipline c.args.x (user_chain_at (zip ks cs) key) =
    c.in_ok-link.ensures.ok ∙ ap (linked_to c.args.discipline c.args.x) (sym (chain_there ks cs i key x there read)) in
    written_linked ks cs i key c.link.new.self c.self.inside.count _ c.self.invariant there
    (one_more (zip ks cs) key c.args.discipline c.args.x c.self.inside.count c.self.invariant.counted ∙
    ap (λ l. length (waiting (members_of (with_value (zip ks cs) key l)))) (sym linked))

pub returns-clause-ok : goal.returns-clause-ok
returns-clause-ok c =
    let ks = c.self.inside.keys.keys in
    let cs = c.self.inside.chains in
    let key = c.args.key.now in
    let i = c.in-Some.index in
    let there = subst (IsPlace (zip ks cs) key) c.in-Some.is (rw (← c.self.view_is) at c.place.ensures) in
    let x = c.in_ok-at_mut.field-0.now in
    let read = sym (get_or_from_slice_get cs i x x c.in_ok-at_mut.ensures.value) in
    let linked : c.link.new.self ≡ linked_to c.args.discipline c.args.x (user_chain_at (zip ks cs) key) =
    c.in_ok-link.ensures.ok ∙ ap (linked_to c.args.discipline c.args.x) (sym (chain_there ks cs i key x there read)) in
    rw (← c.self.view_is)
    (written_chain ks cs i key c.link.new.self c.self.invariant.apart c.self.invariant.beside there ∙ ap (with_value (zip ks cs) key) linked)

pub invariant_of-self-in_err-link : goal.invariant_of-self-in_err-link
invariant_of-self-in_err-link c =
    let cs = c.self.inside.chains in
    let i = c.in-Some.index in
    let x = c.in_ok-at_mut.field-0.now in
    let read = sym (get_or_from_slice_get cs i x x c.in_ok-at_mut.ensures.value) in
    let same : set cs i c.link.new.self ≡ cs = ap (set cs i) (c.in_err-link.ensures.err ∙ read) ∙ set-get_or cs i x in
    rw same c.self.invariant

pub returns-in_err-link-clause-err : goal.returns-in_err-link-clause-err
returns-in_err-link-clause-err c =
    let ks = c.self.inside.keys.keys in
    let cs = c.self.inside.chains in
    let i = c.in-Some.index in
    let x = c.in_ok-at_mut.field-0.now in
    let read = sym (get_or_from_slice_get cs i x x c.in_ok-at_mut.ensures.value) in
    let same : set cs i c.link.new.self ≡ cs = ap (set cs i) (c.in_err-link.ensures.err ∙ read) ∙ set-get_or cs i x in
    let list : zip ks (set cs i c.link.new.self) ≡ c.args.self.now = ap (zip ks) same ∙ c.self.view_is in
    search rules
