use Rattle.std.proofs.Common.{◌≡◌, ◌++◌, ◌∷◌, [], List, ℕ, slice_get, Some, None, sym, ap, ◌∙◌, subst, rules}
use Rattle.std.specs.Map.{lookup}
use Rattle.indexmap.specs.IndexMap.{get, insert_entry}
use Rattle.indexmap.proofs.CallerLemmas.{insert_entry-new}
use Rattle.gw_shared.proofs.Laws.{one_more_taken}
use Rattle.gw_meaning.specs.declared.item.Item.{Item}
use Rattle.gw_meaning.specs.contracts.item.ItemEq.TheImpl.Laws as laws
use Rattle.gw_meaning.specs.Reads.{same_item}
use Rattle.gw_uses.proofs.Copies.{none_earlier}
use Rattle.gw_uses.proofs.item_steps.ItemSteps.copy.Goals as goal

pub loop-i-preserved : goal.loop-i-preserved
loop-i-preserved c =
    let es = c.self.inside.steps.entries in
    let i = c.loop-i.i in
    let k = c.in-Some.item.now in
    let v = c.in-Some.step.now in
    let copied : c.in_ok-clone-in-Some.field-0 ≡ k = search rules in
    let at : slice_get es i ≡ Some (k, v) = search rules in
    let absent : get same_item c.loop-i.steps k ≡ None =
    subst (λ (xs : List (Item × ℕ)). lookup (same_item k) xs ≡ None) (sym c.loop-i.invariant) (none_earlier same_item laws.laws-law es i k v c.self.invariant at) in
    c.in_ok-insert-in-Some.ensures.entries ∙ (ap (λ (q : Item). insert_entry same_item c.loop-i.steps.entries q v) copied ∙ (insert_entry-new same_item c.loop-i.steps k v absent
    ∙ (ap (λ (xs : List (Item × ℕ)). xs ++ (k, v) ∷ []) c.loop-i.invariant ∙ one_more_taken es i (k, v) at)))
