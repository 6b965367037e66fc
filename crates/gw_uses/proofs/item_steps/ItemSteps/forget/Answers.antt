use Rattle.std.proofs.Common.{◌≡◌, ℕ, Option, Some, None, nat_lt, refl, ap, ◌∙◌, rules}
use Rattle.std.proofs.lemmas.Map.Entries.{option_filter, lookup-filter-values}
use Rattle.indexmap.proofs.CallerLemmas.{filter-RetainsPairs}
use Rattle.gw_meaning.specs.contracts.item.ItemEq.TheImpl.Laws as laws
use Rattle.gw_uses.specs.Steps.{step_of, below}
use Rattle.gw_uses.proofs.item_steps.ItemSteps.forget.Goals as goal

filtered : (from : ℕ) (o : Option ℕ) → option_filter (λ step. nat_lt step from) o ≡ below from o
filtered from None = refl
filtered from (Some step) = refl

pub returns : goal.returns
returns c =
    let kept = filter-RetainsPairs _ _ _ (λ k v b w g call. search rules) _ _ c.retain.ensures.filtered in
    let noted = c.self.inside.steps.entries in
    rw (← c.self.view_is) (λ q. ap (λ es. step_of es q) kept ∙
    (lookup-filter-values laws.laws-law (λ step. nat_lt step c.args.from) q noted c.self.invariant ∙ filtered c.args.from _))
