-- What noting an item changes.
use Rattle.std.proofs.Common.{◌≡◌, ℕ, Bool, true, false, cond, List, [], ◌∷◌, Option, Some, None, refl, sym, ap, ap₂, ◌∙◌}
use Rattle.gw_meaning.specs.declared.item.Item.{Item}
use Rattle.gw_meaning.specs.contracts.item.ItemEq.TheImpl.Laws as laws
use Rattle.gw_meaning.specs.Reads.{or_later, same_item}
use Rattle.gw_uses.specs.Steps.{step_of}

-- a step that notes an item, of which none was noted
lookup_same : (es : List (Item × ℕ)) (item q : Item) → same_item item q ≡ true → step_of es q ≡ step_of es item
lookup_same [] item q same = refl
lookup_same (e ∷ es) item q same =
    let one : same_item q e.0 ≡ same_item item e.0 = sym (laws.laws-law.congr item q e.0 same) in
    ap₂ (λ b o. cond b (Some e.1) o) one (lookup_same es item q same)

pub noted_new : (old new : List (Item × ℕ)) (item q : Item) (step : ℕ) → step_of old item ≡ None →
    step_of new q ≡ cond (same_item item q) (Some step) (step_of old q) →
    step_of new q ≡ or_later (step_of old q) (cond (same_item item q) (Some step) None)
noted_new old new item q step none is = go (same_item item q) refl is where
  or_none : (o : Option ℕ) → o ≡ or_later o None
  or_none None = refl
  or_none (Some n) = refl

  go : (b : Bool) → same_item item q ≡ b → step_of new q ≡ cond b (Some step) (step_of old q) →
      step_of new q ≡ or_later (step_of old q) (cond b (Some step) None)
  go true same e = e ∙ sym (ap (λ o. or_later o (Some step)) (lookup_same old item q same ∙ none))
  go false other e = e ∙ or_none (step_of old q)
