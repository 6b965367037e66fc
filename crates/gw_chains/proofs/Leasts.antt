-- Laws of least times in ticks.
use Rattle.std.proofs.Common.{◌≡◌, ◌≢◌, ℕ, ◌-◌, ◌^◌, ◌<◌, ◌≤◌, Bool, true, false, not, arith, rules, List, [], ◌∷◌, ◌++◌, Option, Some, None, min, filter, refl, sym, ap, ◌∙◌}
use Rattle.std.specs.Prelude.{nat_le, IsSome, IfSome}
use Rattle.std.proofs.lemmas.Bool.Decides.{nat_tests}
use Rattle.gw_meaning.specs.declared.transaction.Event.{Event}
use Rattle.gw_meaning.specs.Changes.{due, is_due}
use Rattle.gw_meaning.specs.Step.{least_time, sooner}
use Rattle.gw_chains.specs.Blocks.{time_of, since, after, IsNoneBefore}
use Rattle.gw_chains.proofs.EventLaws.{soonest, least_append, none_due, none_leaves, none_before, none_without, since_after, due_since, stay_since}
use Rattle.gw_chains.proofs.BlockLaws.{soonest_times, time_within}

-- of two lists
pub least_both : (n m : ℕ) (xs ys : List Event) → time_of n ≡ least_time xs → time_of m ≡ least_time ys → time_of (min n m) ≡ least_time (xs ++ ys)
least_both n m xs ys front back =
    sym (soonest_times n m) ∙ (ap (λ o. soonest o (time_of m)) front ∙ (ap (soonest (least_time xs)) back ∙ sym (least_append xs ys)))

time_is : (n t : ℕ) → time_of n ≡ Some t → n ≡ t
time_is n t is = go (nat_le n 1001000000000) refl where
  go : (b : Bool) → nat_le n 1001000000000 ≡ b → n ≡ t
  go true h = let same : Some n ≡ Some t = rw h at is in cc
  go false h = let none : None ≡ Some t = rw h at is in absurd cc

-- where another time is the least, none is due
module _ (t n : ℕ) (es : List Event) (is : time_of n ≡ least_time es) (before : IsNoneBefore t es) (other : n ≢ t) where
  pub none_due_at : due t es ≡ []
  none_due_at = none_due t es before (λ same. other (time_is n t (is ∙ same)))

  pub all_stay : es ≡ filter (λ e. not (is_due t e)) es
  all_stay = sym (none_leaves t es none_due_at)

-- none is before the least time, and where there is no time, there is none at all
pub none_before_least : (n : ℕ) (es : List Event) → time_of n ≡ least_time es → IsNoneBefore n es
none_before_least n es is = go (nat_le n 1001000000000) refl where
  go : (b : Bool) → nat_le n 1001000000000 ≡ b → IsNoneBefore n es
  go true h = let some : Some n ≡ least_time es = rw h at is in none_before n es (sym some)
  go false h = let none : None ≡ least_time es = rw h at is in none_without n es (sym none)

pub nobody_there : (n : ℕ) (es : List Event) → time_of n ≡ least_time es → n ≡ 2 ^ 64 - 1 → es ≡ []
nobody_there n es is beyond = go es (ap time_of (sym beyond) ∙ is) where
  some : (t : ℕ) (o : Option ℕ) → None ≡ sooner t o → ⊥
  some t None is = cc
  some t (Some m) is = cc

  go : (es : List Event) → None ≡ least_time es → es ≡ []
  go [] none = refl
  go (e ∷ es) none = absurd (some e.time (least_time es) none)

pub since_least : (t n : ℕ) (es : List Event) → t < n → time_of n ≡ least_time (after t es) → since n es ≡ after t es
since_least t n es lt is = since_after t n es lt (none_before_least n (after t es) is)

-- those of the least time leave a full block, where the least time tells who is there
module _ (t n : ℕ) (es items : List Event) (here : n ≡ t) (view : since n es ≡ items) where
  pub due_there : due t es ≡ due t items
  due_there = sym (due_since t es) ∙ (ap (λ k. due t (since k es)) (sym here) ∙ ap (due t) view)

  module _ (m : ℕ) (lt : t < m) (is : time_of m ≡ least_time (after t es)) where
    pub stay_there : since m es ≡ filter (λ e. not (is_due t e)) items
    stay_there =
        since_least t m es lt is ∙ (sym (stay_since t es) ∙
        (ap (λ k. filter (λ e. not (is_due t e)) (since k es)) (sym here) ∙ ap (filter (λ e. not (is_due t e))) view))

    pub least_there : time_of m ≡ least_time (since m es)
    least_there = is ∙ ap least_time (sym (since_least t m es lt is))

-- the time of so many ticks, as it is made
pub time_made : (o : Option ℕ) (ticks : ℕ) → ((IsSome o → ticks ≤ 1001000000000) × (ticks ≤ 1001000000000 → IsSome o)) → IfSome o (λ t. t ≡ ticks) →
    o ≡ time_of ticks
time_made None ticks fits value = go (nat_le ticks 1001000000000) refl where
  go : (b : Bool) → nat_le ticks 1001000000000 ≡ b → None ≡ time_of ticks
  go false is = rw is refl
  go true is = let low : ticks ≤ 1001000000000 = grind (arith, nat_tests) in let no : false ≡ true = fits.1 low in absurd cc
time_made (Some t) ticks fits value = ap (λ n. Some n) value ∙ sym (time_within ticks (fits.0 (search rules)))
