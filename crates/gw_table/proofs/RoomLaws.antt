-- Where there is room for a value more.
use Rattle.std.proofs.Common.{◌≡◌, ℕ, ◌^◌, ◌<◌, ◌≤◌, Bool, true, false, cond, nat_le, List}
use Rattle.std.proofs.Common.{[], ◌∷◌, length, Option, Some, None, refl, sym, ap, ◌∙◌, arith, ⊎_elim}
use Rattle.std.specs.Prelude.{is_some}
use Rattle.std.proofs.lemmas.Bool.Decides.{nat_tests}
use Rattle.std.proofs.lemmas.Bool.{cases_lt}
use Rattle.std.proofs.lemmas.List.{length-set, length-append}
use Rattle.std.proofs.Math.ListN.{get_or-eq_default}
use Rattle.std.proofs.lemmas.Map.Steps.{length-le_from_distinct_below}
use Rattle.gw_table.specs.Pairs.{value_in}
use Rattle.gw_table.specs.Values.{value_at, pairs_of, limit_of, IsListed}
use Rattle.gw_table.proofs.LookupLaws.{value_in_is, below_from_value, low_from_value}
use Rattle.gw_table.proofs.SetLaws.{listed_new}

-- what a limit says
limit_tells : (places capacity number : ℕ) → number < limit_of places capacity → (number < places) × (places ≤ capacity)
limit_tells places capacity number = go (nat_le places capacity) refl where
  go : (b : Bool) → nat_le places capacity ≡ b → number < cond b places 0 → (number < places) × (places ≤ capacity)
  go true e l = (l, grind (arith, nat_tests))
  go false e l = absurd (omega arith)

module _ {V : Type 0} where
  -- there are no more numbers than places
  pub length-le_values : (ns : List ℕ) (values : List (Option V)) → IsListed ns values → length ns ≤ length values
  length-le_values ns values h =
      length-le_from_distinct_below ns (length values) h.once (λ q is. below_from_value values q (sym (h.listed q) ∙ is))

  -- below the limit there is room for one more
  pub finds_room :
      (ns : List ℕ) (values : List (Option V)) → IsListed ns values → (capacity number : ℕ) (value : V) → value_at values number ≡ None →
      number < limit_of (length values) capacity → (number < length values) × (length ns < capacity) × (number < 2 ^ 32)
  finds_room ns values h capacity number value none less =
      let (low, enough) = limit_tells (length values) capacity number less in
      let more = length-le_values _ _ (listed_new ns values h number value none low) in
      let short = h.short in
      (low, omega (arith, enough, more, length-append ns (number ∷ []), length-set values number (Some value)), omega (arith, short, low))

  -- where there is room for a number, or a value at it, it has a place
  pub low_from_room :
      (ns : List ℕ) (values : List (Option V)) → IsListed ns values → (capacity number : ℕ) →
      (value_in (pairs_of values ns) number ≡ None → number < limit_of (length values) capacity) → number < length values
  low_from_room ns values h capacity number room = go (value_at values number) refl where
    go : (o : Option V) → value_at values number ≡ o → number < length values
    go (Some v) e = low_from_value values number v e
    go None e = (limit_tells (length values) capacity number (room (value_in_is ns values h number ∙ e))).0

  -- places without a value change nothing
  pub listed_longer :
      (ns : List ℕ) (values others : List (Option V)) → IsListed ns values → ((n : ℕ) → value_at others n ≡ value_at values n) →
      length others ≤ 2 ^ 32 → IsListed ns others
  listed_longer ns values others h alike short = record {
    listed = λ n. h.listed n ∙ ap is_some (sym (alike n));
    once = h.once;
    short = short;
  }

  pub longer_alike :
      (values others : List (Option V)) (size : ℕ) → length others ≡ size →
      ((k : ℕ) → k < length values → value_at others k ≡ value_at values k) →
      ((k : ℕ) → length values ≤ k → k < size → value_at others k ≡ None) → (n : ℕ) → value_at others n ≡ value_at values n
  longer_alike values others size long below above n = ⊎_elim
      (λ l. below n l)
      (λ past. ⊎_elim
      (λ l. above n past l)
      (λ far. get_or-eq_default others None (omega (arith, far, long)))
      (cases_lt n size)
      ∙ sym (get_or-eq_default values None past))
      (cases_lt n (length values))
