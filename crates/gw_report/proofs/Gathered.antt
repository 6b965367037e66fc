-- The values of a table, gathered run by run.
use Rattle.std.proofs.Common.{◌≡◌, ℕ, ℤ, pos, zero, suc, ◌+◌, ◌-◌, ◌<◌, ◌≤◌, List, [], ◌∷◌, ◌++◌, length, take, Option, get_or, slice_get, Some, None, unwrap_or, refl, ap, ap₂, sym, subst, ◌∙◌, inl, inr, arith}
use Rattle.std.specs.Prelude.{nat_lt}
use Rattle.std.proofs.lemmas.Bool.{cases_Bool, ltb-true, ltb-false}
use Rattle.std.proofs.lemmas.List.{get_or_append_left, get_or-append-add, length-append}
use Rattle.std.proofs.lemmas.Option.{slice_get_past}
use Rattle.gw_nums.specs.Range.{magnitude}
use Rattle.gw_shared.specs.Runs.{IsRun}
use Rattle.gw_report.specs.Moments.{AreValues}

none_some : (o : Option ℤ) (r : ℤ) → o ≡ None → o ≡ Some r → ⊥
none_some o r none some = cc

same_front : (zs run : List ℤ) → ((k : ℕ) → k < length run → slice_get zs k ≡ slice_get run k) → take (length run) zs ≡ run
same_front zs [] h = refl
same_front [] (r ∷ run) h = absurd (none_is (h 0 (omega arith))) where
  none_is : None ≡ Some r → ⊥
  none_is e = cc
same_front (z ∷ zs) (r ∷ run) h =
    ap₂ (λ y ys. y ∷ ys) (ap (λ o. unwrap_or o z) (h 0 (omega arith))) (same_front zs run (λ k lt. h (suc k) (omega arith)))

pub run_taken : (zs : List ℤ) (i : ℕ) (run : List ℤ) → IsRun zs i run → take (i + length run) zs ≡ take i zs ++ run
run_taken zs zero run h =
    let e : 0 + length run ≡ length run = omega arith in
    ap (λ (n : ℕ). take n zs) e ∙
    same_front zs run (λ k lt. (let same : 0 + k ≡ k = omega arith in subst (λ (n : ℕ). slice_get zs n ≡ slice_get run k) same (h k lt)))
run_taken [] (suc i) [] h = let e : suc i + 0 ≡ suc i = omega arith in ap (λ (n : ℕ). take n []) e
run_taken [] (suc i) (r ∷ run) h = absurd (none_some (slice_get [] (suc i + 0)) r (slice_get_past [] (suc i + 0) (omega arith)) (h 0 (omega arith)))
run_taken (z ∷ zs) (suc i) run h =
    let e : suc i + length run ≡ suc (i + length run) = omega arith in
    ap (λ (n : ℕ). take n (z ∷ zs)) e ∙ ap (λ ys. z ∷ ys) (run_taken zs i run (λ k lt.
    (let same : suc i + k ≡ suc (i + k) = omega arith in subst (λ (n : ℕ). slice_get (z ∷ zs) n ≡ slice_get run k) same (h k lt))))

-- a run lies within the list
pub run_within : (zs : List ℤ) (i : ℕ) (run : List ℤ) → i ≤ length zs → IsRun zs i run → i + length run ≤ length zs
run_within zs zero [] le h = omega arith
run_within zs zero (r ∷ run) le h =
    let w = within zs (r ∷ run) (λ k lt.
    (let same : 0 + k ≡ k = omega arith in subst (λ (n : ℕ). slice_get zs n ≡ slice_get (r ∷ run) k) same (h k lt))) in
    omega (arith, w) where
      within : (ys rs : List ℤ) → ((k : ℕ) → k < length rs → slice_get ys k ≡ slice_get rs k) → length rs ≤ length ys
      within ys [] h = omega arith
      within [] (r ∷ rs) h = absurd (none_is (h 0 (omega arith))) where
        none_is : None ≡ Some r → ⊥
        none_is e = cc
      within (y ∷ ys) (r ∷ rs) h = let more = within ys rs (λ k lt. h (suc k) (omega arith)) in omega (arith, more)
run_within [] (suc i) run le h = omega arith
run_within (z ∷ zs) (suc i) run le h =
    let more = run_within zs i run (omega arith) (λ k lt.
    (let same : suc i + k ≡ suc (i + k) = omega arith in subst (λ (n : ℕ). slice_get (z ∷ zs) n ≡ slice_get run k) same (h k lt))) in
    omega (arith, more)

-- values after values
pub values_behind : (xs ys : List ℤ) → AreValues xs → AreValues ys → AreValues (xs ++ ys)
values_behind xs ys front back k lt = elim (cases_Bool (nat_lt k (length xs))) [
  | inl is ↦
      let here = ltb-true k (length xs) is in
      subst (λ z. magnitude z ≤ 1000000000) (sym (get_or_append_left xs ys (pos 0) k here)) (front k here)
  | inr fails ↦
      let there = ltb-false k (length xs) fails in
      let e : length xs + (k - length xs) ≡ k = omega (arith, there) in
      let z : get_or (xs ++ ys) k (pos 0) ≡ get_or ys (k - length xs) (pos 0) =
      ap (λ (n : ℕ). get_or (xs ++ ys) n (pos 0)) (sym e) ∙ get_or-append-add xs ys (k - length xs) (pos 0) in
      subst (λ y. magnitude y ≤ 1000000000) (sym z) (back (k - length xs) (omega (arith, there, lt, length-append xs ys)))
]
