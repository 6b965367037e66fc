-- The clock steps that are noted: the first one beyond a time, one more, and fewer.
use Rattle.std.proofs.Common.{◌≡◌, ℕ, zero, suc, ◌<◌, Bool, true, false, cond, leb, nat_lt, List, [], ◌∷◌, ◌++◌, length, take, get_or, slice_get, Option, Some, None, option_map, refl, sym, is_some, arith}
use Rattle.std.proofs.lemmas.Bool.Decides.{nat_tests}
use mathlib.Core.Bool.{true≢false}
use Rattle.std.specs.List.{AllWithin}
use Rattle.gw_meaning.specs.Reads.{or_later}
use Rattle.gw_uses.specs.declared.clock_steps.ClockStep.{ClockStep}
use Rattle.gw_uses.specs.Steps.{first_beyond, below, AreBelow, IsReached}

-- the first step beyond a time is the first after those that are not
pub first_beyond_at :
    (t : ℕ) (xs : List ClockStep) (i : ℕ) → AllWithin (λ (s : ClockStep). leb s.time t ≡ true) xs 0 i →
    AllWithin (λ (s : ClockStep). leb s.time t ≡ false) xs i (length xs) →
    first_beyond t xs ≡ option_map (λ (s : ClockStep). s.step) (slice_get xs i)
first_beyond_at t [] i early late = refl
first_beyond_at t (s ∷ xs) zero early late =
    let h : leb s.time t ≡ false = late 0 s (omega arith) (omega arith) in
    let b : nat_lt t s.time ≡ true = grind (arith, nat_tests) in
    rw b refl
first_beyond_at t (s ∷ xs) (suc i) early late =
    let h : leb s.time t ≡ true = early 0 s (omega arith) (omega arith) in
    let b : nat_lt t s.time ≡ false = grind (arith, nat_tests) in
    rw b (first_beyond_at t xs i
    (λ k d from to. early (suc k) d (omega arith) (omega (arith, to)))
    (λ k d from to. late (suc k) d (omega (arith, from)) (omega (arith, to))))

-- the first step beyond a time among the first i, where these are those below n
pub first_beyond_taken :
    (t n : ℕ) (xs : List ClockStep) (i : ℕ) → AllWithin (λ (s : ClockStep). nat_lt s.step n ≡ true) xs 0 i →
    AllWithin (λ (s : ClockStep). nat_lt s.step n ≡ false) xs i (length xs) →
    first_beyond t (take i xs) ≡ below n (first_beyond t xs)
first_beyond_taken t n [] zero early late = refl
first_beyond_taken t n [] (suc i) early late = refl
first_beyond_taken t n (s ∷ xs) zero early late =
    let h : nat_lt s.step n ≡ false = late 0 s (omega arith) (omega arith) in
    let none : AllWithin (λ (s : ClockStep). nat_lt s.step n ≡ true) xs 0 0 = λ k d from to. absurd (omega (arith, to)) in
    let rest : first_beyond t (take 0 xs) ≡ below n (first_beyond t xs) =
    first_beyond_taken t n xs zero none (λ k d from to. late (suc k) d (omega arith) (omega (arith, to))) in
    go (nat_lt t s.time) h rest where
      go : (b : Bool) → nat_lt s.step n ≡ false → None ≡ below n (first_beyond t xs) → None ≡ below n (cond b (Some s.step) (first_beyond t xs))
      go true h rest = rw h refl
      go false h rest = rest
first_beyond_taken t n (s ∷ xs) (suc i) early late =
    let h : nat_lt s.step n ≡ true = early 0 s (omega arith) (omega arith) in
    let rest : first_beyond t (take i xs) ≡ below n (first_beyond t xs) = first_beyond_taken t n xs i
    (λ k d from to. early (suc k) d (omega arith) (omega (arith, to)))
    (λ k d from to. late (suc k) d (omega (arith, from)) (omega (arith, to))) in
    go (nat_lt t s.time) h rest where
      go :
          (b : Bool) → nat_lt s.step n ≡ true → first_beyond t (take i xs) ≡ below n (first_beyond t xs) →
          cond b (Some s.step) (first_beyond t (take i xs)) ≡ below n (cond b (Some s.step) (first_beyond t xs))
      go true h rest = rw h refl
      go false h rest = rest

-- one more at the end
pub first_beyond_more :
    (t : ℕ) (xs : List ClockStep) (s : ClockStep) →
    first_beyond t (xs ++ s ∷ []) ≡ or_later (first_beyond t xs) (cond (nat_lt t s.time) (Some s.step) None)
first_beyond_more t [] s = refl
first_beyond_more t (r ∷ xs) s = go (nat_lt t r.time) (first_beyond_more t xs s) where
  go :
      (b : Bool) → first_beyond t (xs ++ s ∷ []) ≡ or_later (first_beyond t xs) (cond (nat_lt t s.time) (Some s.step) None) →
      cond b (Some r.step) (first_beyond t (xs ++ s ∷ [])) ≡ or_later (cond b (Some r.step) (first_beyond t xs)) (cond (nat_lt t s.time) (Some s.step) None)
  go true h = refl
  go false h = h

-- a step to a moment beyond this one is there
reached_at : (t : ℕ) (xs : List ClockStep) (k : ℕ) (d : ClockStep) → k < length xs → t < (get_or xs k d).time → is_some (first_beyond t xs) ≡ true
reached_at t [] k d within later = absurd (omega (arith, within))
reached_at t (s ∷ xs) zero d within later = let b : nat_lt t s.time ≡ true = grind (arith, nat_tests) in rw b refl
reached_at t (s ∷ xs) (suc k) d within later = go (nat_lt t s.time) (reached_at t xs k d (omega (arith, within)) later) where
  go : (b : Bool) → is_some (first_beyond t xs) ≡ true → is_some (cond b (Some s.step) (first_beyond t xs)) ≡ true
  go true h = refl
  go false h = h

-- one that the clock was set beyond before is no first
pub first_beyond_known :
    (t step time : ℕ) (xs : List ClockStep) → IsReached time xs →
    first_beyond t xs ≡ or_later (first_beyond t xs) (cond (nat_lt t time) (Some step) None)
first_beyond_known t step time xs (k, x, within, at, reached) =
    go (nat_lt t time) refl (first_beyond t xs) (λ below. reached_at t xs k x within (rw at (omega (arith, below, reached)))) where
      go : (b : Bool) → nat_lt t time ≡ b → (o : Option ℕ) → (t < time → is_some o ≡ true) → o ≡ or_later o (cond b (Some step) None)
      go b e (Some n) h = refl
      go false e None h = refl
      go true e None h = absurd (true≢false (sym (h (grind (arith, nat_tests)))))

-- the first i lie below n
pub below_taken : (n : ℕ) (xs : List ClockStep) (i : ℕ) → AllWithin (λ (s : ClockStep). nat_lt s.step n ≡ true) xs 0 i → AreBelow n (take i xs)
below_taken n [] zero early = λ k d within. absurd (omega (arith, within))
below_taken n [] (suc i) early = λ k d within. absurd (omega (arith, within))
below_taken n (s ∷ xs) zero early = λ k d within. absurd (omega (arith, within))
below_taken n (s ∷ xs) (suc i) early = go (below_taken n xs i (λ k d from to. early (suc k) d (omega arith) (omega (arith, to)))) where
  go : AreBelow n (take i xs) → AreBelow n (take (suc i) (s ∷ xs))
  go rest zero d within = let h : nat_lt s.step n ≡ true = early 0 s (omega arith) (omega arith) in grind (arith, nat_tests)
  go rest (suc k) d within = rest k d (omega (arith, within))
