-- The least of the first steps from a number on.
use Rattle.std.proofs.Common.{◌≡◌, ℕ, zero, suc, ◌<◌, ◌≤◌, min, Bool, true, false, cond, nat_lt, nat_le, List, [], ◌∷◌, length, take, drop, length-drop, ◌-◌, get_or, Option, Some, None, option_and_then, refl, sym, ap, ◌∙◌, arith}
use Rattle.std.proofs.lemmas.Bool.Decides.{nat_tests}
use Rattle.std.proofs.Math.Seq.{take-length}
use Rattle.gw_lanes.specs.Least.{least, lesser}
use Rattle.gw_uses.specs.Steps.{never, known, step_at, IsLeastFrom}

-- the least of numbers: one of them, and no other is less; none where there are none
abbrev pub IsLeastOf : List ℕ → Option ℕ → Type 0
IsLeastOf ns None = length ns ≡ 0
IsLeastOf ns (Some m) = ((k : ℕ) × (k < length ns) × (get_or ns k never ≡ m)) × ((k : ℕ) → k < length ns → m ≤ get_or ns k never)

least_of : (ns : List ℕ) → IsLeastOf ns (least ns)
least_of [] = refl
least_of (n ∷ ns) = go (least ns) (least_of ns) where
  smaller : (m : ℕ) → IsLeastOf ns (Some m) → (b : Bool) → nat_le n m ≡ b → IsLeastOf (n ∷ ns) (Some (min n m))
  smaller m h true e =
      let at : min n m ≡ n = grind (arith, nat_tests) in
      let low : n ≤ m = grind (arith, nat_tests) in
      rw at ((0, omega arith, refl), front low) where
        front : n ≤ m → (k : ℕ) → k < suc (length ns) → n ≤ get_or (n ∷ ns) k never
        front low zero within = omega arith
        front low (suc k) within = let l = h.1 k (omega (arith, within)) in omega (arith, l, low)
  smaller m h false e =
      let at : min n m ≡ m = grind (arith, nat_tests) in
      let low : m ≤ n = grind (arith, nat_tests) in
      let (k, within, is) = h.0 in
      rw at ((suc k, omega (arith, within), is), front low) where
        front : m ≤ n → (k : ℕ) → k < suc (length ns) → m ≤ get_or (n ∷ ns) k never
        front low zero within = low
        front low (suc k) within = h.1 k (omega (arith, within))

  alone : length ns ≡ 0 → (k : ℕ) → k < suc (length ns) → n ≤ get_or (n ∷ ns) k never
  alone none zero within = omega arith
  alone none (suc k) within = absurd (omega (arith, within, none))

  go : (o : Option ℕ) → IsLeastOf ns o → IsLeastOf (n ∷ ns) (Some (lesser n o))
  go None h = ((0, omega arith, refl), alone h)
  go (Some m) h = smaller m h (nat_le n m) refl

-- a step that is noted is one of the list
noted_inside : (xs : List ℕ) (k n : ℕ) → step_at xs k ≡ Some n → (k < length xs) × (get_or xs k never ≡ n)
noted_inside [] k n is = absurd cc
noted_inside (x ∷ xs) zero n is = (omega arith, known_is x n is) where
  known_is : (x n : ℕ) → known x ≡ Some n → x ≡ n
  known_is x n is = go (nat_lt x never) is where
    go : (b : Bool) → cond b (Some x) None ≡ Some n → x ≡ n
    go true is = cc
    go false is = absurd cc
noted_inside (x ∷ xs) (suc k) n is = let h = noted_inside xs k n is in (let l = h.0 in omega (arith, l), h.1)

noted_below : (xs : List ℕ) (k n : ℕ) → step_at xs k ≡ Some n → n < never
noted_below xs k n is = go (nat_lt (get_or xs k never) never) refl is where
  go : (b : Bool) → nat_lt (get_or xs k never) never ≡ b → cond b (Some (get_or xs k never)) None ≡ Some n → n < never
  go true e h = let same : get_or xs k never ≡ n = cc in grind (arith, nat_tests)
  go false e h = absurd cc

none_noted : (xs : List ℕ) (k : ℕ) → ((n : ℕ) → step_at xs k ≡ Some n → ⊥) → step_at xs k ≡ None
none_noted xs k h = go (step_at xs k) refl where
  go : (o : Option ℕ) → step_at xs k ≡ o → step_at xs k ≡ None
  go None e = e
  go (Some n) e = absurd (h n e)

least_from_start : (xs : List ℕ) (o : Option ℕ) → IsLeastOf xs o → IsLeastFrom xs 0 (option_and_then known o)
least_from_start xs None h = λ k low. none_noted xs k (λ n is. let inside = (noted_inside xs k n is).0 in omega (arith, inside, h))
least_from_start xs (Some m) h = go (nat_lt m never) refl where
  go : (b : Bool) → nat_lt m never ≡ b → IsLeastFrom xs 0 (cond b (Some m) None)
  go true e =
      let (k, within, is) = h.0 in
      let noted : step_at xs k ≡ Some m = ap (λ x. known x) is ∙ (rw e refl) in
      ((k, omega arith, noted), λ q n low at. let (inside, same) = noted_inside xs q n at in let l = h.1 q inside in omega (arith, l, same))
  go false e = λ k low. none_noted xs k (λ n is.
      let (inside, same) = noted_inside xs k n is in
      let l = h.1 k inside in
      let less = noted_below xs k n is in
      grind (arith, nat_tests))

further : (x : ℕ) (xs : List ℕ) (i : ℕ) (o : Option ℕ) → IsLeastFrom xs i o → IsLeastFrom (x ∷ xs) (suc i) o
further x xs i None h = one where
  one : (k : ℕ) → suc i ≤ k → step_at (x ∷ xs) k ≡ None
  one zero low = absurd (omega (arith, low))
  one (suc k) low = h k (omega (arith, low))
further x xs i (Some m) h = (there, one) where
  there : (k : ℕ) × (suc i ≤ k) × (step_at (x ∷ xs) k ≡ Some m)
  there = let (k, low, is) = h.0 in (suc k, omega (arith, low), is)

  one : (k n : ℕ) → suc i ≤ k → step_at (x ∷ xs) k ≡ Some n → m ≤ n
  one zero n low is = absurd (omega (arith, low))
  one (suc k) n low is = h.1 k n (omega (arith, low)) is

-- the least from a place on, of which there may be none
pub least_from : (xs : List ℕ) (i : ℕ) → i ≤ length xs → IsLeastFrom xs i (option_and_then known (least (drop i xs)))
least_from xs zero within = least_from_start xs (least xs) (least_of xs)
least_from [] (suc i) within = absurd (omega (arith, within))
least_from (x ∷ xs) (suc i) within = further x xs i (option_and_then known (least (drop i xs))) (least_from xs i (omega (arith, within)))

-- from further on than there is room for there is none
pub least_beyond : (xs : List ℕ) (i : ℕ) → length xs ≤ i → IsLeastFrom xs i None
least_beyond xs i over = λ k low. none_noted xs k (λ n is. let inside = (noted_inside xs k n is).0 in omega (arith, inside, over, low))

-- what stands from a place on, written as a range to the end
pub rest_whole : (xs : List ℕ) (i : ℕ) → take (length xs - i) (drop i xs) ≡ drop i xs
rest_whole xs i = ap (λ n. take n (drop i xs)) (sym (length-drop i xs)) ∙ take-length (drop i xs)
