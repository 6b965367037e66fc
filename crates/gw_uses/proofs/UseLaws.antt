-- The first uses that are noted, item by item and step by step, and those of fewer steps.
use Rattle.std.proofs.Common.{◌≡◌, ℕ, zero, suc, ◌<◌, ◌≤◌, Bool, true, false, cond, ◌||◌, nat_lt, Option, Some, None, refl, ◌∙◌, ⊎_elim, ◌⊎◌, arith}
use Rattle.std.specs.List.{list_any}
use Rattle.std.proofs.lemmas.Bool.Decides.{nat_tests}
use Rattle.gw_meaning.specs.declared.item.Item.{Item}
use Rattle.gw_meaning.specs.Listing.{Listing}
use Rattle.gw_meaning.specs.Reads.{or_later, first_reading, reads}
use Rattle.gw_uses.specs.Steps.{below}

-- one more item of the same step
pub or_later_more :
    (o : Option ℕ) (a b : Bool) (step : ℕ) →
    or_later (or_later o (cond a (Some step) None)) (cond b (Some step) None) ≡ or_later o (cond (a || b) (Some step) None)
or_later_more (Some n) a b step = refl
or_later_more None true b step = refl
or_later_more None false b step = refl

below_is : (m n : ℕ) → n < m → below m (Some n) ≡ Some n
below_is m n less = let e : nat_lt n m ≡ true = grind (arith, nat_tests) in rw e refl

below_not : (m n : ℕ) → m ≤ n → below m (Some n) ≡ None
below_not m n above = let e : nat_lt n m ≡ false = grind (arith, nat_tests) in rw e refl

-- a step that is not below a bound is no step below it
pub below_later : (m n : ℕ) (o : Option ℕ) (b : Bool) → m ≤ n → below m (or_later o (cond b (Some n) None)) ≡ below m o
below_later m n (Some k) b above = refl
below_later m n None true above = below_not m n above
below_later m n None false above = refl

-- what is below a bound is below a greater one
below_more : (n : ℕ) (o : Option ℕ) (b : Bool) → below n o ≡ o → below (suc n) (or_later o (cond b (Some n) None)) ≡ or_later o (cond b (Some n) None)
below_more n None true h = below_is (suc n) n (omega arith)
below_more n None false h = refl
below_more n (Some k) b h = go (nat_lt k n) refl h where
  go : (a : Bool) → nat_lt k n ≡ a → cond a (Some k) None ≡ Some k → below (suc n) (Some k) ≡ Some k
  go true e h = below_is (suc n) k (grind (arith, nat_tests))
  go false e h = absurd cc

-- the first readings of fewer steps are those below
pub reading_cut : (p : Item → Bool) (t : Listing) (seed m n : ℕ) → m ≤ n → below m (first_reading p t seed n) ≡ first_reading p t seed m
reading_cut p t seed zero zero less = refl
reading_cut p t seed (suc m) zero less = absurd (omega (arith, less))
reading_cut p t seed m (suc n) less = ⊎_elim
    (λ (h : m ≤ n). below_later m n (first_reading p t seed n) (list_any p (reads t seed n)) h ∙ reading_cut p t seed m n h)
    (λ (h : m ≡ suc n). rw h (below_more n (first_reading p t seed n) (list_any p (reads t seed n)) (reading_cut p t seed n n (omega arith))))
    (either m n less) where
      either : (m n : ℕ) → m ≤ suc n → (m ≤ n) ⊎ (m ≡ suc n)
      either m n less = grind arith
