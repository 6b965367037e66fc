-- A chain in order of priority stays in order, whoever lines up on it.
use Rattle.std.proofs.Common.{◌≡◌, suc, ℤ, pos, negsuc, true, false, List, [], ◌∷◌, ◌++◌, length, refl, ap, arith}
use Rattle.std.specs.List.{AllByRecursion}
use Rattle.std.proofs.lemmas.Bool.{cond_both}
use Rattle.std.proofs.lemmas.Bool.Decides.{nat_tests}
use Rattle.std.proofs.lemmas.List.Elements.{All-from_recursion, recursion_from_All}
use Rattle.std.proofs.lemmas.List.Kept.{AllPairs-cons}
use Rattle.gw_nums.specs.Range.{is_below}
use Rattle.gw_meaning.specs.declared.transaction.Transaction.{Transaction}
use Rattle.gw_meaning.specs.Machine.{AreInOrder}
use Rattle.gw_meaning.specs.Changes.{lined_up, all_lined_up}

-- of two numbers one is not below the other
pub below_one_way : (a b : ℤ) → is_below a b ≡ true → is_below b a ≡ false
below_one_way (pos a) (pos b) h = grind (arith, nat_tests)
below_one_way (pos a) (negsuc b) h = absurd cc
below_one_way (negsuc a) (pos b) h = refl
below_one_way (negsuc a) (negsuc b) h = grind (arith, nat_tests)

-- what is not below a number that is not below another is not below that
pub not_below : (a b c : ℤ) → is_below a b ≡ false → is_below b c ≡ false → is_below a c ≡ false
not_below (pos a) (pos b) (pos c) f g = grind (arith, nat_tests)
not_below (pos a) (pos b) (negsuc c) f g = refl
not_below (pos a) (negsuc b) (pos c) f g = absurd cc
not_below (pos a) (negsuc b) (negsuc c) f g = refl
not_below (negsuc a) (pos b) c f g = absurd cc
not_below (negsuc a) (negsuc b) (pos c) f g = absurd cc
not_below (negsuc a) (negsuc b) (negsuc c) f g = grind (arith, nat_tests)

-- each of these is not of higher priority than x
abbrev pub AreNotAbove : Transaction → List Transaction → Type 0
AreNotAbove x = AllByRecursion (λ (y : Transaction). is_below x.priority y.priority ≡ false)

-- a chain in order, from its front to its back
abbrev pub IsOrdered : List Transaction → Type 0
IsOrdered [] = Unit {0}
IsOrdered (x ∷ xs) = AreNotAbove x xs × IsOrdered xs

tail_in_order : (x : Transaction) (xs : List Transaction) → AreInOrder (x ∷ xs) → AreInOrder xs
tail_in_order x xs h = λ i j d before within. h (suc i) (suc j) d (omega arith) (omega arith)

pub ordered : (xs : List Transaction) → AreInOrder xs → IsOrdered xs
ordered [] h = tt
ordered (x ∷ xs) h = (
  recursion_from_All (λ (y : Transaction). is_below x.priority y.priority ≡ false) xs (λ k d within. h 0 (suc k) d (omega arith) (omega arith)),
  ordered xs
      (tail_in_order x xs h),
)

pub in_order : (xs : List Transaction) → IsOrdered xs → AreInOrder xs
in_order [] h = λ i j d before within. absurd (omega arith)
in_order (x ∷ xs) h = AllPairs-cons (λ (x y : Transaction). is_below x.priority y.priority ≡ false) x xs
    (All-from_recursion (λ (y : Transaction). is_below x.priority y.priority ≡ false) xs h.0) (in_order xs h.1)

-- what a transaction of higher priority stands in front of
not_above_further : (x y : Transaction) (zs : List Transaction) → is_below x.priority y.priority ≡ false → AreNotAbove y zs → AreNotAbove x zs
not_above_further x y [] here rest = tt
not_above_further x y (z ∷ zs) here rest = (not_below x.priority y.priority z.priority here rest.0, not_above_further x y zs here rest.1)

not_above_lined : (y x : Transaction) (zs : List Transaction) → is_below y.priority x.priority ≡ false → AreNotAbove y zs → AreNotAbove y (lined_up x zs)
not_above_lined y x [] here rest = (here, tt)
not_above_lined y x (z ∷ zs) here rest =
    cond_both (is_below z.priority x.priority) (x ∷ z ∷ zs) (z ∷ lined_up x zs) (AreNotAbove y) (λ _. (here, rest))
    (λ _. (rest.0, not_above_lined y x zs here rest.1))

-- one more, and several more
pub ordered_lined : (x : Transaction) (ys : List Transaction) → IsOrdered ys → IsOrdered (lined_up x ys)
ordered_lined x [] h = (tt, tt)
ordered_lined x (y ∷ ys) h =
    cond_both (is_below y.priority x.priority) (x ∷ y ∷ ys) (y ∷ lined_up x ys) IsOrdered
    (λ below. let over = below_one_way y.priority x.priority below in ((over, not_above_further x y ys over h.0), h))
    (λ above. (not_above_lined y x ys above h.0, ordered_lined x ys h.1))

pub ordered_all_lined : (xs ys : List Transaction) → IsOrdered ys → IsOrdered (all_lined_up xs ys)
ordered_all_lined [] ys h = h
ordered_all_lined (x ∷ xs) ys h = ordered_all_lined xs (lined_up x ys) (ordered_lined x ys h)

-- the one at the end of a front stands after none of lower priority
not_above_last : (z : Transaction) (front : List Transaction) (y : Transaction) (back : List Transaction) → AreNotAbove z (front ++ y ∷ back) →
    is_below z.priority y.priority ≡ false
not_above_last z [] y back h = h.0
not_above_last z (w ∷ ws) y back h = not_above_last z ws y back h.1

-- after y, where those after y are of lower priority
pub lined_up_behind : (x : Transaction) (front : List Transaction) (y : Transaction) (back : List Transaction) → IsOrdered (front ++ y ∷ back) →
    is_below y.priority x.priority ≡ false → lined_up x back ≡ x ∷ back → lined_up x (front ++ y ∷ back) ≡ front ++ y ∷ x ∷ back
lined_up_behind x [] y back h above rest = rw above (ap (λ zs. y ∷ zs) rest)
lined_up_behind x (z ∷ zs) y back h above rest =
    rw (not_below z.priority y.priority x.priority (not_above_last z zs y back h.0) above) (ap (λ ws. z ∷ ws) (lined_up_behind x zs y back h.1 above rest))

-- one more stands on it
pub length_lined : (x : Transaction) (ys : List Transaction) → length (lined_up x ys) ≡ suc (length ys)
length_lined x [] = refl
length_lined x (y ∷ ys) =
    cond_both (is_below y.priority x.priority) (x ∷ y ∷ ys) (y ∷ lined_up x ys) (λ zs. length zs ≡ suc (suc (length ys))) (λ _. refl)
    (λ _. ap suc (length_lined x ys))
