-- The first step that read something touched, probe by probe.
use Rattle.std.proofs.Common.{◌≡◌, ℕ, zero, suc, ◌<◌, ◌≤◌, min, ◌||◌, nat_le, Bool, true, false, cond, List, [], ◌∷◌, ◌++◌, Option, Some, None, refl, sym, ap, ◌∙◌, ◌+◌, length, take, get_or, add-one, arith}
use Rattle.std.specs.List.{list_any}
use Rattle.std.proofs.Math.Bool.{or-false}
use Rattle.std.proofs.lemmas.Bool.Decides.{nat_tests}
use Rattle.std.proofs.lemmas.List.Folds.{list_any-append}
use Rattle.std.proofs.lemmas.List.Elements.{filter_map-append}
use Rattle.std.proofs.Math.Seq.{take-suc}
use Rattle.gw_meaning.specs.declared.item.Item.{Item}
use Rattle.gw_meaning.specs.Listing.{Listing}
use Rattle.gw_meaning.specs.Reads.{or_later, first_reading, reads}
use Rattle.gw_uses.proofs.FirstLaws.{IsFirstReading, first_is, first_same}
use Rattle.gw_touch.specs.declared.touch.Probe.{Probe}
use Rattle.gw_touch.specs.Touching.{is_probed, is_touched, given}
use Rattle.gw_uses.specs.Asks.{earlier}

-- properties that agree have the same first reading
any_same : (p q : Item → Bool) → ((i : Item) → p i ≡ q i) → (is : List Item) → list_any p is ≡ list_any q is
any_same p q same [] = refl
any_same p q same (i ∷ is) = ap (λ b. b || list_any p is) (same i) ∙ ap (λ b. q i || b) (any_same p q same is)

pub same_reading : (p q : Item → Bool) → ((i : Item) → p i ≡ q i) → (t : Listing) (seed n : ℕ) → first_reading p t seed n ≡ first_reading q t seed n
same_reading p q same t seed zero = refl
same_reading p q same t seed (suc n) =
    ap (λ o. or_later o (cond (list_any p (reads t seed n)) (Some n) None)) (same_reading p q same t seed n)
    ∙ ap (λ b. or_later (first_reading q t seed n) (cond b (Some n) None)) (any_same p q same (reads t seed n))

-- what no item has is read nowhere
none_any : (p : Item → Bool) → ((i : Item) → p i ≡ false) → (is : List Item) → list_any p is ≡ false
none_any p none [] = refl
none_any p none (i ∷ is) = ap (λ b. b || list_any p is) (none i) ∙ none_any p none is

pub no_reading : (p : Item → Bool) → ((i : Item) → p i ≡ false) → (t : Listing) (seed n : ℕ) → None ≡ first_reading p t seed n
no_reading p none t seed n = first_same p t seed n None (first_reading p t seed n) (λ k less. none_any p none (reads t seed k)) (first_is p t seed n)

-- of two properties the earlier one is read first
or_any : (p q : Item → Bool) (is : List Item) → list_any (λ i. p i || q i) is ≡ (list_any p is || list_any q is)
or_any p q [] = refl
or_any p q (i ∷ is) = go (p i) (q i) (list_any p is) (list_any q is) (or_any p q is) where
  go : (a b c d : Bool) → list_any (λ i. p i || q i) is ≡ (c || d) → ((a || b) || list_any (λ i. p i || q i) is) ≡ ((a || c) || (b || d))
  go true b c d h = refl
  go false true true d h = refl
  go false true false d h = refl
  go false false c d h = h

module _ (p q : Item → Bool) (t : Listing) (seed n : ℕ) where
  both : Item → Bool
  both i = p i || q i

  is_earlier : (a b : Option ℕ) → IsFirstReading p t seed n a → IsFirstReading q t seed n b → IsFirstReading (λ i. p i || q i) t seed n (earlier a b)
  is_earlier None None h k = λ m less. or_any p q (reads t seed m) ∙ (rw (h m less, k m less) refl)
  is_earlier None (Some m) h k = (
    k.0,
    or_any p q (reads t seed m) ∙ (rw (h m k.0, k.1) refl),
    λ i less. or_any p q (reads t seed i) ∙
        (let l = k.0 in rw (h i (omega (arith, less, l)), k.2 i less) refl),
  )
  is_earlier (Some m) None h k = (
    h.0,
    or_any p q (reads t seed m) ∙ (rw (h.1) refl),
    λ i less. or_any p q (reads t seed i) ∙
        (let l = h.0 in rw (h.2 i less, k i (omega (arith, less, l))) refl),
  )
  is_earlier (Some m) (Some j) h k = go (nat_le m j) refl where
    go : (b : Bool) → nat_le m j ≡ b → IsFirstReading (λ i. p i || q i) t seed n (Some (min m j))
    go true e =
        let at : min m j ≡ m = grind (arith, nat_tests) in
        let low : m ≤ j = grind (arith, nat_tests) in
        rw at (
          h.0,
          or_any p q (reads t seed m) ∙ (rw (h.1) refl),
          λ i less. or_any p q (reads t seed i) ∙
              (rw (h.2 i less, k.2 i (omega (arith, less, low))) refl),
        )
    go false e =
        let at : min m j ≡ j = grind (arith, nat_tests) in
        let low : j < m = grind (arith, nat_tests) in
        rw at (
          k.0,
          or_any p q (reads t seed j) ∙ (rw (h.2 j low, k.1) refl),
          λ i less. or_any p q (reads t seed i) ∙
              (rw (h.2 i (omega (arith, less, low)), k.2 i less) refl),
        )

  pub either_reading : earlier (first_reading p t seed n) (first_reading q t seed n) ≡ first_reading (λ i. p i || q i) t seed n
  either_reading = first_same (λ i. p i || q i) t seed n (earlier (first_reading p t seed n) (first_reading q t seed n))
      (first_reading (λ i. p i || q i) t seed n) (is_earlier (first_reading p t seed n) (first_reading q t seed n) (first_is p t seed n) (first_is q t seed n))
      (first_is (λ i. p i || q i) t seed n)

-- no probe, one, and probes after others
pub touched_none : (t : Listing) (seed n : ℕ) → None ≡ first_reading (is_touched []) t seed n
touched_none t seed n = no_reading (is_touched []) (λ i. refl) t seed n

pub touched_one : (p : Probe) (t : Listing) (seed n : ℕ) → first_reading (is_probed p) t seed n ≡ first_reading (is_touched (p ∷ [])) t seed n
touched_one p t seed n = same_reading (is_probed p) (is_touched (p ∷ [])) (λ i. sym (or-false (is_probed p i))) t seed n

pub touched_both : (ps qs : List Probe) (t : Listing) (seed n : ℕ) →
    earlier (first_reading (is_touched ps) t seed n) (first_reading (is_touched qs) t seed n) ≡ first_reading (is_touched (ps ++ qs)) t seed n
touched_both ps qs t seed n =
    either_reading (is_touched ps) (is_touched qs) t seed n
    ∙ same_reading (λ i. is_touched ps i || is_touched qs i) (is_touched (ps ++ qs)) (λ i. sym (list_any-append (λ p. is_probed p i) ps qs)) t seed n

pub joined : (ps qs : List Probe) (t : Listing) (seed n : ℕ) (a b r : Option ℕ) → r ≡ earlier a b → a ≡ first_reading (is_touched ps) t seed n →
    b ≡ first_reading (is_touched qs) t seed n → r ≡ first_reading (is_touched (ps ++ qs)) t seed n
joined ps qs t seed n a b r is one two =
    is ∙ (ap (λ o. earlier o b) one ∙ (ap (λ o. earlier (first_reading (is_touched ps) t seed n) o) two ∙ touched_both ps qs t seed n))

-- one more place, free or not
pub one_more : (ps : List (Option Probe)) (k : ℕ) (x : Option Probe) → k < length ps → x ≡ get_or ps k x → given (take (k + 1) ps) ≡ given (take k ps) ++
    given (x ∷ [])
one_more ps k x less is =
    let step : take (k + 1) ps ≡ take k ps ++ x ∷ [] = rw add-one (take-suc ps k x less ∙ ap (λ y. take k ps ++ y ∷ []) (sym is)) in
    ap given step ∙ filter_map-append (λ p. p) (take k ps) (x ∷ [])
