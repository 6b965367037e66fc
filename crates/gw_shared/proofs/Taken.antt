-- Items that go one by one from one place in a list.
use Rattle.std.proofs.Common.{◌≡◌, ℕ, suc, ◌+◌, ◌-◌, ◌<◌, List, [], ◌∷◌, ◌++◌, length, take, drop, get_or, slice_get, remove, Some, sym, ap, ap₂, ◌∙◌, arith}
use Rattle.std.proofs.lemmas.List.{length-take-le, length-drop, get_or-drop, get_or-append_right, take_more, take_at, drop_at, drop-drop}
use Rattle.std.proofs.lemmas.Option.{get_or_from_slice_get}

module _ {A : Type 0} where
  pub one_taken : (xs ys : List A) (i n : ℕ) (x : A) → ys ≡ take i xs ++ drop (i + n) xs → i + n < length xs → slice_get ys i ≡ Some x →
      take (n + 1) (drop i xs) ≡ take n (drop i xs) ++ x ∷ []
  one_taken xs ys i n x are within there =
      let long : length (take i xs) ≡ i = length-take-le i xs (omega (arith, within)) in
      let is : get_or (drop i xs) n x ≡ x =
      get_or-drop i xs n x ∙ (ap (λ k. get_or xs k x) (omega arith) ∙ (sym (get_or-drop (i + n) xs (i - i) x) ∙
      (sym (get_or-append_right (take i xs) (drop (i + n) xs) i i x long (omega arith)) ∙
      (ap (λ l. get_or l i x) (sym are) ∙ get_or_from_slice_get ys i x x there)))) in
      take_more (drop i xs) n x (omega (arith, within, length-drop i xs)) ∙ ap (λ y. take n (drop i xs) ++ y ∷ []) is

  pub one_out : (xs ys zs : List A) (i n : ℕ) → ys ≡ take i xs ++ drop (i + n) xs → i + n < length xs → zs ≡ remove ys i →
      zs ≡ take i xs ++ drop (i + (n + 1)) xs
  one_out xs ys zs i n are within out =
      let long : length (take i xs) ≡ i = length-take-le i xs (omega (arith, within)) in
      let front : take i ys ≡ take i xs = ap (take i) are ∙ take_at (take i xs) (drop (i + n) xs) i long in
      let rest : drop i ys ≡ drop (i + n) xs = ap (drop i) are ∙ drop_at (take i xs) (drop (i + n) xs) i long in
      let back : drop (suc i) ys ≡ drop (i + (n + 1)) xs =
      ap (λ k. drop k ys) (let e : suc i ≡ i + 1 = omega arith in e) ∙ (sym (drop-drop 1 i ys) ∙ (ap (drop 1) rest ∙ (drop-drop 1 (i + n) xs ∙
      ap (λ k. drop k xs) (let e : i + n + 1 ≡ i + (n + 1) = omega arith in e)))) in
      out ∙ ap₂ (λ a b. a ++ b) front back
