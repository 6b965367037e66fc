-- Lists that are sifted by a test, and tests of all or any of a list.
use Rattle.std.proofs.Common.{◌≡◌, Bool, true, false, cond, not, ◌&&◌, ◌||◌, List, [], ◌∷◌, map, filter, refl, ap, ◌∙◌}
use Rattle.std.specs.List.{All}
use Rattle.std.proofs.lemmas.List.Elements.{All-head, All-tail}

module _ {A B : Type 0} (f : A → B) (p : B → Bool) where
  -- to sift what a list is mapped to is to map what is sifted of it
  pub filter_mapped : (xs : List A) → filter p (map f xs) ≡ map f (filter (λ x. p (f x)) xs)
  filter_mapped [] = refl
  filter_mapped (x ∷ xs) = go (p (f x)) (filter_mapped xs) where
    go : (b : Bool) → filter p (map f xs) ≡ map f (filter (λ x. p (f x)) xs) →
        cond b (f x ∷ filter p (map f xs)) (filter p (map f xs)) ≡
        map f (cond b (x ∷ filter (λ x. p (f x)) xs) (filter (λ x. p (f x)) xs))
    go true rest = ap (λ ys. f x ∷ ys) rest
    go false rest = rest

module _ {A : Type 0} (p : A → Bool) where
  -- where none passes, all stay
  pub none_passes : (xs : List A) → All (λ x. p x ≡ false) xs → filter p xs ≡ []
  none_passes [] all = refl
  none_passes (x ∷ xs) all =
      ap (λ b. cond b (x ∷ filter p xs) (filter p xs)) (All-head (λ y. p y ≡ false) x xs all) ∙
      none_passes xs (All-tail (λ y. p y ≡ false) x xs all)

  pub all_stay : (xs : List A) → filter p xs ≡ [] → filter (λ x. not (p x)) xs ≡ xs
  all_stay [] none = refl
  all_stay (x ∷ xs) none = go (p x) none (all_stay xs) where
    go : (b : Bool) → cond b (x ∷ filter p xs) (filter p xs) ≡ [] → (filter p xs ≡ [] → filter (λ x. not (p x)) xs ≡ xs) →
        cond (not b) (x ∷ filter (λ x. not (p x)) xs) (filter (λ x. not (p x)) xs) ≡ x ∷ xs
    go true h rest = absurd cc
    go false h rest = ap (λ ys. x ∷ ys) (rest h)

pub both_true : (b c : Bool) → (b && c) ≡ true → (b ≡ true) × (c ≡ true)
both_true true c h = (refl, h)
both_true false c h = absurd cc

pub neither_true : (b c : Bool) → (b || c) ≡ false → (b ≡ false) × (c ≡ false)
neither_true true c h = absurd cc
neither_true false c h = (refl, h)

pub true_both : (b c : Bool) → b ≡ true → c ≡ true → (b && c) ≡ true
true_both b c h k = ap (λ x. x && c) h ∙ k

pub neither : (b c : Bool) → b ≡ false → c ≡ false → (b || c) ≡ false
neither b c h k = ap (λ x. x || c) h ∙ k
