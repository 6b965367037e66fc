-- Order by time: a list that rises, and at each time has what another list has there in the same order, is that list
-- put in order.
use Rattle.std.proofs.Common.{◌≡◌, ℕ, zero, suc, ◌<◌, ◌≤◌, Bool, true, false, cond, eqb, leb, List, [], ◌∷◌, map, filter, length, get_or, refl, ap, sym, ◌∙◌, inl, inr, arith}
use Rattle.std.specs.List.Sorted.{IsSortedByKey, IsStableByKey, IsNonDecreasingBy, ties}
use Rattle.std.specs.Ordering.{nat_cmp, is_lt}
use Rattle.std.proofs.lemmas.Bool.{cases_Bool, cases_order, eqb-true, eq-eqb, ne_eqb, leb-true, leb-false, lt-ltb, le-ltb}
use Rattle.std.proofs.lemmas.List.Sorted.{IsNonDecreasingBy-from_sort}
use Rattle.gw_report.specs.Chains.{put_by, ordered_by}

-- what reads each, put in order by it
put_map : {X Y : Type 0} (f : X → Y) (time : Y → ℕ) (x : X) (xs : List X) → map f (put_by (λ a. time (f a)) x xs) ≡ put_by time (f x) (map f xs)
put_map f time x [] = refl
put_map f time x (y ∷ ys) = elim (cases_Bool (leb (time (f x)) (time (f y)))) [
  | inl e ↦ rw e refl
  | inr e ↦ rw (e, put_map f time x ys) refl
]

pub ordered_map : {X Y : Type 0} (f : X → Y) (time : Y → ℕ) (xs : List X) → map f (ordered_by (λ a. time (f a)) xs) ≡ ordered_by time (map f xs)
ordered_map f time [] = refl
ordered_map f time (x ∷ xs) = put_map f time x (ordered_by (λ a. time (f a)) xs) ∙ ap (put_by time (f x)) (ordered_map f time xs)

module _ {X : Type 0} (time : X → ℕ) where
  -- from a time on
  abbrev From : ℕ → List X → Type 0
  From n [] = Unit {0}
  From n (x ∷ xs) = (n ≤ time x) × From n xs

  -- by time
  abbrev Rises : List X → Type 0
  Rises [] = Unit {0}
  Rises (x ∷ xs) = From (time x) xs × Rises xs

  From-at : (n : ℕ) (xs : List X) → ((j : ℕ) (d : X) → j < length xs → n ≤ time (get_or xs j d)) → From n xs
  From-at n [] h = tt
  From-at n (x ∷ xs) h = (h zero x (omega arith), From-at n xs (λ j d below. h (suc j) d (omega arith)))

  Rises-at : (xs : List X) → IsNonDecreasingBy time xs → Rises xs
  Rises-at [] h = tt
  Rises-at (x ∷ xs) h = (
    From-at (time x) xs (λ j d below. h zero (suc j) d (omega arith) (omega arith)),
    Rises-at xs
        (λ i j d up below. h (suc i) (suc j) d (omega arith) (omega arith)),
  )

  From-less : (m n : ℕ) (xs : List X) → m ≤ n → From n xs → From m xs
  From-less m n [] h from = tt
  From-less m n (x ∷ xs) h from = let first : n ≤ time x = from.0 in (omega arith, From-less m n xs h from.1)

  From-put : (n : ℕ) (x : X) (xs : List X) → n ≤ time x → From n xs → From n (put_by time x xs)
  From-put n x [] h from = (h, tt)
  From-put n x (y ∷ ys) h from = elim (cases_Bool (leb (time x) (time y))) [
    | inl e ↦ rw e (h, from)
    | inr e ↦ rw e (from.0, From-put n x ys h from.1)
  ]

  Rises-put : (x : X) (xs : List X) → Rises xs → Rises (put_by time x xs)
  Rises-put x [] up = (tt, tt)
  Rises-put x (y ∷ ys) up = elim (cases_Bool (leb (time x) (time y))) [
    | inl e ↦ let le = leb-true (time x) (time y) e in rw e ((le, From-less (time x) (time y) ys le up.0), up)
    | inr e ↦ let lt = leb-false (time x) (time y) e in let le : time y ≤ time x = omega arith in rw e (From-put (time y) x ys le up.0, Rises-put x ys up.1)
  ]

  Rises-ordered : (xs : List X) → Rises (ordered_by time xs)
  Rises-ordered [] = tt
  Rises-ordered (x ∷ xs) = Rises-put x (ordered_by time xs) (Rises-ordered xs)

  -- at one time
  abbrev is_at : ℕ → X → Bool
  is_at n x = eqb (time x) n

  none_at : (n m : ℕ) (xs : List X) → n < m → From m xs → filter (is_at n) xs ≡ []
  none_at n m [] h from = refl
  none_at n m (x ∷ xs) h from =
      let first : m ≤ time x = from.0 in
      let other : eqb (time x) n ≡ false = ne_eqb (time x) n (λ e. absurd (omega arith)) in
      rw other (none_at n m xs h from.1)

  filter_put : (n : ℕ) (x : X) (xs : List X) → filter (is_at n) (put_by time x xs) ≡ filter (is_at n) (x ∷ xs)
  filter_put n x [] = refl
  filter_put n x (y ∷ ys) = elim (cases_Bool (leb (time x) (time y))) [
    | inl e ↦ rw e refl
    | inr e ↦
        let lt = leb-false (time x) (time y) e in
        let rest = filter_put n x ys in
        rw e (elim (cases_Bool (eqb (time x) n)) [
          | inl a ↦
              let at = eqb-true (time x) n a in
              let other : eqb (time y) n ≡ false = ne_eqb (time y) n (λ i. absurd (omega arith)) in
              let rest' = rw a at rest in rw (other, a) rest'
          | inr a ↦ let rest' = rw a at rest in rw (a, rest') refl
        ])
  ]

  filter_ordered : (n : ℕ) (xs : List X) → filter (is_at n) (ordered_by time xs) ≡ filter (is_at n) xs
  filter_ordered n [] = refl
  filter_ordered n (x ∷ xs) = filter_put n x (ordered_by time xs) ∙ ap (λ ys. cond (is_at n x) (x ∷ ys) ys) (filter_ordered n xs)

  abbrev Same : List X → List X → Type 0
  Same xs ys = (z : X) → filter (is_at (time z)) xs ≡ filter (is_at (time z)) ys

  at_own : (x : X) → eqb (time x) (time x) ≡ true
  at_own x = eq-eqb (time x) (time x) refl

  same_rest : (x y : X) (xs ys : List X) → x ≡ y → Same (x ∷ xs) (y ∷ ys) → Same xs ys
  same_rest x y xs ys e same z =
      let n = time z in
      let here : filter (is_at n) (x ∷ xs) ≡ filter (is_at n) (x ∷ ys) = same z ∙ ap (λ w. filter (is_at n) (w ∷ ys)) (sym e) in
      elim (cases_Bool (eqb (time x) n)) [
        | inl a ↦ let both : x ∷ filter (is_at n) xs ≡ x ∷ filter (is_at n) ys = rw a at here in cc
        | inr a ↦ rw a at here
      ]

  sooner_first : (x y : X) (xs ys : List X) → time x < time y → From (time y) ys → Same (x ∷ xs) (y ∷ ys) → ⊥
  sooner_first x y xs ys h from same =
      let a = at_own x in
      let none : filter (is_at (time x)) (y ∷ ys) ≡ [] = none_at (time x) (time y) (y ∷ ys) h (omega arith, from) in
      let here = same x ∙ none in
      let some : x ∷ filter (is_at (time x)) xs ≡ [] = rw a at here in
      cc

  pub unique : (xs ys : List X) → Rises xs → Rises ys → Same xs ys → xs ≡ ys
  unique [] [] up up' same = refl
  unique [] (y ∷ ys) up up' same = let here = same y in let some : [] ≡ y ∷ filter (is_at (time y)) ys = rw (at_own y) at here in cc
  unique (x ∷ xs) [] up up' same = let here = same x in let some : x ∷ filter (is_at (time x)) xs ≡ [] = rw (at_own x) at here in cc
  unique (x ∷ xs) (y ∷ ys) up up' same = elim (cases_order (time x) (time y)) [
    | inl e ↦
        let here = same x in
        let b : eqb (time y) (time x) ≡ true = eq-eqb (time y) (time x) (sym e) in
        let both : x ∷ filter (is_at (time x)) xs ≡ y ∷ filter (is_at (time x)) ys = rw (at_own x, b) at here in
        let first : x ≡ y = cc in
        let rest : xs ≡ ys = unique xs ys up.1 up'.1 (same_rest x y xs ys first same) in
        cc
    | inr (inl h) ↦ absurd (sooner_first x y xs ys h up'.0 same)
    | inr (inr h) ↦ absurd (sooner_first y x ys xs h up.0 (λ z. sym (same z)))
  ]

  -- std's test of a tie
  tie_is : (x y : X) → ties (λ (a b : X). is_lt (nat_cmp (time a) (time b))) x y ≡ is_at (time x) y
  tie_is x y = elim (cases_order (time x) (time y)) [
    | inl e ↦ rw (le-ltb (time x) (time y) (omega arith), le-ltb (time y) (time x) (omega arith), eq-eqb (time x) (time y) e, eq-eqb (time y) (time x) (sym e))
        refl
    | inr (inl h) ↦ rw (lt-ltb (time x) (time y) h, ne_eqb (time y) (time x) (λ e. absurd (omega arith))) refl
    | inr (inr h) ↦ rw (
      le-ltb (time x) (time y) (omega arith),
      lt-ltb (time y) (time x) h,
      ne_eqb (time x) (time y) (λ e. absurd (omega arith)),
      ne_eqb
          (time y) (time x) (λ e. absurd (omega arith)),
    ) refl
  ]

  filter_ties : (x : X) (xs : List X) → filter (ties (λ (a b : X). is_lt (nat_cmp (time a) (time b))) x) xs ≡ filter (is_at (time x)) xs
  filter_ties x [] = refl
  filter_ties x (y ∷ ys) = rw (tie_is x y, filter_ties x ys) refl

  -- what a stable sort by time leaves
  pub sorted_is : (xs ys : List X) → IsSortedByKey time nat_cmp ys → IsStableByKey time nat_cmp xs ys → ys ≡ ordered_by time xs
  sorted_is xs ys up stable =
      unique ys (ordered_by time xs) (Rises-at ys (IsNonDecreasingBy-from_sort time ys up)) (Rises-ordered xs)
      (λ x. sym (filter_ties x ys) ∙ stable x ∙ filter_ties x xs ∙ sym (filter_ordered (time x) xs))
