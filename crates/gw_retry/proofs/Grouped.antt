-- Where the groups of waiters begin and end, and what is left of them after one joins or a group goes.
use Rattle.std.proofs.Common.{◌≡◌, ◌⊎◌, inl, inr, ⊎_elim, ℕ, zero, suc, ◌+◌, ◌-◌, ◌<◌, ◌≤◌, Bool, true, false, cond, not, ◌&&◌, nat_lt, List, [], ◌∷◌, ◌++◌, filter, length, take, drop, get_or, slice_get, Some, refl, sym, ap, ap₂, subst, ◌∙◌, arith, append-nil}
use Rattle.std.specs.List.{All}
use Rattle.std.specs.List.Sorted.{IsPermutation}
use Rattle.std.proofs.lemmas.Bool.Decides.{nat_tests}
use Rattle.std.proofs.lemmas.List.{length-take-le, length-drop, get_or-take, get_or-drop, take-append-drop, drop-drop}
use Rattle.std.proofs.lemmas.List.Elements.{All-cons, All-head, All-tail, All-append, All-take, All-drop, All-weaker, All-filter, filter-append, filter_agree, filter_passes}
use Rattle.std.proofs.lemmas.List.Sorted.{IsPermutation-insert, IsNonDecreasingBy-insert}
use Rattle.std.proofs.lemmas.Option.{slice_get_cases, get_or_from_slice_get}
use Rattle.gw_retry.specs.declared.retry.Waiting.{Waiting}
use Rattle.gw_retry.specs.Groups.{AreGrouped, is_at, IsCut, IsJoined}
use Rattle.gw_retry.proofs.Sifted.{none_passes, all_stay}

clash : (b : Bool) → b ≡ true → b ≡ false → ⊥
clash b e f = cc

item_of : (ws : List Waiting) (i : ℕ) → i < length ws → Waiting
item_of ws i within =
    ⊎_elim (λ (h : (x : Waiting) × (i < length ws) × (slice_get ws i ≡ Some x) × (get_or ws i x ≡ x)). h.0)
    (λ h. absurd (omega (arith, within, h.0))) (slice_get_cases ws i).1

place_at : (ws : List Waiting) (i : ℕ) (w d : Waiting) → slice_get ws i ≡ Some w → (get_or ws i d).place ≡ w.place
place_at ws i w d there = ap (λ (v : Waiting). v.place) (get_or_from_slice_get ws i w d there)

-- ---- by one that was looked at

pub below_next : (ws : List Waiting) (i place : ℕ) (w : Waiting) → AreGrouped ws → slice_get ws i ≡ Some w → i < length ws → w.place ≤ place →
    (k : ℕ) (d : Waiting) → k < i + 1 → (get_or ws k d).place < suc place
below_next ws i place w up there within low = λ k d h. omega (arith, up k i d (omega (arith, h)) within, place_at ws i w d there, low)

pub from_here : (ws : List Waiting) (i place : ℕ) (w : Waiting) → AreGrouped ws → slice_get ws i ≡ Some w → place < w.place →
    (k : ℕ) (d : Waiting) → i ≤ k → k < length ws → suc place ≤ (get_or ws k d).place
from_here ws i place w up there high = λ k d from within. omega (arith, up i k d from within, place_at ws i w d there, high)

pub cuts_rise : (ws : List Waiting) (place i j : ℕ) → IsCut place ws i → IsCut (suc place) ws j → i ≤ j
cuts_rise ws place i j here next = go (cases j i) where
  cases : (m n : ℕ) → (m < n) ⊎ (n ≤ m)
  cases m zero = inr (omega arith)
  cases zero (suc n) = inl (omega arith)
  cases (suc m) (suc n) = ⊎_elim (λ h. inl (omega (arith, h))) (λ h. inr (omega (arith, h))) (cases m n)

  go : (j < i) ⊎ (i ≤ j) → i ≤ j
  go (inl less) =
      let within : j < length ws = omega (arith, less, here.within) in
      let d : Waiting = item_of ws j within in
      absurd (omega (arith, here.below j d less, next.from j d (omega arith) within))
  go (inr order) = order

-- ---- one joins

pub joined_moved : (w : Waiting) (old new : List Waiting) → IsJoined w old new → IsPermutation (w ∷ old) new
joined_moved w old new h = subst (IsPermutation (w ∷ old)) (sym h.items) (IsPermutation-insert old h.end w)

pub joined_grouped : (w : Waiting) (old new : List Waiting) → AreGrouped old → IsJoined w old new → AreGrouped new
joined_grouped w old new up h =
    subst AreGrouped (sym h.items) (IsNonDecreasingBy-insert (λ (v : Waiting). v.place) old h.end w up h.cut.within
    (λ k d k_below. omega (arith, h.cut.below k d k_below)) (λ k d from within. omega (arith, h.cut.from k d from within)))

pub joined_all : (P : Waiting → Type 0) (w : Waiting) (old new : List Waiting) → IsJoined w old new → P w → All P old → All P new
joined_all P w old new h one all =
    subst (All P) (sym h.items)
    (All-append P (take h.end old) (w ∷ drop h.end old) (All-take P h.end old all) (All-cons P w (drop h.end old) one (All-drop P h.end old all)))

-- ---- a group goes

at_is : (place : ℕ) (w : Waiting) → w.place ≡ place → is_at place w ≡ true
at_is place w is = grind (arith, nat_tests, is)

at_below : (place : ℕ) (w : Waiting) → w.place < place → is_at place w ≡ false
at_below place w less = grind (arith, nat_tests, less)

at_above : (place : ℕ) (w : Waiting) → place < w.place → is_at place w ≡ false
at_above place w more = grind (arith, nat_tests, more)

is_there : (place : ℕ) (w : Waiting) → is_at place w ≡ true → w.place ≡ place
is_there place w is = grind (arith, nat_tests, is)

module _ (p : Waiting → Bool) where
  pub all_pass : (ws : List Waiting) → All (λ w. p w ≡ true) ws → filter p ws ≡ ws
  all_pass [] all = refl
  all_pass (w ∷ ws) all =
      ap (λ b. cond b (w ∷ filter p ws) (filter p ws)) (All-head (λ v. p v ≡ true) w ws all) ∙
      ap (λ l. w ∷ l) (all_pass ws (All-tail (λ v. p v ≡ true) w ws all))

  three_parts : (a b c : List Waiting) → filter p (a ++ (b ++ c)) ≡ filter p a ++ (filter p b ++ filter p c)
  three_parts a b c = filter-append p a (b ++ c) ∙ ap (λ l. filter p a ++ l) (filter-append p b c)

module _ (ws : List Waiting) (place i j : ℕ) (here : IsCut place ws i) (next : IsCut (suc place) ws j) where
  abbrev front : List Waiting
  front = take i ws

  abbrev middle : List Waiting
  middle = take (j - i) (drop i ws)

  abbrev back : List Waiting
  back = drop j ws

  order : i ≤ j
  order = cuts_rise ws place i j here next

  parts : front ++ (middle ++ back) ≡ ws
  parts =
      ap (λ l. front ++ (middle ++ l)) (sym (drop-drop (j - i) i ws ∙ ap (λ n. drop n ws) (omega (arith, order)))) ∙
      (ap (λ l. front ++ l) (take-append-drop (j - i) (drop i ws)) ∙ take-append-drop i ws)

  front_apart : All (λ w. is_at place w ≡ false) front
  front_apart = λ k d h.
      let less : k < i = omega (arith, h, length-take-le i ws here.within) in
      subst (λ w. is_at place w ≡ false) (sym (get_or-take i ws k d less)) (at_below place (get_or ws k d) (here.below k d less))

  back_apart : All (λ w. is_at place w ≡ false) back
  back_apart = λ k d h.
      let less : j + k < length ws = omega (arith, h, length-drop j ws) in
      subst (λ w. is_at place w ≡ false) (sym (get_or-drop j ws k d))
      (at_above place (get_or ws (j + k) d) (omega (arith, next.from (j + k) d (omega arith) less)))

  middle_long : length middle ≡ j - i
  middle_long = length-take-le (j - i) (drop i ws) (omega (arith, length-drop i ws, next.within, order))

  middle_there : All (λ w. is_at place w ≡ true) middle
  middle_there = λ k d h.
      let less : k < j - i = omega (arith, h, middle_long) in
      let from = here.from (i + k) d (omega arith) (omega (arith, less, next.within)) in
      let below = next.below (i + k) d (omega (arith, less)) in
      subst (λ w. is_at place w ≡ true) (sym (get_or-take (j - i) (drop i ws) k d less ∙ get_or-drop i ws k d))
      (at_is place (get_or ws (i + k) d) (omega (arith, from, below)))

  pub group_is : middle ≡ filter (is_at place) ws
  group_is =
      sym (sym (ap (filter (is_at place)) parts) ∙ (three_parts (is_at place) front middle back ∙
      (ap₂ (λ x y. x ++ (filter (is_at place) middle ++ y)) (none_passes (is_at place) front front_apart) (none_passes (is_at place) back back_apart) ∙
      (append-nil (filter (is_at place) middle) ∙ all_pass (is_at place) middle middle_there))))

  pub group_long : j - i ≡ length (filter (is_at place) ws)
  group_long = sym middle_long ∙ ap length group_is

  abbrev away : Waiting → Bool
  away w = not (is_at place w)

  pub others_are : front ++ back ≡ filter (λ w. not (is_at place w)) ws
  others_are =
      sym (sym (ap (filter away) parts) ∙ (three_parts away front middle back ∙
      (ap₂ (λ x y. x ++ (filter away middle ++ y)) (all_stay (is_at place) front (none_passes (is_at place) front front_apart))
      (all_stay (is_at place) back (none_passes (is_at place) back back_apart)) ∙
      ap (λ l. front ++ (l ++ back)) (none_passes away middle
      (All-weaker (λ w. is_at place w ≡ true) (λ w. away w ≡ false) (λ w h. ap not h) middle middle_there)))))

-- ---- groups that go one after another

module _ (written : ℕ → Bool) where
  abbrev pub goes : Waiting → Bool
  goes w = written w.place

  abbrev pub stays : Waiting → Bool
  stays w = not (written w.place)

  -- none of those in front of a place goes any more
  abbrev pub AreLeft : ℕ → List Waiting → Type 0
  AreLeft place ws = All (λ w. w.place < place → written w.place ≡ false) ws

  abbrev pub group : ℕ → List Waiting → List Waiting
  group place ws = filter (is_at place) ws

  abbrev pub others : ℕ → List Waiting → List Waiting
  others place ws = filter (λ w. not (is_at place w)) ws

  -- a list, and one in front of it where that is so
  abbrev with_first : Bool → Waiting → List Waiting → List Waiting
  with_first b w ws = cond b (w ∷ ws) ws

  rest_up : (w : Waiting) (ws : List Waiting) → AreGrouped (w ∷ ws) → AreGrouped ws
  rest_up w ws up = λ i j d order within. up (suc i) (suc j) d (omega (arith, order)) (omega (arith, within))

  apart_after : (place : ℕ) (w : Waiting) (ws : List Waiting) → AreGrouped (w ∷ ws) → (w.place < place → written w.place ≡ false) →
      written w.place ≡ true → is_at place w ≡ false → All (λ v. is_at place v ≡ false) ws
  apart_after place w ws up left goes_now apart = λ k d h.
      let more : place < w.place = go (nat_lt w.place place) refl in
      at_above place (get_or ws k d) (omega (arith, more, up 0 (suc k) d (omega arith) (omega (arith, h)))) where
        go : (c : Bool) → nat_lt w.place place ≡ c → place < w.place
        go true less = absurd (clash (written w.place) goes_now (left (grind (arith, nat_tests, less))))
        go false less = grind (arith, nat_tests, less, apart)

  pub next_goes : (place : ℕ) (ws : List Waiting) → AreGrouped ws → AreLeft place ws → written place ≡ true →
      filter goes ws ≡ group place ws ++ filter goes (others place ws)
  next_goes place [] up left now = refl
  next_goes place (w ∷ ws) up left now =
      go (is_at place w) (written w.place) refl refl
      (next_goes place ws (rest_up w ws up) (All-tail (λ v. v.place < place → written v.place ≡ false) w ws left) now) where
        go : (a b : Bool) → is_at place w ≡ a → written w.place ≡ b → filter goes ws ≡ group place ws ++ filter goes (others place ws) →
            with_first b w (filter goes ws) ≡ with_first a w (group place ws) ++ filter goes (with_first (not a) w (others place ws))
        go true true is e rest = ap (λ l. w ∷ l) rest
        go true false is e rest = absurd (clash (written w.place) (ap written (is_there place w is) ∙ now) e)
        go false true is e rest =
            let none : group place ws ≡ [] =
            none_passes (is_at place) ws (apart_after place w ws up (All-head (λ v. v.place < place → written v.place ≡ false) w ws left) e is) in
            ap (λ l. w ∷ l) (rest ∙ ap (λ l. l ++ filter goes (others place ws)) none) ∙
            sym (ap₂ (λ l b. l ++ with_first b w (filter goes (others place ws))) none e)
        go false false is e rest = rest ∙ sym (ap (λ b. group place ws ++ with_first b w (filter goes (others place ws))) e)

  pub others_stay : (place : ℕ) (ws : List Waiting) → written place ≡ true → filter stays (others place ws) ≡ filter stays ws
  others_stay place [] now = refl
  others_stay place (w ∷ ws) now = go (is_at place w) (written w.place) refl refl (others_stay place ws now) where
    go : (a b : Bool) → is_at place w ≡ a → written w.place ≡ b → filter stays (others place ws) ≡ filter stays ws →
        filter stays (with_first (not a) w (others place ws)) ≡ with_first (not b) w (filter stays ws)
    go true true is e rest = rest
    go true false is e rest = absurd (clash (written w.place) (ap written (is_there place w is) ∙ now) e)
    go false b is e rest = ap (λ c. with_first (not c) w (filter stays (others place ws))) e ∙ ap (λ l. with_first (not b) w l) rest

  pub left_next : (place : ℕ) (ws : List Waiting) → AreLeft place ws → written place ≡ false → AreLeft (place + 1) ws
  left_next place ws left now =
      All-weaker (λ w. w.place < place → written w.place ≡ false) (λ w. w.place < place + 1 → written w.place ≡ false)
      (λ w h less. one w h less (is_at place w) refl) ws left where
        one : (w : Waiting) → (w.place < place → written w.place ≡ false) → w.place < place + 1 → (a : Bool) → is_at place w ≡ a →
            written w.place ≡ false
        one w h less true is = ap written (is_there place w is) ∙ now
        one w h less false is = h (grind (arith, nat_tests, less, is))

  pub left_gone : (place : ℕ) (ws : List Waiting) → AreLeft place ws → AreLeft (place + 1) (filter (λ w. not (is_at place w)) ws)
  left_gone place ws left = λ k d h less.
      let w : Waiting = get_or (filter (λ v. not (is_at place v)) ws) k d in
      let apart : not (is_at place w) ≡ true = filter_passes (λ v. not (is_at place v)) ws k d h in
      All-filter (λ v. not (is_at place v)) (λ v. v.place < place → written v.place ≡ false) ws left k d h
      (one w less (is_at place w) refl apart) where
        one : (w : Waiting) → w.place < place + 1 → (a : Bool) → is_at place w ≡ a → not a ≡ true → w.place < place
        one w less true is apart = absurd cc
        one w less false is apart = grind (arith, nat_tests, less, is)

  pub none_left : (n : ℕ) (ws : List Waiting) → AreLeft n ws → All (λ w. w.place < n) ws → filter (λ w. written w.place) ws ≡ []
  none_left n ws left below = none_passes goes ws (λ k d h. left k d h (below k d h))

  -- those who go of the groups in front of a place
  abbrev pub goes_below : ℕ → Waiting → Bool
  goes_below place w = written w.place && nat_lt w.place place

  abbrev pub counted : ℕ → List Waiting → List Waiting
  counted place ws = filter (goes_below place) ws

  pub count_start : (ws : List Waiting) → 0 ≡ length (counted 0 ws)
  count_start ws = sym (ap length (none_passes (goes_below 0) ws (λ k d h. one (written (get_or ws k d).place) (get_or ws k d).place))) where
    one : (b : Bool) (n : ℕ) → (b && nat_lt n 0) ≡ false
    one true n = grind (arith, nat_tests)
    one false n = refl

  pub count_same : (place : ℕ) (ws : List Waiting) → written place ≡ false → length (counted place ws) ≡ length (counted (place + 1) ws)
  count_same place ws now = ap length (filter_agree (goes_below place) (goes_below (place + 1)) (λ w. one w (is_at place w) refl) ws) where
    one : (w : Waiting) (a : Bool) → is_at place w ≡ a → goes_below place w ≡ goes_below (place + 1) w
    one w true is =
        let e : written w.place ≡ false = ap written (is_there place w is) ∙ now in
        ap (λ b. b && nat_lt w.place place) e ∙ sym (ap (λ b. b && nat_lt w.place (place + 1)) e)
    one w false is =
        let e : nat_lt w.place place ≡ nat_lt w.place (place + 1) = grind (arith, nat_tests, is) in
        ap (λ b. written w.place && b) e

  pub count_next : (place : ℕ) (ws : List Waiting) → written place ≡ true →
      length (counted (place + 1) ws) ≡ length (counted place ws) + length (group place ws)
  count_next place [] now = refl
  count_next place (w ∷ ws) now = go (is_at place w) refl (count_next place ws now) where
    both : (b : Bool) → length (counted (place + 1) ws) ≡ length (counted place ws) + length (group place ws) →
        length (with_first b w (counted (place + 1) ws)) ≡ length (with_first b w (counted place ws)) + length (group place ws)
    both true rest = omega (arith, rest)
    both false rest = rest

    go : (a : Bool) → is_at place w ≡ a → length (counted (place + 1) ws) ≡ length (counted place ws) + length (group place ws) →
        length (with_first (goes_below (place + 1) w) w (counted (place + 1) ws)) ≡ length (with_first (goes_below place w) w (counted place ws)) +
        length (with_first a w (group place ws))
    go true is rest =
        let here : w.place ≡ place = is_there place w is in
        let e : written w.place ≡ true = ap written here ∙ now in
        let less : nat_lt w.place (place + 1) ≡ true = grind (arith, nat_tests, here) in
        let not_less : nat_lt w.place place ≡ false = grind (arith, nat_tests, here) in
        ap (λ b. length (with_first b w (counted (place + 1) ws))) (ap₂ (λ b c. b && c) e less) ∙ (omega (arith, rest) ∙
        sym (ap (λ b. length (with_first b w (counted place ws)) + length (w ∷ group place ws)) (ap₂ (λ b c. b && c) e not_less)))
    go false is rest =
        let e : nat_lt w.place (place + 1) ≡ nat_lt w.place place = grind (arith, nat_tests, is) in
        ap (λ b. length (with_first (written w.place && b) w (counted (place + 1) ws))) e ∙ both (goes_below place w) rest

  pub count_all : (n : ℕ) (ws : List Waiting) → All (λ w. w.place < n) ws → counted n ws ≡ filter goes ws
  count_all n [] below = refl
  count_all n (w ∷ ws) below =
      let less : nat_lt w.place n ≡ true = grind (arith, nat_tests, All-head (λ v. v.place < n) w ws below) in
      let same : goes_below n w ≡ written w.place = ap (λ b. written w.place && b) less ∙ and_true (written w.place) in
      ap₂ (λ b l. with_first b w l) same (count_all n ws (All-tail (λ v. v.place < n) w ws below)) where
        and_true : (b : Bool) → (b && true) ≡ b
        and_true true = refl
        and_true false = refl
