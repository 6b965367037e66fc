-- Arrivals in order: lists of the same arrivals are one in order, who came last comes last, and what is sifted stays in order.
use Rattle.std.proofs.Common.{◌≡◌, ◌⊎◌, inl, inr, ⊎_elim, ℕ, ◌+◌, ◌<◌, ◌≤◌, Bool, true, false, cond, not, nat_lt, nat_eq, List, [], ◌∷◌, ◌++◌, map, filter, refl, sym, ap, ap₂, subst, ◌∙◌, arith}
use Rattle.std.specs.List.{All, count_by}
use Rattle.std.specs.List.Sorted.{IsPermutation}
use Rattle.std.proofs.lemmas.Bool.Decides.{nat_tests}
use Rattle.std.proofs.lemmas.List.{map_push}
use Rattle.std.proofs.lemmas.List.Elements.{All-nil, All-cons, All-head, All-tail, All-weaker, All-filter}
use Rattle.std.proofs.lemmas.List.Filters.{sum_by-filter_both}
use Rattle.std.proofs.lemmas.List.Sorted.{IsPermutation-refl, IsPermutation-sym, IsPermutation-cons, IsPermutation-middle, IsPermutation-trans, All-permutation, sum_by-IsPermutation}
use Rattle.std.proofs.lemmas.List.Sums.{sum_by-cons}
use Rattle.gw_retry.specs.Arrivals.{Arrival, put_in, by_order, in_order, AreDated}

less_true : (m n : ℕ) → nat_lt m n ≡ true → m < n
less_true m n h = grind (arith, nat_tests, h)

less_false : (m n : ℕ) → nat_lt m n ≡ false → n ≤ m
less_false m n h = grind (arith, nat_tests, h)

is_less : (m n : ℕ) → m < n → nat_lt m n ≡ true
is_less m n h = grind (arith, nat_tests, h)

not_less : (m n : ℕ) → n ≤ m → nat_lt m n ≡ false
not_less m n h = grind (arith, nat_tests, h)

-- ---- the same arrivals

-- whether one is among some
abbrev Has : List Arrival → Arrival → Type 0
Has [] z = ⊥
Has (a ∷ xs) z = (a ≡ z) ⊎ Has xs z

has_all : (P : Arrival → Type 0) (xs : List Arrival) (z : Arrival) → All P xs → Has xs z → P z
has_all P [] z all has = absurd has
has_all P (a ∷ xs) z all has = ⊎_elim (λ e. subst P e (All-head P a xs all)) (λ h. has_all P xs z (All-tail P a xs all) h) has

all_has : (xs : List Arrival) → All (Has xs) xs
all_has [] = All-nil (Has [])
all_has (a ∷ xs) = All-cons (Has (a ∷ xs)) a xs (inl refl) (All-weaker (Has xs) (Has (a ∷ xs)) (λ z h. inr h) xs (all_has xs))

has_moved : (xs bs : List Arrival) → IsPermutation xs bs → (z : Arrival) → Has xs z → Has bs z
has_moved xs bs moved z has = has_all (Has bs) xs z (All-permutation (Has bs) bs xs (IsPermutation-sym xs bs moved) (all_has bs)) has

-- each came before all after it
abbrev pub Rise : List Arrival → Type 0
Rise [] = Unit {0}
Rise (a ∷ xs) = All (λ (b : Arrival). a.0 < b.0) xs × Rise xs

same_rest : (x : Arrival) (xs ys : List Arrival) → All (λ (b : Arrival). x.0 < b.0) xs → ((z : Arrival) → Has (x ∷ xs) z → (x ≡ z) ⊎ Has ys z) →
    (z : Arrival) → Has xs z → Has ys z
same_rest x xs ys above all z has =
    ⊎_elim (λ (e : x ≡ z). absurd (omega (arith, has_all (λ (b : Arrival). x.0 < b.0) xs z above has, ap (λ (b : Arrival). b.0) e))) (λ (h : Has ys z). h)
    (all z (inr has))

same_heads : (x y : Arrival) (xs ys : List Arrival) → All (λ (b : Arrival). x.0 < b.0) xs → All (λ (b : Arrival). y.0 < b.0) ys → Has (y ∷ ys) x →
    Has (x ∷ xs) y → x ≡ y
same_heads x y xs ys above more left right =
    ⊎_elim (λ (e : y ≡ x). sym e) (λ (h : Has ys x). ⊎_elim (λ (e : x ≡ y). e) (λ (k : Has xs y). absurd (omega (
      arith,
      has_all (λ (b : Arrival). y.0 < b.0) ys x more h,
      has_all (λ (b : Arrival). x.0 < b.0) xs y above k,
    ))) right) left

one_rising : (xs ys : List Arrival) → Rise xs → Rise ys → ((z : Arrival) → Has xs z → Has ys z) → ((z : Arrival) → Has ys z → Has xs z) → xs ≡ ys
one_rising [] [] up more there back = refl
one_rising [] (y ∷ ys) up more there back = absurd (back y (inl refl))
one_rising (x ∷ xs) [] up more there back = absurd (there x (inl refl))
one_rising (x ∷ xs) (y ∷ ys) up more there back =
    let e : x ≡ y = same_heads x y xs ys up.0 more.0 (there x (inl refl)) (back y (inl refl)) in
    ap₂ (λ z zs. z ∷ zs) e
    (one_rising xs ys up.1 more.1
    (same_rest x xs ys up.0 (λ z h. subst (λ v. (v ≡ z) ⊎ Has ys z) (sym e) (there z h)))
    (same_rest y ys xs more.0 (λ z h. subst (λ v. (v ≡ z) ⊎ Has xs z) e (back z h))))

pub same_rising : (xs ys : List Arrival) → Rise xs → Rise ys → IsPermutation xs ys → xs ≡ ys
same_rising xs ys up more moved = one_rising xs ys up more (has_moved xs ys moved) (has_moved ys xs (IsPermutation-sym xs ys moved))

-- ---- in order

put_moved : (a : Arrival) (bs : List Arrival) → IsPermutation (a ∷ bs) (put_in a bs)
put_moved a [] = IsPermutation-refl (a ∷ [])
put_moved a (b ∷ bs) = go (nat_lt b.0 a.0) (put_moved a bs) where
  go : (c : Bool) → IsPermutation (a ∷ bs) (put_in a bs) → IsPermutation (a ∷ b ∷ bs) (cond c (b ∷ put_in a bs) (a ∷ b ∷ bs))
  go true rest =
      IsPermutation-trans (a ∷ b ∷ bs) (b ∷ a ∷ bs) (b ∷ put_in a bs) (IsPermutation-middle (a ∷ []) b bs)
      (IsPermutation-cons b (a ∷ bs) (put_in a bs) rest)
  go false rest = IsPermutation-refl (a ∷ b ∷ bs)

pub order_moved : (xs : List Arrival) → IsPermutation xs (by_order xs)
order_moved [] = IsPermutation-refl []
order_moved (a ∷ xs) =
    IsPermutation-trans (a ∷ xs) (a ∷ by_order xs) (put_in a (by_order xs)) (IsPermutation-cons a xs (by_order xs) (order_moved xs))
    (put_moved a (by_order xs))

-- how many have an order
abbrev count : ℕ → List Arrival → ℕ
count n xs = count_by (λ (a : Arrival). nat_eq a.0 n) xs

abbrev AreApart : List Arrival → Type 0
AreApart xs = (n : ℕ) → count n xs ≤ 1

abbrev one : ℕ → Arrival → ℕ
one n a = cond (nat_eq a.0 n) 1 0

count_first : (n : ℕ) (a : Arrival) (xs : List Arrival) → count n (a ∷ xs) ≡ one n a + count n xs
count_first n a xs = sum_by-cons (one n) a xs

count_moved : (n : ℕ) (xs bs : List Arrival) → IsPermutation xs bs → count n bs ≡ count n xs
count_moved n xs bs moved = sum_by-IsPermutation (one n) xs bs moved

one_is : (n : ℕ) (a : Arrival) → a.0 ≡ n → one n a ≡ 1
one_is n a is = ap {B = ℕ} (λ b. cond b 1 0) (let e : nat_eq a.0 n ≡ true = grind (arith, nat_tests, is) in e)

one_not : (n : ℕ) (a : Arrival) → nat_eq a.0 n ≡ false → one n a ≡ 0
one_not n a is = ap {B = ℕ} (λ b. cond b 1 0) is

pub apart_rest : (a : Arrival) (xs : List Arrival) → ((n : ℕ) → count n (a ∷ xs) ≤ 1) → (n : ℕ) → count n xs ≤ 1
apart_rest a xs apart n = omega (arith, apart n, count_first n a xs)

none_more : (a : Arrival) (xs : List Arrival) → AreApart (a ∷ xs) → count a.0 xs ≡ 0
none_more a xs apart = omega (arith, apart a.0, count_first a.0 a xs, one_is a.0 a refl)

-- those of the others that are not before are after
after : (n : ℕ) (xs : List Arrival) → All (λ (b : Arrival). n ≤ b.0) xs → count n xs ≡ 0 → All (λ (b : Arrival). n < b.0) xs
after n [] all none = All-nil (λ (b : Arrival). n < b.0)
after n (a ∷ xs) all none =
    let first : n ≤ a.0 = All-head (λ (b : Arrival). n ≤ b.0) a xs all in
    let sum : one n a + count n xs ≡ 0 = sym (count_first n a xs) ∙ none in
    All-cons (λ (b : Arrival). n < b.0) a xs (go (nat_eq a.0 n) refl first sum)
    (after n xs (All-tail (λ (b : Arrival). n ≤ b.0) a xs all) (omega (arith, sum))) where
      go : (c : Bool) → nat_eq a.0 n ≡ c → n ≤ a.0 → one n a + count n xs ≡ 0 → n < a.0
      go true same first sum = absurd (omega (arith, ap {B = ℕ} (λ b. cond b 1 0) same, sum))
      go false same first sum = grind (arith, nat_tests, same, first)

rise_put : (a : Arrival) (bs : List Arrival) → Rise bs → count a.0 bs ≡ 0 → Rise (put_in a bs)
rise_put a [] up none = (All-nil (λ (b : Arrival). a.0 < b.0), tt)
rise_put a (b ∷ bs) up none = go (nat_lt b.0 a.0) refl (rise_put a bs up.1 (omega (arith, none, count_first a.0 b bs))) where
  go : (c : Bool) → nat_lt b.0 a.0 ≡ c → Rise (put_in a bs) → Rise (cond c (b ∷ put_in a bs) (a ∷ b ∷ bs))
  go true less rest = (
    All-permutation (λ (z : Arrival). b.0 < z.0) (a ∷ bs) (put_in a bs) (put_moved a bs)
        (All-cons (λ (z : Arrival). b.0 < z.0) a bs (less_true b.0 a.0 less) up.0),
    rest,
  )
  go false less rest = (
    after a.0 (b ∷ bs) (All-cons (λ (z : Arrival). a.0 ≤ z.0) b bs (less_false b.0 a.0 less)
        (All-weaker (λ (z : Arrival). b.0 < z.0) (λ (z : Arrival). a.0 ≤ z.0) (λ z h. omega (arith, h, less_false b.0 a.0 less)) bs up.0)) none,
    up,
  )

pub order_rises : (xs : List Arrival) → ((n : ℕ) → count n xs ≤ 1) → Rise (by_order xs)
order_rises [] apart = tt
order_rises (a ∷ xs) apart =
    rise_put a (by_order xs) (order_rises xs (apart_rest a xs apart))
    (count_moved a.0 xs (by_order xs) (order_moved xs) ∙ none_more a xs apart)

-- some that do not fall rise
pub rise_from : (a : Arrival) (xs : List Arrival) → All (λ (b : Arrival). a.0 ≤ b.0) xs → ((n : ℕ) → count n (a ∷ xs) ≤ 1) →
    All (λ (b : Arrival). a.0 < b.0) xs
rise_from a xs all apart = after a.0 xs all (none_more a xs apart)

-- in order, lists of the same arrivals are one
pub same_order : (xs bs : List Arrival) → IsPermutation xs bs → ((n : ℕ) → count n xs ≤ 1) → by_order xs ≡ by_order bs
same_order xs bs moved apart =
    same_rising (by_order xs) (by_order bs) (order_rises xs apart)
    (order_rises bs (λ n. subst (λ k. k ≤ 1) (sym (count_moved n xs bs moved)) (apart n)))
    (IsPermutation-trans (by_order xs) xs (by_order bs) (IsPermutation-sym xs (by_order xs) (order_moved xs))
    (IsPermutation-trans xs bs (by_order bs) moved (order_moved bs)))

pub sorted_order : (xs bs : List Arrival) → IsPermutation xs bs → ((n : ℕ) → count n xs ≤ 1) → Rise bs → by_order xs ≡ bs
sorted_order xs bs moved apart up =
    same_rising (by_order xs) bs (order_rises xs apart) up
    (IsPermutation-trans (by_order xs) xs bs (IsPermutation-sym xs (by_order xs) (order_moved xs)) moved)

-- ---- who comes last

put_last : (a : Arrival) (bs : List Arrival) → All (λ (b : Arrival). b.0 < a.0) bs → put_in a bs ≡ bs ++ a ∷ []
put_last a [] all = refl
put_last a (b ∷ bs) all =
    ap (λ c. cond c (b ∷ put_in a bs) (a ∷ b ∷ bs)) (is_less b.0 a.0 (All-head (λ (z : Arrival). z.0 < a.0) b bs all)) ∙
    ap (λ l. b ∷ l) (put_last a bs (All-tail (λ (z : Arrival). z.0 < a.0) b bs all))

none_yet : (n : ℕ) (xs : List Arrival) → All (λ (b : Arrival). b.0 < n) xs → count n xs ≡ 0
none_yet n [] all = refl
none_yet n (a ∷ xs) all =
    let first : a.0 < n = All-head (λ (b : Arrival). b.0 < n) a xs all in
    let apart : nat_eq a.0 n ≡ false = grind (arith, nat_tests, first) in
    count_first n a xs ∙ omega (arith, one_not n a apart, none_yet n xs (All-tail (λ (b : Arrival). b.0 < n) a xs all))

pub dated_more : (a : Arrival) (xs : List Arrival) → AreDated a.0 xs → AreDated (a.0 + 1) (a ∷ xs)
dated_more a xs h = record {
  apart = λ n. go n (nat_eq a.0 n) refl (h.apart n);
  before = All-cons (λ (b : Arrival). b.0 < a.0 + 1) a xs (omega arith)
      (All-weaker (λ (b : Arrival). b.0 < a.0) (λ (b : Arrival). b.0 < a.0 + 1) (λ b k. omega (arith, k)) xs h.before);
} where
  go : (n : ℕ) (c : Bool) → nat_eq a.0 n ≡ c → count n xs ≤ 1 → count n (a ∷ xs) ≤ 1
  go n true same few =
      let is : a.0 ≡ n = grind (arith, nat_tests, same) in
      let none : count n xs ≡ 0 = none_yet n xs (subst (λ k. All (λ (b : Arrival). b.0 < k) xs) is h.before) in
      omega (arith, count_first n a xs, one_is n a is, none)
  go n false same few = omega (arith, count_first n a xs, one_not n a same, few)

pub dated_moved : (next : ℕ) (xs bs : List Arrival) → IsPermutation xs bs → AreDated next xs → AreDated next bs
dated_moved next xs bs moved h = record {
  apart = λ n. subst (λ k. k ≤ 1) (sym (count_moved n xs bs moved)) (h.apart n);
  before = All-permutation (λ (b : Arrival). b.0 < next) xs bs moved h.before;
}

pub last_waits : (a : Arrival) (xs bs : List Arrival) → IsPermutation (a ∷ xs) bs → AreDated a.0 xs → in_order bs ≡ in_order xs ++ a.1 ∷ []
last_waits a xs bs moved h =
    let last : put_in a (by_order xs) ≡ by_order xs ++ a ∷ [] =
    put_last a (by_order xs) (All-permutation (λ (b : Arrival). b.0 < a.0) xs (by_order xs) (order_moved xs) h.before) in
    ap (map (λ (z : Arrival). z.1)) (sym (same_order (a ∷ xs) bs moved (dated_more a xs h).apart) ∙ last) ∙ map_push (λ (z : Arrival). z.1) (by_order xs) a

-- ---- what is sifted

module _ (p : Arrival → Bool) where
  put_first : (a : Arrival) (bs : List Arrival) → All (λ (b : Arrival). a.0 ≤ b.0) bs → put_in a bs ≡ a ∷ bs
  put_first a [] all = refl
  put_first a (b ∷ bs) all =
      ap (λ c. cond c (b ∷ put_in a bs) (a ∷ b ∷ bs)) (not_less b.0 a.0 (All-head (λ (z : Arrival). a.0 ≤ z.0) b bs all))

  sift_past : (a b : Arrival) (us vs : List Arrival) (c d : Bool) → nat_lt b.0 a.0 ≡ true → us ≡ cond c (put_in a vs) vs →
      cond d (b ∷ us) us ≡ cond c (put_in a (cond d (b ∷ vs) vs)) (cond d (b ∷ vs) vs)
  sift_past a b us vs true true less is = ap (λ l. b ∷ l) is ∙ sym (ap (λ t. cond t (b ∷ put_in a vs) (a ∷ b ∷ vs)) less)
  sift_past a b us vs true false less is = is
  sift_past a b us vs false true less is = ap (λ l. b ∷ l) is
  sift_past a b us vs false false less is = is

  sift_here : (a : Arrival) (vs : List Arrival) (c : Bool) → put_in a vs ≡ a ∷ vs → cond c (a ∷ vs) vs ≡ cond c (put_in a vs) vs
  sift_here a vs true is = sym is
  sift_here a vs false is = refl

  sift_put : (a : Arrival) (bs : List Arrival) → Rise bs → filter p (put_in a bs) ≡ cond (p a) (put_in a (filter p bs)) (filter p bs)
  sift_put a [] up = refl
  sift_put a (b ∷ bs) up = go (nat_lt b.0 a.0) refl (sift_put a bs up.1) where
    go : (t : Bool) → nat_lt b.0 a.0 ≡ t → filter p (put_in a bs) ≡ cond (p a) (put_in a (filter p bs)) (filter p bs) →
        filter p (cond t (b ∷ put_in a bs) (a ∷ b ∷ bs)) ≡ cond (p a) (put_in a (filter p (b ∷ bs))) (filter p (b ∷ bs))
    go true less rest = sift_past a b (filter p (put_in a bs)) (filter p bs) (p a) (p b) less rest
    go false less rest =
        sift_here a (filter p (b ∷ bs)) (p a) (put_first a (filter p (b ∷ bs)) (All-filter p (λ (z : Arrival). a.0 ≤ z.0) (b ∷ bs)
        (All-cons (λ (z : Arrival). a.0 ≤ z.0) b bs (less_false b.0 a.0 less)
        (All-weaker (λ (z : Arrival). b.0 < z.0) (λ (z : Arrival). a.0 ≤ z.0) (λ z h. omega (arith, h, less_false b.0 a.0 less)) bs up.0))))

  pub sift_order : (xs : List Arrival) → ((n : ℕ) → count n xs ≤ 1) → filter p (by_order xs) ≡ by_order (filter p xs)
  sift_order [] apart = refl
  sift_order (a ∷ xs) apart =
      sift_put a (by_order xs) (order_rises xs (apart_rest a xs apart)) ∙ go (p a) (sift_order xs (apart_rest a xs apart)) where
        go : (c : Bool) → filter p (by_order xs) ≡ by_order (filter p xs) →
            cond c (put_in a (filter p (by_order xs))) (filter p (by_order xs)) ≡ by_order (cond c (a ∷ filter p xs) (filter p xs))
        go true rest = ap (put_in a) rest
        go false rest = rest

  pub dated_sifted : (next : ℕ) (xs : List Arrival) → AreDated next xs → AreDated next (filter p xs)
  dated_sifted next xs h = record {
    apart = λ n. omega (arith, h.apart n, sum_by-filter_both p (λ a. not (p a)) (λ a. refl) (one n) xs);
    before = All-filter p (λ (b : Arrival). b.0 < next) xs h.before;
  }
