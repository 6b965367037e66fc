-- The counts of what is at most a limit, by blocks; and the counts of classes by them.
use Rattle.std.proofs.Common.{◌≡◌, ℕ, zero, suc, ◌+◌, ◌-◌, ◌*◌, ◌/◌, ◌%◌, ◌^◌, ◌<◌, ◌≤◌, Bool, true, false, not, ◌&&◌, cond, List, [], ◌∷◌, length, map, take, drop, replicate, get_or, set, length-set, Option, Some, None, refl, sym, ap, subst, ◌∙◌, inl, inr, arith, w32, of_z, FitsSigned, suc-mul, count_ones}
use Rattle.std.specs.Prelude.{ℤ, pos, ◌≤ℤ◌, int_le, count_by, sum}
use Rattle.std.specs.List.{range_with_len, sum_by}
use Rattle.std.specs.Simd.{first_chunks}
use Rattle.std.specs.Simd.Lanes.{zip2, mask_l, top}
use Rattle.std.proofs.lemmas.Simd.{zip2_splat, ones-mask_l, mask_l-mod}
use Rattle.std.proofs.lemmas.List.{drop-drop, take-append-drop, length-map}
use Rattle.std.proofs.lemmas.List.Sums.{sum_by-append, sum_by-cons}
use Rattle.std.proofs.lemmas.List.FromFn.{fill_by_all, sum_by-map-range_with_len_more}
use Rattle.std.proofs.lemmas.List.Edits.{fill_by_more}
use Rattle.std.proofs.lemmas.Int.{ints}
use Rattle.std.proofs.lemmas.Bool.{cases_Bool}
use Rattle.std.proofs.lemmas.Option.{slice_get-get_or, slice_get_past}
use Rattle.gw_lanes.specs.Counts.{count_at_most, class_counts, is_up_to, is_above, is_in, lower, AllFit, AreRising}

-- ---- by blocks

-- what lies in the first blocks of n numbers, and after them
pub by_blocks : (limit : ℤ) (n k : ℕ) (zs : List ℤ) →
    sum_by (count_at_most limit) (first_chunks n k zs) + count_at_most limit (drop (k * n) zs) ≡ count_at_most limit zs
by_blocks limit n zero zs =
    let e : 0 * n ≡ 0 = omega arith in
    let all : count_at_most limit (drop (0 * n) zs) ≡ count_at_most limit zs = ap (λ (j : ℕ). count_at_most limit (drop j zs)) e in
    omega (arith, all)
by_blocks limit n (suc k) zs =
    let behind : drop (suc k * n) zs ≡ drop (k * n) (drop n zs) =
    (let e : suc k * n ≡ n + k * n = omega (arith, suc-mul k n) in ap (λ (j : ℕ). drop j zs) e ∙ sym (drop-drop (k * n) n zs)) in
    let later = by_blocks limit n k (drop n zs) in
    let here : count_at_most limit (take n zs) + count_at_most limit (drop n zs) ≡ count_at_most limit zs =
    sym (sum_by-append (λ z. cond (int_le z limit) 1 0) (take n zs) (drop n zs)) ∙ ap (count_at_most limit) (take-append-drop n zs) in
    let first : sum_by (count_at_most limit) (first_chunks n (suc k) zs)
    ≡ count_at_most limit (take n zs) + sum_by (count_at_most limit) (first_chunks n k (drop n zs)) =
    sum_by-cons (count_at_most limit) (take n zs) (first_chunks n k (drop n zs)) in
    let last : count_at_most limit (drop (suc k * n) zs) ≡ count_at_most limit (drop (k * n) (drop n zs)) = ap (count_at_most limit) behind in
    omega (arith, later, here, first, last)

-- ---- a block, by its lanes: each lane is the bits of a number

-- a test of two lanes that tells whether the first is at most the second
abbrev pub Compares : (ℕ → ℕ → ℕ) → Type 0
Compares f = (y z : ℤ) → FitsSigned w32 y → FitsSigned w32 z → f (of_z w32 y) (of_z w32 z) ≡ cond (int_le y z) (2 ^ 32 - 1) 0

tested : (f : ℕ → ℕ → ℕ) → Compares f → (limit : ℤ) → FitsSigned w32 limit → (zs : List ℤ) → AllFit zs →
    map (top 31) (map (λ a. f a (of_z w32 limit)) (map (of_z w32) zs)) ≡ map (λ z. int_le z limit) zs
tested f c limit fits [] each = refl
tested f c limit fits (z ∷ zs) each =
    let here : top 31 (f (of_z w32 z) (of_z w32 limit)) ≡ int_le z limit =
    ap (top 31) (c z limit (each 0 (omega arith)) fits) ∙ elim (int_le z limit) as (λ b. top 31 (cond b (2 ^ 32 - 1) 0) ≡ b) [ true ↦ refl | false ↦ refl ] in
    rw (here, tested f c limit fits zs (λ k lt. each (suc k) (omega arith))) refl

pub in_block : (f : ℕ → ℕ → ℕ) → Compares f → (limit : ℤ) → FitsSigned w32 limit → (zs : List ℤ) → AllFit zs →
    length zs ≡ 16 →
    count_ones (mask_l (map (top 31) (zip2 f (map (of_z w32) zs) (replicate 16 (of_z w32 limit)))) % 2 ^ 64) ≡ count_at_most limit zs
in_block f c limit fits zs each e =
    let lanes : length (map (of_z w32) zs) ≡ 16 = omega (arith, length-map {A = ℤ} {B = ℕ}, e) in
    let marks : map (top 31) (zip2 f (map (of_z w32) zs) (replicate 16 (of_z w32 limit))) ≡ map (λ z. int_le z limit) zs =
    ap (map (top 31)) (zip2_splat f (map (of_z w32) zs) 16 (of_z w32 limit) lanes) ∙ tested f c limit fits zs each in
    let few : length (map (λ z. int_le z limit) zs) ≤ 64 = omega (arith, length-map {A = ℤ} {B = Bool}, e) in
    ap (λ (ms : List Bool). count_ones (mask_l ms % 2 ^ 64)) marks
    ∙ ap count_ones (mask_l-mod (map (λ z. int_le z limit) zs) 64 few)
    ∙ ones-mask_l (λ z. int_le z limit) zs

-- a list by its blocks and what is after them, where the limit passed through its type
pub counted : (limit m : ℤ) (zs rest : List ℤ) (blocks : List (List ℤ)) (a b : ℕ) → m ≡ limit → blocks ≡ first_chunks 16 (length zs / 16) zs →
    rest ≡ drop (length zs / 16 * 16) zs → a ≡ sum_by (count_at_most m) blocks → b ≡ count_at_most m rest → a + b ≡ count_at_most limit zs
counted limit m zs rest blocks a b same front back over behind =
    let one : a ≡ sum_by (count_at_most limit) (first_chunks 16 (length zs / 16) zs) =
    over ∙ ap (λ (n : ℤ). sum_by (count_at_most n) blocks) same ∙ ap (sum_by (count_at_most limit)) front in
    let other : b ≡ count_at_most limit (drop (length zs / 16 * 16) zs) =
    behind ∙ ap (λ (n : ℤ). count_at_most n rest) same ∙ ap (count_at_most limit) back in
    omega (arith, by_blocks limit 16 (length zs / 16) zs, one, other)

-- ---- classes

-- how many are at most a limit, where there is one: none below the first class, and all up to the last
abbrev below : Option ℤ → List ℤ → ℕ
below None zs = 0
below (Some limit) zs = count_at_most limit zs

abbrev up_to : Option ℤ → List ℤ → ℕ
up_to None zs = length zs
up_to (Some limit) zs = count_at_most limit zs

abbrev Ordered : Option ℤ → Option ℤ → Type 0
Ordered (Some low) (Some high) = low ≤ℤ high
Ordered low high = Unit {0}

-- what is above one limit and at most another
abbrev between : Option ℤ → Option ℤ → ℤ → Bool
between low high z = is_above low z && is_up_to high z

abbrev one_below : Option ℤ → ℤ → ℕ
one_below None z = 0
one_below (Some limit) z = cond (int_le z limit) 1 0

above_high : (z low high : ℤ) → int_le z high ≡ false → low ≤ℤ high → int_le z low ≡ false
above_high z low high h le = grind (arith, ints)

-- of one number
one_between : (low high : Option ℤ) (z : ℤ) → Ordered low high →
    cond (between low high z) 1 0 + one_below low z ≡ cond (is_up_to high z) 1 0
one_between None high z o = omega arith
one_between (Some low) None z o = elim (int_le z low) as (λ b. cond (not b && true) 1 0 + cond b 1 0 ≡ 1) [ true ↦ refl | false ↦ refl ]
one_between (Some low) (Some high) z o =
    elim (cases_Bool (int_le z high)) [
      | inl is ↦ rw is (elim (int_le z low) as (λ b. cond (not b && true) 1 0 + cond b 1 0 ≡ 1) [ true ↦ refl | false ↦ refl ])
      | inr fails ↦ rw (fails, above_high z low high fails o) refl
    ]

-- of all
below_cons : (low : Option ℤ) (z : ℤ) (zs : List ℤ) → below low (z ∷ zs) ≡ one_below low z + below low zs
below_cons None z zs = omega arith
below_cons (Some low) z zs = sum_by-cons (λ y. cond (int_le y low) 1 0) z zs

up_to_cons : (high : Option ℤ) (z : ℤ) (zs : List ℤ) → up_to high (z ∷ zs) ≡ cond (is_up_to high z) 1 0 + up_to high zs
up_to_cons None z zs = omega arith
up_to_cons (Some high) z zs = sum_by-cons (λ y. cond (int_le y high) 1 0) z zs

between_them : (low high : Option ℤ) (zs : List ℤ) → Ordered low high → count_by (between low high) zs + below low zs ≡ up_to high zs
between_them None None [] o = omega arith
between_them None (Some high) [] o = omega arith
between_them (Some low) None [] o = omega arith
between_them (Some low) (Some high) [] o = omega arith
between_them low high (z ∷ zs) o =
    let here = one_between low high z o in
    let later = between_them low high zs o in
    let first = sum_by-cons (λ y. cond (between low high y) 1 0) z zs in
    omega (arith, here, later, first, below_cons low z zs, up_to_cons high z zs)

-- how many are at most the limit of the class before one
abbrev pub before : List ℤ → List ℤ → ℕ → ℕ
before limits zs zero = 0
before limits zs (suc i) = count_at_most (get_or limits i (pos 0)) zs

lower_is : (limits : List ℤ) (zs : List ℤ) (i : ℕ) → i ≤ length limits → below (lower limits i) zs ≡ before limits zs i
lower_is limits zs zero le = refl
lower_is limits zs (suc i) le = ap (λ (o : Option ℤ). below o zs) (slice_get-get_or limits i (pos 0) (omega arith))

ordered_at : (limits : List ℤ) → AreRising limits → (i : ℕ) → i < length limits → Ordered (lower limits i) (Some (get_or limits i (pos 0)))
ordered_at limits rising zero lt = tt
ordered_at limits rising (suc i) lt =
    let e : suc i ≡ i + 1 = omega arith in
    subst (λ (o : Option ℤ). Ordered o (Some (get_or limits (suc i) (pos 0)))) (sym (slice_get-get_or limits i (pos 0) (omega arith)))
    (subst (λ (j : ℕ). get_or limits i (pos 0) ≤ℤ get_or limits j (pos 0)) (sym e) (rising i (omega arith)))

ordered_last : (low : Option ℤ) → Ordered low None
ordered_last None = tt
ordered_last (Some low) = tt

-- what lies in a class, and what is below it, is what is at most its limit
pub class_at : (limits zs : List ℤ) → AreRising limits → (i : ℕ) → i < length limits →
    count_by (is_in limits i) zs + before limits zs i ≡ count_at_most (get_or limits i (pos 0)) zs
class_at limits zs rising i lt =
    let there = slice_get-get_or limits i (pos 0) lt in
    let all = between_them (lower limits i) (Some (get_or limits i (pos 0))) zs (ordered_at limits rising i lt) in
    let same : count_by (is_in limits i) zs ≡ count_by (between (lower limits i) (Some (get_or limits i (pos 0)))) zs =
    ap (λ (o : Option ℤ). count_by (between (lower limits i) o) zs) there in
    omega (arith, all, same, lower_is limits zs i (omega arith))

-- and in the last class
pub last_class : (limits zs : List ℤ) → count_by (is_in limits (length limits)) zs + before limits zs (length limits) ≡ length zs
last_class limits zs =
    let none = slice_get_past limits (length limits) (omega arith) in
    let all = between_them (lower limits (length limits)) None zs (ordered_last (lower limits (length limits))) in
    let same : count_by (is_in limits (length limits)) zs ≡ count_by (between (lower limits (length limits)) None) zs =
    ap (λ (o : Option ℤ). count_by (between (lower limits (length limits)) o) zs) none in
    omega (arith, all, same, lower_is limits zs (length limits) (omega arith))

-- the counts of the first i classes stand in their slots
abbrev pub AreSet : List ℤ → List ℤ → List ℕ → ℕ → Type 0
AreSet limits zs counts i = (k : ℕ) → k < i → get_or counts k 0 ≡ count_by (is_in limits k) zs

-- and of one class more
one_set : (limits zs : List ℤ) (counts : List ℕ) (i n : ℕ) → i < length counts → AreSet limits zs counts i → n ≡ count_by (is_in limits i) zs →
    AreSet limits zs (set counts i n) (i + 1)
one_set limits zs counts i n lt so_far here =
    subst (λ (m : ℕ). AreSet limits zs (set counts i m) (i + 1)) (sym here) (fill_by_more (λ k. count_by (is_in limits k) zs) counts i 0 lt so_far)

pub next_set : (limits zs : List ℤ) (counts : List ℕ) (i found b : ℕ) → AreRising limits → i < length limits → length counts ≡ length limits + 1 →
    AreSet limits zs counts i → b ≡ before limits zs i → found ≡ count_at_most (get_or limits i (pos 0)) zs → AreSet limits zs (set counts i (found - b)) (i + 1)
next_set limits zs counts i found b rising lt slots so_far was is =
    let all = class_at limits zs rising i lt in
    one_set limits zs counts i (found - b) (omega arith) so_far (omega (arith, all, was, is))

pub before_next : (limits zs : List ℤ) (i : ℕ) → before limits zs (i + 1) ≡ count_at_most (get_or limits i (pos 0)) zs
before_next limits zs i = let e : i + 1 ≡ suc i = omega arith in ap (before limits zs) e

pub all_set : (limits zs : List ℤ) (counts : List ℕ) (i b : ℕ) → i ≡ length limits → length counts ≡ length limits + 1 → AreSet limits zs counts i →
    b ≡ before limits zs i → set counts (length limits) (length zs - b) ≡ class_counts limits zs
all_set limits zs counts i b end slots so_far was =
    let before_last : b ≡ before limits zs (length limits) = was ∙ ap (before limits zs) end in
    let front = subst (AreSet limits zs counts) end so_far in
    let last : length zs - b ≡ count_by (is_in limits (length limits)) zs = omega (arith, last_class limits zs, before_last) in
    fill_by_all (λ k. count_by (is_in limits k) zs) (set counts (length limits) (length zs - b)) (length limits + 1) 0
    (omega (arith, length-set {A = ℕ}, slots)) (one_set limits zs counts (length limits) (length zs - b) (omega arith) front last)

-- the first i classes together have what is at most the limit before the next one
front_counted : (limits zs : List ℤ) → AreRising limits → (i : ℕ) → i ≤ length limits →
    sum (map (λ k. count_by (is_in limits k) zs) (range_with_len 0 i)) ≡ before limits zs i
front_counted limits zs rising zero le = refl
front_counted limits zs rising (suc i) le =
    let more = sum_by-map-range_with_len_more (λ n. n) (λ k. count_by (is_in limits k) zs) 0 i i (omega arith) in
    let so_far = front_counted limits zs rising i (omega arith) in
    let all = class_at limits zs rising i (omega arith) in
    let e : i + 1 ≡ suc i = omega arith in
    let same = ap (λ (n : ℕ). sum (map (λ k. count_by (is_in limits k) zs) (range_with_len 0 n))) e in
    omega (arith, more, so_far, all, same)

-- all classes together have each number once
pub all_counted : (limits zs : List ℤ) → AreRising limits → sum (class_counts limits zs) ≡ length zs
all_counted limits zs rising =
    let n = length limits in
    let more = sum_by-map-range_with_len_more (λ m. m) (λ k. count_by (is_in limits k) zs) 0 n n (omega arith) in
    omega (arith, more, front_counted limits zs rising n (omega arith), last_class limits zs)
