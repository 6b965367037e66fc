-- The first place of a number in a list, by parts of the list.
use Rattle.std.proofs.Common.{◌≡◌, ◌≢◌, ◌==◌, ℕ, zero, suc, ◌+◌, ◌*◌, ◌<◌, ◌≤◌, Bool, true, false, not, cond, List, [], ◌∷◌, ◌++◌, length, slice_index, map, take, drop, get_or, All, Option, Some, None, IfSome, IfNone, option_map, refl, sym, ap, subst, ◌∙◌, arith, suc-mul, length-append}
use Rattle.std.specs.List.{concat, prefix_len}
use Rattle.std.specs.Option.{option_or}
use Rattle.std.specs.Simd.{first_chunks}
use Rattle.std.specs.Simd.Lanes.{mask_l}
use Rattle.std.specs.Int.Count.{count_trailing_zeros}
use Rattle.std.proofs.lemmas.Bool.{eqb-true, eqb-false, eq-eqb, ne_eqb}
use Rattle.std.proofs.lemmas.List.{take_more, drop_more, take-take, drop-take, take-append-drop, append-nil, length-take-le}
use Rattle.std.proofs.lemmas.List.Elements.{All-from_get_or}
use Rattle.std.proofs.lemmas.List.Folds.{concat-append}
use Rattle.std.proofs.lemmas.Simd.{trailing_mask_l}
use Rattle.std.proofs.lemmas.Option.{none-some}
use Rattle.gw_lanes.specs.FirstAt.{first_at, IsFirstAt}

-- by the number at the front
by_front : (value n : ℕ) (ns : List ℕ) (b : Bool) → (n == value) ≡ b → first_at value (n ∷ ns) ≡ cond b (Some 0) (option_map suc (first_at value ns))
by_front value n ns b e = ap (λ c. cond c (Some 0) (option_map suc (first_at value ns))) e

moved : (n : ℕ) (o p : Option ℕ) → option_or (option_map suc o) (option_map (λ k. suc n + k) p) ≡ option_map suc (option_or o (option_map (λ k. n + k) p))
moved n (Some k) p = refl
moved n None None = refl
moved n None (Some k) = let e : suc n + k ≡ suc (n + k) = omega arith in ap Some e

-- over a list that goes on
pub first_at-append : (value : ℕ) (ms ns : List ℕ)
    → first_at value (ms ++ ns) ≡ option_or (first_at value ms) (option_map (λ k. length ms + k) (first_at value ns))
first_at-append value [] ns =
    elim (first_at value ns) as (λ o. o ≡ option_map (λ k. 0 + k) o) [ None ↦ refl | Some k ↦ let e : k ≡ 0 + k = omega arith in ap Some e ]
first_at-append value (m ∷ ms) ns =
    elim (m == value) as
    (λ b.
    cond b (Some 0) (option_map suc (first_at value (ms ++ ns))) ≡
    option_or (cond b (Some 0) (option_map suc (first_at value ms))) (option_map (λ k. suc (length ms) + k) (first_at value ns))) [
      | true ↦ refl
      | false ↦ ap (option_map suc) (first_at-append value ms ns) ∙ sym (moved (length ms) (first_at value ms) (first_at value ns))
    ]

-- where it stands in the list's front
pub in_front : (value : ℕ) (ms ns : List ℕ) (place : ℕ) → Some place ≡ first_at value ms → Some place ≡ first_at value (ms ++ ns)
in_front value ms ns place e =
    ap (λ o. option_or o (option_map (λ k. length ms + k) (first_at value ns))) e ∙ sym (first_at-append value ms ns)

-- where it does not stand in the list's front
pub behind : (value : ℕ) (ms ns : List ℕ) → first_at value ms ≡ None → first_at value (ms ++ ns) ≡ option_map (λ k. length ms + k) (first_at value ns)
behind value ms ns e = first_at-append value ms ns ∙ ap (λ o. option_or o (option_map (λ k. length ms + k) (first_at value ns))) e

-- a number more, which is another
pub next_other : (value : ℕ) (ns : List ℕ) (i : ℕ) → i < length ns → get_or ns i 0 ≢ value
    → first_at value (take i ns) ≡ None → first_at value (take (i + 1) ns) ≡ None
next_other value ns i within other before =
    ap (first_at value) (take_more ns i 0 within)
    ∙ behind value (take i ns) (get_or ns i 0 ∷ []) before
    ∙ ap (option_map (λ k. length (take i ns) + k)) (by_front value (get_or ns i 0) [] false (ne_eqb _ _ other))

-- at the place of the first
pub at_place : (value : ℕ) (ns : List ℕ) (i : ℕ) → i < length ns → get_or ns i 0 ≡ value → first_at value (take i ns) ≡ None → Some i ≡ first_at value ns
at_place value ns i within here before =
    let e : i ≡ length (take i ns) + 0 = omega (arith, length-take-le i ns (omega arith)) in
    ap Some e
    ∙ sym
    (ap (option_map (λ k. length (take i ns) + k)) (by_front value (get_or ns i 0) (drop (i + 1) ns) true (eq-eqb _ _ here)))
    ∙ sym (behind value (take i ns) (get_or ns i 0 ∷ drop (i + 1) ns) before)
    ∙ ap (λ xs. first_at value (take i ns ++ xs)) (sym (drop_more ns i 0 within))
    ∙ ap (first_at value) (take-append-drop i ns)

-- ---- a block, by the mask of its equal lanes
-- with no lane marked
pub none_marked : (value : ℕ) (ns : List ℕ) → mask_l (map (λ n. n == value) ns) ≡ 0 → first_at value ns ≡ None
none_marked value [] e = refl
none_marked value (n ∷ ns) e =
    elim (n == value) as (λ b. cond b 1 0 + 2 * mask_l (map (λ m. m == value) ns) ≡ 0 → cond b (Some 0) (option_map suc (first_at value ns)) ≡ None) [
      | true ↦ λ h. absurd (omega arith)
      | false ↦ λ h. ap (option_map suc) (none_marked value ns (omega arith))
    ] e

-- the lanes before the first that is marked
some_marked : (value : ℕ) (ns : List ℕ) → 0 < mask_l (map (λ n. n == value) ns) → Some (prefix_len (λ n. not (n == value)) ns) ≡ first_at value ns
some_marked value [] lt = absurd (omega arith)
some_marked value (n ∷ ns) lt =
    elim (n == value) as (λ b. 0 < cond b 1 0 + 2 * mask_l (map (λ m. m == value) ns) →
    Some (cond (not b) (1 + prefix_len (λ m. not (m == value)) ns) 0) ≡ cond b (Some 0) (option_map suc (first_at value ns))) [
      | true ↦ λ h. refl
      | false ↦ λ h. (let e : 1 + prefix_len (λ m. not (m == value)) ns ≡ suc (prefix_len (λ m. not (m == value)) ns) = omega arith in
          ap Some e ∙ ap (option_map suc) (some_marked value ns (omega arith)))
    ] lt

-- the lowest mark
pub place_of_mark : (value : ℕ) (ns : List ℕ) (mask : ℕ) → mask ≡ mask_l (map (λ n. n == value) ns) → length ns ≤ 64 → mask ≢ 0
    → Some (count_trailing_zeros 64 mask) ≡ first_at value ns
place_of_mark value ns mask e le some =
    ap (λ m. Some (count_trailing_zeros 64 m)) e
    ∙ ap Some (trailing_mask_l (λ n. n == value) 64 ns le (omega arith))
    ∙ some_marked value ns (omega arith)

-- ---- blocks one after another
-- how long the first blocks are
blocks_long : (blocks : List (List ℕ)) (i : ℕ) → i ≤ length blocks → ((k : ℕ) → k < length blocks → length (get_or blocks k []) ≡ 8)
    → length (concat (take i blocks)) ≡ i * 8
blocks_long blocks zero le long = refl
blocks_long [] (suc i) le long = absurd (omega arith)
blocks_long (b ∷ bs) (suc i) le long =
    let here : length b ≡ 8 = long 0 (omega arith) in
    let later : length (concat (take i bs)) ≡ i * 8 = blocks_long bs i (omega arith) (λ k lt. long (suc k) (omega arith)) in
    omega (arith, length-append b (concat (take i bs)), here, later)

-- a block more, in which it does not stand
pub next_block_none : (value : ℕ) (blocks : List (List ℕ)) (i : ℕ) → i < length blocks → None ≡ first_at value (get_or blocks i [])
    → first_at value (concat (take i blocks)) ≡ None → first_at value (concat (take (i + 1) blocks)) ≡ None
next_block_none value blocks i within none before =
    let block : List ℕ = get_or blocks i [] in
    ap (λ xs. first_at value (concat xs)) (take_more blocks i [] within)
    ∙ ap (first_at value) (concat-append (take i blocks) (block ∷ []))
    ∙ behind value (concat (take i blocks)) (block ++ []) before
    ∙ ap (λ xs. option_map (λ k. length (concat (take i blocks)) + k) (first_at value xs)) (append-nil block)
    ∙ ap (option_map (λ k. length (concat (take i blocks)) + k)) (sym none)

-- the block in which it stands first
pub at_block : (value : ℕ) (blocks : List (List ℕ)) (i lane : ℕ) → i < length blocks → ((k : ℕ) → k < length blocks → length (get_or blocks k []) ≡ 8)
    → Some lane ≡ first_at value (get_or blocks i []) → first_at value (concat (take i blocks)) ≡ None → Some (i * 8 + lane) ≡ first_at value (concat blocks)
at_block value blocks i lane within long here before =
    let block : List ℕ = get_or blocks i [] in
    let later : List ℕ = concat (drop (i + 1) blocks) in
    let e : i * 8 + lane ≡ length (concat (take i blocks)) + lane = omega (arith, blocks_long blocks i (omega arith) long) in
    ap Some e
    ∙ ap (option_map (λ k. length (concat (take i blocks)) + k)) (in_front value block later lane here)
    ∙ sym (behind value (concat (take i blocks)) (block ++ later) before)
    ∙ ap (first_at value) (sym (concat-append (take i blocks) (block ∷ drop (i + 1) blocks)))
    ∙ ap (λ xs. first_at value (concat (take i blocks ++ xs))) (sym (drop_more blocks i [] within))
    ∙ ap (λ xs. first_at value (concat xs)) (take-append-drop i blocks)

-- a front in two parts
take_sum : (m n : ℕ) (ns : List ℕ) → take (m + n) ns ≡ take m ns ++ take n (drop m ns)
take_sum m n ns =
    sym (take-append-drop m (take (m + n) ns))
    ∙ ap (λ xs. xs ++ drop m (take (m + n) ns)) (take-take m (m + n) ns (omega arith))
    ∙ ap (λ xs. take m ns ++ xs) (drop-take m n ns)

-- the first blocks of a list, and its front
pub blocks_in_front : (n k : ℕ) (ns : List ℕ) → concat (first_chunks n k ns) ≡ take (k * n) ns
blocks_in_front n zero ns = let e : 0 ≡ 0 * n = omega arith in ap (λ j. take j ns) e
blocks_in_front n (suc k) ns =
    let e : n + k * n ≡ suc k * n = omega (arith, suc-mul k n) in
    ap (λ xs. take n ns ++ xs) (blocks_in_front n k (drop n ns)) ∙ sym (take_sum n (k * n) ns) ∙ ap (λ j. take j ns) e

-- a place in the first blocks
pub in_values : (value : ℕ) (ns : List ℕ) (blocks : List (List ℕ)) (k : ℕ) (place : ℕ) → blocks ≡ first_chunks 8 k ns
    → Some place ≡ first_at value (concat blocks) → Some place ≡ first_at value ns
in_values value ns blocks k place front e =
    in_front value (take (k * 8) ns) (drop (k * 8) ns) place (e ∙ ap (λ bs. first_at value (concat bs)) front ∙ ap (first_at value) (blocks_in_front 8 k ns))
    ∙ ap (first_at value) (take-append-drop (k * 8) ns)

-- ---- what is so of the place, and of the list where there is none
one_later : (value n : ℕ) (ns : List ℕ) (o : Option ℕ) → n ≢ value → IfSome o (λ place. IsFirstAt value ns place)
    → IfSome (option_map suc o) (λ place. IsFirstAt value (n ∷ ns) place)
one_later value n ns None other e = e
one_later value n ns (Some place) other e = record {
  within = omega (arith, e.within);
  there = e.there;
  first = λ k lt. earlier k lt;
} where
  earlier : (k : ℕ) → k < suc place → slice_index (n ∷ ns) k ≢ value
  earlier zero lt = other
  earlier (suc k) lt = e.first k (omega arith)

pub if_found : (value : ℕ) (ns : List ℕ) → IfSome (first_at value ns) (λ place. IsFirstAt value ns place)
if_found value [] = tt
if_found value (n ∷ ns) =
    elim (n == value) as (λ b. (n == value) ≡ b → IfSome (cond b (Some 0) (option_map suc (first_at value ns))) (λ place. IsFirstAt value (n ∷ ns) place)) [
      | true ↦ λ e. record { within = omega arith; there = eqb-true n value e; first = λ k lt. absurd (omega arith) }
      | false ↦ λ e. one_later value n ns (first_at value ns) (eqb-false n value e) (if_found value ns)
    ] refl

-- the place is one of the list's
pub place_within : (value : ℕ) (ns : List ℕ) (place : ℕ) → Some place ≡ first_at value ns → place < length ns
place_within value ns place e = (subst (λ o. IfSome o (λ k. IsFirstAt value ns k)) (sym e) (if_found value ns)).within

not_later : (o : Option ℕ) → option_map suc o ≡ None → o ≡ None
not_later None e = refl
not_later (Some k) e = absurd (none-some (suc k) (sym e))

none_stands : (value : ℕ) (ns : List ℕ) → first_at value ns ≡ None → (k : ℕ) → k < length ns → get_or ns k 0 ≢ value
none_stands value [] none k lt = absurd (omega arith)
none_stands value (n ∷ ns) none k lt =
    elim (n == value) as (λ b. (n == value) ≡ b → cond b (Some 0) (option_map suc (first_at value ns)) ≡ None → get_or (n ∷ ns) k 0 ≢ value) [
      | true ↦ λ e h. absurd (none-some 0 (sym h))
      | false ↦ λ e h. at_each (eqb-false n value e) (none_stands value ns (not_later (first_at value ns) h)) k lt
    ] refl none where
      at_each : n ≢ value → ((j : ℕ) → j < length ns → get_or ns j 0 ≢ value) → (j : ℕ) → j < length (n ∷ ns) → get_or (n ∷ ns) j 0 ≢ value
      at_each other later zero within = other
      at_each other later (suc j) within = later j (omega arith)

pub if_nowhere : (value : ℕ) (ns : List ℕ) → IfNone (first_at value ns) (All (λ n. n ≢ value) ns)
if_nowhere value ns =
    elim (first_at value ns) as (λ o. first_at value ns ≡ o → IfNone o (All (λ n. n ≢ value) ns)) [
      | None ↦ λ e. All-from_get_or (λ n. n ≢ value) ns 0 (none_stands value ns e)
      | Some place ↦ λ e. tt
    ] refl
