-- Items that stand in full blocks: how many there are, where each one stands, and the first so many of them.
use Rattle.std.proofs.Common.{◌≡◌, ℕ, zero, suc, ◌+◌, ◌*◌, ◌/◌, ◌%◌, ◌<◌, ◌≤◌, List, [], ◌∷◌, ◌++◌, length, map, get_or, take, drop, slice_get, refl, ap, ◌∙◌, arith}
use Rattle.std.proofs.lemmas.Nat.{div-add-mod', mod_below}
use Rattle.std.proofs.lemmas.List.{length-append, take-append-le, flat_map_more}
use Rattle.std.specs.List.{flat_map}
use Rattle.gw_shared.proofs.Laws.{get_in, cut}
use Rattle.gw_shared.specs.Growing.{AreFull}

-- the first so many of two lists one after another
pub take_behind : {A : Type 0} → (xs ys : List A) (i n : ℕ) → length xs + i ≡ n → take n (xs ++ ys) ≡ xs ++ take i ys
take_behind [] ys i n is = ap (λ k. take k ys) (omega (arith, is))
take_behind (x ∷ xs) ys i zero is = absurd (omega (arith, is))
take_behind (x ∷ xs) ys i (suc n) is = ap (λ l. x ∷ l) (take_behind xs ys i n (omega (arith, is)))

pub in_front : {A : Type 0} → (xs ys : List A) (i : ℕ) → i < length xs → slice_get (xs ++ ys) i ≡ slice_get xs i
in_front [] ys i h = absurd (omega (arith, h))
in_front (x ∷ xs) ys zero h = refl
in_front (x ∷ xs) ys (suc i) h = in_front xs ys i (omega (arith, h))

module _ {X A : Type 0} (f : X → List A) where
  pub count : (bs : List X) → AreFull (map f bs) → length (flat_map f bs) ≡ length bs * 1024
  count [] full = refl
  count (b ∷ bs) full =
      let here = full.0 in
      let rest = count bs full.1 in
      length-append (f b) (flat_map f bs) ∙ omega (arith, here, rest)

  pub front : (bs : List X) (q : ℕ) → AreFull (map f bs) → q ≤ length bs → length (flat_map f (take q bs)) ≡ q * 1024
  front bs zero full h = refl
  front [] (suc q) full h = absurd (omega (arith, h))
  front (b ∷ bs) (suc q) full h =
      let here = full.0 in
      let rest = front bs q full.1 (omega (arith, h)) in
      length-append (f b) (flat_map f (take q bs)) ∙ omega (arith, here, rest)

  pub whole : (bs : List X) (q : ℕ) (b : X) → AreFull (map f bs) → q < length bs → b ≡ get_or bs q b → length (f b) ≡ 1024
  whole [] q b full h there = absurd (omega (arith, h))
  whole (c ∷ bs) zero b full h there = ap (λ d. length (f d)) there ∙ full.0
  whole (c ∷ bs) (suc q) b full h there = whole bs q b full.1 (omega (arith, h)) there

  -- the block in which an item stands is one of them
  pub within : (bs : List X) (i : ℕ) → AreFull (map f bs) → i < length (flat_map f bs) → i / 1024 < length bs
  within bs i full h =
      let all = count bs full in
      let parts = div-add-mod' i 1024 in
      let small = mod_below i 1024 (omega arith) in
      omega (arith, h, all, parts, small)

  pub item : (bs : List X) (i : ℕ) (b : X) → AreFull (map f bs) → i < length (flat_map f bs) → b ≡ get_or bs (i / 1024) b →
      slice_get (flat_map f bs) i ≡ slice_get (f b) (i % 1024)
  item bs i b full h there =
      let q = within bs i full h in
      let before = front bs (i / 1024) full (omega (arith, q)) in
      let parts = div-add-mod' i 1024 in
      let small = mod_below i 1024 (omega arith) in
      let full_one = whole bs (i / 1024) b full q there in
      get_in f bs (i / 1024) (i % 1024) i b q there (omega (arith, before, parts)) (omega (arith, full_one, small))

  -- the first so many: whole blocks, and a part of the next
  pub taken : (bs : List X) (i : ℕ) (b : X) → AreFull (map f bs) → i < length (flat_map f bs) → b ≡ get_or bs (i / 1024) b →
      take i (flat_map f bs) ≡ flat_map f (take (i / 1024) bs) ++ take (i % 1024) (f b)
  taken bs i b full h there =
      let q = within bs i full h in
      let before = front bs (i / 1024) full (omega (arith, q)) in
      let parts = div-add-mod' i 1024 in
      let small = mod_below i 1024 (omega arith) in
      let full_one = whole bs (i / 1024) b full q there in
      let xs = flat_map f (take (i / 1024) bs) in
      let rest = flat_map f (drop (suc (i / 1024)) bs) in
      ap (λ l. take i l) (cut f bs (i / 1024) b q there)
      ∙ (take_behind xs (f b ++ rest) (i % 1024) i (omega (arith, before, parts))
      ∙ ap (λ l. xs ++ l) (take-append-le (i % 1024) (f b) rest (omega (arith, full_one, small))))

  pub taken_full : (bs : List X) (q : ℕ) → AreFull (map f bs) → AreFull (map f (take q bs))
  taken_full bs zero full = tt
  taken_full [] (suc q) full = tt
  taken_full (b ∷ bs) (suc q) full = (full.0, taken_full bs q full.1)

  -- one more block
  pub more_full : (bs : List X) (b : X) → AreFull (map f bs) → length (f b) ≡ 1024 → AreFull (map f (bs ++ b ∷ []))
  more_full [] b full is = (is, tt)
  more_full (c ∷ bs) b full is = (full.0, more_full bs b full.1 is)

  pub more_count : (bs : List X) (b : X) → length (f b) ≡ 1024 → length (flat_map f bs) + 1024 ≡ length (flat_map f (bs ++ b ∷ []))
  more_count bs b is =
      let all = length-append (flat_map f bs) (f b) in
      omega (arith, is, all) ∙ ap length (flat_map_more f [] bs b)
