-- Values that stand in full blocks: how many there are, and where each one stands.
use Rattle.std.proofs.Common.{◌≡◌, ℕ, ℤ, zero, suc, ◌+◌, ◌*◌, ◌/◌, ◌%◌, ◌<◌, ◌≤◌, List, [], ◌∷◌, ◌++◌, length, map, get_or, take, refl, ap, ◌∙◌, arith}
use Rattle.std.proofs.lemmas.Nat.{div-add-mod', mod_below}
use Rattle.std.proofs.lemmas.List.{length-append}
use Rattle.std.specs.List.{slice_get}
use Rattle.gw_shared.proofs.Laws.{get_in}
use Rattle.gw_entities.specs.declared.values.Block.{Block}
use Rattle.gw_entities.specs.Values.{block_values, in_blocks, AreFull}

pub count : (bs : List Block) → AreFull (map block_values bs) → length (in_blocks bs) ≡ length bs * 4096
count [] full = refl
count (b ∷ bs) full =
    let here = full.0 in
    let rest = count bs full.1 in
    length-append (block_values b) (in_blocks bs) ∙ omega (arith, here, rest)

front : (bs : List Block) (q : ℕ) → AreFull (map block_values bs) → q ≤ length bs → length (in_blocks (take q bs)) ≡ q * 4096
front bs zero full h = refl
front [] (suc q) full h = absurd (omega (arith, h))
front (b ∷ bs) (suc q) full h =
    let here = full.0 in
    let rest = front bs q full.1 (omega (arith, h)) in
    length-append (block_values b) (in_blocks (take q bs)) ∙ omega (arith, here, rest)

pub whole : (bs : List Block) (q : ℕ) (b : Block) → AreFull (map block_values bs) → q < length bs → b ≡ get_or bs q b → length (block_values b) ≡ 4096
whole [] q b full h there = absurd (omega (arith, h))
whole (c ∷ bs) zero b full h there = ap (λ d. length (block_values d)) there ∙ full.0
whole (c ∷ bs) (suc q) b full h there = whole bs q b full.1 (omega (arith, h)) there

-- the block in which a value stands is one of them
pub within : (bs : List Block) (i : ℕ) → AreFull (map block_values bs) → i < length (in_blocks bs) → i / 4096 < length bs
within bs i full h =
    let all = count bs full in
    let parts = div-add-mod' i 4096 in
    let small = mod_below i 4096 (omega arith) in
    omega (arith, h, all, parts, small)

pub small : (i : ℕ) → i % 4096 < 4096
small i = mod_below i 4096 (omega arith)

-- it and so many after it, as far as the block goes
pub value : (bs : List Block) (i k : ℕ) (b : Block) → AreFull (map block_values bs) → i < length (in_blocks bs) → b ≡ get_or bs (i / 4096) b →
    i % 4096 + k < 4096 → slice_get (in_blocks bs) (i + k) ≡ slice_get (block_values b) (i % 4096 + k)
value bs i k b full h there below =
    let q = within bs i full h in
    let before = front bs (i / 4096) full (omega (arith, q)) in
    let parts = div-add-mod' i 4096 in
    let full_one = whole bs (i / 4096) b full q there in
    get_in block_values bs (i / 4096) (i % 4096 + k) (i + k) b q there (omega (arith, before, parts)) (omega (arith, full_one, below))

pub value_in_front : (xs ys : List ℤ) (i : ℕ) → i < length xs → slice_get (xs ++ ys) i ≡ slice_get xs i
value_in_front [] ys i h = absurd (omega (arith, h))
value_in_front (x ∷ xs) ys zero h = refl
value_in_front (x ∷ xs) ys (suc i) h = value_in_front xs ys i (omega (arith, h))

-- one more block
pub more_full : (bs : List Block) (b : Block) → AreFull (map block_values bs) → length (block_values b) ≡ 4096 → AreFull (map block_values (bs ++ b ∷ []))
more_full [] b full is = (is, tt)
more_full (c ∷ bs) b full is = (full.0, more_full bs b full.1 is)

pub more_count : (bs : List Block) (b : Block) → length (block_values b) ≡ 4096 → length (in_blocks bs) + 4096 ≡ length (in_blocks (bs ++ b ∷ []))
more_count [] b is = let none = length-append (block_values b) [] in omega (arith, is, none)
more_count (c ∷ bs) b is =
    let rest = more_count bs b is in
    let one = length-append (block_values c) (in_blocks bs) in
    let all = length-append (block_values c) (in_blocks (bs ++ b ∷ [])) in
    omega (arith, rest, one, all)

-- the values of the blocks tell their values together
pub same_values : (bs cs : List Block) → map block_values bs ≡ map block_values cs → in_blocks bs ≡ in_blocks cs
same_values [] [] is = refl
same_values [] (c ∷ cs) is = absurd cc
same_values (b ∷ bs) [] is = absurd cc
same_values (b ∷ bs) (c ∷ cs) is =
    let first : block_values b ≡ block_values c = cc in
    let rest : map block_values bs ≡ map block_values cs = cc in
    ap (λ l. l ++ in_blocks bs) first ∙ ap (λ l. block_values c ++ l) (same_values bs cs rest)
