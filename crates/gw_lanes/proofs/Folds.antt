-- The least of a list as a fold, over its blocks.
use Rattle.std.proofs.Common.{◌≡◌, ℕ, zero, suc, ◌+◌, ◌*◌, ◌/◌, ◌<◌, ◌≤◌, min, fold, List, [], ◌∷◌, ◌++◌, length, take, drop, get_or, Some, refl, sym, ap, ◌∙◌, arith, suc-mul}
use Rattle.std.specs.List.{concat}
use Rattle.std.specs.Simd.{first_chunks}
use Rattle.std.proofs.lemmas.List.{take_more, drop-drop, take-append-drop, append-nil}
use Rattle.std.proofs.lemmas.List.Sums.{fold-append}
use Rattle.std.proofs.lemmas.List.Folds.{concat-append}
use Rattle.gw_lanes.specs.Least.{least, lesser}

-- a start that is lesser makes the result lesser
pub fold_min-min : (n m : ℕ) (ns : List ℕ) → fold min (min n m) ns ≡ min n (fold min m ns)
fold_min-min n m [] = refl
fold_min-min n m (k ∷ ks) =
    let e : min (min n m) k ≡ min n (min m k) = omega arith in
    ap (λ (x : ℕ). fold min x ks) e ∙ fold_min-min n (min m k) ks

-- a block more
pub next_block : (m : ℕ) (blocks : List (List ℕ)) (i : ℕ) → i < length blocks →
    fold min (fold min m (concat (take i blocks))) (get_or blocks i []) ≡ fold min m (concat (take (i + 1) blocks))
next_block m blocks i lt =
    let block : List ℕ = get_or blocks i [] in
    let longer : concat (take (i + 1) blocks) ≡ concat (take i blocks) ++ block =
    ap concat (take_more blocks i [] lt) ∙ concat-append (take i blocks) (block ∷ []) ∙ ap (λ (b : List ℕ). concat (take i blocks) ++ b) (append-nil block) in
    sym (fold-append min m (concat (take i blocks)) block) ∙ ap (fold min m) (sym longer)

-- the blocks of a list, and what is after them
pub fold-blocks : (m n k : ℕ) (ns : List ℕ) → fold min (fold min m (concat (first_chunks n k ns))) (drop (k * n) ns) ≡ fold min m ns
fold-blocks m n zero ns = let e : 0 * n ≡ 0 = omega arith in ap (λ (j : ℕ). fold min m (drop j ns)) e
fold-blocks m n (suc k) ns =
    let behind : drop (suc k * n) ns ≡ drop (k * n) (drop n ns) =
    (let e : suc k * n ≡ n + k * n = omega (arith, suc-mul k n) in ap (λ (j : ℕ). drop j ns) e ∙ sym (drop-drop (k * n) n ns)) in
    ap (λ (j : ℕ). fold min j (drop (suc k * n) ns)) (fold-append min m (take n ns) (concat (first_chunks n k (drop n ns))))
    ∙ ap (fold min (fold min (fold min m (take n ns)) (concat (first_chunks n k (drop n ns))))) behind
    ∙ fold-blocks (fold min m (take n ns)) n k (drop n ns)
    ∙ sym (fold-append min m (take n ns) (drop n ns))
    ∙ ap (fold min m) (take-append-drop n ns)

-- the least of a list is a fold
pub fold_least : (n : ℕ) (ns : List ℕ) → lesser n (least ns) ≡ fold min n ns
fold_least n [] = refl
fold_least n (k ∷ ks) = ap (λ (x : ℕ). min n x) (fold_least k ks) ∙ sym (fold_min-min n k ks)

-- the least of a list whose first number is not above the start
pub least_is : (m : ℕ) (ns : List ℕ) → 0 < length ns → get_or ns 0 0 ≤ m → Some (fold min m ns) ≡ least ns
least_is m [] some le = absurd (omega arith)
least_is m (n ∷ ns) some le =
    let e : min m n ≡ n = omega arith in
    ap (λ (x : ℕ). Some x) (ap (λ (x : ℕ). fold min x ns) e ∙ sym (fold_least n ns))

-- the least of a list by its blocks of n numbers, and then by what is after them
pub by_blocks : (m n : ℕ) (ns rest : List ℕ) (blocks : List (List ℕ)) (first last : ℕ) → 0 < length ns → get_or ns 0 0 ≤ m
    → blocks ≡ first_chunks n (length ns / n) ns → rest ≡ drop (length ns / n * n) ns
    → first ≡ fold min m (concat blocks) → last ≡ fold min first rest → Some last ≡ least ns
by_blocks m n ns rest blocks first last some le front back begun ended =
    let all : last ≡ fold min m ns = (let e = fold-blocks m n (length ns / n) ns in cc) in
    ap (λ (x : ℕ). Some x) all ∙ least_is m ns some le
