-- Names whose heads differ stand in the order of the heads; a name of fewer than eight bytes ties where they are equal.
use Rattle.std.proofs.Common.{◌≡◌, ◌≢◌, ℕ, zero, suc, ◌<◌, ◌+◌, ◌*◌, true, inl, inr, ap, refl, sym, ◌∙◌, arith}
use Rattle.std.proofs.Common.{List, [], ◌∷◌, Some, Less, Equal, Greater, length, get_or}
use Rattle.std.specs.List.{list_all}
use Rattle.std.specs.Ordering.{nat_cmp, ordering_reverse}
use Rattle.std.specs.Cmp.Lexicographic.{slice_cmp}
use Rattle.std.proofs.lemmas.Bool.Decides.{nat_tests}
use Rattle.std.proofs.lemmas.Bool.{cases_order, and_parts}
use Rattle.std.proofs.lemmas.Cmp.{nat_list_cmp_total, tied_itself}
use Rattle.std.proofs.lemmas.Slice.Eq.{bytes_eq-Decides}
use Rattle.gw_names.specs.Names.{name_of, is_name_byte}
use Rattle.gw_names.specs.Heads.{bytes_from, head_of}
use Rattle.gw_names.proofs.SameHeads.{above_zero, below_256, bytes_of_name, short_by_heads}

-- the number that bytes read as after a number read so far: each is a further digit in base 256
read : ℕ → List ℕ → ℕ
read so_far [] = so_far
read so_far (b ∷ bs) = read (so_far * 256 + b) bs

-- what is less so far stays less, whatever as many bytes come after it
stays_less : (xs ys : List ℕ) → ((k : ℕ) → get_or xs k 0 < 256) → (n i j a b : ℕ) → a < b
    → read a (bytes_from xs i n) < read b (bytes_from ys j n)
unfolding read
stays_less xs ys small zero i j a b less = less
stays_less xs ys small (suc n) i j a b less =
    let here = small i in
    stays_less xs ys small n (suc i) (suc j) (a * 256 + get_or xs i 0) (b * 256 + get_or ys j 0) (omega arith)

-- the bytes after the first byte of a list are those of its rest
behind_first : (x : ℕ) (xs : List ℕ) (i n : ℕ) → bytes_from (x ∷ xs) (suc i) n ≡ bytes_from xs i n
behind_first x xs i zero = refl
behind_first x xs i (suc n) = ap (λ bs. get_or xs i 0 ∷ bs) (behind_first x xs (suc i) n)

-- a smaller number compares as less
less_cmp : (x y : ℕ) → x < y → nat_cmp x y ≡ Less
less_cmp x y less = grind (arith, nat_tests)

-- a greater number compares as greater
more_cmp : (x y : ℕ) → y < x → nat_cmp x y ≡ Greater
more_cmp x y more = grind (arith, nat_tests)

-- a smaller first byte decides
less_first : (x y : ℕ) (xs ys : List ℕ) → x < y → slice_cmp nat_cmp (x ∷ xs) (y ∷ ys) ≡ Less
less_first x y xs ys less = rw (less_cmp x y less) refl

-- equal first bytes decide nothing
same_first : (x y : ℕ) (xs ys : List ℕ) → x ≡ y → slice_cmp nat_cmp (x ∷ xs) (y ∷ ys) ≡ slice_cmp nat_cmp xs ys
same_first x y xs ys same = grind (arith, nat_tests)

-- the list that reads as less stands first, where that is known of the rests after equal first bytes
by_first : (so_far x y : ℕ) (xs ys : List ℕ) (n : ℕ) → list_all is_name_byte ys ≡ true
    → read (so_far * 256 + x) (bytes_from xs 0 n) < read (so_far * 256 + y) (bytes_from ys 0 n)
    → (x ≡ y → slice_cmp nat_cmp xs ys ≡ Less) → slice_cmp nat_cmp (x ∷ xs) (y ∷ ys) ≡ Less
by_first so_far x y xs ys n b less rest = elim (cases_order x y) [
  | inl same ↦ same_first x y xs ys same ∙ rest same
  | inr (inl here) ↦ less_first x y xs ys here
  | inr (inr there) ↦
      let more = stays_less ys xs (below_256 ys b) n 0 0 (so_far * 256 + y) (so_far * 256 + x) (omega arith) in
      absurd (omega arith)
]

-- of two lists of name bytes the one whose first bytes read as less stands first
less_by_bytes : (so_far : ℕ) (xs ys : List ℕ) (n : ℕ) → list_all is_name_byte xs ≡ true → list_all is_name_byte ys ≡ true
    → read so_far (bytes_from xs 0 n) < read so_far (bytes_from ys 0 n) → slice_cmp nat_cmp xs ys ≡ Less
unfolding read
less_by_bytes so_far [] [] n a b less = absurd (omega arith)
less_by_bytes so_far [] (y ∷ ys) n a b less = refl
less_by_bytes so_far (x ∷ xs) [] zero a b less = absurd (omega arith)
less_by_bytes so_far (x ∷ xs) [] (suc n) a b less =
    let above = above_zero x (and_parts _ _ a).0 in
    let more = stays_less [] (x ∷ xs) (below_256 [] b) n 1 1 (so_far * 256 + 0) (so_far * 256 + x) (omega arith) in
    absurd (omega arith)
less_by_bytes so_far (x ∷ xs) (y ∷ ys) zero a b less = absurd (omega arith)
less_by_bytes so_far (x ∷ xs) (y ∷ ys) (suc n) a b less =
    let behind = rw (behind_first x xs 0 n, behind_first y ys 0 n) at less in
    let rest_a = (and_parts _ _ a).1 in
    let rest_b = (and_parts _ _ b).1 in
    by_first so_far x y xs ys n rest_b behind (λ same. less_by_bytes (so_far * 256 + y) xs ys n rest_a rest_b (rw same at behind))

-- eight digits in base 256, each with its power, are the number that they read as one after the other
eight_digits : (a b c d e f g h : ℕ) → a * 72057594037927936 + b * 281474976710656 + c * 1099511627776 + d * 4294967296
    + e * 16777216 + f * 65536 + g * 256 + h ≡ (((((((0 * 256 + a) * 256 + b) * 256 + c) * 256 + d) * 256 + e) * 256 + f) * 256 + g) * 256 + h
eight_digits a b c d e f g h = omega arith

-- a head is the number that the first eight bytes read as
head_reads : (xs : List ℕ) → head_of xs ≡ read 0 (bytes_from xs 0 8)
unfolding head_of read
head_reads xs = let byte = λ (i : ℕ). get_or xs i 0 in
    eight_digits (byte 0) (byte 1) (byte 2) (byte 3) (byte 4) (byte 5) (byte 6) (byte 7)

-- a name of a smaller head stands before the other
smaller_head : (xs ys : List ℕ) → name_of xs ≡ Some xs → name_of ys ≡ Some ys → head_of xs < head_of ys → slice_cmp nat_cmp xs ys ≡ Less
smaller_head xs ys is_x is_y less =
    let reads_x = head_reads xs in
    let reads_y = head_reads ys in
    less_by_bytes 0 xs ys 8 (bytes_of_name xs is_x) (bytes_of_name ys is_y) (omega arith)

-- names whose heads differ stand in the order of their heads
pub order_by_heads : (xs ys : List ℕ) → name_of xs ≡ Some xs → name_of ys ≡ Some ys → head_of xs ≢ head_of ys
    → slice_cmp nat_cmp xs ys ≡ nat_cmp (head_of xs) (head_of ys)
order_by_heads xs ys is_x is_y differ = elim (cases_order (head_of xs) (head_of ys)) [
  | inl same ↦ absurd (differ same)
  | inr (inl less) ↦ smaller_head xs ys is_x is_y less ∙ sym (less_cmp _ _ less)
  | inr (inr more) ↦ nat_list_cmp_total.antisymm xs ys ∙ ap ordering_reverse (smaller_head ys xs is_y is_x more) ∙ sym (more_cmp _ _ more)
]

-- a name of fewer than eight bytes ties with the other where their heads are equal
pub short_tie : (xs ys : List ℕ) → name_of xs ≡ Some xs → name_of ys ≡ Some ys → head_of xs ≡ head_of ys → length xs < 8
    → slice_cmp nat_cmp xs ys ≡ Equal
short_tie xs ys is_x is_y same short =
    let one : xs ≡ ys = (bytes_eq-Decides xs ys).0 (short_by_heads xs ys is_x is_y same short) in
    ap (slice_cmp nat_cmp xs) (sym one) ∙ tied_itself nat_list_cmp_total xs
