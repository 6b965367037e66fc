-- Names whose heads differ are two; a name of fewer than eight bytes is told by its head.
use Rattle.std.proofs.Common.{◌≡◌, ◌≢◌, ℕ, zero, suc, ◌<◌, ◌+◌, true, false, ap, refl, sym, ◌∙◌, arith, rules}
use Rattle.std.proofs.Common.{List, [], ◌∷◌, Some, length, get_or, drop}
use Rattle.std.specs.List.{list_all}
use Rattle.std.specs.Str.{bytes_eq}
use Rattle.std.specs.Char.{is_ascii_alphabetic}
use Rattle.std.proofs.lemmas.Bool.{false_from_ne_true, and_parts}
use Rattle.std.proofs.lemmas.Bool.Decides.{nat_tests}
use Rattle.std.proofs.lemmas.Nat.{be_bytes_8}
use Rattle.std.proofs.lemmas.Slice.Eq.{bytes_eq-Decides}
use Rattle.gw_names.specs.Names.{name_of, is_name_text, is_name_byte}
use Rattle.gw_names.specs.Heads.{bytes_from, head_of}

pub letter_is_name_byte : (b : ℕ) → is_ascii_alphabetic b ≡ true → is_name_byte b ≡ true
letter_is_name_byte b e = grind (arith, nat_tests)

pub above_zero : (b : ℕ) → is_name_byte b ≡ true → 0 < b
above_zero b e = grind (arith, nat_tests)

in_a_byte : (b : ℕ) → is_name_byte b ≡ true → b < 256
in_a_byte b e = grind (arith, nat_tests)

-- a name has name bytes only
name_bytes : (text : List ℕ) → is_name_text text ≡ true → list_all is_name_byte text ≡ true
name_bytes [] e = cc
name_bytes (b ∷ bs) e =
    let first : is_ascii_alphabetic b ≡ true = (and_parts _ _ e).0 in
    let others : list_all is_name_byte bs ≡ true = (and_parts _ _ (and_parts _ _ e).1).1 in
    rw (letter_is_name_byte b first, others) refl

pub bytes_of_name : (bytes : List ℕ) → name_of bytes ≡ Some bytes → list_all is_name_byte bytes ≡ true
unfolding name_of
bytes_of_name bytes is_name = search (rules, name_bytes)

pub below_256 : (bs : List ℕ) → list_all is_name_byte bs ≡ true → (i : ℕ) → get_or bs i 0 < 256
below_256 [] e i = omega arith
below_256 (b ∷ bs) e zero = in_a_byte b (and_parts _ _ e).0
below_256 (b ∷ bs) e (suc i) = below_256 bs (and_parts _ _ e).1 i

-- two lists of name bytes that agree below a bound are one, where the first is shorter than that
alike : (xs ys : List ℕ) (n : ℕ) → length xs < n → list_all is_name_byte xs ≡ true → list_all is_name_byte ys ≡ true
    → ((i : ℕ) → i < n → get_or xs i 0 ≡ get_or ys i 0) → xs ≡ ys
alike [] [] n short a b same = refl
alike [] (y ∷ ys) n short a b same =
    let above = above_zero y (and_parts _ _ b).0 in let here = same 0 short in absurd (omega arith)
alike (x ∷ xs) [] n short a b same =
    let above = above_zero x (and_parts _ _ a).0 in let here = same 0 (omega arith) in absurd (omega arith)
alike (x ∷ xs) (y ∷ ys) zero short a b same = absurd (omega arith)
alike (x ∷ xs) (y ∷ ys) (suc n) short a b same =
    let here : x ≡ y = same 0 (omega arith) in
    let rest : xs ≡ ys = alike xs ys n (omega arith) (and_parts _ _ a).1 (and_parts _ _ b).1 (λ i small. same (suc i) (omega arith)) in
    rw (here, rest) refl

from_below_256 : (text : List ℕ) → ((i : ℕ) → get_or text i 0 < 256) → (i n j : ℕ) → get_or (bytes_from text i n) j 0 < 256
from_below_256 text small i zero j = omega arith
from_below_256 text small i (suc n) zero = small i
from_below_256 text small i (suc n) (suc j) = from_below_256 text small (suc i) n j

from_alike : (xs ys : List ℕ) (i n : ℕ) → bytes_from xs i n ≡ bytes_from ys i n
    → (j k : ℕ) → j < n → k ≡ i + j → get_or xs k 0 ≡ get_or ys k 0
from_alike xs ys i zero e j k small at = absurd (omega arith)
from_alike xs ys i (suc n) e zero k small at = let here : k ≡ i = omega arith in rw here (ap (λ l. get_or l 0 0) e)
from_alike xs ys i (suc n) e (suc j) k small at = from_alike xs ys (suc i) n (ap (λ l. drop 1 l) e) j k (omega arith) (omega arith)

-- equal heads are heads of the same eight bytes
same_eight : (xs ys : List ℕ) → ((i : ℕ) → get_or xs i 0 < 256) → ((i : ℕ) → get_or ys i 0 < 256) → head_of xs ≡ head_of ys
    → bytes_from xs 0 8 ≡ bytes_from ys 0 8
unfolding head_of
same_eight xs ys a b e = sym (be_bytes_8 (bytes_from xs 0 8) (head_of xs) refl (from_below_256 xs a 0 8) refl)
    ∙ be_bytes_8 (bytes_from ys 0 8) (head_of xs) refl (from_below_256 ys b 0 8) e

-- a name of fewer than eight bytes is the other name where their heads are equal
pub short_by_heads : (xs ys : List ℕ) → name_of xs ≡ Some xs → name_of ys ≡ Some ys → head_of xs ≡ head_of ys → length xs < 8
    → bytes_eq xs ys ≡ true
short_by_heads xs ys is_x is_y e short =
    let a = bytes_of_name xs is_x in
    let b = bytes_of_name ys is_y in
    let eight = same_eight xs ys (below_256 xs a) (below_256 ys b) e in
    (bytes_eq-Decides xs ys).1 (alike xs ys 8 short a b (λ i small. from_alike xs ys 0 8 eight i i small (omega arith)))

-- what has another head is another name
pub others_by_heads : (xs ys : List ℕ) → head_of xs ≢ head_of ys → bytes_eq xs ys ≡ false
others_by_heads xs ys differ = false_from_ne_true _ (λ e. differ (ap head_of ((bytes_eq-Decides xs ys).0 e)))
