-- Keys that are settled, and those after them.
use Rattle.std.proofs.Common.{◌≡◌, ℕ, zero, suc, ◌+◌, ◌<◌, ◌≤◌, ◌^◌, ◌-◌, min, Bool, true, false, cond, ◌||◌, List, [], ◌∷◌, ◌++◌, length, take, Some, slice_get, refl, sym, ap, ◌∙◌, arith}
use Rattle.std.specs.List.{IsDistinct, AllByRecursion, list_any}
use Rattle.std.proofs.lemmas.Grind.{common_steps}
use Rattle.std.proofs.lemmas.List.{append_assoc}
use Rattle.std.proofs.lemmas.Map.Keys.{IsDistinct-head, IsDistinct-tail}
use Rattle.indexmap.specs.IndexSet.{insert_key}
use Rattle.gw_names.specs.declared.key.Key.{Key}
use Rattle.gw_names.specs.Keys.{key_eq}
use Rattle.gw_entities.proofs.ItemLaws.{distinct_insert, kept_key}
use Rattle.gw_entities.proofs.Lookups.{Some_same}
use Rattle.gw_entities.proofs.TableLaws.{key_eq_equiv}

get_in_front : (xs ys : List Key) (i : ℕ) (k : Key) → slice_get xs i ≡ Some k → slice_get (xs ++ ys) i ≡ Some k
get_in_front [] ys i k at = absurd cc
get_in_front (x ∷ xs) ys zero k at = at
get_in_front (x ∷ xs) ys (suc i) k at = get_in_front xs ys i k at

get_behind : (xs ys : List Key) (i : ℕ) → slice_get (xs ++ ys) (length xs + i) ≡ slice_get ys i
get_behind [] ys i = ap (λ j. slice_get ys j) (omega arith)
get_behind (x ∷ xs) ys i = ap (λ j. slice_get (x ∷ (xs ++ ys)) j) (more (length xs)) ∙ get_behind xs ys i where
  more : (n : ℕ) → suc n + i ≡ suc (n + i)
  more n = omega arith

take_behind : (xs ys : List Key) (i : ℕ) → take (length xs + i) (xs ++ ys) ≡ xs ++ take i ys
take_behind [] ys i = ap (λ j. take j ys) (omega arith)
take_behind (x ∷ xs) ys i =
    ap (λ j. take j (x ∷ (xs ++ ys))) (more (length xs)) ∙ ap (λ (l : List Key). x ∷ l) (take_behind xs ys i) where
      more : (n : ℕ) → suc n + i ≡ suc (n + i)
      more n = omega arith

-- a key that is settled comes no second time
pub stays : (xs ys : List Key) (i : ℕ) (k : Key) → slice_get xs i ≡ Some k → xs ++ ys ≡ insert_key key_eq (xs ++ ys) k
stays xs ys i k at = kept_key (xs ++ ys) i k (get_in_front xs ys i k at)

-- one that is not comes after all
none_in : (b c : Bool) → (b || c) ≡ false → c ≡ false
none_in true c e = absurd cc
none_in false c e = e

not_first : (b c : Bool) → (b || c) ≡ false → b ≡ false
not_first true c e = absurd cc
not_first false c e = refl

any_behind : (xs ys : List Key) (k : Key) → list_any (key_eq k) xs ≡ false → list_any (key_eq k) (xs ++ ys) ≡ list_any (key_eq k) ys
any_behind [] ys k none = refl
any_behind (x ∷ xs) ys k none =
    ap (λ b. b || list_any (key_eq k) (xs ++ ys)) (not_first (key_eq k x) (list_any (key_eq k) xs) none) ∙
    any_behind xs ys k (none_in (key_eq k x) (list_any (key_eq k) xs) none)

pub comes : (xs ys zs : List Key) (k : Key) → list_any (key_eq k) xs ≡ false → zs ≡ insert_key key_eq ys k →
    xs ++ zs ≡ insert_key key_eq (xs ++ ys) k
comes xs ys zs k none keys = ap (λ (l : List Key). xs ++ l) keys ∙ (by (list_any (key_eq k) ys) ∙
    ap (λ b. cond b (xs ++ ys) ((xs ++ ys) ++ k ∷ [])) (sym (any_behind xs ys k none))) where
      by : (b : Bool) → xs ++ cond b ys (ys ++ k ∷ []) ≡ cond b (xs ++ ys) ((xs ++ ys) ++ k ∷ [])
      by true = refl
      by false = sym (append_assoc xs ys (k ∷ []))

long_more : (ks : List Key) (k : Key) → length (ks ++ k ∷ []) ≤ length ks + 1
long_more [] k = omega arith
long_more (x ∷ xs) k = let rest = long_more xs k in omega (arith, rest)

insert_long : (ks : List Key) (k : Key) → length (insert_key key_eq ks k) ≤ length ks + 1
insert_long ks k = by (list_any (key_eq k) ks) where
  by : (b : Bool) → length (cond b ks (ks ++ k ∷ [])) ≤ length ks + 1
  by true = omega arith
  by false = long_more ks k

pub come : (xs ys zs : List Key) (k : Key) (room : ℕ) → 0 < min room (9223372036854775807 - length (xs ++ ys)) → IsDistinct key_eq (xs ++ ys) →
    list_any (key_eq k) xs ≡ false → zs ≡ insert_key key_eq ys k → IsDistinct key_eq (xs ++ zs) × (length (xs ++ zs) < 2 ^ 63)
come xs ys zs k room some apart none keys =
    let is = comes xs ys zs k none keys in
    let long = ap length is in
    let most = insert_long (xs ++ ys) k in
    let bound : length (xs ++ ys) < 9223372036854775807 = grind (arith, common_steps) in
    (distinct_insert (xs ++ ys) (xs ++ zs) k apart is, omega (arith, long, most, bound))

-- all of them in one set
all_at : (a : Key) (ks : List Key) (i : ℕ) (k : Key) → AllByRecursion (λ b. key_eq a b ≡ false) ks → slice_get ks i ≡ Some k → key_eq a k ≡ false
all_at a [] i k h at = absurd cc
all_at a (x ∷ xs) zero k h at = sym (ap (key_eq a) (Some_same at)) ∙ h.0
all_at a (x ∷ xs) (suc i) k h at = all_at a xs i k h.1 at

absent : (ks : List Key) (i : ℕ) (k : Key) → IsDistinct key_eq ks → slice_get ks i ≡ Some k → list_any (key_eq k) (take i ks) ≡ false
absent [] i k apart at = absurd cc
absent (x ∷ xs) zero k apart at = refl
absent (x ∷ xs) (suc i) k apart at =
    ap (λ b. b || list_any (key_eq k) (take i xs)) (key_eq_equiv.symm k x ∙ all_at x xs i k (IsDistinct-head key_eq x xs apart) at) ∙
    absent xs i k (IsDistinct-tail key_eq x xs apart) at

take_more : (ks : List Key) (i : ℕ) (k : Key) → slice_get ks i ≡ Some k → take i ks ++ k ∷ [] ≡ take (suc i) ks
take_more [] i k at = absurd cc
take_more (x ∷ xs) zero k at = ap (λ (q : Key). q ∷ []) (sym (Some_same at))
take_more (x ∷ xs) (suc i) k at = ap (λ (l : List Key). x ∷ l) (take_more xs i k at)

pub one_more : (xs ys all : List Key) (i j : ℕ) (k q : Key) → IsDistinct key_eq (xs ++ ys) → slice_get ys i ≡ Some k → q ≡ k → j ≡ i + 1 →
    all ≡ xs ++ take i ys → insert_key key_eq all q ≡ xs ++ take j ys
one_more xs ys all i j k q apart at same next keys =
    let n = length xs + i in
    let there = get_behind xs ys i ∙ at in
    let as_one : all ≡ take n (xs ++ ys) = keys ∙ sym (take_behind xs ys i) in
    let long : suc n ≡ length xs + j = omega (arith, next) in
    ap (λ (l : List Key). insert_key key_eq l q) as_one ∙ (ap (insert_key key_eq (take n (xs ++ ys))) same ∙
    (ap (λ b. cond b (take n (xs ++ ys)) (take n (xs ++ ys) ++ k ∷ [])) (absent (xs ++ ys) n k apart there) ∙
    (take_more (xs ++ ys) n k there ∙ (ap (λ m. take m (xs ++ ys)) long ∙ take_behind xs ys j))))
