-- How `OwnList` keeps its entries: each by the place of its key.
use Rattle.std.proofs.Common.{◌≡◌, ℕ, zero, suc, ◌<◌, ◌≤◌, Bool, true, false, cond, nat_eq, ◌&&◌, ◌||◌, arith}
use Rattle.std.proofs.Common.{List, [], ◌∷◌, ◌++◌, length, map, take, drop, set, Option, Some, None, refl, sym, ap, ◌∙◌, subst}
use Rattle.std.specs.Prelude.{insert, remove, slice_get, slice_index_or, option_to_list, IfNone}
use Rattle.std.specs.List.{IsDistinct, AllByRecursion, list_any}
use Rattle.std.specs.Option.{option_map}
use Rattle.std.proofs.lemmas.Bool.Decides.{nat_tests}
use Rattle.std.proofs.lemmas.List.{map-append, take-map, drop-map}
use Rattle.std.proofs.lemmas.Map.Keys.{IsDistinct-head, IsDistinct-tail}
use Rattle.std.proofs.lemmas.Option.{slice_get-map}
use Rattle.indexmap.specs.IndexSet.{insert_key}
use Rattle.gw_names.specs.declared.key.Key.{Key}
use Rattle.gw_names.specs.declared.key.Key.TheVariants.{Num}
use Rattle.gw_names.specs.Keys.{key_eq}
use Rattle.gw_entities.specs.declared.own_list.Item.{Item}
use Rattle.gw_entities.specs.Owned.{Entry, is_own, own_of, with_own, entry_of, AreKnown, AreRising, StandsAt, EndsAt}
use Rattle.gw_entities.proofs.QueueArrivalLaws.{key_itself}
use Rattle.gw_entities.proofs.Lookups.{Some_same}
use Rattle.gw_entities.proofs.OwnLaws.{set_is, put_is, rising_with}
use Rattle.gw_entities.proofs.TableLaws.{key_eq_equiv}

-- ---- keys by their places

abbrev at_or : List Key → ℕ → Key
at_or ks i = slice_index_or ks i (Num 0)

pub key_read : (ks : List Key) (i : ℕ) (k : Key) → slice_get ks i ≡ Some k → at_or ks i ≡ k
key_read [] i k at = absurd cc
key_read (x ∷ xs) zero k at = Some_same at
key_read (x ∷ xs) (suc i) k at = key_read xs i k at

pub key_inside : (ks : List Key) (i : ℕ) (k : Key) → slice_get ks i ≡ Some k → i < length ks
key_inside [] i k at = absurd cc
key_inside (x ∷ xs) zero k at = omega arith
key_inside (x ∷ xs) (suc i) k at = let rest = key_inside xs i k at in omega (arith, rest)

differs_all : (a : Key) (ks : List Key) (i : ℕ) → AllByRecursion (λ b. key_eq a b ≡ false) ks → i < length ks → key_eq a (at_or ks i) ≡ false
differs_all a [] i h within = absurd (omega (arith, within))
differs_all a (x ∷ xs) zero h within = h.0
differs_all a (x ∷ xs) (suc i) h within = differs_all a xs i h.1 (omega (arith, within))

same_place : (i : ℕ) → true ≡ nat_eq i i
same_place i = grind (arith, nat_tests)

later_place : (j : ℕ) → false ≡ nat_eq (suc j) zero
later_place j = grind (arith, nat_tests)

first_place : (i : ℕ) → false ≡ nat_eq zero (suc i)
first_place i = grind (arith, nat_tests)

next_place : (j i : ℕ) → nat_eq j i ≡ nat_eq (suc j) (suc i)
next_place j i = grind (arith, nat_tests)

-- of keys that differ, those at two places are one where the places are
key_by_place : (ks : List Key) (i j : ℕ) (k : Key) → IsDistinct key_eq ks → slice_get ks i ≡ Some k → j < length ks →
    key_eq k (at_or ks j) ≡ nat_eq j i
key_by_place [] i j k apart at within = absurd cc
key_by_place (x ∷ xs) zero zero k apart at within = ap (λ (q : Key). key_eq k q) (Some_same at) ∙ (key_itself k ∙ same_place zero)
key_by_place (x ∷ xs) zero (suc j) k apart at within =
    ap (λ (q : Key). key_eq q (at_or xs j)) (sym (Some_same at)) ∙ (differs_all x xs j (IsDistinct-head key_eq x xs apart) (omega (arith, within)) ∙ later_place j)
key_by_place (x ∷ xs) (suc i) zero k apart at within =
    key_eq_equiv.symm k x ∙ (ap (λ (q : Key). key_eq x q) (sym (key_read xs i k at))
    ∙ (differs_all x xs i (IsDistinct-head key_eq x xs apart) (key_inside xs i k at) ∙ first_place i))
key_by_place (x ∷ xs) (suc i) (suc j) k apart at within = key_by_place xs i j k (IsDistinct-tail key_eq x xs apart) at (omega (arith, within)) ∙ next_place j i

not_first : (b c : Bool) → (b || c) ≡ false → b ≡ false
not_first true c h = absurd cc
not_first false c h = refl

not_second : (b c : Bool) → (b || c) ≡ false → c ≡ false
not_second true c h = absurd cc
not_second false c h = h

key_not_among : (k : Key) (ks : List Key) (i : ℕ) → list_any (key_eq k) ks ≡ false → i < length ks → key_eq k (at_or ks i) ≡ false
key_not_among k [] i none within = absurd (omega (arith, within))
key_not_among k (x ∷ xs) zero none within = not_first (key_eq k x) (list_any (key_eq k) xs) none
key_not_among k (x ∷ xs) (suc i) none within =
    key_not_among k xs i (not_second (key_eq k x) (list_any (key_eq k) xs) none) (omega (arith, within))

-- a further key leaves the others where they are
key_still : (ks : List Key) (k : Key) (i : ℕ) → i < length ks → at_or (ks ++ k ∷ []) i ≡ at_or ks i
key_still [] k i within = absurd (omega (arith, within))
key_still (x ∷ xs) k zero within = refl
key_still (x ∷ xs) k (suc i) within = key_still xs k i (omega (arith, within))

long_more : (ks : List Key) (k : Key) → length ks ≤ length (ks ++ k ∷ [])
long_more [] k = omega arith
long_more (x ∷ xs) k = let rest = long_more xs k in omega (arith, rest)

pub some_key : (ks : List Key) (i : ℕ) → i < length ks → (k : Key) × (slice_get ks i ≡ Some k)
some_key [] i within = absurd (omega (arith, within))
some_key (x ∷ xs) zero within = (x, refl)
some_key (x ∷ xs) (suc i) within = some_key xs i (omega (arith, within))

-- a key that is there, and one that is not
any_there : (ks : List Key) (i : ℕ) (k : Key) → slice_get ks i ≡ Some k → list_any (key_eq k) ks ≡ true
any_there [] i k at = absurd cc
any_there (x ∷ xs) zero k at =
    ap (λ b. b || list_any (key_eq k) xs) (ap (λ (q : Key). key_eq k q) (Some_same at) ∙ key_itself k)
any_there (x ∷ xs) (suc i) k at = ap (λ b. key_eq k x || b) (any_there xs i k at) ∙ either_way (key_eq k x) where
  either_way : (b : Bool) → (b || true) ≡ true
  either_way true = refl
  either_way false = refl

pub kept_key : (ks : List Key) (i : ℕ) (k : Key) → slice_get ks i ≡ Some k → ks ≡ insert_key key_eq ks k
kept_key ks i k at = sym (ap (λ b. cond b ks (ks ++ k ∷ [])) (any_there ks i k at))

last_of : (ks : List Key) (k : Key) → slice_get (ks ++ k ∷ []) (length ks) ≡ Some k
last_of [] k = refl
last_of (x ∷ xs) k = last_of xs k

pub new_key : (ks qs : List Key) (i : ℕ) (k : Key) → list_any (key_eq k) ks ≡ false → qs ≡ insert_key key_eq ks k → i ≡ length ks →
    slice_get qs i ≡ Some k
new_key ks qs i k none keys at =
    ap (λ (l : List Key). slice_get l i) (keys ∙ ap (λ b. cond b ks (ks ++ k ∷ [])) none)
    ∙ (ap (λ j. slice_get (ks ++ k ∷ []) j) at ∙ last_of ks k)

all_more : (a k : Key) (ks : List Key) → AllByRecursion (λ b. key_eq a b ≡ false) ks → key_eq a k ≡ false →
    AllByRecursion (λ b. key_eq a b ≡ false) (ks ++ k ∷ [])
all_more a k [] h other = (other, tt)
all_more a k (x ∷ xs) h other = (h.0, all_more a k xs h.1 other)

distinct_more : (ks : List Key) (k : Key) → IsDistinct key_eq ks → list_any (key_eq k) ks ≡ false → IsDistinct key_eq (ks ++ k ∷ [])
unfolding IsDistinct
distinct_more [] k apart none = (tt, tt)
distinct_more (x ∷ xs) k apart none = (
  all_more x k xs (IsDistinct-head key_eq x xs apart) (key_eq_equiv.symm x k ∙ not_first (key_eq k x) (list_any (key_eq k) xs) none),
  distinct_more xs k (IsDistinct-tail key_eq x xs apart) (not_second (key_eq k x) (list_any (key_eq k) xs) none),
)

pub distinct_insert : (ks qs : List Key) (k : Key) → IsDistinct key_eq ks → qs ≡ insert_key key_eq ks k → IsDistinct key_eq qs
distinct_insert ks qs k apart keys = subst (IsDistinct key_eq) (sym keys) (step (list_any (key_eq k) ks) refl) where
  step : (b : Bool) → list_any (key_eq k) ks ≡ b → IsDistinct key_eq (cond b ks (ks ++ k ∷ []))
  step true e = apart
  step false e = distinct_more ks k apart e

module _ {V : Type 0} where
  known_at : (c : ℕ) (is : List (Item V)) (j : ℕ) (item : Item V) → AreKnown c is → slice_get is j ≡ Some item → item.key < c
  known_at c [] j item h at = absurd cc
  known_at c (x ∷ xs) zero item h at = subst (λ (i : Item V). i.key < c) (Some_same at) h.0
  known_at c (x ∷ xs) (suc j) item h at = known_at c xs j item h.1 at

  known_weaker : (c d : ℕ) (is : List (Item V)) → c ≤ d → AreKnown c is → AreKnown d is
  known_weaker c d [] less h = tt
  known_weaker c d (x ∷ xs) less h = let own : x.key < c = h.0 in (omega (arith, own, less), known_weaker c d xs less h.1)

  pub known_set : (c : ℕ) (is : List (Item V)) (j : ℕ) (item : Item V) → AreKnown c is → item.key < c → AreKnown c (set is j item)
  known_set c [] j item h new = tt
  known_set c (x ∷ xs) zero item h new = (new, h.1)
  known_set c (x ∷ xs) (suc j) item h new = (h.0, known_set c xs j item h.1 new)

  pub known_insert : (c : ℕ) (is : List (Item V)) (j : ℕ) (item : Item V) → AreKnown c is → item.key < c → AreKnown c (insert is j item)
  known_insert c [] zero item h new = (new, tt)
  known_insert c [] (suc j) item h new = (new, tt)
  known_insert c (x ∷ xs) zero item h new = (new, h)
  known_insert c (x ∷ xs) (suc j) item h new = (h.0, known_insert c xs j item h.1 new)

  known_drop : (c : ℕ) (is : List (Item V)) (j : ℕ) → AreKnown c is → AreKnown c (drop j is)
  known_drop c [] zero h = tt
  known_drop c [] (suc j) h = tt
  known_drop c (x ∷ xs) zero h = h
  known_drop c (x ∷ xs) (suc j) h = known_drop c xs j h.1

  pub known_cut : (c : ℕ) (is : List (Item V)) (f g : ℕ) → AreKnown c is → AreKnown c (take f is ++ drop g is)
  known_cut c is f g h = go is f h where
    go : (js : List (Item V)) (f : ℕ) → AreKnown c js → AreKnown c (take f js ++ drop g is)
    go [] zero k = known_drop c is g h
    go [] (suc f) k = known_drop c is g h
    go (x ∷ xs) zero k = known_drop c is g h
    go (x ∷ xs) (suc f) k = (k.0, go xs f k.1)

  -- ---- what is kept is what is seen

  pub entry_there : (ks : List Key) (is : List (Item V)) (j : ℕ) (item : Item V) → slice_get is j ≡ Some item →
      slice_get (map (entry_of ks) is) j ≡ Some (entry_of ks item)
  entry_there ks is j item at = slice_get-map (entry_of ks) is j ∙ ap (λ o. option_map (entry_of ks) o) at

  -- whether an item is that of a transaction by the key at a place
  pub own_by_place : (ks : List Key) (is : List (Item V)) (j n i : ℕ) (k : Key) (item : Item V) → IsDistinct key_eq ks → AreKnown (length ks) is →
      slice_get is j ≡ Some item → slice_get ks i ≡ Some k → is_own n k (entry_of ks item) ≡ (nat_eq item.key i && nat_eq n item.number)
  own_by_place ks is j n i k item apart known there at =
      ap (λ b. b && nat_eq n item.number) (key_by_place ks i item.key k apart at (known_at (length ks) is j item known there))

  -- nobody has anything by a key that is none of these
  pub none_known : (ks : List Key) (is : List (Item V)) (n : ℕ) (k : Key) → AreKnown (length ks) is → list_any (key_eq k) ks ≡ false →
      own_of (map (entry_of ks) is) n k ≡ None
  none_known ks [] n k known none = refl
  none_known ks (x ∷ xs) n k known none =
      ap (λ b. cond (b && nat_eq n x.number) (Some x.value) (own_of (map (entry_of ks) xs) n k)) (key_not_among k ks x.key none known.0)
      ∙ none_known ks xs n k known.1 none

  map_pushed : (ks : List Key) (k : Key) (is : List (Item V)) → AreKnown (length ks) is → map (entry_of (ks ++ k ∷ [])) is ≡ map (entry_of ks) is
  map_pushed ks k [] known = refl
  map_pushed ks k (x ∷ xs) known =
      ap (λ (q : Key). (x.number, (q, x.value)) ∷ map (entry_of (ks ++ k ∷ [])) xs) (key_still ks k x.key known.0)
      ∙ ap (λ (l : List (Entry V)). entry_of ks x ∷ l) (map_pushed ks k xs known.1)

  -- what holds of the keys and of the items
  abbrev pub AreOwn : List Key → List (Item V) → Type 0
  AreOwn ks is = AreRising (map (entry_of ks) is) × AreKnown (length ks) is × IsDistinct key_eq ks

  -- a further key changes no entry
  pub more_keys : (ks qs : List Key) (k : Key) (is : List (Item V)) → AreKnown (length ks) is → qs ≡ insert_key key_eq ks k →
      (map (entry_of qs) is ≡ map (entry_of ks) is) × AreKnown (length qs) is
  more_keys ks qs k is known keys = step (list_any (key_eq k) ks) keys where
    step : (b : Bool) → qs ≡ cond b ks (ks ++ k ∷ []) → (map (entry_of qs) is ≡ map (entry_of ks) is) × AreKnown (length qs) is
    step true e = (ap (λ l. map (entry_of l) is) e, subst (λ (l : List Key). AreKnown (length l) is) (sym e) known)
    step false e = (
      ap (λ l. map (entry_of l) is) e ∙ map_pushed ks k is known,
      subst (λ (l : List Key). AreKnown (length l) is) (sym e) (known_weaker (length ks) (length (ks ++ k ∷ [])) is (long_more ks k) known),
    )

  pub map_cut : (ks : List Key) (is : List (Item V)) (f g : ℕ) →
      map (entry_of ks) (take f is ++ drop g is) ≡ take f (map (entry_of ks) is) ++ drop g (map (entry_of ks) is)
  map_cut ks is f g =
      map-append (entry_of ks) (take f is) (drop g is)
      ∙ (ap (λ l. l ++ map (entry_of ks) (drop g is)) (sym (take-map (entry_of ks) f is))
      ∙ ap (λ l. take f (map (entry_of ks) is) ++ l) (sym (drop-map (entry_of ks) g is)))

  pub map_insert : (ks : List Key) (is : List (Item V)) (j : ℕ) (item : Item V) →
      map (entry_of ks) (insert is j item) ≡ insert (map (entry_of ks) is) j (entry_of ks item)
  map_insert ks is j item =
      map-append (entry_of ks) (take j is) (item ∷ drop j is)
      ∙ (ap (λ l. l ++ entry_of ks item ∷ map (entry_of ks) (drop j is)) (sym (take-map (entry_of ks) j is))
      ∙ ap (λ l. take j (map (entry_of ks) is) ++ entry_of ks item ∷ l) (sym (drop-map (entry_of ks) j is)))

  pub map_set : (ks : List Key) (is : List (Item V)) (j : ℕ) (item : Item V) →
      map (entry_of ks) (set is j item) ≡ set (map (entry_of ks) is) j (entry_of ks item)
  map_set ks [] j item = refl
  map_set ks (x ∷ xs) zero item = refl
  map_set ks (x ∷ xs) (suc j) item = ap (λ (l : List (Entry V)). entry_of ks x ∷ l) (map_set ks xs j item)

module _ {V : Type 0} where
  pub keys_added : (ks qs : List Key) (k : Key) (is js : List (Item V)) → AreOwn ks is → qs ≡ insert_key key_eq ks k → js ≡ is →
      AreOwn qs js × (map (entry_of qs) js ≡ map (entry_of ks) is)
  keys_added ks qs k is js (rising, known, apart) keys items =
      let more = more_keys ks qs k is known keys in
      let same : map (entry_of qs) js ≡ map (entry_of ks) is = ap (λ (l : List (Item V)). map (entry_of qs) l) items ∙ more.0 in (
        (
          subst AreRising (sym same) rising,
          subst (λ (l : List (Item V)). AreKnown (length qs) l) (sym items) more.1,
          distinct_insert ks qs k apart keys,
        ),
        same,
      )

  entry_read : (ks : List Key) (n j : ℕ) (k : Key) (v : V) → slice_get ks j ≡ Some k →
      ◌≡◌ {A = Entry V} (n, (at_or ks j, v)) (n, (k, v))
  entry_read ks n j k v at = ap (λ (q : Key). (n, (q, v))) (key_read ks j k at)

  -- an item that is set in place, and one that comes after the others of its transaction
  pub set_own : (ks : List Key) (is js : List (Item V)) (i n j : ℕ) (k : Key) (v : V) → AreOwn ks is → StandsAt n k (map (entry_of ks) is) i →
      slice_get ks j ≡ Some k → j < length ks → js ≡ set is i (record { number = n; key = j; value = v }) →
      AreOwn ks js × (map (entry_of ks) js ≡ with_own (map (entry_of ks) is) n k v)
  set_own ks is js i n j k v (rising, known, apart) stands at within items =
      let es = map (entry_of ks) is in
      let seen : map (entry_of ks) js ≡ with_own es n k v =
      ap (λ (l : List (Item V)). map (entry_of ks) l) items ∙ (map_set ks is i (record { number = n; key = j; value = v })
      ∙ (ap (λ (e : Entry V). set es i e) (entry_read ks n j k v at) ∙ set_is n k v es i rising stands)) in (
        (
          subst AreRising (sym seen) (rising_with n k v es rising),
          subst (λ (l : List (Item V)). AreKnown (length ks) l) (sym items)
              (known_set (length ks) is i (record { number = n; key = j; value = v }) known within),
          apart,
        ),
        seen,
      )

  pub insert_own : (ks : List Key) (is js : List (Item V)) (i n j : ℕ) (k : Key) (v : V) → AreOwn ks is → EndsAt n k (map (entry_of ks) is) i →
      slice_get ks j ≡ Some k → j < length ks → js ≡ insert is i (record { number = n; key = j; value = v }) →
      AreOwn ks js × (map (entry_of ks) js ≡ with_own (map (entry_of ks) is) n k v)
  insert_own ks is js i n j k v (rising, known, apart) ends at within items =
      let es = map (entry_of ks) is in
      let seen : map (entry_of ks) js ≡ with_own es n k v =
      ap (λ (l : List (Item V)). map (entry_of ks) l) items ∙ (map_insert ks is i (record { number = n; key = j; value = v })
      ∙ (ap (λ (e : Entry V). insert es i e) (entry_read ks n j k v at) ∙ put_is n k v es i ends)) in (
        (
          subst AreRising (sym seen) (rising_with n k v es rising),
          subst (λ (l : List (Item V)). AreKnown (length ks) l) (sym items)
              (known_insert (length ks) is i (record { number = n; key = j; value = v }) known within),
          apart,
        ),
        seen,
      )

-- ---- items that are taken out one by one

module _ {A : Type 0} where
  pub none_out : (xs : List A) (f : ℕ) → xs ≡ take f xs ++ drop f xs
  none_out [] zero = refl
  none_out [] (suc f) = refl
  none_out (x ∷ xs) zero = refl
  none_out (x ∷ xs) (suc f) = ap (λ (l : List A). x ∷ l) (none_out xs f)

  one_dropped : (xs : List A) (m : ℕ) → m < length xs → (x : A) × (drop m xs ≡ x ∷ drop (suc m) xs)
  one_dropped [] m within = absurd (omega (arith, within))
  one_dropped (x ∷ xs) zero within = (x, refl)
  one_dropped (x ∷ xs) (suc m) within = one_dropped xs m (omega (arith, within))

  removed_between : (xs : List A) (f : ℕ) (y : A) (ys : List A) → f ≤ length xs → remove (take f xs ++ y ∷ ys) f ≡ take f xs ++ ys
  removed_between [] zero y ys within = refl
  removed_between [] (suc f) y ys within = absurd (omega (arith, within))
  removed_between (x ∷ xs) zero y ys within = refl
  removed_between (x ∷ xs) (suc f) y ys within = ap (λ (l : List A). x ∷ l) (removed_between xs f y ys (omega (arith, within)))

  -- one more is taken out from the middle
  pub one_out : (xs ys zs : List A) (f m j : ℕ) → j ≡ suc m → f ≤ m → m < length xs → ys ≡ take f xs ++ drop m xs → zs ≡ remove ys f →
      zs ≡ take f xs ++ drop j xs
  one_out xs ys zs f m j is low within here out =
      let (x, there) = one_dropped xs m within in
      out ∙ (ap (λ l. remove l f) (here ∙ ap (λ l. take f xs ++ l) there)
      ∙ (removed_between xs f x (drop (suc m) xs) (omega (arith, low, within)) ∙ ap (λ k. take f xs ++ drop k xs) (sym is)))

  pub still_inside : (xs ys : List A) (f m : ℕ) → f ≤ m → m < length xs → ys ≡ take f xs ++ drop m xs → f < length ys
  still_inside xs ys f m low within here =
      let (x, there) = one_dropped xs m within in
      go xs f x (drop (suc m) xs) ys (omega (arith, low, within)) (here ∙ ap (λ l. take f xs ++ l) there) where
        go : (xs : List A) (f : ℕ) (y : A) (rest ys : List A) → f ≤ length xs → ys ≡ take f xs ++ y ∷ rest → f < length ys
        go xs f y rest ys less e = subst (λ (l : List A). f < length l) (sym e) (long xs f y rest less) where
          long : (xs : List A) (f : ℕ) (y : A) (rest : List A) → f ≤ length xs → f < length (take f xs ++ y ∷ rest)
          long [] zero y rest less = omega arith
          long [] (suc f) y rest less = absurd (omega (arith, less))
          long (x ∷ xs) zero y rest less = omega arith
          long (x ∷ xs) (suc f) y rest less = let more = long xs f y rest (omega (arith, less)) in omega (arith, more)

  nothing_taken : (xs : List A) → take zero xs ≡ []
  nothing_taken [] = refl
  nothing_taken (x ∷ xs) = refl

  tail_same : (a b : A) (xs ys : List A) → a ∷ xs ≡ b ∷ ys → xs ≡ ys
  tail_same a b xs ys e = cc

  empty_not : (b : A) (ys : List A) → b ∷ ys ≡ [] → ⊥
  empty_not b ys e = cc

  -- and from the front
  pub front_out : (xs ys zs : List A) (o : Option A) (m j : ℕ) → j ≡ suc m → m < length xs → ys ≡ take zero xs ++ drop m xs →
      ys ≡ option_to_list o ++ zs → IfNone o (ys ≡ []) → zs ≡ take zero xs ++ drop j xs
  front_out xs ys zs o m j is within here parts none = go o parts none where
    there : (x : A) × (drop m xs ≡ x ∷ drop (suc m) xs)
    there = one_dropped xs m within

    all : ys ≡ there.0 ∷ drop (suc m) xs
    all = here ∙ (ap (λ (l : List A). l ++ drop m xs) (nothing_taken xs) ∙ there.1)

    go : (o : Option A) → ys ≡ option_to_list o ++ zs → IfNone o (ys ≡ []) → zs ≡ take zero xs ++ drop j xs
    go None p void = absurd (empty_not there.0 (drop (suc m) xs) (sym all ∙ void))
    go (Some a) p void =
        tail_same a there.0 zs (drop (suc m) xs) (sym p ∙ all)
        ∙ (ap (λ k. drop k xs) (sym is) ∙ ap (λ (l : List A). l ++ drop j xs) (sym (nothing_taken xs)))
