-- A record that went on as a branch of the same run does is the record of the run up to the branch's tip.
use Rattle.std.proofs.Common.{◌≡◌, ◌⊎◌, ℕ, zero, suc, ◌+◌, ◌-◌, ◌%◌, ◌<◌, ◌≤◌, Bool, true, false, cond, not, ◌||◌, ◌==◌, nat_lt, nat_le, List, [], ◌∷◌, ◌++◌, length, take, filter, get_or, slice_get, Some, inl, inr, ⊎_elim, refl, sym, ap, subst, ◌∙◌, length-append, arith}
use Rattle.std.specs.List.{list_any}
use Rattle.std.specs.List.Sorted.{IsNonDecreasingBy}
use Rattle.std.proofs.lemmas.Bool.{and_from, and_parts, or_cases, or_left, or_right}
use Rattle.std.proofs.lemmas.Bool.Decides.{nat_tests}
use Rattle.std.proofs.lemmas.List.{get_or_append_left, get_or-append-add}
use mathlib.Core.Bool.{true≢false}
use Rattle.std.proofs.Math.Nat.{zero-mod}
use Rattle.std.proofs.lemmas.List.Kept.{IsNonDecreasingBy-filter}
use Rattle.std.proofs.lemmas.List.Sorted.{IsNonDecreasingBy-take}
use Rattle.std.proofs.lemmas.Option.{slice_get-get_or, slice_get_within, get_or_from_slice_get}
use Rattle.gw_meaning.specs.Listing.{Listing}
use Rattle.gw_record.specs.declared.kept.Kept.{Kept}
use Rattle.gw_record.specs.Parting.{AreInOrder}
use Rattle.gw_record.specs.Adopting.{AreUnder, keeps_start, is_adopted, adoption, Adopts}
use Rattle.gw_record.specs.Tape.{Tape, Records, IsStartEnd, IsWanted, IsThere, IsOfRun}

-- what is found in two lists one after another is in one of them
parted : {X : Type 0} (xs ys : List X) (i : ℕ) (x : X) → slice_get (xs ++ ys) i ≡ Some x →
    (slice_get xs i ≡ Some x) ⊎ ((j : ℕ) × (slice_get ys j ≡ Some x))
parted [] ys i x is = inr (i, is)
parted (z ∷ xs) ys zero x is = inl is
parted (z ∷ xs) ys (suc i) x is = parted xs ys i x is

in_left : {X : Type 0} (xs ys : List X) (i : ℕ) (x : X) → slice_get xs i ≡ Some x → slice_get (xs ++ ys) i ≡ Some x
in_left [] ys i x is = absurd cc
in_left (z ∷ xs) ys zero x is = is
in_left (z ∷ xs) ys (suc i) x is = in_left xs ys i x is

in_right : {X : Type 0} (xs ys : List X) (j : ℕ) (x : X) → slice_get ys j ≡ Some x → (i : ℕ) × (slice_get (xs ++ ys) i ≡ Some x)
in_right [] ys j x is = (j, is)
in_right (z ∷ xs) ys j x is = let r = in_right xs ys j x is in (suc r.0, r.1)

-- what is among the first n is among them all, at a place below n; and back
taken_at : {X : Type 0} (xs : List X) (n i : ℕ) (x : X) → slice_get (take n xs) i ≡ Some x → (i < n) × (slice_get xs i ≡ Some x)
taken_at [] zero i x is = absurd cc
taken_at [] (suc n) i x is = absurd cc
taken_at (y ∷ xs) zero i x is = absurd cc
taken_at (y ∷ xs) (suc n) zero x is = (omega arith, is)
taken_at (y ∷ xs) (suc n) (suc i) x is = let h = taken_at xs n i x is in (let l = h.0 in omega (arith, l), h.1)

in_take : {X : Type 0} (xs : List X) (n i : ℕ) (x : X) → i < n → slice_get xs i ≡ Some x → slice_get (take n xs) i ≡ Some x
in_take [] n i x less is = absurd cc
in_take (y ∷ xs) zero i x less is = absurd (omega (arith, less))
in_take (y ∷ xs) (suc n) zero x less is = is
in_take (y ∷ xs) (suc n) (suc i) x less is = in_take xs n i x (omega (arith, less)) is

-- what passes a filter was in the list and passes; and back
passed : {X : Type 0} (p : X → Bool) (xs : List X) (i : ℕ) (x : X) → slice_get (filter p xs) i ≡ Some x →
    (j : ℕ) × (slice_get xs j ≡ Some x) × (p x ≡ true)
passed p [] i x is = absurd cc
passed {X} p (y ∷ xs) i x is = go (p y) refl i is (λ i is. passed p xs i x is) where
  deeper : (j : ℕ) × (slice_get xs j ≡ Some x) × (p x ≡ true) → (j : ℕ) × (slice_get (y ∷ xs) j ≡ Some x) × (p x ≡ true)
  deeper (j, at, good) = (suc j, at, good)

  go : (b : Bool) → p y ≡ b → (i : ℕ) → slice_get (cond b (y ∷ filter p xs) (filter p xs)) i ≡ Some x →
      ((i : ℕ) → slice_get (filter p xs) i ≡ Some x → (j : ℕ) × (slice_get xs j ≡ Some x) × (p x ≡ true)) →
      (j : ℕ) × (slice_get (y ∷ xs) j ≡ Some x) × (p x ≡ true)
  go true e zero is rest = let same : y ≡ x = cc in (zero, is, ap p (sym same) ∙ e)
  go true e (suc i) is rest = deeper (rest i is)
  go false e i is rest = deeper (rest i is)

passes : {X : Type 0} (p : X → Bool) (xs : List X) (j : ℕ) (x : X) → slice_get xs j ≡ Some x → p x ≡ true →
    (i : ℕ) × (slice_get (filter p xs) i ≡ Some x)
passes p [] j x is good = absurd cc
passes {X} p (y ∷ xs) zero x is good =
    let same : y ≡ x = cc in
    let e : p y ≡ true = ap p same ∙ good in
    subst (λ b. (i : ℕ) × (slice_get (cond b (y ∷ filter p xs) (filter p xs)) i ≡ Some x)) (sym e) (zero, is)
passes {X} p (y ∷ xs) (suc j) x is good = go (p y) (passes p xs j x is good) where
  go : (b : Bool) → (i : ℕ) × (slice_get (filter p xs) i ≡ Some x) →
      (i : ℕ) × (slice_get (cond b (y ∷ filter p xs) (filter p xs)) i ≡ Some x)
  go true (i, at) = (suc i, at)
  go false found = found

-- two lists in order, of which no item of the first lies after one of the second
joined_order : {X : Type 0} (n : X → ℕ) (xs ys : List X) → IsNonDecreasingBy n xs → IsNonDecreasingBy n ys →
    ((i j : ℕ) (x y : X) → slice_get xs i ≡ Some x → slice_get ys j ≡ Some y → n x ≤ n y) → IsNonDecreasingBy n (xs ++ ys)
joined_order {X} n xs ys first second across = λ i j d before within.
    go i j d before within (nat_lt j (length xs)) refl (nat_lt i (length xs)) refl where
      left : (i : ℕ) (d : X) → i < length xs → get_or (xs ++ ys) i d ≡ get_or xs i d
      left i d less = get_or_append_left xs ys d i less

      right : (i : ℕ) (d : X) → length xs ≤ i → get_or (xs ++ ys) i d ≡ get_or ys (i - length xs) d
      right i d over =
          let at : length xs + (i - length xs) ≡ i = omega (arith, over) in
          ap (λ k. get_or (xs ++ ys) k d) (sym at) ∙ get_or-append-add xs ys (i - length xs) d

      go : (i j : ℕ) (d : X) → i ≤ j → j < length (xs ++ ys) → (b : Bool) → nat_lt j (length xs) ≡ b → (c : Bool) → nat_lt i (length xs) ≡ c →
          n (get_or (xs ++ ys) i d) ≤ n (get_or (xs ++ ys) j d)
      go i j d before within true e c f =
          let lj : j < length xs = grind (arith, nat_tests) in
          let li : i < length xs = omega (arith, lj, before) in
          rw (left i d li, left j d lj) (first i j d before lj)
      go i j d before within false e true f =
          let total = length-append xs ys in
          let oj : length xs ≤ j = grind (arith, nat_tests) in
          let li : i < length xs = grind (arith, nat_tests) in
          let inside : j - length xs < length ys = omega (arith, oj, within, total) in
          rw (left i d li, right j d oj)
          (across i (j - length xs) (get_or xs i d) (get_or ys (j - length xs) d) (slice_get-get_or xs i d li) (slice_get-get_or ys (j - length xs) d inside))
      go i j d before within false e false f =
          let total = length-append xs ys in
          let oj : length xs ≤ j = grind (arith, nat_tests) in
          let oi : length xs ≤ i = grind (arith, nat_tests) in
          let inside : j - length xs < length ys = omega (arith, oj, within, total) in
          rw (right i d oi, right j d oj) (second (i - length xs) (j - length xs) d (omega (arith, oi, oj, before)) inside)

list_any_at : (m : ℕ) (xs : List ℕ) (i : ℕ) → slice_get xs i ≡ Some m → list_any (λ x. x == m) xs ≡ true
list_any_at m [] i is = absurd cc
list_any_at m (x ∷ xs) zero is =
    let same : x ≡ m = cc in
    let e : (x == m) ≡ true = grind (arith, nat_tests) in
    or_left (x == m) (list_any (λ x. x == m) xs) e
list_any_at m (x ∷ xs) (suc i) is = or_right (x == m) (list_any (λ x. x == m) xs) (list_any_at m xs i is)

any_at : (m : ℕ) (xs : List ℕ) → list_any (λ x. x == m) xs ≡ true → (i : ℕ) × (slice_get xs i ≡ Some m)
any_at m [] h = absurd cc
any_at m (x ∷ xs) h = go (x == m) refl h (any_at m xs) where
  go : (b : Bool) → (x == m) ≡ b → (b || list_any (λ x. x == m) xs) ≡ true →
      (list_any (λ x. x == m) xs ≡ true → (i : ℕ) × (slice_get xs i ≡ Some m)) → (i : ℕ) × (slice_get (x ∷ xs) i ≡ Some m)
  go true e h rest = let same : x ≡ m = grind (arith, nat_tests) in (zero, ap (λ y. Some y) same)
  go false e h rest = let r = rest h in (suc r.0, r.1)

-- the moments of a START end are one
same_end : (t : Listing) (seed k m n : ℕ) → IsStartEnd t seed k m → IsStartEnd t seed k n → m ≤ n
same_end t seed k m n a b = go (nat_lt n m) refl where
  go : (c : Bool) → nat_lt n m ≡ c → m ≤ n
  go true e = absurd (a.first n b.state (grind (arith, nat_tests)) b.there b.complete)
  go false e = grind (arith, nat_tests)

-- a START end below the tip is noted
noted : (t : Listing) (seed : ℕ) (r : Tape) → Records t seed r → (k m : ℕ) → m < r.moment → IsStartEnd t seed k m →
    (i : ℕ) × (slice_get r.ends i ≡ Some m)
noted t seed r h k m less end =
    let few = h.all_ends m end.state less end.there in
    let some = end.some in
    let count = end.complete in
    let at = slice_get-get_or r.ends (k - 1) 0 (omega (arith, few, some, count)) in
    let o = h.ends (k - 1) (get_or r.ends (k - 1) 0) at in
    let number : k - 1 + 1 ≡ k = omega (arith, some) in
    let other : IsStartEnd t seed k (get_or r.ends (k - 1) 0) = subst (λ n. IsStartEnd t seed n (get_or r.ends (k - 1) 0)) number o.end in
    let low = same_end t seed k m (get_or r.ends (k - 1) 0) end other in
    let high = same_end t seed k (get_or r.ends (k - 1) 0) m other end in
    let same : get_or r.ends (k - 1) 0 ≡ m = omega (arith, low, high) in
    (k - 1, at ∙ ap (λ n. Some n) same)

module _ (t : Listing) (seed count : ℕ) (own branch : Tape) (h : Records t seed own) (g : Records t seed branch) (at_zero : own.start ≡ 0)
    (every : branch.every ≡ own.every) (from : branch.start ≤ own.moment) (beyond : own.moment < branch.moment)
    (under : AreUnder own.kept own.moment count) where
  abbrev new : Tape
  new = adoption own branch count

  abbrev p : Kept → Bool
  p = is_adopted own.moment branch.start (keeps_start branch)

  -- a multiple of the spacing or a START end is wanted, wherever a record starts
  common_wanted : keeps_start branch ≡ true → IsWanted t seed own.every own.start branch.start
  common_wanted so = ⊎_elim
      (λ (multiple : (branch.start % branch.every == 0) ≡ true).
      let m : branch.start % branch.every ≡ 0 = grind (arith, nat_tests) in inr (inl (subst (λ n. branch.start % n ≡ 0) every m)))
      (λ end. let r = any_at branch.start branch.ends end in let o = g.ends r.0 branch.start r.1 in inr (inr (r.0 + 1, o.end)))
      (or_cases (branch.start % branch.every == 0) (list_any (λ end. end == branch.start) branch.ends) so)

  zero_multiple : (m : ℕ) → m ≡ own.start → m % branch.every ≡ 0
  zero_multiple m at = let z : m ≡ 0 = at ∙ at_zero in ap (λ n. n % branch.every) z ∙ zero-mod branch.every

  wanted_common : IsWanted t seed own.every own.start branch.start → keeps_start branch ≡ true
  wanted_common want = ⊎_elim
      (λ at. multiple (zero_multiple branch.start at))
      (λ other. ⊎_elim (λ m. multiple (subst (λ n. branch.start % n ≡ 0) (sym every) m)) (λ end. ended end.0 end.1) other)
      want where
        multiple : branch.start % branch.every ≡ 0 → keeps_start branch ≡ true
        multiple m =
            let e : (branch.start % branch.every == 0) ≡ true = grind (arith, nat_tests) in
            or_left (branch.start % branch.every == 0) (list_any (λ end. end == branch.start) branch.ends) e

        ended : (k : ℕ) → IsStartEnd t seed k branch.start → keeps_start branch ≡ true
        ended k end =
            let r = noted t seed branch g k branch.start (omega (arith, from, beyond)) end in
            or_right (branch.start % branch.every == 0) (list_any (λ end. end == branch.start) branch.ends) (list_any_at branch.start branch.ends r.0 r.1)

  -- what the record wants, the branch wants; and back, but for the branch's start
  wanted_there : (m : ℕ) → IsWanted t seed own.every own.start m → IsWanted t seed branch.every branch.start m
  wanted_there m = ⊎_elim
      (λ at. inr (inl (zero_multiple m at)))
      (λ other. inr (⊎_elim (λ multiple. inl (subst (λ n. m % n ≡ 0) (sym every) multiple)) (λ end. inr end) other))

  wanted_back : (e : Kept) → p e ≡ true → IsWanted t seed branch.every branch.start e.moment → IsWanted t seed own.every own.start e.moment
  wanted_back e good = ⊎_elim
      (λ at. subst (λ m. IsWanted t seed own.every own.start m) (sym at) (common_wanted (at_start at (and_parts (nat_le own.moment e.moment) (keeps_start branch || not (e.moment == branch.start)) good).1)))
      (λ other. inr (⊎_elim (λ multiple. inl (subst (λ n. e.moment % n ≡ 0) every multiple)) (λ end. inr end) other)) where
        at_start : e.moment ≡ branch.start → (keeps_start branch || not (e.moment == branch.start)) ≡ true → keeps_start branch ≡ true
        at_start at test =
            let same : (e.moment == branch.start) ≡ true = grind (arith, nat_tests) in
            let q : (keeps_start branch || not true) ≡ true = subst (λ (b : Bool). (keeps_start branch || not b) ≡ true) same test in
            ⊎_elim (λ so. so) (λ no. absurd (true≢false (sym no))) (or_cases (keeps_start branch) (not true) q)

  not_before : (e : Kept) → p e ≡ true → own.moment ≤ e.moment
  not_before e good =
      let a = (and_parts (nat_le own.moment e.moment) (keeps_start branch || not (e.moment == branch.start)) good).0 in
      grind (arith, nat_tests)

  -- the states that stay lie before the tip
  before_tip : (i : ℕ) (e : Kept) → i < count → slice_get own.kept i ≡ Some e → e.moment < own.moment
  before_tip i e less is =
      let within = slice_get_within own.kept i e is in
      let at : get_or own.kept i e ≡ e = get_or_from_slice_get own.kept i e e is in
      let test = under.0 i e (omega arith) less in
      let l : nat_lt e.moment own.moment ≡ true = rw at at test in
      grind (arith, nat_tests)

  stays : (i : ℕ) (e : Kept) → slice_get own.kept i ≡ Some e → e.moment < own.moment → i < count
  stays i e is less = go (nat_lt i count) refl where
    go : (b : Bool) → nat_lt i count ≡ b → i < count
    go true so = grind (arith, nat_tests)
    go false so =
        let within = slice_get_within own.kept i e is in
        let at : get_or own.kept i e ≡ e = get_or_from_slice_get own.kept i e e is in
        let test = under.1 i e (grind (arith, nat_tests)) within in
        let l : nat_lt e.moment own.moment ≡ false = rw at at test in
        absurd (grind (arith, nat_tests, less))

  -- a state of each moment that is kept by either
  there_left : (m : ℕ) → m < own.moment → IsThere own.kept m → IsThere new.kept m
  there_left m less (i, e, is, at) = (
    i,
    e,
    in_left (take count own.kept) (filter p branch.kept) i e
        (in_take own.kept count i e (stays i e is (omega (arith, less, at))) is),
    at,
  )

  there_right : (m : ℕ) → own.moment ≤ m → (m ≡ branch.start → keeps_start branch ≡ true) → IsThere branch.kept m → IsThere new.kept m
  there_right m over start (j, e, is, at) =
      let f = passes p branch.kept j e is good in
      let r = in_right (take count own.kept) (filter p branch.kept) f.0 e f.1 in
      (r.0, e, r.1, at) where
        second : (b : Bool) → (e.moment == branch.start) ≡ b → (keeps_start branch || not b) ≡ true
        second true same = or_left (keeps_start branch) (not true) (start (let s : e.moment ≡ branch.start = grind (arith, nat_tests) in sym at ∙ s))
        second false apart = or_right (keeps_start branch) (not false) refl

        good : p e ≡ true
        good = and_from (nat_le own.moment e.moment) (keeps_start branch || not (e.moment == branch.start))
            (grind (arith, nat_tests, over, at)) (second (e.moment == branch.start) refl)

  kept_there : (m : ℕ) → m < branch.moment → IsWanted t seed own.every own.start m → IsThere new.kept m
  kept_there m less want = go (nat_lt m own.moment) refl where
    go : (b : Bool) → nat_lt m own.moment ≡ b → IsThere new.kept m
    go true e =
        let low : m < own.moment = grind (arith, nat_tests) in
        there_left m low (h.all_kept m (omega (arith, at_zero)) low want)
    go false e =
        let high : own.moment ≤ m = grind (arith, nat_tests) in
        there_right m high (λ at. wanted_common (subst (λ n. IsWanted t seed own.every own.start n) at want))
        (g.all_kept m (omega (arith, from, high)) less (wanted_there m want))

  each_kept : (i : ℕ) (e : Kept) → slice_get new.kept i ≡ Some e → IsOfRun t seed new e
  each_kept i e is = ⊎_elim
      (λ left.
      let r = taken_at own.kept count i e left in
      let o = h.kept i e r.1 in
      let low = o.below in
      record { there = o.there; wanted = o.wanted; from = o.from; below = omega (arith, low, beyond) })
      (λ right.
      let r = passed p branch.kept right.0 e right.1 in
      let o = g.kept r.0 e r.1 in
      record { there = o.there; wanted = wanted_back e r.2 o.wanted; from = omega (arith, at_zero); below = o.below })
      (parted (take count own.kept) (filter p branch.kept) i e is)

  in_order : AreInOrder new.kept
  in_order = joined_order (λ (e : Kept). e.moment) (take count own.kept) (filter p branch.kept)
      (IsNonDecreasingBy-take (λ (e : Kept). e.moment) count own.kept h.rising)
      (IsNonDecreasingBy-filter (λ (e : Kept). e.moment) p branch.kept g.rising)
      (λ i j x y left right.
      let l = taken_at own.kept count i x left in
      let r = passed p branch.kept j y right in
      let low = before_tip i x l.0 l.1 in
      let high = not_before y r.2 in
      omega (arith, low, high))

  pub adopted : Records t seed new
  adopted = record {
    tip = g.tip;
    from = omega (arith, at_zero);
    within = g.within;
    kept = each_kept;
    rising = in_order;
    all_kept = λ m low less want. kept_there m less want;
    ends = λ i m is. let o = g.ends i m is in record { end = o.end; below = o.below; kept = λ behind. end_there i m is (nat_lt m branch.moment) refl };
    ends_rise = g.ends_rise;
    all_ends = g.all_ends;
    tip_end = g.tip_end;
    firsts = g.firsts;
  } where
    end_there : (i m : ℕ) → slice_get branch.ends i ≡ Some m → (b : Bool) → nat_lt m branch.moment ≡ b → IsThere new.kept m
    end_there i m is true e = let o = g.ends i m is in kept_there m (grind (arith, nat_tests)) (inr (inr (i + 1, o.end)))
    end_there i m is false e =
        let o = g.ends i m is in
        let low : branch.moment ≤ m = grind (arith, nat_tests) in
        let behind : branch.start < m = omega (arith, low, from, beyond) in
        there_right m (omega (arith, low, beyond)) (λ at. absurd (omega (arith, at, behind))) (o.kept behind)

-- the record that adopted the branch
pub adopts : (t : Listing) (seed : ℕ) (own branch after : Tape) → own.start ≡ 0 → branch.every ≡ own.every → branch.start ≤ own.moment →
    own.moment < branch.moment → Adopts own branch after → Records t seed own → Records t seed branch → Records t seed after
adopts t seed own branch after at_zero every from beyond a h g =
    subst (λ (r : Tape). Records t seed r) (sym a.is) (adopted t seed a.count own branch h g at_zero every from beyond (a.before h.rising))
