-- What is left of a recorded run that goes back to a kept state is the record of the shorter run.
use Rattle.std.proofs.Common.{◌≡◌, ℕ, zero, suc, ◌+◌, ◌-◌, ◌<◌, ◌≤◌, Bool, true, false, nat_eq, nat_lt, nat_le, List, [], ◌∷◌, ◌++◌, length, take, get_or, slice_get, Some, Ok, inl, inr, ⊎_elim, refl, sym, ap, subst, ◌∙◌, arith}
use Rattle.std.proofs.lemmas.Bool.Decides.{nat_tests}
use Rattle.std.proofs.lemmas.List.{length-take-le}
use Rattle.std.proofs.lemmas.Option.{slice_get-get_or, slice_get_within, get_or_from_slice_get}
use Rattle.std.proofs.lemmas.List.Sorted.{IsNonDecreasingBy-take}
use Rattle.gw_meaning.specs.declared.item.Item.{Item}
use Rattle.gw_meaning.specs.Listing.{Listing}
use Rattle.gw_meaning.specs.Machine.{Machine}
use Rattle.gw_meaning.specs.Step.{run}
use Rattle.gw_meaning.specs.Reads.{is_use}
use Rattle.gw_record.specs.declared.kept.Kept.{Kept}
use Rattle.gw_uses.specs.declared.first_uses.FirstUses.{FirstUses}
use Rattle.gw_record.specs.Parting.{AreInOrder, AreUntil, AreBefore}
use Rattle.gw_uses.specs.Steps.{below, AreBelow}
use Rattle.gw_uses.specs.Uses.{first_in}
use Rattle.gw_record.specs.Tape.{Tape, Records, IsStartEnd, IsWanted, IsThere, IsLastKept, IsKept}
use Rattle.gw_record.specs.Cutting.{WentBack}
use Rattle.gw_uses.proofs.UseLaws.{reading_cut}

slice_get_take : {X : Type 0} (xs : List X) (n i : ℕ) (x : X) → i < n → slice_get xs i ≡ Some x → slice_get (take n xs) i ≡ Some x
slice_get_take [] n i x less is = absurd cc
slice_get_take (y ∷ xs) zero i x less is = absurd (omega (arith, less))
slice_get_take (y ∷ xs) (suc n) zero x less is = is
slice_get_take (y ∷ xs) (suc n) (suc i) x less is = slice_get_take xs n i x (omega (arith, less)) is

-- what is among the first n is among them all, at a place below n
taken_at : {X : Type 0} (xs : List X) (n i : ℕ) (x : X) → slice_get (take n xs) i ≡ Some x → (i < n) × (slice_get xs i ≡ Some x)
taken_at [] zero i x is = absurd cc
taken_at [] (suc n) i x is = absurd cc
taken_at (y ∷ xs) zero i x is = absurd cc
taken_at (y ∷ xs) (suc n) zero x is = (omega arith, is)
taken_at (y ∷ xs) (suc n) (suc i) x is = let h = taken_at xs n i x is in (let l = h.0 in omega (arith, l), h.1)

-- the last of the first n, and those in front of it
pub popped :
    {X : Type 0} (xs rest : List X) (e : X) (n : ℕ) → n ≤ length xs → take n xs ≡ rest ++ e ∷ [] →
    (j : ℕ) × (n ≡ suc j) × (rest ≡ take j xs) × (slice_get xs j ≡ Some e)
popped [] [] e zero within is = absurd cc
popped [] (r ∷ rest) e zero within is = absurd cc
popped [] rest e (suc n) within is = absurd (omega (arith, within))
popped (x ∷ xs) [] e zero within is = absurd cc
popped (x ∷ xs) (r ∷ rest) e zero within is = absurd cc
popped (x ∷ xs) [] e (suc zero) within is = let same : x ≡ e = cc in (zero, refl, refl, ap (λ y. Some y) same)
popped (x ∷ []) [] e (suc (suc n)) within is = absurd (omega (arith, within))
popped (x ∷ y ∷ xs) [] e (suc (suc n)) within is = absurd cc
popped (x ∷ xs) (r ∷ rest) e (suc n) within is =
    let same : r ≡ x = cc in
    let tail : take n xs ≡ rest ++ e ∷ [] = cc in
    let (j, at, front, there) = popped xs rest e n (omega (arith, within)) tail in
    (suc j, ap suc at, same_front r x rest (take j xs) same front, there) where
      same_front : {X : Type 0} (r x : X) (rest front : List X) → r ≡ x → rest ≡ front → r ∷ rest ≡ x ∷ front
      same_front r x rest front a b = rw (a, b) refl

module _ (t : Listing) (seed : ℕ) (r : Tape) (m n j k : ℕ) (e : Kept) (f : FirstUses)
    (h : Records t seed r) (before : m < r.moment)
    (part : AreUntil r.kept m n)
    (next : n ≡ suc j) (at : slice_get r.kept j ≡ Some e)
    (ends : AreBefore r.ends e.moment k) (few : k ≤ length r.ends)
    (cut : (item : Item) → first_in f item ≡ below e.moment (first_in r.firsts item)) (clock : AreBelow e.moment f.clock_steps) where
  inside : j < length r.kept
  inside = slice_get_within r.kept j e at

  -- the state gone back to lies at or before the wanted moment
  early : e.moment ≤ m
  early =
      let there : get_or r.kept j e ≡ e = get_or_from_slice_get r.kept j e e at in
      let test : nat_le (get_or r.kept j e).moment m ≡ true = part.0 j e (omega arith) (omega (arith, next)) in
      let l : nat_le e.moment m ≡ true = rw there at test in
      grind (arith, nat_tests)

  -- a kept state at or before it is that one or one in front
  in_front : (i : ℕ) (d : Kept) → slice_get r.kept i ≡ Some d → d.moment ≤ m → i ≤ j
  in_front i d is low = go (nat_lt i n) refl where
    go : (b : Bool) → nat_lt i n ≡ b → i ≤ j
    go true less = grind (arith, nat_tests, next)
    go false over =
        let within : i < length r.kept = slice_get_within r.kept i d is in
        let there : get_or r.kept i d ≡ d = get_or_from_slice_get r.kept i d d is in
        let test : nat_le (get_or r.kept i d).moment m ≡ false = part.1 i d (grind (arith, nat_tests)) within in
        let l : nat_le d.moment m ≡ false = rw there at test in
        absurd (grind (arith, nat_tests))

  -- what lies in front of it is no later
  not_later : (i : ℕ) (d : Kept) → slice_get r.kept i ≡ Some d → i ≤ j → d.moment ≤ e.moment
  not_later i d is front =
      let a : get_or r.kept i e ≡ d = get_or_from_slice_get r.kept i d e is in
      let b : get_or r.kept j e ≡ e = get_or_from_slice_get r.kept j e e at in
      let le = h.rising i j e front inside in
      rw (a, b) at le

  -- a wanted moment before it is kept in front
  there_before : (i : ℕ) → r.start ≤ i → i < e.moment → IsWanted t seed r.every r.start i → IsThere (take j r.kept) i
  there_before i from less want =
      let e1 = early in
      let (at_i, d, is, same) = h.all_kept i from (omega (arith, less, e1, before)) want in
      let front : at_i ≤ j = in_front at_i d is (omega (arith, same, less, e1)) in
      go at_i d is same (nat_eq at_i j) refl front where
        go : (q : ℕ) (d : Kept) → slice_get r.kept q ≡ Some d → d.moment ≡ i → (b : Bool) → nat_eq q j ≡ b → q ≤ j → IsThere (take j r.kept) i
        go q d is same true eq front =
            let q_is : q ≡ j = grind (arith, nat_tests) in
            let found : Some d ≡ Some e = sym is ∙ (ap (λ x. slice_get r.kept x) q_is ∙ at) in
            let d_is : d ≡ e = cc in
            let moment : e.moment ≡ i = ap (λ (x : Kept). x.moment) (sym d_is) ∙ same in
            absurd (omega (arith, moment, less))
        go q d is same false eq front =
            let less_j : q < j = grind (arith, nat_tests) in
            (q, d, slice_get_take r.kept j q d less_j is, same)

  own : (there : run t seed e.moment ≡ Ok e.state) × IsWanted t seed r.every r.start e.moment
  own = let o = h.kept j e at in (o.there, o.wanted)

  from_start : r.start ≤ e.moment
  from_start = (h.kept j e at).from

  -- the c-th START end of those noted
  noted_end : (c : ℕ) → 1 ≤ c → c ≤ length r.ends → IsStartEnd t seed c (get_or r.ends (c - 1) 0)
  noted_end c some within =
      let same : c - 1 + 1 ≡ c = omega (arith, some) in
      let o = h.ends (c - 1) (get_or r.ends (c - 1) 0) (slice_get-get_or r.ends (c - 1) 0 (omega (arith, some, within))) in
      subst (λ q. IsStartEnd t seed q (get_or r.ends (c - 1) 0)) same o.end

  -- it lies no later than any moment with c complete
  end_at_most : (c i : ℕ) (u : Machine) → 1 ≤ c → c ≤ length r.ends → run t seed i ≡ Ok u → u.complete ≡ c → get_or r.ends (c - 1) 0 ≤ i
  end_at_most c i u some within is count = go (nat_lt i (get_or r.ends (c - 1) 0)) refl where
    go : (b : Bool) → nat_lt i (get_or r.ends (c - 1) 0) ≡ b → get_or r.ends (c - 1) 0 ≤ i
    go true less = absurd ((noted_end c some within).first i u (grind (arith, nat_tests)) is count)
    go false over = grind (arith, nat_tests)

  -- where it lies before the state gone back to, it is among those left
  counted : (c : ℕ) → 1 ≤ c → c ≤ length r.ends → get_or r.ends (c - 1) 0 < e.moment → c ≤ k
  counted c some within less = go (nat_lt (c - 1) k) refl where
    go : (b : Bool) → nat_lt (c - 1) k ≡ b → c ≤ k
    go true less = grind (arith, nat_tests)
    go false over =
        let test : nat_lt (get_or r.ends (c - 1) 0) e.moment ≡ false = ends.1 (c - 1) 0 (grind (arith, nat_tests)) (omega (arith, some, within)) in
        absurd (grind (arith, nat_tests))

  left : length (take k r.ends) ≡ k
  left = length-take-le k r.ends few

  few_before : (i : ℕ) (u : Machine) → i < e.moment → run t seed i ≡ Ok u → u.complete ≤ length (take k r.ends)
  few_before i u less is = rw left (go (nat_le 1 u.complete) refl) where
    go : (b : Bool) → nat_le 1 u.complete ≡ b → u.complete ≤ k
    go false none = grind (arith, nat_tests)
    go true some =
        let e1 = early in
        let within = h.all_ends i u (omega (arith, less, e1, before)) is in
        let least : 1 ≤ u.complete = grind (arith, nat_tests) in
        let low = end_at_most u.complete i u least within is refl in
        counted u.complete least within (omega (arith, low, less))

  one_more : e.state.complete ≤ length (take k r.ends) + 1
  one_more = rw left (go (nat_le 2 e.state.complete) refl) where
    go : (b : Bool) → nat_le 2 e.state.complete ≡ b → e.state.complete ≤ k + 1
    go false none = grind (arith, nat_tests)
    go true some =
        let c : ℕ = e.state.complete in
        let e1 = early in
        let two : 2 ≤ c = grind (arith, nat_tests) in
        let within = h.all_ends e.moment e.state (omega (arith, e1, before)) own.0 in
        let low = end_at_most c e.moment e.state (omega (arith, two)) within own.0 refl in
        let earlier : get_or r.ends (c - 1 - 1) 0 ≤ get_or r.ends (c - 1) 0 = h.ends_rise (c - 1 - 1) (c - 1) 0 (omega arith) (omega (arith, two, within)) in
        let end = noted_end (c - 1) (omega (arith, two)) (omega (arith, within)) in
        let apart : get_or r.ends (c - 1 - 1) 0 ≡ e.moment → ⊥ = λ same.
        let found : Ok end.state ≡ Ok e.state = sym end.there ∙ (ap (λ x. run t seed x) same ∙ own.0) in
        let one : end.state ≡ e.state = cc in
        let count : c ≡ c - 1 = ap (λ (s : Machine). s.complete) (sym one) ∙ end.complete in
        omega (arith, count, two) in
        let less : get_or r.ends (c - 1 - 1) 0 < e.moment = grind (arith, apart, low, earlier) in
        let all = counted (c - 1) (omega (arith, two)) (omega (arith, within)) less in
        omega (arith, all)

  went_back : Records t seed (record r { moment = e.moment; tip = e.state; kept = take j r.kept; ends = take k r.ends; firsts = f })
  went_back =
      let e1 = early in
      let w = h.within in
      record {
        tip = own.0;
        from = from_start;
        within = omega (arith, e1, before, w);
        kept = λ i d is.
            let p = taken_at r.kept j i d is in
            let o = h.kept i d p.1 in
            let l = p.0 in
            record { there = o.there; wanted = o.wanted; from = o.from; below = not_later i d p.1 (omega (arith, l)) };
        rising = IsNonDecreasingBy-take (λ (e : Kept). e.moment) j r.kept h.rising;
        all_kept = there_before;
        ends = λ i d is.
            let p = taken_at r.ends k i d is in
            let o = h.ends i d p.1 in
            let l = p.0 in
            let there : get_or r.ends i 0 ≡ d = get_or_from_slice_get r.ends i d 0 p.1 in
            let test : nat_lt (get_or r.ends i 0) e.moment ≡ true = ends.0 i 0 (omega arith) l in
            let less0 : nat_lt d e.moment ≡ true = rw there at test in
            let less : d < e.moment = grind (arith, nat_tests) in
            record {
              end = o.end;
              below = omega (arith, less);
              kept = λ behind. there_before d (omega (arith, behind)) less (inr (inr (i + 1, o.end)));
            };
        ends_rise = IsNonDecreasingBy-take (λ (m : ℕ). m) k r.ends h.ends_rise;
        all_ends = few_before;
        tip_end = one_more;
        firsts = record {
          each = λ item.
              let low = reading_cut (is_use item) t seed e.moment r.moment (omega (arith, e1, before)) in
              cut item ∙ (ap (λ o. below e.moment o) (h.firsts.each item) ∙ low);
          clock = clock;
        };
      }

  is_last : (i : ℕ) → IsKept t seed r i → i ≤ m → i ≤ e.moment
  is_last i kept low =
      ⊎_elim (λ same. absurd (omega (arith, same, low, before)))
      (λ want. let (q, d, is, at_i) = h.all_kept i kept.from (omega (arith, low, before)) want in
      let front = in_front q d is (omega (arith, at_i, low)) in
      let le = not_later q d is front in
      omega (arith, at_i, le))
      kept.wanted

  last_kept : IsLastKept t seed r m e.moment
  last_kept =
      let e1 = early in
      record { kept = record { from = from_start; below = omega (arith, e1, before); wanted = inr own.1 }; below = e1; last = is_last }

-- a run that went back to the last of its states at or before a moment
pub cut_back :
    (t : Listing) (seed : ℕ) (r : Tape) (m n : ℕ) (rest : List Kept) (e : Kept) (new : Tape) →
    Records t seed r → m < r.moment → n ≤ length r.kept → (AreInOrder r.kept → AreUntil r.kept m n) →
    take n r.kept ≡ rest ++ e ∷ [] → WentBack (record r { kept = rest }) e new →
    Records t seed new × IsLastKept t seed r m new.moment
cut_back t seed r m n rest e new h before within part is w =
    let (j, next, front, at) = popped r.kept rest e n within is in
    let until = part h.rising in
    let ends = w.before h.ends_rise in
    let back = went_back t seed r m n j w.count e new.firsts h before until next at ends w.few w.firsts w.clock in
    let last = last_kept t seed r m n j w.count e new.firsts h before until next at ends w.few w.firsts w.clock in
    let same : Tape = record {
      every = new.every;
      start = new.start;
      moment = new.moment;
      tip = new.tip;
      kept = new.kept;
      ends = new.ends;
      firsts = new.firsts;
    } in
    let made : Records t seed same = rw (w.every, w.start, w.moment, w.tip, w.kept, w.ends, front) back in
    (made, rw w.moment last)

-- the start is kept, so from there on there is one to go back to
pub one_is_kept :
    (t : Listing) (seed : ℕ) (r : Tape) (m n : ℕ) → Records t seed r → r.start ≤ m → m < r.moment →
    (AreInOrder r.kept → AreUntil r.kept m n) → n ≡ 0 → ⊥
one_is_kept t seed r m n h from before part none =
    let (i, e, is, at) = h.all_kept r.start (omega arith) (omega (arith, from, before)) (inl refl) in
    let inside = slice_get_within r.kept i e is in
    let there : get_or r.kept i e ≡ e = get_or_from_slice_get r.kept i e e is in
    let test : nat_le (get_or r.kept i e).moment m ≡ false = (part h.rising).1 i e (omega (arith, none)) inside in
    let late : nat_le e.moment m ≡ false = rw there at test in
    grind (arith, nat_tests, at, from)

-- where none of the states is of a moment or of one before it, none is kept of that moment
pub none_among : (kept : List Kept) (m : ℕ) → AreUntil kept m 0 → IsThere kept m → ⊥
none_among kept m part (i, e, is, at) =
    let test : nat_le (get_or kept i e).moment m ≡ false = part.1 i e (omega arith) (slice_get_within kept i e is) in
    let same : (get_or kept i e).moment ≡ m = ap (λ (x : Kept). x.moment) (get_or_from_slice_get kept i e e is) ∙ at in
    grind (arith, nat_tests)

-- where the last state at or before a moment is of another, none is of it
pub not_among :
    (kept : List Kept) (m n : ℕ) (d : Kept) → 1 ≤ n → n ≤ length kept → AreInOrder kept → AreUntil kept m n →
    ((get_or kept (n - 1) d).moment ≡ m → ⊥) → IsThere kept m → ⊥
not_among kept m n d some within rising part other (i, e, is, at) = go (nat_lt i n) refl where
  inside : i < length kept
  inside = slice_get_within kept i e is

  there : get_or kept i d ≡ e
  there = get_or_from_slice_get kept i e d is

  go : (b : Bool) → nat_lt i n ≡ b → ⊥
  go true less =
      let low : (get_or kept i d).moment ≤ (get_or kept (n - 1) d).moment = rising i (n - 1) d (grind (arith, nat_tests)) (omega (arith, some, within)) in
      let test : nat_le (get_or kept (n - 1) d).moment m ≡ true = part.0 (n - 1) d (omega arith) (omega (arith, some)) in
      let same : (get_or kept i d).moment ≡ m = ap (λ (x : Kept). x.moment) there ∙ at in
      other (grind (arith, nat_tests))
  go false over =
      let test : nat_le (get_or kept i d).moment m ≡ false = part.1 i d (grind (arith, nat_tests)) inside in
      let same : (get_or kept i d).moment ≡ m = ap (λ (x : Kept). x.moment) there ∙ at in
      grind (arith, nat_tests)
