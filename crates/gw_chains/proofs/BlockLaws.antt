-- Laws of a block of the future chain: times and keys side by side, and the transactions in a slab.
use Rattle.std.proofs.Common.{◌≡◌, ◌≢◌, ℕ, zero, suc, ◌+◌, ◌-◌, ◌^◌, ◌<◌, ◌≤◌, Bool, nat_eq, cond, arith, true, false, not, List, [], ◌∷◌, ◌++◌, Option, None, Some, All, length, length-append, get_or, min, filter, take, refl, sym, ap, subst, ◌∙◌, inl, inr}
use Rattle.std.specs.Prelude.{nat_le, slice_get, remove, is_some, IsSome, unwrap_or}
use Rattle.std.specs.List.{AllZip}
use Rattle.std.proofs.lemmas.Bool.{cond_both, cases_eq}
use Rattle.std.proofs.lemmas.Bool.Decides.{nat_tests}
use Rattle.std.proofs.lemmas.List.{take_more}
use Rattle.std.proofs.lemmas.List.Elements.{same_from_all_zip}
use Rattle.std.proofs.lemmas.Option.{slice_get_within, get_or_from_slice_get}
use Rattle.slab.specs.Slab.{Slab, get, ContainsKey, Updates, IsSlotClone}
use Rattle.gw_lanes.specs.FirstAt.{IsFirstAt}
use Rattle.gw_lanes.specs.Least.{least, lesser}
use Rattle.gw_meaning.specs.declared.transaction.Transaction.{Transaction}
use Rattle.gw_meaning.specs.declared.transaction.Event.{Event}
use Rattle.gw_meaning.specs.Changes.{due, is_due}
use Rattle.gw_meaning.specs.Step.{least_time, sooner}
use Rattle.gw_chains.specs.Blocks.{no_transaction, at, events_of, places, occupied, time_of, AreTimes, IsBlock}
use Rattle.gw_chains.proofs.EventLaws.{soonest, least_put}

-- times in ticks
pub time_within : (t : ℕ) → t ≤ 1001000000000 → time_of t ≡ Some t
time_within t h = let is : nat_le t 1001000000000 ≡ true = grind (arith, nat_tests) in rw is refl

pub soonest_times : (a b : ℕ) → soonest (time_of a) (time_of b) ≡ time_of (min a b)
soonest_times a b = go (nat_le a 1001000000000) (nat_le b 1001000000000) refl refl where
  go : (c d : Bool) → nat_le a 1001000000000 ≡ c → nat_le b 1001000000000 ≡ d → soonest (time_of a) (time_of b) ≡ time_of (min a b)
  go true true h k = let low : nat_le (min a b) 1001000000000 ≡ true = grind (arith, nat_tests) in rw (h, k, low) refl
  go true false h k = let low : min a b ≡ a = grind (arith, nat_tests) in rw (low, h, k) refl
  go false true h k = let low : min a b ≡ b = grind (arith, nat_tests) in rw (low, h, k) refl
  go false false h k = let low : nat_le (min a b) 1001000000000 ≡ false = grind (arith, nat_tests) in rw (h, k, low) refl

pub of_lesser : (n : ℕ) (o : Option ℕ) → soonest (time_of n) (time_of (unwrap_or o (2 ^ 64 - 1))) ≡ time_of (lesser n o)
of_lesser n None = soonest_none (time_of n) where
  soonest_none : (o : Option ℕ) → soonest o None ≡ o
  soonest_none None = refl
  soonest_none (Some t) = refl
of_lesser n (Some m) = soonest_times n m

sooner_time : (t : ℕ) (o : Option ℕ) → t ≤ 1001000000000 → sooner t o ≡ soonest (time_of t) o
sooner_time t o h = ap (λ time. soonest time o) (sym (time_within t h))

-- times and keys side by side
pub length_events : (slab : Slab Transaction) (ts ks : List ℕ) → length ts ≡ length ks → length (events_of slab ts ks) ≡ length ts
length_events slab [] ks long = refl
length_events slab (t ∷ ts) [] long = absurd (omega (arith, long))
length_events slab (t ∷ ts) (k ∷ ks) long = omega (arith, length_events slab ts ks (omega (arith, long)))

pub least_is : (slab : Slab Transaction) (ts ks : List ℕ) → length ts ≡ length ks → AreTimes ts →
    least_time (events_of slab ts ks) ≡ time_of (unwrap_or (least ts) (2 ^ 64 - 1))
least_is slab [] ks long times = refl
least_is slab (t ∷ ts) [] long times = absurd (omega (arith, long))
least_is slab (t ∷ ts) (k ∷ ks) long times =
    ap (sooner t) (least_is slab ts ks (omega (arith, long)) times.1)
    ∙ (sooner_time t (time_of (unwrap_or (least ts) (2 ^ 64 - 1))) times.0 ∙ of_lesser t (least ts))

pub is_within : {slab : Slab Transaction} {ts ks : List ℕ} {ticks : ℕ} → IsBlock slab ts ks ticks → (es : List Event) → events_of slab ts ks ≡ es →
    (i : ℕ) → i < length es → i < length ts
is_within {slab} {ts} {ks} b es is i h = omega (arith, h, ap length is, length_events slab ts ks b.long)

pub event_at : (slab : Slab Transaction) (ts ks : List ℕ) (i t k : ℕ) (x : Transaction) → length ts ≡ length ks → i < length ts →
    t ≡ get_or ts i t → k ≡ get_or ks i k → get slab k ≡ Some x → slice_get (events_of slab ts ks) i ≡ Some (record { time = t; transaction = x })
event_at slab [] ks i t k x long h time key there = absurd (omega (arith, h))
event_at slab (u ∷ ts) [] i t k x long h time key there = absurd (omega (arith, long))
event_at slab (u ∷ ts) (j ∷ ks) zero t k x long h time key there =
    let found : at slab j ≡ x = ap (at slab) (sym key) ∙ ap (λ o. unwrap_or o no_transaction) there in
    rw (sym time, found) refl
event_at slab (u ∷ ts) (j ∷ ks) (suc i) t k x long h time key there =
    event_at slab ts ks i t k x (omega (arith, long)) (omega (arith, h)) time key there

pub time_at : (ts : List ℕ) (i d : ℕ) → AreTimes ts → i < length ts → get_or ts i d ≤ 1001000000000
time_at [] i d times h = absurd (omega (arith, h))
time_at (t ∷ ts) zero d times h = times.0
time_at (t ∷ ts) (suc i) d times h = time_at ts i d times.1 (omega (arith, h))

-- the event at an index, by its time
pub record EventAt (es : List Event) (i t : ℕ) : Type 0 where
  pub event : Event
  pub time : event.time ≡ t
  pub there : slice_get es i ≡ Some event

event_there : (slab : Slab Transaction) (ts ks : List ℕ) (i t d : ℕ) → length ts ≡ length ks → i < length ts → t ≡ get_or ts i d →
    EventAt (events_of slab ts ks) i t
event_there slab [] ks i t d long h is = absurd (omega (arith, h))
event_there slab (u ∷ ts) [] i t d long h is = absurd (omega (arith, long))
event_there slab (u ∷ ts) (k ∷ ks) zero t d long h is =
    record { event = record { time = u; transaction = at slab k }; time = sym is; there = refl }
event_there slab (u ∷ ts) (k ∷ ks) (suc i) t d long h is =
    let next = event_there slab ts ks i t d (omega (arith, long)) (omega (arith, h)) is in
    record { event = next.event; time = next.time; there = next.there }

pub event_on : {slab : Slab Transaction} {ts ks : List ℕ} {ticks : ℕ} → IsBlock slab ts ks ticks → (es : List Event) → events_of slab ts ks ≡ es →
    (i t d : ℕ) → i < length ts → t ≡ get_or ts i d → EventAt es i t
event_on {slab} {ts} {ks} b es is i t d h time = subst (λ es. EventAt es i t) is (event_there slab ts ks i t d b.long h time)

pub next_there : (es : List Event) (i : ℕ) (e : Event) → slice_get es i ≡ Some e → take (i + 1) es ≡ take i es ++ e ∷ []
next_there es i e is =
    take_more es i e (slice_get_within es i e is) ∙ ap (λ x. take i es ++ x ∷ []) (get_or_from_slice_get es i e e is)

-- keys
pub places_push : (k : ℕ) (ks : List ℕ) (j : ℕ) → places k (ks ++ j ∷ []) ≡ places k (j ∷ ks)
places_push k [] j = refl
places_push k (x ∷ ks) j = omega (arith, places_push k ks j)

pub places_left : (k : ℕ) (ks : List ℕ) (i j : ℕ) → i < length ks → j ≡ get_or ks i j → places k (j ∷ remove ks i) ≡ places k ks
places_left k [] i j h is = absurd (omega (arith, h))
places_left k (x ∷ ks) zero j h is = ap (λ y. places k (y ∷ ks)) is
places_left k (x ∷ ks) (suc i) j h is = omega (arith, places_left k ks i j (omega (arith, h)) is)

places_same : (k : ℕ) → places k (k ∷ []) ≡ 1
places_same k = grind (arith, nat_tests)

places_other : (j k : ℕ) → j ≢ k → places j (k ∷ []) ≡ 0
places_other j k other = grind (arith, nat_tests)

occupied_most : (slab : Slab Transaction) (k : ℕ) → occupied slab k ≤ 1
occupied_most slab k = cond_both (is_some (get slab k)) 1 0 (λ n. n ≤ 1) (λ _. omega arith) (λ _. omega arith)

place_at : (ks : List ℕ) (i k : ℕ) → i < length ks → k ≡ get_or ks i k → 1 ≤ places k ks
place_at ks i k h is = omega (arith, places_left k ks i k h is, places_same k)

pub contains_at : {slab : Slab Transaction} {ts ks : List ℕ} {ticks : ℕ} → IsBlock slab ts ks ticks → (i k : ℕ) → i < length ts → k ≡ get_or ks i k →
    ContainsKey slab k
contains_at {slab} {ts} {ks} b i k h is =
    go (get slab k) (omega (arith, place_at ks i k (omega (arith, h, b.long)) is, b.places k))
  where
    go : (o : Option Transaction) → 1 ≤ cond (is_some o) 1 0 → IsSome o
    go None h = absurd (omega arith)
    go (Some x) h = refl

-- a change of the slab at a key
module _ {slab slab' : Slab Transaction} {k : ℕ} {slot : Option Transaction} (u : Updates slab slab' k slot) where
  events_kept : (ts ks : List ℕ) → places k ks ≡ 0 → events_of slab' ts ks ≡ events_of slab ts ks
  events_kept [] ks none = refl
  events_kept (t ∷ ts) [] none = refl
  events_kept (t ∷ ts) (j ∷ js) none = elim (cases_eq j k) [
    | inl same ↦ absurd (grind (arith, nat_tests))
    | inr other ↦
        let here : at slab' j ≡ at slab j = rw (u.others j other) refl in
        let rest : places k js ≡ 0 = omega (arith, none) in
        rw (here, events_kept ts js rest) refl
  ]

  occupied_kept : (j : ℕ) → j ≢ k → occupied slab' j ≡ occupied slab j
  occupied_kept j other = ap (λ o. cond (is_some o) 1 0) (u.others j other)

  occupied_there : occupied slab' k ≡ cond (is_some slot) 1 0
  occupied_there = ap (λ o. cond (is_some o) 1 0) u.changed

-- one more comes
events_push : (slab : Slab Transaction) (ts ks : List ℕ) (t k : ℕ) → length ts ≡ length ks →
    events_of slab (ts ++ t ∷ []) (ks ++ k ∷ []) ≡ events_of slab ts ks ++ record { time = t; transaction = at slab k } ∷ []
events_push slab [] [] t k long = refl
events_push slab [] (j ∷ ks) t k long = absurd (omega (arith, long))
events_push slab (u ∷ ts) [] t k long = absurd (omega (arith, long))
events_push slab (u ∷ ts) (j ∷ ks) t k long =
    ap (λ (es : List Event). record { time = u; transaction = at slab j } ∷ es) (events_push slab ts ks t k (omega (arith, long)))

times_push : (ts : List ℕ) (t : ℕ) → AreTimes ts → t ≤ 1001000000000 → AreTimes (ts ++ t ∷ [])
times_push [] t times h = (h, tt)
times_push (u ∷ ts) t times h = (times.0, times_push ts t times.1 h)

module _ {slab slab' : Slab Transaction} {k : ℕ} {x : Transaction} (u : Updates slab slab' k (Some x)) (vacant : get slab k ≡ None)
    {ts ks : List ℕ} {ticks : ℕ} (b : IsBlock slab ts ks ticks) (t : ℕ) where
  unused : places k ks ≡ 0
  unused = b.places k ∙ ap (λ o. cond (is_some o) 1 0) vacant

  pub put_events : events_of slab' (ts ++ t ∷ []) (ks ++ k ∷ []) ≡ events_of slab ts ks ++ record { time = t; transaction = x } ∷ []
  put_events =
      let new : at slab' k ≡ x = ap (λ o. unwrap_or o no_transaction) u.changed in
      events_push slab' ts ks t k b.long
      ∙ (ap (λ (es : List Event). es ++ record { time = t; transaction = at slab' k } ∷ []) (events_kept u ts ks unused)
      ∙ ap (λ (y : Transaction). events_of slab ts ks ++ record { time = t; transaction = y } ∷ []) new)

  pub put_block : t ≤ 1001000000000 → IsBlock slab' (ts ++ t ∷ []) (ks ++ k ∷ []) (min t ticks)
  put_block h = record {
    long = omega (arith, b.long, length-append ts (t ∷ []), length-append ks (k ∷ []));
    places = λ j. elim (cases_eq j k) [
      | inl same ↦ rw same (omega (arith, places_push k ks k, places_same k, unused, occupied_there u))
      | inr other ↦ omega (arith, places_push j ks k, places_other j k other, b.places j, occupied_kept u j other)
    ];
    times = times_push ts t b.times h;
    least = ap least_time put_events
        ∙ (least_put (events_of slab ts ks) (record { time = t; transaction = x })
        ∙ (ap (sooner t) b.least ∙ (sooner_time t (time_of ticks) h ∙ soonest_times t ticks)));
  }

-- the first one of a time leaves
pub first_in : {t ticks i : ℕ} {vs ts : List ℕ} → ticks ≡ t → vs ≡ ts → IsFirstAt ticks vs i → IsFirstAt t ts i
first_in {t} {ticks} {i} {vs} same is f = subst (λ (ns : List ℕ). IsFirstAt t ns i) is (subst (λ n. IsFirstAt n vs i) same f)

next_first : {t u : ℕ} {ts : List ℕ} {i : ℕ} → IsFirstAt t (u ∷ ts) (suc i) → IsFirstAt t ts i
next_first f = record { within = omega (arith, f.within); there = f.there; first = λ k h. f.first (suc k) (omega (arith, h)) }

first_leaves : (slab : Slab Transaction) (t : ℕ) (ts ks : List ℕ) (i k : ℕ) → length ts ≡ length ks → IsFirstAt t ts i → k ≡ get_or ks i k →
    due t (events_of slab ts ks) ≡ at slab k ∷ due t (events_of slab (remove ts i) (remove ks i))
first_leaves slab t [] ks i k long f is = absurd (omega (arith, f.within))
first_leaves slab t (u ∷ ts) [] i k long f is = absurd (omega (arith, long))
first_leaves slab t (u ∷ ts) (j ∷ ks) zero k long f is =
    let same : u ≡ t = f.there in
    let now : nat_eq u t ≡ true = grind (arith, nat_tests) in
    rw now (ap (λ n. at slab n ∷ due t (events_of slab ts ks)) (sym is))
first_leaves slab t (u ∷ ts) (j ∷ ks) (suc i) k long f is =
    let other : u ≢ t = f.first 0 (omega arith) in
    let later : nat_eq u t ≡ false = grind (arith, nat_tests) in
    rw later (first_leaves slab t ts ks i k (omega (arith, long)) (next_first f) is)

others_stay : (slab : Slab Transaction) (t : ℕ) (ts ks : List ℕ) (i : ℕ) → length ts ≡ length ks → IsFirstAt t ts i →
    filter (λ e. not (is_due t e)) (events_of slab (remove ts i) (remove ks i)) ≡ filter (λ e. not (is_due t e)) (events_of slab ts ks)
others_stay slab t [] ks i long f = absurd (omega (arith, f.within))
others_stay slab t (u ∷ ts) [] i long f = absurd (omega (arith, long))
others_stay slab t (u ∷ ts) (j ∷ ks) zero long f =
    let same : u ≡ t = f.there in
    let now : nat_eq u t ≡ true = grind (arith, nat_tests) in
    rw now refl
others_stay slab t (u ∷ ts) (j ∷ ks) (suc i) long f =
    let other : u ≢ t = f.first 0 (omega arith) in
    let later : nat_eq u t ≡ false = grind (arith, nat_tests) in
    rw later
    (ap (λ (es : List Event). record { time = u; transaction = at slab j } ∷ es) (others_stay slab t ts ks i (omega (arith, long)) (next_first f)))

times_left : (ts : List ℕ) (i : ℕ) → AreTimes ts → AreTimes (remove ts i)
times_left [] i times = times_none i where
  times_none : (i : ℕ) → AreTimes (remove [] i)
  times_none zero = tt
  times_none (suc i) = tt
times_left (t ∷ ts) zero times = times.1
times_left (t ∷ ts) (suc i) times = (times.0, times_left ts i times.1)

length_left : (ks : List ℕ) (i : ℕ) → i < length ks → length (remove ks i) + 1 ≡ length ks
length_left [] i h = absurd (omega (arith, h))
length_left (k ∷ ks) zero h = omega arith
length_left (k ∷ ks) (suc i) h = omega (arith, length_left ks i (omega (arith, h)))

module _ {slab slab' : Slab Transaction} {k : ℕ} {x : Transaction} (u : Updates slab slab' k None) (there : get slab k ≡ Some x)
    {ts ks : List ℕ} {ticks : ℕ} (b : IsBlock slab ts ks ticks) (t i : ℕ) (f : IsFirstAt t ts i) (is : k ≡ get_or ks i k) where
  within : i < length ks
  within = omega (arith, f.within, b.long)

  gone : places k (remove ks i) ≡ 0
  gone = omega (arith, places_left k ks i k within is, places_same k, b.places k, occupied_most slab k)

  left_kept : events_of slab' (remove ts i) (remove ks i) ≡ events_of slab (remove ts i) (remove ks i)
  left_kept = events_kept u (remove ts i) (remove ks i) gone

  pub due_left : due t (events_of slab ts ks) ≡ x ∷ due t (events_of slab' (remove ts i) (remove ks i))
  due_left =
      let found : at slab k ≡ x = ap (λ o. unwrap_or o no_transaction) there in
      first_leaves slab t ts ks i k b.long f is
      ∙ (ap (λ (y : Transaction). y ∷ due t (events_of slab (remove ts i) (remove ks i))) found
      ∙ ap (λ (es : List Event). x ∷ due t es) (sym left_kept))

  pub stay_left : filter (λ e. not (is_due t e)) (events_of slab' (remove ts i) (remove ks i)) ≡ filter (λ e. not (is_due t e)) (events_of slab ts ks)
  stay_left = ap (filter (λ e. not (is_due t e))) left_kept ∙ others_stay slab t ts ks i b.long f

  long_left : length (remove ts i) ≡ length (remove ks i)
  long_left = omega (arith, b.long, length_left ts i f.within, length_left ks i within)

  pub len_left : length (events_of slab' (remove ts i) (remove ks i)) + 1 ≡ length (events_of slab ts ks)
  len_left =
      omega (arith, length_events slab' (remove ts i) (remove ks i) long_left, length_events slab ts ks b.long, length_left ts i f.within)

  pub block_left : (least' : ℕ) → least' ≡ unwrap_or (least (remove ts i)) (2 ^ 64 - 1) → IsBlock slab' (remove ts i) (remove ks i) least'
  block_left least' new = record {
    long = long_left;
    places = λ j. elim (cases_eq j k) [
      | inl same ↦ rw same (omega (arith, gone, occupied_there u))
      | inr other ↦ omega (arith, places_left j ks i k within is, places_other j k other, b.places j, occupied_kept u j other)
    ];
    times = times_left ts i b.times;
    least = least_is slab' (remove ts i) (remove ks i) long_left (times_left ts i b.times) ∙ ap time_of (sym new);
  }

pub none_there : (slab : Slab Transaction) (t : ℕ) (ts ks : List ℕ) → All (λ (other : ℕ). other ≢ t) ts → due t (events_of slab ts ks) ≡ []
none_there slab t [] ks others = refl
none_there slab t (u ∷ ts) [] others = refl
none_there slab t (u ∷ ts) (k ∷ ks) others =
    let other : u ≢ t = others 0 0 (omega arith) in
    let later : nat_eq u t ≡ false = grind (arith, nat_tests) in
    rw later (none_there slab t ts ks (λ i d h. others (suc i) d (omega (arith, h))))

-- a slab with the same slots
module _ (slab slab' : Slab Transaction) (same : slab'.slots ≡ slab.slots) (ts ks : List ℕ) where
  pub events_same : events_of slab' ts ks ≡ events_of slab ts ks
  events_same = ap (λ (ss : List (Option Transaction)). events_of (record { slots = ss; vacant_key = 0; capacity = 0 }) ts ks) same

  pub block_same : (ticks : ℕ) → IsBlock slab ts ks ticks → IsBlock slab' ts ks ticks
  block_same ticks b = record {
    long = b.long;
    places = λ k. b.places k ∙ ap (λ (ss : List (Option Transaction)). occupied (record { slots = ss; vacant_key = 0; capacity = 0 }) k) (sym same);
    times = b.times;
    least = ap least_time events_same ∙ b.least;
  }

slot_copied : (x y : Option Transaction) → IsSlotClone (λ (v w : Transaction). w ≡ v) x y → y ≡ x
slot_copied None y h = h
slot_copied (Some v) None h = absurd h
slot_copied (Some v) (Some w) h = ap (λ z. Some z) h

pub slots_copied : (xs ys : List (Option Transaction)) → AllZip (IsSlotClone (λ (v w : Transaction). w ≡ v)) xs ys → ys ≡ xs
slots_copied xs ys h = same_from_all_zip (IsSlotClone (λ (v w : Transaction). w ≡ v)) xs ys h slot_copied

pub numbers_copied : (xs ys : List ℕ) → AllZip (λ (x y : ℕ). y ≡ x) xs ys → ys ≡ xs
numbers_copied xs ys h = same_from_all_zip (λ (x y : ℕ). y ≡ x) xs ys h (λ x y same. same)
