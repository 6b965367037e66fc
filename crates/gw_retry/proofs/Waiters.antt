-- Waiters, each with the list that it read, and the marks of what they read.
use Rattle.std.proofs.Common.{◌≡◌, ℕ, suc, ◌+◌, ◌≤◌, Bool, true, false, not, ◌||◌, nat_eq, List, [], ◌∷◌, ◌++◌, length, map, filter, take, Some, slice_get, get_or, refl, sym, ap, ap₂, subst, ◌∙◌, arith}
use Rattle.std.specs.Prelude.{unwrap_or}
use Rattle.std.specs.List.{count_by, list_all, list_any}
use Rattle.std.specs.List.Sorted.{IsPermutation, IsNonDecreasingBy}
use Rattle.std.proofs.lemmas.List.{length-map, map_push, take_more}
use Rattle.std.proofs.lemmas.List.Elements.{All-head, All-tail, All-weaker, All-filter, All-map, filter_passes, filter_agree}
use Rattle.std.proofs.lemmas.List.Kept.{IsNonDecreasingBy-filter}
use Rattle.std.proofs.lemmas.List.Sorted.{IsPermutation-map, IsPermutation-push_more, length_permutation}
use Rattle.std.proofs.lemmas.Option.{slice_get_within, get_or_from_slice_get}
use Rattle.gw_meaning.specs.declared.transaction.Transaction.{Transaction}
use Rattle.gw_meaning.specs.declared.watched.Watched.{Watched}
use Rattle.gw_meaning.specs.Watching.{Waiter, same_watched, is_watched, transactions_of}
use Rattle.gw_meaning.specs.Changes.{is_woken}
use Rattle.gw_retry.specs.declared.retry.Waiting.{Waiting}
use Rattle.gw_retry.specs.Arrivals.{Arrival, by_order, in_order, AreDated}
use Rattle.gw_retry.specs.Groups.{AreGrouped, IsJoined}
use Rattle.gw_retry.specs.Readings.{Readings, Keeps, Marks}
use Rattle.gw_retry.specs.Waiting.{waiter_of, arrival_of, arrivals_of, waiters_of, is_written, woken_of, others_of, IsListed, AreListed, AreKept}
use Rattle.gw_retry.proofs.Grouped.{joined_moved, joined_grouped, joined_all}
use Rattle.gw_retry.proofs.Ordered.{Rise, order_moved, apart_rest, rise_from, same_order, sorted_order, dated_more, dated_moved, dated_sifted, last_waits, sift_order}
use Rattle.gw_retry.proofs.Things.{thing_same, thing_turned}
use Rattle.gw_retry.proofs.Sifted.{filter_mapped, none_passes, both_true, neither_true, true_both, neither}

front_is : {A : Type 0} (xs : List A) (i : ℕ) (x : A) → slice_get xs i ≡ Some x → take (i + 1) xs ≡ take i xs ++ x ∷ []
front_is xs i x there =
    take_more xs i x (slice_get_within xs i x there) ∙ ap (λ y. take i xs ++ y ∷ []) (get_or_from_slice_get xs i x x there)

clash : (b : Bool) → b ≡ true → b ≡ false → ⊥
clash b e f = cc

-- what is marked is not written where nothing that is written is marked
not_written : (marks written : List Watched) (w : Watched) → is_watched marks w ≡ true → list_any (is_watched marks) written ≡ false →
    is_watched written w ≡ false
not_written marks [] w marked none = refl
not_written marks (v ∷ vs) w marked none =
    let parts = neither_true (is_watched marks v) (list_any (is_watched marks) vs) none in
    go (same_watched w v) refl parts.0 (not_written marks vs w marked parts.1) where
      go : (b : Bool) → same_watched w v ≡ b → is_watched marks v ≡ false → is_watched vs w ≡ false → (same_watched w v || is_watched vs w) ≡ false
      go true h apart rest = absurd (clash (is_watched marks v) (subst (λ x. is_watched marks x ≡ true) (thing_same w v h) marked) apart)
      go false h apart rest = neither (same_watched w v) (is_watched vs w) h rest

-- so no list of marked things has anything that is written
pub none_written : (marks written list : List Watched) → list_all (is_watched marks) list ≡ true → list_any (is_watched marks) written ≡ false →
    list_any (is_watched written) list ≡ false
none_written marks written [] marked none = refl
none_written marks written (w ∷ ws) marked none =
    let parts = both_true (is_watched marks w) (list_all (is_watched marks) ws) marked in
    neither (is_watched written w) (list_any (is_watched written) ws) (not_written marks written w parts.0 none)
    (none_written marks written ws parts.1 none)

-- a list that has nothing that is written stays marked
pub still_marked : (old written new list : List Watched) → Marks old written new → list_all (is_watched old) list ≡ true →
    list_any (is_watched written) list ≡ false → list_all (is_watched new) list ≡ true
still_marked old written new [] keeps marked none = refl
still_marked old written new (w ∷ ws) keeps marked none =
    let parts = both_true (is_watched old w) (list_all (is_watched old) ws) marked in
    let others = neither_true (is_watched written w) (list_any (is_watched written) ws) none in
    true_both (is_watched new w) (list_all (is_watched new) ws) (keeps w parts.0 others.0)
    (still_marked old written new ws keeps parts.1 others.1)

pub nothing_written : (list : List Watched) → list_any (is_watched []) list ≡ false
nothing_written [] = refl
nothing_written (w ∷ ws) = nothing_written ws

-- the list of a waiter
pub list_of : (lists : List (List Watched)) (w : Waiting) (list : List Watched) → slice_get lists w.place ≡ Some list →
    (waiter_of lists w).read ≡ list
list_of lists w list there = ap (λ o. unwrap_or o []) there

-- whom nothing that is written concerns
pub not_woken : (r : Readings) (written : List Watched) (w : Waiting) → list_any (is_watched r.marks) written ≡ false → IsListed r w →
    is_woken written (waiter_of r.lists w) ≡ false
not_woken r written w none h =
    ap (list_any (is_watched written)) (list_of r.lists w h.list h.there) ∙ none_written r.marks written h.list h.marked none

-- ---- who is sifted by a test of waiters

pub sifted_waiters : (p : Waiter → Bool) (lists : List (List Watched)) (next : ℕ) (ws : List Waiting) → AreDated next (arrivals_of lists ws) →
    filter p (waiters_of lists ws) ≡ waiters_of lists (filter (λ w. p (waiter_of lists w)) ws)
sifted_waiters p lists next ws dated =
    let q : Arrival → Bool = λ a. p a.1 in
    filter_mapped (λ (a : Arrival). a.1) p (by_order (arrivals_of lists ws)) ∙
    (ap (map (λ (a : Arrival). a.1)) (sift_order q (arrivals_of lists ws) dated.apart) ∙ ap in_order (filter_mapped (arrival_of lists) q ws))

pub length_waiters : (lists : List (List Watched)) (ws : List Waiting) → length (waiters_of lists ws) ≡ length ws
length_waiters lists ws =
    length-map (by_order (arrivals_of lists ws)) (λ (a : Arrival). a.1) ∙
    (length_permutation (arrivals_of lists ws) (by_order (arrivals_of lists ws)) (order_moved (arrivals_of lists ws)) ∙
    length-map ws (arrival_of lists))

pub none_woken : (r : Readings) (written : List Watched) (next : ℕ) (ws : List Waiting) → list_any (is_watched r.marks) written ≡ false →
    AreKept r next ws → filter (is_woken written) (waiters_of r.lists ws) ≡ []
none_woken r written next ws none h =
    sifted_waiters (is_woken written) r.lists next ws h.dated ∙
    ap (waiters_of r.lists) (none_passes (λ w. is_woken written (waiter_of r.lists w)) ws
    (All-weaker (IsListed r) (λ w. is_woken written (waiter_of r.lists w) ≡ false) (λ w k. not_woken r written w none k) ws h.listed))

pub count_waiters : (r : Readings) (written : List Watched) (next : ℕ) (ws : List Waiting) → AreKept r next ws →
    length (woken_of r.lists written ws) ≡ length (filter (is_woken written) (waiters_of r.lists ws))
count_waiters r written next ws h =
    sym (ap length (sifted_waiters (is_woken written) r.lists next ws h.dated) ∙
    length_waiters r.lists (woken_of r.lists written ws))

-- more lists and more marks leave the waiters xs they are
pub listed_more : (r s : Readings) (w : Waiting) → Keeps r.lists s.lists → Marks r.marks [] s.marks → IsListed r w → IsListed s w
listed_more r s w lists marks h = record {
  list = h.list;
  there = lists w.place h.list h.there;
  marked = still_marked r.marks [] s.marks h.list marks h.marked (nothing_written h.list);
}

pub all_listed_more : (r s : Readings) (ws : List Waiting) → Keeps r.lists s.lists → Marks r.marks [] s.marks → AreListed r ws → AreListed s ws
all_listed_more r s ws lists marks all =
    All-weaker (IsListed r) (IsListed s) (λ w h. listed_more r s w lists marks h) ws all

same_waiter : (r s : Readings) (w : Waiting) → Keeps r.lists s.lists → IsListed r w → waiter_of s.lists w ≡ waiter_of r.lists w
same_waiter r s w lists h =
    ap (λ (list : List Watched). record { transaction = w.transaction; read = list })
    (list_of s.lists w h.list (lists w.place h.list h.there) ∙ sym (list_of r.lists w h.list h.there))

same_arrivals : (r s : Readings) (ws : List Waiting) → Keeps r.lists s.lists → AreListed r ws → arrivals_of r.lists ws ≡ arrivals_of s.lists ws
same_arrivals r s [] lists all = refl
same_arrivals r s (w ∷ ws) lists all =
    ap₂ (λ (v : Waiter) (xs : List Arrival). (w.order, v) ∷ xs) (sym (same_waiter r s w lists (All-head (IsListed r) w ws all)))
    (same_arrivals r s ws lists (All-tail (IsListed r) w ws all))

pub same_waiters : (r s : Readings) (ws : List Waiting) → Keeps r.lists s.lists → AreListed r ws → waiters_of s.lists ws ≡ waiters_of r.lists ws
same_waiters r s ws lists all = ap in_order (sym (same_arrivals r s ws lists all))

pub kept_more : (r s : Readings) (next : ℕ) (ws : List Waiting) → Keeps r.lists s.lists → Marks r.marks [] s.marks → AreKept r next ws → AreKept s next ws
kept_more r s next ws lists marks h = record {
  listed = all_listed_more r s ws lists marks h.listed;
  grouped = h.grouped;
  dated = subst (AreDated next) (same_arrivals r s ws lists h.listed) h.dated;
}

-- ---- one more waits

joined_arrivals : (lists : List (List Watched)) (w : Waiting) (ws all : List Waiting) → IsJoined w ws all →
    IsPermutation (arrival_of lists w ∷ arrivals_of lists ws) (arrivals_of lists all)
joined_arrivals lists w ws all joined = IsPermutation-map (arrival_of lists) (w ∷ ws) all (joined_moved w ws all joined)

pub kept_joined : (r : Readings) (w : Waiting) (ws all : List Waiting) → IsJoined w ws all → IsListed r w → AreKept r w.order ws →
    AreKept r (w.order + 1) all
kept_joined r w ws all joined listed h = record {
  listed = joined_all (IsListed r) w ws all joined listed h.listed;
  grouped = joined_grouped w ws all h.grouped joined;
  dated = dated_moved (w.order + 1) (arrival_of r.lists w ∷ arrivals_of r.lists ws) (arrivals_of r.lists all) (joined_arrivals r.lists w ws all joined)
      (dated_more (arrival_of r.lists w) (arrivals_of r.lists ws) h.dated);
}

pub waiters_joined : (r : Readings) (w : Waiting) (ws all : List Waiting) (read : List Watched) → IsJoined w ws all → AreKept r w.order ws →
    slice_get r.lists w.place ≡ Some read → waiters_of r.lists all ≡ waiters_of r.lists ws ++ record { transaction = w.transaction; read = read } ∷ []
waiters_joined r w ws all read joined h there =
    last_waits (arrival_of r.lists w) (arrivals_of r.lists ws) (arrivals_of r.lists all) (joined_arrivals r.lists w ws all joined) h.dated ∙
    ap (λ (list : List Watched). waiters_of r.lists ws ++ record { transaction = w.transaction; read = list } ∷ []) (list_of r.lists w read there)

-- ---- they are laid out anew

-- one more of some waiters joins others, beside lists of their own
pub one_laid : (r s t : Readings) (items ws all : List Waiting) (i : ℕ) (v w : Waiting) (read : List Watched) → slice_get items i ≡ Some w →
    slice_get r.lists w.place ≡ Some read → slice_get t.lists v.place ≡ Some read → v.order ≡ w.order → v.transaction ≡ w.transaction →
    Keeps s.lists t.lists → AreListed s ws → IsJoined v ws all →
    IsPermutation (arrivals_of r.lists (take i items)) (arrivals_of s.lists ws) →
    IsPermutation (arrivals_of r.lists (take (i + 1) items)) (arrivals_of t.lists all)
one_laid r s t items ws all i v w read at was there order same keeps listed joined old =
    let a : Arrival = arrival_of r.lists w in
    let before : List Arrival = arrivals_of r.lists (take i items) in
    let is : arrival_of t.lists v ≡ a =
    ap₂ (λ (n : ℕ) (u : Waiter). (n, u)) order
    (ap₂ (λ (x : Transaction) (list : List Watched). record { transaction = x; read = list }) same
    (list_of t.lists v read there ∙ sym (list_of r.lists w read was))) in
    let more : arrivals_of r.lists (take (i + 1) items) ≡ before ++ a ∷ [] =
    ap (arrivals_of r.lists) (front_is items i w at) ∙ map_push (arrival_of r.lists) (take i items) w in
    subst (λ xs. IsPermutation xs (arrivals_of t.lists all)) (sym more)
    (IsPermutation-push_more before (arrivals_of t.lists ws) (arrivals_of t.lists all) a
    (subst (IsPermutation before) (same_arrivals s t ws keeps listed) old)
    (subst (λ b. IsPermutation (b ∷ arrivals_of t.lists ws) (arrivals_of t.lists all)) is (joined_arrivals t.lists v ws all joined)))

pub kept_laid : (r s : Readings) (next : ℕ) (ws all : List Waiting) → AreListed s all → AreGrouped all →
    IsPermutation (arrivals_of r.lists ws) (arrivals_of s.lists all) → AreKept r next ws → AreKept s next all
kept_laid r s next ws all listed grouped moved h = record {
  listed = listed;
  grouped = grouped;
  dated = dated_moved next (arrivals_of r.lists ws) (arrivals_of s.lists all) moved h.dated;
}

pub waiters_laid : (r s : Readings) (next : ℕ) (ws all : List Waiting) → IsPermutation (arrivals_of r.lists ws) (arrivals_of s.lists all) →
    AreKept r next ws → waiters_of s.lists all ≡ waiters_of r.lists ws
waiters_laid r s next ws all moved h =
    ap (map (λ (a : Arrival). a.1)) (sym (same_order (arrivals_of r.lists ws) (arrivals_of s.lists all) moved h.dated.apart))

-- ---- some are woken

-- those who are not woken stay listed when the marks of what is written go
pub not_true : (b : Bool) → not b ≡ true → b ≡ false
not_true true h = absurd cc
not_true false h = refl

pub others_listed : (r s : Readings) (written : List Watched) (ws : List Waiting) → s.lists ≡ r.lists → Marks r.marks written s.marks → AreListed r ws →
    AreListed s (filter (λ w. not (is_woken written (waiter_of r.lists w))) ws)
others_listed r s written ws lists marks all = λ k d h.
    let stays : Waiting → Bool = λ w. not (is_woken written (waiter_of r.lists w)) in
    let w : Waiting = get_or (filter stays ws) k d in
    let listed : IsListed r w = All-filter stays (IsListed r) ws all k d h in
    let passes : is_woken written (waiter_of r.lists w) ≡ false = not_true _ (filter_passes stays ws k d h) in
    let apart : list_any (is_watched written) listed.list ≡ false =
    ap (list_any (is_watched written)) (sym (list_of r.lists w listed.list listed.there)) ∙ passes in
    record {
      list = listed.list;
      there = ap (λ ls. slice_get ls w.place) lists ∙ listed.there;
      marked = still_marked r.marks written s.marks listed.list marks listed.marked apart;
    }

pub kept_others : (r s : Readings) (written : List Watched) (next : ℕ) (ws : List Waiting) → s.lists ≡ r.lists → Marks r.marks written s.marks →
    AreKept r next ws → AreKept s next (others_of r.lists written ws)
kept_others r s written next ws lists marks h =
    let stays : Waiting → Bool = λ w. not (is_written r.lists written w.place) in
    let stays_still : Arrival → Bool = λ a. not (is_woken written a.1) in
    record {
      listed = others_listed r s written ws lists marks h.listed;
      grouped = IsNonDecreasingBy-filter (λ (w : Waiting). w.place) stays ws h.grouped;
      dated = subst (AreDated next) (filter_mapped (arrival_of r.lists) stays_still ws ∙ ap (λ ls. arrivals_of ls (filter stays ws)) (sym lists))
          (dated_sifted stays_still next (arrivals_of r.lists ws) h.dated);
    }

pub others_wait : (r s : Readings) (written : List Watched) (next : ℕ) (ws : List Waiting) → s.lists ≡ r.lists → AreKept r next ws →
    waiters_of s.lists (others_of r.lists written ws) ≡ filter (λ w. not (is_woken written w)) (waiters_of r.lists ws)
others_wait r s written next ws lists h =
    ap (λ ls. waiters_of ls (others_of r.lists written ws)) lists ∙
    sym (sifted_waiters (λ w. not (is_woken written w)) r.lists next ws h.dated)

-- some in order of coming rise
sorted_rise : (lists : List (List Watched)) (ws : List Waiting) → IsNonDecreasingBy (λ (w : Waiting). w.order) ws →
    ((n : ℕ) → count_by (λ (a : Arrival). nat_eq a.0 n) (arrivals_of lists ws) ≤ 1) → Rise (arrivals_of lists ws)
sorted_rise lists [] up apart = tt
sorted_rise lists (w ∷ ws) up apart = (
  rise_from (arrival_of lists w) (arrivals_of lists ws)
      (All-map (λ (b : Arrival). w.order ≤ b.0) (arrival_of lists) ws (λ k d h. up 0 (suc k) d (omega arith) (omega (arith, h)))) apart,
  sorted_rise lists ws (λ i j d order within. up (suc i) (suc j) d (omega (arith, order)) (omega (arith, within)))
      (apart_rest (arrival_of lists w) (arrivals_of lists ws) apart),
)

transactions_are : (lists : List (List Watched)) (ws : List Waiting) →
    transactions_of (map (λ (a : Arrival). a.1) (arrivals_of lists ws)) ≡ map (λ (w : Waiting). w.transaction) ws
transactions_are lists [] = refl
transactions_are lists (w ∷ ws) = ap (λ xs. w.transaction ∷ xs) (transactions_are lists ws)

-- those who are woken, in order of coming
pub woken_are : (r : Readings) (written : List Watched) (next : ℕ) (ws going : List Waiting) → AreKept r next ws →
    IsPermutation (woken_of r.lists written ws) going → IsNonDecreasingBy (λ (w : Waiting). w.order) going →
    transactions_of (filter (is_woken written) (waiters_of r.lists ws)) ≡ map (λ (w : Waiting). w.transaction) going
woken_are r written next ws going h moved sorted =
    let goes : Waiting → Bool = λ w. is_written r.lists written w.place in
    let goes_then : Arrival → Bool = λ a. is_woken written a.1 in
    let woken : List Arrival = arrivals_of r.lists (filter goes ws) in
    let dated : AreDated next woken =
    subst (AreDated next) (filter_mapped (arrival_of r.lists) goes_then ws) (dated_sifted goes_then next (arrivals_of r.lists ws) h.dated) in
    let same : IsPermutation woken (arrivals_of r.lists going) = IsPermutation-map (arrival_of r.lists) (filter goes ws) going moved in
    let up : Rise (arrivals_of r.lists going) = sorted_rise r.lists going sorted (dated_moved next woken (arrivals_of r.lists going) same dated).apart in
    ap transactions_of (sifted_waiters (is_woken written) r.lists next ws h.dated ∙
    ap (map (λ (a : Arrival). a.1)) (sorted_order woken (arrivals_of r.lists going) same dated.apart up)) ∙ transactions_are r.lists going

-- who read one thing
any_turned : (list : List Watched) (w : Watched) → list_any (is_watched (w ∷ [])) list ≡ is_watched list w
any_turned [] w = refl
any_turned (v ∷ vs) w = go (same_watched v w) (thing_turned v w) (any_turned vs w) where
  go : (b : Bool) → b ≡ same_watched w v → list_any (is_watched (w ∷ [])) vs ≡ is_watched vs w →
      ((b || false) || list_any (is_watched (w ∷ [])) vs) ≡ (same_watched w v || is_watched vs w)
  go true h rest = ap (λ c. c || is_watched vs w) h
  go false h rest = rest ∙ ap (λ c. c || is_watched vs w) h

pub woken_by_one : (w : Watched) (vs : List Waiter) → filter (is_woken (w ∷ [])) vs ≡ filter (λ (v : Waiter). is_watched v.read w) vs
woken_by_one w vs = filter_agree (is_woken (w ∷ [])) (λ (v : Waiter). is_watched v.read w) (λ v. any_turned v.read w) vs
