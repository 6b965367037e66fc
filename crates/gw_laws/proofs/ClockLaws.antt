-- The clock and the future chain, move by move and over a run.
use Rattle.std.proofs.Common.{◌≡◌, ℕ, ◌≤◌, min, not, List, [], ◌∷◌, ◌++◌, filter, Option, Some, None, Ok, refl, arith}
use Rattle.std.specs.List.{AllByRecursion}
use Rattle.std.proofs.lemmas.Bool.{cond_both, leb-true}
use Rattle.std.proofs.lemmas.List.Elements.{All-from_recursion}
use Rattle.gw_meaning.specs.declared.transaction.Transaction.{Transaction}
use Rattle.gw_meaning.specs.declared.transaction.Event.{Event}
use Rattle.gw_meaning.specs.declared.moves.Arrival.{Arrival}
use Rattle.gw_meaning.specs.declared.moves.Change.{Change}
use Rattle.gw_meaning.specs.declared.moves.Fate.{Fate}
use Rattle.gw_meaning.specs.declared.moves.Fate.TheVariants as fates
use Rattle.gw_meaning.specs.declared.moves.Move.{Move}
use Rattle.gw_meaning.specs.declared.moves.Move.TheVariants as moves
use Rattle.gw_meaning.specs.Listing.{Listing}
use Rattle.gw_meaning.specs.Machine.{Machine}
use Rattle.gw_meaning.specs.Changes.{Making, made, all_made, making_of, fated, refused, is_due, moved, watching}
use Rattle.gw_meaning.specs.Step.{run, sooner, least_time}
use Rattle.gw_frame.proofs.Lawful.{all_with}
use Rattle.gw_frame.proofs.Known.{IsQueueArrival, IsDecidedFate, IsDecided}
use Rattle.gw_frame.proofs.Moves.{settled_is, with_active_has, entered_has, picked_has}
use Rattle.gw_frame.proofs.Running.{over_run, over_rest}
use Rattle.gw_laws.specs.Clock.{ClockNeverGoesBack, ClockStaysWithin, NothingIsOverdue}
use Rattle.gw_laws.proofs.Waiting.{let_in_is}
use Rattle.gw_laws.proofs.Anew.{no_clear}
use Rattle.gw_laws.specs.Anew.{Clears}

-- no time lies before this one
abbrev pub AreAhead : ℕ → List Event → Type 0
AreAhead clock = AllByRecursion (λ (e : Event). clock ≤ e.time)

-- the clock lies within the horizon, and no time before the clock
abbrev pub IsInTime : Listing → Machine → Type 0
IsInTime t s = (s.clock ≤ t.horizon) × AreAhead s.clock s.future

-- the same of a state after one with this clock
abbrev pub GoesOn : Listing → ℕ → Machine → Type 0
GoesOn t clock v = (clock ≤ v.clock) × IsInTime t v

ahead_of_less : (low high : ℕ) (es : List Event) → low ≤ high → AreAhead high es → AreAhead low es
ahead_of_less low high [] less h = tt
ahead_of_less low high (e ∷ es) less h = (omega (arith, h.0), ahead_of_less low high es less h.1)

-- the least time: none lies before it, and it lies before none that all lie ahead of
pub never_none : (time : ℕ) (o : Option ℕ) → sooner time o ≡ None → ⊥
never_none time None is = absurd cc
never_none time (Some other) is = absurd cc

nothing_there : (clock : ℕ) (es : List Event) → least_time es ≡ None → AreAhead clock es
nothing_there clock [] is = tt
nothing_there clock (e ∷ es) is = absurd (never_none e.time (least_time es) is)

pub least_is_least : (es : List Event) (time : ℕ) → least_time es ≡ Some time → AreAhead time es
least_is_least [] time is = tt
least_is_least (e ∷ es) time is = go (least_time es) refl is (least_is_least es) where
  go : (o : Option ℕ) → least_time es ≡ o → sooner e.time o ≡ Some time → ((other : ℕ) → least_time es ≡ Some other → AreAhead other es) →
      AreAhead time (e ∷ es)
  go None rest is later = let same : e.time ≡ time = cc in (omega arith, nothing_there time es rest)
  go (Some other) rest is later =
      let same : min e.time other ≡ time = cc in
      (omega arith, ahead_of_less time other es (omega arith) (later other rest))

least_is_ahead : (clock : ℕ) (es : List Event) (time : ℕ) → least_time es ≡ Some time → AreAhead clock es → clock ≤ time
least_is_ahead clock [] time is h = absurd cc
least_is_ahead clock (e ∷ es) time is h = go (least_time es) refl is (λ other rest. least_is_ahead clock es other rest h.1) where
  go : (o : Option ℕ) → least_time es ≡ o → sooner e.time o ≡ Some time → ((other : ℕ) → least_time es ≡ Some other → clock ≤ other) → clock ≤ time
  go None rest is later = let same : e.time ≡ time = cc in omega (arith, h.0)
  go (Some other) rest is later =
      let same : min e.time other ≡ time = cc in
      omega (arith, h.0, later other rest)

rest_ahead : (clock time : ℕ) (es : List Event) → AreAhead clock es → AreAhead clock (filter (λ e. not (is_due time e)) es)
rest_ahead clock time [] h = tt
rest_ahead clock time (e ∷ es) h =
    cond_both (not (is_due time e)) (e ∷ filter (λ e. not (is_due time e)) es) (filter (λ e. not (is_due time e)) es) (AreAhead clock)
    (λ _. (h.0, rest_ahead clock time es h.1)) (λ _. rest_ahead clock time es h.1)

all_made_ahead : (t : Listing) (s : Machine) (arrivals : List Arrival) (w : Making) → AllByRecursion (IsQueueArrival t s) arrivals → AreAhead s.clock w.future →
    AreAhead s.clock (all_made arrivals w).future
all_made_ahead t s [] w coming h = h
all_made_ahead t s (a ∷ rest) w coming h =
    all_made_ahead t s rest (made a w) coming.1 (all_with (λ (e : Event). s.clock ≤ e.time) w.future _ h (coming.0.ahead, tt))

fated_ahead : (change : Change) (fate : Fate) (x : Transaction) (s : Machine) → IsDecidedFate s change fate → AreAhead s.clock s.future → AreAhead s.clock (fated fate x s).future
fated_ahead change (fates.Delayed until) x s decided h = all_with (λ (e : Event). s.clock ≤ e.time) s.future _ h (decided.1, tt)
fated_ahead change fate x s decided h = h

-- each move
pub moved_goes_on : (t : Listing) (s : Machine) (m : Move) → IsDecided t s m → (Clears m → ⊥) → IsInTime t s → GoesOn t s.clock (moved s m)
moved_goes_on t s (moves.Start count arrivals) decided apart h = (omega arith, (h.0, all_made_ahead t s arrivals (making_of s) decided.coming h.1))
moved_goes_on t s moves.Command decided apart h = (omega arith, h)
moved_goes_on t s moves.Reset decided apart h = (omega arith, h)
moved_goes_on t s moves.Clear decided apart h = absurd (apart tt)
moved_goes_on t s (moves.Enter id change fate) decided apart h =
    let P : Machine → Type 0 = λ v. (v.clock ≡ s.clock) × AreAhead s.clock v.future in
    let whole : P (moved s (moves.Enter id change fate)) =
    entered_has P P t s id change fate decided.1 (refl, h.1) (λ x is. ((settled_is s x id change fate).clock, fated_ahead change fate _ _ decided.2 h.1))
    (λ v. record {
      nothing = λ k. k;
      one = λ a coming k. (k.0, all_with (λ (e : Event). s.clock ≤ e.time) v.future _ k.1 (coming.ahead, tt));
      lets = λ w key x passed xs is k. (let same = let_in_is key x (passed ++ xs) w in rw (same.clock, same.future) k);
      copies = λ w to x values copying k. k;
      unlinks = λ w key to x xs named is k. k;
    }) in
    rw whole.0 (omega arith, (h.0, whole.1))
moved_goes_on t s (moves.Refuse id key units) decided apart h =
    with_active_has (GoesOn t s.clock) s.active (λ x. refused s x id key units) s (omega arith, h) (λ x is. (omega arith, h))
moved_goes_on t s (moves.Watch read) decided apart h =
    with_active_has (GoesOn t s.clock) s.active (λ x. watching s x read) s (omega arith, h) (λ x is. (omega arith, h))
moved_goes_on t s moves.Pick decided apart h = picked_has (GoesOn t s.clock) s s.current (omega arith, h) (λ x xs is. (omega arith, h))
moved_goes_on t s (moves.Clock time) decided apart h = (
  least_is_ahead s.clock s.future time decided.0 h.1,
  (leb-true time t.horizon decided.1, rest_ahead time time s.future (least_is_least s.future time decided.0)),
)

pub moved_in_time : (t : Listing) (s : Machine) (m : Move) → IsDecided t s m → IsInTime t s → IsInTime t (moved s m)
moved_in_time t s moves.Clear decided h = (omega arith, tt)
moved_in_time t s m decided h = (moved_goes_on t s m decided (λ c. c) h).1

-- over a run
all_in_time : (t : Listing) (seed n : ℕ) (s : Machine) → run t seed n ≡ Ok s → IsInTime t s
all_in_time t seed = over_run t seed (λ n s. IsInTime t s) (omega arith, tt) (λ n s m streams there decided h. moved_in_time t s m decided h)

pub clock_stays_within : ClockStaysWithin
clock_stays_within t seed n s is = (all_in_time t seed n s is).0

pub nothing_is_overdue : NothingIsOverdue
nothing_is_overdue t seed n s is = All-from_recursion (λ (e : Event). s.clock ≤ e.time) s.future (all_in_time t seed n s is).1

pub clock_never_goes_back : ClockNeverGoesBack
clock_never_goes_back t seed m n s v before there is none =
    (over_rest t seed (λ i w. (m ≤ i) × (i ≤ n → s.clock ≤ w.clock)) m s there (omega arith, λ early. omega arith)
    (λ k u move streams at decided h. (
      omega (arith, h.0),
      λ early.
          let apart = no_clear t u move decided (none k u h.0 (omega (arith, early)) at) in
          let goes = (moved_goes_on t u move decided apart (all_in_time t seed k u at)).0 in
          let so_far = h.1 (omega (arith, early)) in
          omega (arith, so_far, goes),
    )) n v before is).1 (omega arith)
