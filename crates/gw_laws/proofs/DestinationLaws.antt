-- The active transaction enters the block to which it goes, waits to enter it, or waits as it came; those on the current, the
-- future and the retry chain stay in their blocks.
use Rattle.std.proofs.Common.{◌≡◌, ℕ, ℤ, suc, ◌-◌, ◌≤◌, ◌<◌, ◌^◌, nat_eq, Bool, true, false, not, ◌&&◌, ◌||◌, List, [], ◌∷◌, ◌++◌, map, Option, Some, None, refl, ap, sym, subst, ◌∙◌, arith, inl, inr, ◌⊎◌}
use Rattle.std.specs.Prelude.{Contains, option_to_list}
use Rattle.std.proofs.lemmas.Bool.{cases_Bool, cases_lt, false≢true, eq-eqb, eqb-true, ne_eqb, and_parts, and_from, and_left, or_left, or_right}
use Rattle.gw_names.specs.declared.key.Key.{Key}
use Rattle.gw_meaning.specs.Tables.{with_value}
use Rattle.gw_meaning.specs.declared.transaction.Transaction.{Transaction}
use Rattle.gw_meaning.specs.declared.transaction.Event.{Event}
use Rattle.gw_meaning.specs.declared.moves.Arrival.{Arrival}
use Rattle.gw_meaning.specs.declared.moves.Change.{Change}
use Rattle.gw_meaning.specs.declared.moves.Fate.{Fate}
use Rattle.gw_meaning.specs.declared.moves.Fate.TheVariants as fates
use Rattle.gw_meaning.specs.declared.moves.Move.{Move}
use Rattle.gw_meaning.specs.declared.moves.Move.TheVariants as moves
use Rattle.gw_meaning.specs.Listing.{Listing}
use Rattle.gw_meaning.specs.Machine.{Machine, delay_at, waiting, members_of, user_chain_at}
use Rattle.gw_meaning.specs.Changes.{Making, lined_up, made, all_made, started, making_of, with_making, newcomer, placed, marked, fated, let_in, one_let_in, copied, one_copied, sent, one_unlinked, entering, bound, refused, with_active, moved, watching, written, woken, decided}
use Rattle.gw_meaning.proofs.Programs.{run_on}
use Rattle.gw_meaning.specs.declared.watched.Watched.{Watched}
use Rattle.gw_meaning.specs.Watching.{Waiter, transactions_of}
use Rattle.gw_frame.proofs.Moves.{LetsIn, settled, settled_is, marked_same, with_active_has, entered_has, picked_has}
use Rattle.gw_frame.proofs.Decided.{step_decides}
use Rattle.gw_frame.proofs.Known.{IsDecided, IsAttempt, IsStep}
use Rattle.gw_laws.specs.Living.{living}
use Rattle.gw_laws.specs.Destinations.{goes_to, WentWhereItGoes, GoesToItsDestination, on_chains, OthersStayInTheirBlocks, WaitsAsItCame}
use Rattle.gw_laws.proofs.Waiting.{leaving, let_in_as, let_in_number, let_in_is}
use Rattle.gw_laws.proofs.Crowd.{one, many, others, crowd, active_many, active_crowd, many_active, many_has, many_append, many_future, many_living, many_lined, many_without, future_push, waiting_with, less_linked, sent_crowd, lets_crowd, copied_crowd, remains_less, settled_crowd, settled_linked, settled_fewer, refused_crowd, picked_crowd, advanced_crowd, watching_crowd, woken_crowd}
use Rattle.gw_laws.proofs.NumberLaws.{has_number, IsNumbered, all_numbered}
use Rattle.gw_laws.proofs.Room.{all_within}
use Rattle.gw_laws.proofs.OwnValueLaws.{many_parts}
use Rattle.gw_laws.proofs.Tried.{Makes, AllKeep, changed_keeps, over_moves}
use Rattle.gw_laws.proofs.Waking.{nobody_wakes}
use Rattle.gw_laws.proofs.GateLaws.{transaction_there}
use Rattle.gw_streams.specs.declared.stream.Stream.{Stream}
use Rattle.gw_laws.proofs.Anew.{clears_or, nobody_lives, nobody_in, crowd_reset, members_anew}
use Rattle.gw_laws.specs.Anew.{Clears}

-- ---- where no START is under way, none is active

abbrev Idle : Machine → Type 0
Idle s = s.remaining ≡ 0 → s.active ≡ None

fated_idle : (fate : Fate) (x : Transaction) (v : Machine) → 1 ≤ v.remaining → Idle (fated fate x v)
fated_idle fates.Active x v busy = λ none. absurd (omega (arith, busy, none))
fated_idle fate x v busy = λ none. refl

lets_idle : LetsIn Idle
lets_idle w key x passed xs is h = go x.destination where
  go : (to : Option ℕ) → Idle (let_in x to (leaving w key (passed ++ xs)))
  go None = h
  go (Some id) = h

moved_idle : (t : Listing) (seed : ℕ) (s : Machine) (m : Move) → IsStep t seed s m → Idle s → Idle (moved s m)
moved_idle t seed s (moves.Start count arrivals) step h = λ none. h step.0.idle
moved_idle t seed s moves.Command step h = λ none. h step.1.idle
moved_idle t seed s moves.Reset step h = λ none. h step.idle
moved_idle t seed s moves.Clear step h = λ none. refl
moved_idle t seed s (moves.Enter id change fate) step h =
    with_active_has Idle s.active (λ x. entering s x id change fate) s h
    (λ x is. changed_keeps Idle change (settled s x id change fate)
    (record { makes = λ a w k. k; lets = lets_idle; copies = λ w to y values k. k; unlinks = λ w key to y ys there k. k })
    (fated_idle fate (marked change s.clock (placed x id)) _ step.0))
moved_idle t seed s (moves.Refuse id key units) step h = with_active_has Idle s.active (λ x. refused s x id key units) s h (λ x is none. refl)
moved_idle t seed s (moves.Watch read) step h = with_active_has Idle s.active (λ x. watching s x read) s h (λ x is none. refl)
moved_idle t seed s moves.Pick step h =
    picked_has Idle s s.current h (λ x xs is none. absurd (let started = step.0 in omega (arith, started, none)))
moved_idle t seed s (moves.Clock time) step h = λ none. absurd (let started = step.0.started in omega (arith, started, none))

-- ---- nobody with a number passes a test

pub is_given : (s : Machine) (x : Transaction) → s.active ≡ Some x → IsNumbered s → x.number < s.next
is_given s x active h =
    elim (cases_lt x.number s.next) [
      | inl below ↦ below
      | inr above ↦ absurd (
          let all = active_crowd (has_number x.number) s x active in
          let here : one (has_number x.number x) ≡ 1 = ap one (eq-eqb x.number x.number refl) in
          let none = h.given x.number above in
          omega arith)
    ]

module _ (k : ℕ) (low : k < 2 ^ 64 - 1) (test : Transaction → Bool) (none_other : (y : Transaction) → has_number k y ≡ false → test y ≡ false) where
  none_in : (xs : List Transaction) → many (has_number k) xs ≡ 0 → many test xs ≡ 0
  none_in [] none = refl
  none_in (y ∷ ys) none =
      let rest = none_in ys (omega (arith, none)) in
      elim (cases_Bool (has_number k y)) [
        | inl is ↦ absurd (let here : one (has_number k y) ≡ 1 = ap one is in omega (arith, none, here))
        | inr other ↦ let no_more : one (test y) ≡ 0 = ap one (none_other y other) in omega (arith, no_more, rest)
      ]

  -- where nobody beside the active one has the number, nobody beside it passes
  none_beside : (s : Machine) → others (has_number k) s ≡ 0 → others test s ≡ 0
  none_beside s none =
      let events = map (λ (e : Event). e.transaction) s.future in
      let whole = many_future (has_number k) s.future in
      let part = many_future test s.future in
      let current = none_in s.current (omega arith) in
      let future = none_in events (omega arith) in
      let wait = none_in (waiting s.delays) (omega arith) in
      let retry = none_in (transactions_of s.retry) (omega arith) in
      let linked = none_in (waiting (members_of s.linked)) (omega arith) in
      omega arith

-- whoever does not pass the last test does not pass the other one, wherever it is sent
module _ (k : ℕ) (low : k < 2 ^ 64 - 1) (test : Transaction → Bool) (none_other : (y : Transaction) → has_number k y ≡ false → test y ≡ false)
    (unsent : Transaction → Bool) (none_sent : (y : Transaction) (to : Option ℕ) → unsent y ≡ false → test (sent to y) ≡ false) where
  -- the number was given, nobody with it waits, nobody passes, and nobody on a user chain would pass
  record IsClear (w : Machine) : Type 0 where
    given : k < w.next
    none_waits : many (has_number k) (waiting w.delays) ≡ 0
    none_linked : many unsent (waiting (members_of w.linked)) ≡ 0
    none_passes : crowd test w ≡ 0

  makes_clear : Makes IsClear
  makes_clear a w h =
      let y = (newcomer w.next a).transaction in
      let other : has_number k y ≡ false = ne_eqb w.next k (λ same. (let given = h.given in omega arith)) in
      let no_more : one (test y) ≡ 0 = ap one (none_other y other) in
      let push = future_push test w.future (newcomer w.next a) in
      record {
        given = let given = h.given in omega (arith, given, low);
        none_waits = h.none_waits;
        none_linked = h.none_linked;
        none_passes = let none = h.none_passes in omega arith;
      }

  lets_clear : LetsIn IsClear
  lets_clear w key y passed ys is h =
      let v = one_let_in key y (passed ++ ys) w in
      let after = let_in_is key y (passed ++ ys) w in
      let none = h.none_waits in
      let chains = waiting_with (has_number k) w.delays key [] in
      let chain : many (has_number k) (delay_at w.delays key) ≡ many (has_number k) (passed ++ y ∷ ys) = ap (many (has_number k)) is in
      let less = many_without (has_number k) passed y ys in
      let none_there : one (has_number k y) ≡ 0 = omega arith in
      let other : has_number k y ≡ false = elim (cases_Bool (has_number k y)) [
        | inl yes' ↦ absurd (let some : one (has_number k y) ≡ 1 = ap one yes' in omega arith)
        | inr not' ↦ not'
      ] in
      let still : has_number k (let_in_as y y.destination) ≡ false = ap (λ n. nat_eq n k) (let_in_number y y.destination) ∙ other in
      let same = lets_crowd test w key y passed ys is (none_other (let_in_as y y.destination) still ∙ sym (none_other y other)) in
      let now : many (has_number k) (waiting v.delays) ≡ many (has_number k) (waiting (with_value w.delays key (passed ++ ys))) =
      ap (λ ds. many (has_number k) (waiting ds)) after.delays in
      let behind = waiting_with (has_number k) w.delays key (passed ++ ys) in
      record {
        given = let given = h.given in let next = after.next in omega (arith, given, next);
        none_waits = omega arith;
        none_linked = ap (λ cs. many unsent (waiting (members_of cs))) after.linked ∙ h.none_linked;
        none_passes = let passes = h.none_passes in omega (arith, same, passes);
      }

  copies_clear : (w : Machine) (to : Option ℕ) (y : Transaction) (values : List (Key × ℤ)) → IsClear w → IsClear (one_copied to y values w)
  copies_clear w to y values h =
      let z = copied y w.next to in
      let other : has_number k z ≡ false = ne_eqb w.next k (λ same. (let given = h.given in omega arith)) in
      let no_more : one (test z) ≡ 0 = ap one (none_other z other) in
      let more = copied_crowd test to y values w in
      record {
        given = let given = h.given in omega (arith, given, low);
        none_waits = h.none_waits;
        none_linked = h.none_linked;
        none_passes = let none = h.none_passes in omega arith;
      }

  unlinks_clear : (w : Machine) (key : Key) (to : Option ℕ) (y : Transaction) (ys : List Transaction) →
      (user_chain_at w.linked key).members ≡ y ∷ ys → IsClear w → IsClear (one_unlinked key to y ys w)
  unlinks_clear w key to y ys is h =
      let linked = h.none_linked in
      let less = less_linked unsent w key y ys is in
      let none_there : one (unsent y) ≡ 0 = omega arith in
      let no : unsent y ≡ false = elim (cases_Bool (unsent y)) [
        | inl yes' ↦ absurd (let some : one (unsent y) ≡ 1 = ap one yes' in omega arith)
        | inr not' ↦ not'
      ] in
      let no_more : one (test (sent to y)) ≡ 0 = ap one (none_sent y to no) in
      let whole = sent_crowd test w key to y ys is in
      record {
        given = h.given;
        none_waits = h.none_waits;
        none_linked = omega arith;
        none_passes = let none = h.none_passes in omega arith;
      }

  all_clear : AllKeep IsClear
  all_clear = record { makes = makes_clear; lets = lets_clear; copies = copies_clear; unlinks = unlinks_clear }

  woken_clear : (list : List Watched) (w : Machine) → IsClear w → IsClear (woken list w)
  woken_clear list w h =
      let same = woken_crowd test list w in
      let none = h.none_passes in
      record { given = h.given; none_waits = h.none_waits; none_linked = h.none_linked; none_passes = omega (arith, same, none) }

-- ---- the one that was active

-- where it is to be: in the block, or waiting in its own block to enter that one
abbrev is_for : ℕ → Option ℕ → Bool
is_for id None = false
is_for id (Some to) = nat_eq to id

kept : (a b : Bool) → b ≡ true → (a && not b) ≡ false
kept true b is = ap not is
kept false b is = refl

-- the block is entered, or refuses, and the one that is active is bound for it
abbrev IsToward : ℕ → Move → Type 0
IsToward id (moves.Enter to change fate) = to ≡ id
IsToward id (moves.Refuse to key units) = to ≡ id
IsToward id move = ⊥

module _ (s : Machine) (x : Transaction) (id : ℕ) (active : s.active ≡ Some x) (h : IsNumbered s) (low : x.number < 2 ^ 64 - 1) where
  abbrev has : Transaction → Bool
  has = has_number x.number

  abbrev is_right : Transaction → Bool
  is_right y = nat_eq y.current id || (nat_eq y.current x.current && is_for id y.destination)

  -- one with its number that is elsewhere
  abbrev stray : Transaction → Bool
  stray y = has y && not (is_right y)

  stray_other : (y : Transaction) → has y ≡ false → stray y ≡ false
  stray_other y other = and_left (has y) (not (is_right y)) other

  there_right : (y : Transaction) → y.current ≡ id → stray y ≡ false
  there_right y is = kept (has y) (is_right y) (or_left (nat_eq y.current id) (nat_eq y.current x.current && is_for id y.destination) (eq-eqb y.current id is))

  waits_right : (units : ℕ) → stray (bound x id units) ≡ false
  waits_right units =
      let y = bound x id units in
      let both = and_from (nat_eq y.current x.current) (is_for id y.destination) (eq-eqb x.current x.current refl) (eq-eqb id id refl) in
      kept (has y) (is_right y) (or_right (nat_eq y.current id) (nat_eq y.current x.current && is_for id y.destination) both)

  -- no other one has its number
  pub no_other : others has s ≡ 0
  no_other =
      let all = active_crowd has s x active in
      let here : one (has x) ≡ 1 = ap one (eq-eqb x.number x.number refl) in
      let once = h.apart x.number in
      omega arith

  none_stray : others stray s ≡ 0
  none_stray = none_beside x.number low stray stray_other s no_other

  -- one with its number that is in another block: wherever it is sent, it is right where it is in this one
  abbrev elsewhere : Transaction → Bool
  elsewhere y = has y && not (nat_eq y.current id)

  elsewhere_other : (y : Transaction) → has y ≡ false → elsewhere y ≡ false
  elsewhere_other y other = and_left (has y) (not (nat_eq y.current id)) other

  sent_right : (y : Transaction) (to : Option ℕ) → elsewhere y ≡ false → stray (sent to y) ≡ false
  sent_right y to none =
      elim (cases_Bool (nat_eq y.current id)) [
        | inl here ↦ there_right (sent to y) (eqb-true y.current id here)
        | inr other ↦ elim (cases_Bool (has y)) [
          | inl is ↦ absurd (false≢true (sym none ∙ and_from (has y) (not (nat_eq y.current id)) is (ap not other)))
          | inr not' ↦ stray_other (sent to y) not'
        ]
      ]

  abbrev IsRight : Machine → Type 0
  IsRight w = IsClear x.number low stray stray_other elsewhere sent_right w

  settled_right : (change : Change) (fate : Fate) → IsRight (settled s x id change fate)
  settled_right change fate =
      let y = marked change s.clock (placed x id) in
      let same = settled_is s x id change fate in
      let no : one (stray y) ≡ 0 = ap one (there_right y (marked_same change s.clock (placed x id)).1) in
      let whole = settled_crowd stray s x id change fate in
      let less = remains_less fate (one (stray y)) in
      let none = none_stray in
      let waits = no_other in
      let chains : many has (waiting (settled s x id change fate).delays) ≡ many has (waiting s.delays) = ap (λ ds. many has (waiting ds)) same.delays in
      let here : one (elsewhere y) ≡ 0 =
      ap one (kept (has y) (nat_eq y.current id) (eq-eqb y.current id (marked_same change s.clock (placed x id)).1)) in
      let linked = settled_linked elsewhere s x id change fate in
      let others_linked = none_in x.number low elsewhere elsewhere_other (waiting (members_of s.linked)) (omega arith) in
      record {
        given = let given = is_given s x active h in let next = same.next in omega (arith, given, next);
        none_waits = omega arith;
        none_linked = omega arith;
        none_passes = omega arith;
      }

  entered_right : (change : Change) (fate : Fate) → crowd stray (entering s x id change fate) ≡ 0
  entered_right change fate =
      (changed_keeps IsRight change (settled s x id change fate) (all_clear x.number low stray stray_other elsewhere sent_right)
      (settled_right change fate)).none_passes

  -- after an entry it waits on no delay chain
  pub entered_waits_not : (change : Change) (fate : Fate) → many has (waiting (entering s x id change fate).delays) ≡ 0
  entered_waits_not change fate =
      (changed_keeps IsRight change (settled s x id change fate) (all_clear x.number low stray stray_other elsewhere sent_right)
      (settled_right change fate)).none_waits

  refused_right : (key : Key) (units : ℕ) → crowd stray (refused s x id key units) ≡ 0
  refused_right key units =
      let no : one (stray (bound x id units)) ≡ 0 = ap one (waits_right units) in
      let more = many_lined stray (bound x id units) (delay_at s.delays key) in
      let chains = waiting_with stray s.delays key (lined_up (bound x id units) (delay_at s.delays key)) in
      let none = none_stray in
      omega arith

  moved_right : (m : Move) → IsToward id m → crowd stray (moved s m) ≡ 0
  moved_right (moves.Enter to change fate) at' =
      let f : Transaction → Machine = λ y. entering s y id change fate in
      subst (λ k. crowd stray (moved s (moves.Enter k change fate)) ≡ 0) (sym at')
      (subst (λ o. crowd stray (with_active o f s) ≡ 0) (sym active) (entered_right change fate))
  moved_right (moves.Refuse to key units) at' =
      let f : Transaction → Machine = λ y. refused s y id key units in
      subst (λ k. crowd stray (moved s (moves.Refuse k key units)) ≡ 0) (sym at')
      (subst (λ o. crowd stray (with_active o f s) ≡ 0) (sym active) (refused_right key units))
  moved_right m at' = absurd at'

  -- what that says of whoever has its number
  went : (t : Listing) (v : Machine) (y : Transaction) → goes_to t x ≡ Some id → crowd stray v ≡ 0 → Contains (living v) y → y.number ≡ x.number →
      WentWhereItGoes t x y
  went t v y goes none there same =
      elim (cases_Bool (nat_eq y.current id)) [
        | inl here ↦ inl (goes ∙ ap (λ k. Some k) (sym (eqb-true y.current id here)))
        | inr other ↦ elim (cases_Bool (nat_eq y.current x.current && is_for id y.destination)) [
          | inl waits ↦
              let both = and_parts (nat_eq y.current x.current) (is_for id y.destination) waits in
              inr (eqb-true y.current x.current both.0, goes ∙ sym (bound_is y.destination both.1))
          | inr neither ↦ absurd (
              let wrong : is_right y ≡ false = rw other neither in
              let passes : stray y ≡ true = and_from (has y) (not (is_right y)) (eq-eqb y.number x.number same) (ap not wrong) in
              let some = many_has stray (living v) y there passes in
              let all = many_living stray v in
              omega arith)
        ]
      ]
    where
      bound_is : (o : Option ℕ) → is_for id o ≡ true → o ≡ Some id
      bound_is None is = absurd cc
      bound_is (Some to) is = ap (λ k. Some k) (eqb-true to id is)

-- ---- those on the current, the future and the retry chain

abbrev same_to : Option ℕ → Option ℕ → Bool
same_to None None = true
same_to None (Some b) = false
same_to (Some a) None = false
same_to (Some a) (Some b) = nat_eq a b

same_to_itself : (o : Option ℕ) → same_to o o ≡ true
same_to_itself None = refl
same_to_itself (Some a) = eq-eqb a a refl

same_to_is : (o p : Option ℕ) → same_to o p ≡ true → o ≡ p
same_to_is None None is = refl
same_to_is None (Some b) is = absurd cc
same_to_is (Some a) None is = absurd cc
same_to_is (Some a) (Some b) is = ap (λ k. Some k) (eqb-true a b is)

on_chains_low : (s : Machine) (x : Transaction) → IsNumbered s → Contains (on_chains s) x → x.number < s.next
on_chains_low s x h there =
    elim (cases_lt x.number s.next) [
      | inl below ↦ below
      | inr above ↦ absurd (
          let has : Transaction → Bool = has_number x.number in
          let own = many_has has (on_chains s) x there (eq-eqb x.number x.number refl) in
          let events = map (λ (e : Event). e.transaction) s.future in
          let all = many_append has s.current (events ++ transactions_of s.retry) in
          let behind = many_append has events (transactions_of s.retry) in
          let future_all = many_future has s.future in
          let none = h.given x.number above in
          omega arith)
    ]

module _ (x : Transaction) (low : x.number < 2 ^ 64 - 1) where
  abbrev is_same : Transaction → Bool
  is_same y = nat_eq y.current x.current && same_to y.destination x.destination

  abbrev same_one : Transaction → Bool
  same_one y = has_number x.number y && is_same y

  abbrev changed_one : Transaction → Bool
  changed_one y = has_number x.number y && not (is_same y)

  changed_other : (y : Transaction) → has_number x.number y ≡ false → changed_one y ≡ false
  changed_other y other = and_left (has_number x.number y) (not (is_same y)) other

  changed_sent : (y : Transaction) (to : Option ℕ) → has_number x.number y ≡ false → changed_one (sent to y) ≡ false
  changed_sent y to other = changed_other (sent to y) other

  abbrev NoneChanged : Machine → Type 0
  NoneChanged w = IsClear x.number low changed_one changed_other (has_number x.number) changed_sent w

  is_itself : same_one x ≡ true
  is_itself =
      let both = and_from (nat_eq x.current x.current) (same_to x.destination x.destination) (eq-eqb x.current x.current refl) (same_to_itself x.destination) in
      and_from (has_number x.number x) (is_same x) (eq-eqb x.number x.number refl) both

  -- before the step, where it is not the active one
  abbrev OthersAreActive : Machine → Type 0
  OthersAreActive s = active_many (has_number x.number) s.active ≡ 0

  before_step : (s : Machine) → IsNumbered s → Contains (on_chains s) x → x.number < s.next → OthersAreActive s × NoneChanged s
  before_step s h there given =
      let has : Transaction → Bool = has_number x.number in
      let events = map (λ (e : Event). e.transaction) s.future in
      let own = many_has same_one (on_chains s) x there is_itself in
      let parts = many_parts has is_same (on_chains s) in
      let all = many_append has s.current (events ++ transactions_of s.retry) in
      let all_behind = many_append has events (transactions_of s.retry) in
      let some = many_append changed_one s.current (events ++ transactions_of s.retry) in
      let some_behind = many_append changed_one events (transactions_of s.retry) in
      let future_all = many_future has s.future in
      let future_some = many_future changed_one s.future in
      let once = h.apart x.number in
      let none_active : OthersAreActive s = omega arith in
      let nobody = many_active has s.active in
      let active_some = many_active changed_one s.active in
      let active = none_in x.number low changed_one changed_other (option_to_list s.active) (omega arith) in
      let none_waits : many has (waiting s.delays) ≡ 0 = omega arith in
      let waits = none_in x.number low changed_one changed_other (waiting s.delays) none_waits in
      let none_linked : many has (waiting (members_of s.linked)) ≡ 0 = omega arith in
      let linked = none_in x.number low changed_one changed_other (waiting (members_of s.linked)) none_linked in (
        none_active,
        record {
          given = given;
          none_waits = none_waits;
          none_linked = none_linked;
          none_passes = omega arith;
        },
      )

  other_active : (s : Machine) (y : Transaction) → OthersAreActive s → s.active ≡ Some y → has_number x.number y ≡ false
  other_active s y none is =
      let here : active_many (has_number x.number) s.active ≡ one (has_number x.number y) = ap (active_many (has_number x.number)) is in
      elim (cases_Bool (has_number x.number y)) [
        | inl yes' ↦ absurd (let some : one (has_number x.number y) ≡ 1 = ap one yes' in omega arith)
        | inr not' ↦ not'
      ]

  settled_same : (s : Machine) (y : Transaction) (id : ℕ) (change : Change) (fate : Fate) → OthersAreActive s → s.active ≡ Some y → NoneChanged s →
      NoneChanged (settled s y id change fate)
  settled_same s y id change fate others is h =
      let z = marked change s.clock (placed y id) in
      let other = other_active s y others is in
      let still : has_number x.number z ≡ false = ap (λ n. nat_eq n x.number) (marked_same change s.clock (placed y id)).0 ∙ other in
      let fewer = settled_fewer changed_one s y id change fate is (changed_other z still ∙ sym (changed_other y other)) in
      let same = settled_is s y id change fate in
      let chains : many (has_number x.number) (waiting (settled s y id change fate).delays) ≡ many (has_number x.number) (waiting s.delays) =
      ap (λ ds. many (has_number x.number) (waiting ds)) same.delays in
      let no_more : one (has_number x.number z) ≡ 0 = ap one still in
      let linked = settled_linked (has_number x.number) s y id change fate in
      record {
        given = let given = h.given in let next = same.next in omega (arith, given, next);
        none_waits = let none = h.none_waits in omega (arith, chains, none);
        none_linked = let none = h.none_linked in omega (arith, no_more, linked, none);
        none_passes = let none = h.none_passes in omega (arith, fewer, none);
      }

  refused_same : (s : Machine) (y : Transaction) (id : ℕ) (key : Key) (units : ℕ) → OthersAreActive s → s.active ≡ Some y → NoneChanged s →
      NoneChanged (refused s y id key units)
  refused_same s y id key units others is h =
      let other = other_active s y others is in
      let same = refused_crowd changed_one s y id key units is (changed_other (bound y id units) other ∙ sym (changed_other y other)) in
      let no_more : one (has_number x.number (bound y id units)) ≡ 0 = ap one other in
      let more = many_lined (has_number x.number) (bound y id units) (delay_at s.delays key) in
      let chains = waiting_with (has_number x.number) s.delays key (lined_up (bound y id units) (delay_at s.delays key)) in
      let waits = h.none_waits in
      record {
        given = h.given;
        none_waits = omega arith;
        none_linked = h.none_linked;
        none_passes = let none = h.none_passes in omega (arith, same, none);
      }

  all_made_same : (arrivals : List Arrival) (w : Making) (s : Machine) → NoneChanged (with_making w s) → NoneChanged (with_making (all_made arrivals w) s)
  all_made_same [] w s h = h
  all_made_same (a ∷ rest) w s h =
      all_made_same rest (made a w) s
      (makes_clear x.number low changed_one changed_other (has_number x.number) changed_sent a (with_making w s) h)

  moved_same : (t : Listing) (s : Machine) (m : Move) → IsDecided t s m → (Clears m → ⊥) → OthersAreActive s → NoneChanged s →
      NoneChanged (moved s m)
  moved_same t s (moves.Start count arrivals) decided apart others h =
      all_made_same arrivals (making_of s) (started count s)
      (record { given = h.given; none_waits = h.none_waits; none_linked = h.none_linked; none_passes = h.none_passes })
  moved_same t s moves.Command decided apart others h =
      record { given = h.given; none_waits = h.none_waits; none_linked = h.none_linked; none_passes = h.none_passes }
  moved_same t s moves.Reset decided apart others h =
      let same = crowd_reset changed_one s in
      let linked = ap (λ ds. many (has_number x.number) (waiting ds)) (members_anew s.linked) in
      record {
        given = h.given;
        none_waits = h.none_waits;
        none_linked = let none = h.none_linked in omega (arith, linked, none);
        none_passes = let none = h.none_passes in omega (arith, same, none);
      }
  moved_same t s moves.Clear decided apart others h = absurd (apart tt)
  moved_same t s (moves.Enter id change fate) decided apart others h =
      let keep : AllKeep NoneChanged = all_clear x.number low changed_one changed_other (has_number x.number) changed_sent in
      entered_has NoneChanged NoneChanged t s id change fate decided.1 h (λ y is. settled_same s y id change fate others is h)
      (λ v. record {
        nothing = λ k. k;
        one = λ a coming k. keep.makes a v k;
        lets = keep.lets;
        copies = λ w to y values copying k. keep.copies w to y values k;
        unlinks = λ w key to y ys named is k. keep.unlinks w key to y ys is k;
      })
  moved_same t s (moves.Refuse id key units) decided apart others h =
      with_active_has NoneChanged s.active (λ y. refused s y id key units) s h (λ y is. refused_same s y id key units others is h)
  moved_same t s (moves.Watch read) decided apart others h =
      with_active_has NoneChanged s.active (λ y. watching s y read) s h
      (λ y is.
      let same = watching_crowd changed_one s y read is in
      let none = h.none_passes in
      record { given = h.given; none_waits = h.none_waits; none_linked = h.none_linked; none_passes = omega (arith, same, none) })
  moved_same t s moves.Pick decided apart others h =
      picked_has NoneChanged s s.current h
      (λ y ys is.
      let same = picked_crowd changed_one s y ys decided is in
      let none = h.none_passes in
      record { given = h.given; none_waits = h.none_waits; none_linked = h.none_linked; none_passes = omega (arith, same, none) })
  moved_same t s (moves.Clock time) decided apart others h =
      let same = advanced_crowd changed_one s time in
      let none = h.none_passes in
      record { given = h.given; none_waits = h.none_waits; none_linked = h.none_linked; none_passes = omega (arith, same, none) }

  -- what that says of whoever has its number
  stayed : (v : Machine) (y : Transaction) → crowd changed_one v ≡ 0 → Contains (living v) y → y.number ≡ x.number →
      (y.current ≡ x.current) × (y.destination ≡ x.destination)
  stayed v y none there same =
      elim (cases_Bool (is_same y)) [
        | inl is ↦
            let both = and_parts (nat_eq y.current x.current) (same_to y.destination x.destination) is in
            (eqb-true y.current x.current both.0, same_to_is y.destination x.destination both.1)
        | inr differs ↦ absurd (
            let passes : changed_one y ≡ true = and_from (has_number x.number y) (not (is_same y)) (eq-eqb y.number x.number same) (ap not differs) in
            let some = many_has changed_one (living v) y there passes in
            let all = many_living changed_one v in
            omega arith)
      ]

-- where the one that is active has a number, nobody else has it
none_changed : (s : Machine) (x : Transaction) → s.active ≡ Some x → IsNumbered s → (low : x.number < 2 ^ 64 - 1) → others (changed_one x low) s ≡ 0
none_changed s x active h low = none_beside x.number low (changed_one x low) (changed_other x low) s (no_other s x 0 active h low)

pub others_stay_in_their_blocks : OthersStayInTheirBlocks
others_stay_in_their_blocks t seed n s v well within there is x y stands lives' same =
    let after = (step_decides t seed s v (sym (run_on t seed n s there) ∙ is)).0 in
    let h = all_numbered t seed well n s there within in
    let room = all_within t seed n s well within there in
    let given = on_chains_low s x h stands in
    let low : x.number < 2 ^ 64 - 1 = omega (arith, given, room.next, well.greatest_limit, within) in
    let before = before_step x low s h stands given in
    elim (clears_or after.move) [
      | inl clears ↦ absurd (nobody_in y (living v) (nobody_lives s v after.move after.streams after.is clears) lives')
      | inr apart ↦
          let moved' = moved_same x low t s after.move after.is_decided apart before.0 before.1 in
          let test = changed_one x low in
          let clear =
          woken_clear x.number low test (changed_other x low) (has_number x.number) (changed_sent x low) (written s after.move) (moved s after.move) moved' in
          let now : crowd test v ≡ 0 = ap (crowd test) after.is ∙ clear.none_passes in
          stayed x low v y now lives' same
    ]

-- ---- the one that was active, wherever it is now

-- where it waits for a change, it is as it came
watching_same : (s : Machine) (x : Transaction) (read : List Watched) (active : s.active ≡ Some x) → IsNumbered s → (low : x.number < 2 ^ 64 - 1) →
    crowd (changed_one x low) (watching s x read) ≡ 0
watching_same s x read active h low =
    let none = none_changed s x active h low in
    let same = watching_crowd (changed_one x low) s x read active in
    let all = active_crowd (changed_one x low) s x active in
    let no : one (changed_one x low x) ≡ 0 = ap one (kept (has_number x.number x) (is_same x low x) (and_from (nat_eq x.current x.current)
    (same_to x.destination x.destination) (eq-eqb x.current x.current refl) (same_to_itself x.destination))) in
    omega arith

stands_on_retry : (s : Machine) (x : Transaction) (read : List Watched) → s.active ≡ Some x →
    Contains (transactions_of (moved s (moves.Watch read)).retry) x
stands_on_retry s x read active =
    subst (λ o. Contains (transactions_of (with_active o (λ y. watching s y read) s).retry) x) (sym active) (last_there s.retry) where
      last_there : (ws : List Waiter) → Contains (transactions_of (ws ++ record { transaction = x; read = read } ∷ [])) x
      last_there [] = (0, omega arith, refl)
      last_there (w ∷ ws) = let rest = last_there ws in (suc rest.0, omega (arith, rest.1), rest.2)

pub goes_to_its_destination : GoesToItsDestination
goes_to_its_destination t seed n s v well within there is_run x y active lives' same =
    let after = (step_decides t seed s v (sym (run_on t seed n s there) ∙ is_run)).0 in
    let idle : Idle s = over_moves t seed Idle (λ none. refl) (λ u m streams step h. moved_idle t seed u m step h) n s there in
    let h = all_numbered t seed well n s there within in
    let room = all_within t seed n s well within there in
    let given = is_given s x active h in
    by_move after.move after.streams after.is_step after.is idle h (omega (arith, given, room.next, well.greatest_limit, within))
  where
    -- where it enters its block, or is bound for it
    toward : (m : Move) (streams : List Stream) → v ≡ decided s m streams → IsNumbered s → x.number < 2 ^ 64 - 1 → (a : IsAttempt t seed s m) →
        IsToward a.id m → WentWhereItGoes t x y ⊎ WaitsAsItCame t v x y
    toward m streams is h below a at' =
        let both : Some a.who ≡ Some x = sym a.active ∙ active in
        let who : a.who ≡ x = cc in
        let goes : goes_to t x ≡ Some a.id = subst (λ z. goes_to t z ≡ Some a.id) who a.goes in
        let test = stray s x a.id active h below in
        let none : crowd test (moved s m) ≡ 0 = moved_right s x a.id active h below m at' in
        let now : crowd test v ≡ 0 = ap (crowd test) is ∙ (woken_crowd test (written s m) (moved s m) ∙ none) in
        inl (went s x a.id active h below t v y goes now lives' same)

    other : s.active ≡ None → WentWhereItGoes t x y ⊎ WaitsAsItCame t v x y
    other none = absurd (let no : None ≡ Some x = sym none ∙ active in cc)

    by_move : (m : Move) (streams : List Stream) → IsStep t seed s m → v ≡ decided s m streams → Idle s → IsNumbered s → x.number < 2 ^ 64 - 1 →
        WentWhereItGoes t x y ⊎ WaitsAsItCame t v x y
    by_move (moves.Enter to change fate) streams step is idle h below =
        toward (moves.Enter to change fate) streams is h below step.1 step.1.tried.0
    by_move (moves.Refuse to key units) streams step is idle h below =
        toward (moves.Refuse to key units) streams is h below step.1 step.1.tried.0
    by_move (moves.Watch read) streams step is idle h below =
        let test = changed_one x below in
        let u : Machine = moved s (moves.Watch read) in
        let none : crowd test u ≡ 0 =
        subst (λ o. crowd test (with_active o (λ z. watching s z read) s) ≡ 0) (sym active) (watching_same s x read active h below) in
        let here : v ≡ record u { streams = streams } =
        is ∙ ap (λ (w : Machine). let z : Machine = record w { streams = streams } in z) (nobody_wakes u) in
        let now : crowd test v ≡ 0 = ap (crowd test) here ∙ none in
        let still = stayed x below v y now lives' same in
        let waits : Contains (transactions_of v.retry) x =
        subst (λ (w : Machine). Contains (transactions_of w.retry) x) (sym here) (stands_on_retry s x read active) in
        inr (waits, still.0, still.1, transaction_there t seed (suc n) v x is_run waits)
    by_move (moves.Start count arrivals) streams step is idle h below = other (idle step.0.idle)
    by_move moves.Command streams step is idle h below = other (idle step.1.idle)
    by_move moves.Reset streams step is idle h below = other (idle step.idle)
    by_move moves.Clear streams step is idle h below = other (idle step.idle)
    by_move moves.Pick streams step is idle h below = other step.1
    by_move (moves.Clock time) streams step is idle h below = other step.0.active
