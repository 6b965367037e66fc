-- The future chain keeps its order: whoever stays on it keeps his place in a step, and whoever comes stands after. Nobody
-- leaves it but at his time.
use Rattle.std.proofs.Common.{◌≡◌, ◌⊎◌, ℕ, zero, suc, ◌+◌, ◌-◌, ◌<◌, ◌≤◌, ◌^◌, nat_eq, Bool, true, false, cond, not, List, [], ◌∷◌, ◌++◌, filter, length, Some, refl, ap, sym, subst, ◌∙◌, append-nil, append_assoc, arith, inl, inr}
use Rattle.std.specs.Prelude.{Contains}
use Rattle.std.specs.List.{AllByRecursion}
use Rattle.std.proofs.lemmas.List.{map-append}
use Rattle.std.proofs.lemmas.Bool.{cases_Bool, cases_eq, eq-eqb, eqb-true, ne_eqb}
use Rattle.std.proofs.lemmas.List.Elements.{Contains-append_left}
use Rattle.gw_meaning.specs.declared.transaction.Transaction.{Transaction}
use Rattle.gw_meaning.specs.declared.transaction.Event.{Event}
use Rattle.gw_meaning.specs.declared.moves.Arrival.{Arrival}
use Rattle.gw_meaning.specs.declared.moves.Change.{Change}
use Rattle.gw_meaning.specs.declared.moves.Fate.{Fate}
use Rattle.gw_meaning.specs.declared.moves.Fate.TheVariants as fates
use Rattle.gw_meaning.specs.declared.moves.Move.{Move}
use Rattle.gw_meaning.specs.declared.moves.Move.TheVariants as moves
use Rattle.gw_meaning.specs.Listing.{Listing}
use Rattle.gw_meaning.specs.Machine.{Machine}
use Rattle.gw_meaning.specs.Changes.{Making, made, all_made, making_of, newcomer, placed, marked, is_due, refused, moved, watching}
use Rattle.gw_meaning.proofs.Programs.{run_on}
use Rattle.gw_frame.proofs.Decided.{step_decides}
use Rattle.gw_frame.proofs.Lawful.{all_with}
use Rattle.gw_frame.proofs.Known.{IsDecided}
use Rattle.gw_frame.proofs.Moves.{settled, settled_is, marked_same, with_active_has, entered_has, picked_has}
use Rattle.gw_laws.specs.Chain.{is_in, KeepPlaces, numbers_coming, FutureKeepsItsOrder, NobodyLeavesBeforeHisTime}
use Rattle.gw_laws.proofs.Waiting.{let_in_is}
use Rattle.gw_laws.proofs.Crowd.{one, active_crowd, future_many}
use Rattle.gw_laws.proofs.NumberLaws.{has_number, IsNumbered, all_numbered}
use Rattle.gw_laws.proofs.Room.{all_within}
use Rattle.gw_laws.proofs.StayLaws.{some_stay, others_come, all_stay}
use Rattle.gw_laws.proofs.Anew.{none_stay, no_clear}
use Rattle.gw_laws.specs.Anew.{Clears}

-- a number that no transaction has
not_coming : (k : ℕ) (es : List Event) → future_many (has_number k) es ≡ 0 → is_in (numbers_coming es) k ≡ false
not_coming k [] none = refl
not_coming k (e ∷ es) none =
    let rest = not_coming k es (omega (arith, none)) in
    elim (cases_Bool (nat_eq e.transaction.number k)) [
      | inl is ↦ absurd (let here : one (has_number k e.transaction) ≡ 1 = ap one is in omega (arith, none, here))
      | inr other ↦ rw other rest
    ]

-- ---- where the clock moves on, those stay whose time is not due

abbrev stays_of : ℕ → List Event → ℕ → Bool
stays_of time [] k = true
stays_of time (e ∷ es) k = cond (nat_eq e.transaction.number k) (not (is_due time e)) (stays_of time es k)

others_stay : (n : ℕ) (b : Bool) (stays : ℕ → Bool) (es : List Event) → future_many (has_number n) es ≡ 0 →
    filter (λ k. cond (nat_eq n k) b (stays k)) (numbers_coming es) ≡ filter stays (numbers_coming es)
others_stay n b stays [] none = refl
others_stay n b stays (e ∷ es) none =
    let rest = others_stay n b stays es (omega (arith, none)) in
    elim (cases_eq n e.transaction.number) [
      | inl same ↦ absurd (let here : one (has_number n e.transaction) ≡ 1 = ap one (eq-eqb e.transaction.number n (sym same)) in omega (arith, none, here))
      | inr other ↦
          let not' = ne_eqb n e.transaction.number other in
          elim (cases_Bool (stays e.transaction.number)) [
            | inl is ↦ rw not' (rw is (ap (λ ks. e.transaction.number ∷ ks) rest))
            | inr gone ↦ rw not' (rw gone rest)
          ]
    ]

rest_stay : (time : ℕ) (es : List Event) → ((k : ℕ) → future_many (has_number k) es ≤ 1) →
    numbers_coming (filter (λ e. not (is_due time e)) es) ≡ filter (stays_of time es) (numbers_coming es)
rest_stay time [] once = refl
rest_stay time (e ∷ es) once =
    let n = e.transaction.number in
    let itself = eq-eqb n n refl in
    let here : one (has_number n e.transaction) ≡ 1 = ap one itself in
    let first = once n in
    let none : future_many (has_number n) es ≡ 0 = omega arith in
    let rest = rest_stay time es (λ k. let all = once k in omega arith) in
    let same : numbers_coming (filter (λ e. not (is_due time e)) es) ≡ filter (stays_of time (e ∷ es)) (numbers_coming es) =
    rest ∙ sym (others_stay n (not (is_due time e)) (stays_of time es) es none) in
    elim (cases_Bool (is_due time e)) [
      | inl now ↦ rw now (rw itself same)
      | inr later ↦ rw later (rw itself (ap (λ ks. n ∷ ks) same))
    ]

-- ---- others come

-- after those who were there others stand
record Came (s : Machine) (future : List Event) : Type 0 where
  come : List ℕ
  numbers : numbers_coming future ≡ numbers_coming s.future ++ come
  new : AllByRecursion (λ k. is_in (numbers_coming s.future) k ≡ false) come

module _ (s : Machine) (h : IsNumbered s) where
  abbrev Keeps : List Event → Type 0
  Keeps future = KeepPlaces (numbers_coming s.future) (numbers_coming future)

  came_keeps : (future : List Event) → Came s future → Keeps future
  came_keeps future k = subst (KeepPlaces (numbers_coming s.future)) (sym k.numbers) (others_come (numbers_coming s.future) k.come k.new)

  none_came : Came s s.future
  none_came = record { come = []; numbers = sym (append-nil (numbers_coming s.future)); new = tt }

  one_came : (future : List Event) (e : Event) → is_in (numbers_coming s.future) e.transaction.number ≡ false → Came s future → Came s (future ++ e ∷ [])
  one_came future e is k =
      let n = e.transaction.number in
      record {
        come = k.come ++ n ∷ [];
        numbers =
            map-append (λ (d : Event). d.transaction.number) future (e ∷ [])
            ∙ (ap (λ ks. ks ++ n ∷ []) k.numbers ∙ append_assoc (numbers_coming s.future) k.come (n ∷ []));
        new = all_with (λ j. is_in (numbers_coming s.future) j ≡ false) k.come (n ∷ []) k.new (is, tt);
      }

  -- a new number, and that of the active one
  number_new : (k : ℕ) → s.next ≤ k → is_in (numbers_coming s.future) k ≡ false
  number_new k above = not_coming k s.future (let none = h.given k above in omega arith)

  number_active : (x : Transaction) → s.active ≡ Some x → is_in (numbers_coming s.future) x.number ≡ false
  number_active x is =
      let all = active_crowd (has_number x.number) s x is in
      let here : one (has_number x.number x) ≡ 1 = ap one (eq-eqb x.number x.number refl) in
      let once = h.apart x.number in
      not_coming x.number s.future (omega arith)

  all_made_came : (arrivals : List Arrival) (w : Making) → s.next ≤ w.next → w.next + length arrivals < 2 ^ 64 - 1 → Came s w.future →
      Came s (all_made arrivals w).future
  all_made_came [] w above room k = k
  all_made_came (a ∷ rest) w above room k =
      all_made_came rest (made a w) (omega (arith, above, room)) (omega (arith, room)) (one_came w.future (newcomer w.next a) (number_new w.next above) k)

  settled_came : (x : Transaction) (id : ℕ) (change : Change) (fate : Fate) → s.active ≡ Some x → Came s (settled s x id change fate).future
  settled_came x id change (fates.Delayed until) is =
      let y = marked change s.clock (placed x id) in
      let same : y.number ≡ x.number = (marked_same change s.clock (placed x id)).0 in
      one_came s.future (record { time = until; transaction = y })
      (ap (is_in (numbers_coming s.future)) same ∙ number_active x is) none_came
  settled_came x id change fate is = none_came

  moved_came : (t : Listing) (m : Move) → s.next + length t.lines < 2 ^ 64 - 1 → IsDecided t s m → Keeps (moved s m).future
  moved_came t (moves.Start count arrivals) room decided =
      came_keeps (all_made arrivals (making_of s)).future
      (all_made_came arrivals (making_of s) (omega arith) (omega (arith, room, decided.few)) none_came)
  moved_came t moves.Command room decided = all_stay (numbers_coming s.future)
  moved_came t moves.Reset room decided = all_stay (numbers_coming s.future)
  moved_came t moves.Clear room decided = none_stay (numbers_coming s.future)
  moved_came t (moves.Enter id change fate) room decided =
      came_keeps (moved s (moves.Enter id change fate)).future
      (entered_has (λ v. (v.next ≡ s.next) × Came s v.future) (λ v. Came s v.future) t s id change fate decided.1 none_came
      (λ x is. ((settled_is s x id change fate).next, settled_came x id change fate is))
      (λ v. record {
        nothing = λ k. k.1;
        one = λ a coming k. one_came v.future (newcomer v.next a) (number_new v.next (omega (arith, k.0))) k.1;
        lets = λ w key x passed xs is k. subst (Came s) (sym (let_in_is key x (passed ++ xs) w).future) k;
        copies = λ w to x values copying k. k;
        unlinks = λ w key to x xs named is k. k;
      }))
  moved_came t (moves.Refuse id key units) room decided =
      with_active_has (λ v. Keeps v.future) s.active (λ x. refused s x id key units) s (all_stay (numbers_coming s.future))
      (λ x is. all_stay (numbers_coming s.future))
  moved_came t (moves.Watch read) room decided =
      with_active_has (λ v. Keeps v.future) s.active (λ x. watching s x read) s (all_stay (numbers_coming s.future))
      (λ x is. all_stay (numbers_coming s.future))
  moved_came t moves.Pick room decided =
      picked_has (λ v. Keeps v.future) s s.current (all_stay (numbers_coming s.future)) (λ x xs is. all_stay (numbers_coming s.future))
  moved_came t (moves.Clock time) room decided =
      some_stay (numbers_coming s.future) (numbers_coming (filter (λ e. not (is_due time e)) s.future)) (stays_of time s.future)
      (rest_stay time s.future (λ k. let once = h.apart k in omega arith))

pub future_keeps_its_order : FutureKeepsItsOrder
future_keeps_its_order t seed n s v well within there is =
    let after = (step_decides t seed s v (sym (run_on t seed n s there) ∙ is)).0 in
    let h = all_numbered t seed well n s there within in
    let room = all_within t seed n s well within there in
    subst (λ (w : Machine). Keeps s h w.future) (sym after.is)
    (moved_came s h t after.move (omega (arith, room.next, well.greatest_limit, well.statements, within)) after.is_decided)

-- ---- nobody leaves but at his time

module _ (e : Event) where
  rest_has : (time : ℕ) (es : List Event) → is_due time e ≡ false → Contains es e → Contains (filter (λ d. not (is_due time d)) es) e
  rest_has time [] later there = absurd (omega (arith, there.1))
  rest_has time (d ∷ ds) later (zero, within, same) =
      let still : is_due time d ≡ false = ap (is_due time) same ∙ later in
      rw still (0, omega arith, same)
  rest_has time (d ∷ ds) later (suc i, within, same) =
      let rest = rest_has time ds later (i, omega (arith, within), same) in
      elim (cases_Bool (is_due time d)) [
        | inl now ↦ rw now rest
        | inr stays ↦ rw stays (suc rest.0, omega (arith, rest.1), rest.2)
      ]

  abbrev IsThere : Machine → Type 0
  IsThere v = Contains v.future e

  -- on the chain still, or his time has come
  abbrev StaysOrIsDue : Machine → Type 0
  StaysOrIsDue v = IsThere v ⊎ (e.time ≡ v.clock)

  all_made_there : (arrivals : List Arrival) (w : Making) → Contains w.future e → Contains (all_made arrivals w).future e
  all_made_there [] w h = h
  all_made_there (a ∷ rest) w h = all_made_there rest (made a w) (Contains-append_left w.future (newcomer w.next a ∷ []) e h)

  settled_there : (s : Machine) (x : Transaction) (id : ℕ) (change : Change) (fate : Fate) → IsThere s → IsThere (settled s x id change fate)
  settled_there s x id change (fates.Delayed until) h = Contains-append_left s.future _ e h
  settled_there s x id change fate h = h

  moved_there : (t : Listing) (s : Machine) (m : Move) → IsDecided t s m → (Clears m → ⊥) → IsThere s → StaysOrIsDue (moved s m)
  moved_there t s (moves.Start count arrivals) decided apart h = inl (all_made_there arrivals (making_of s) h)
  moved_there t s moves.Command decided apart h = inl h
  moved_there t s moves.Reset decided apart h = inl h
  moved_there t s moves.Clear decided apart h = absurd (apart tt)
  moved_there t s (moves.Enter id change fate) decided apart h =
      inl (entered_has IsThere IsThere t s id change fate decided.1 h (λ x is. settled_there s x id change fate h)
      (λ v. record {
        nothing = λ k. k;
        one = λ a coming k. Contains-append_left v.future (newcomer v.next a ∷ []) e k;
        lets = λ w key x passed xs is k. subst (λ es. Contains es e) (sym (let_in_is key x (passed ++ xs) w).future) k;
        copies = λ w to x values copying k. k;
        unlinks = λ w key to x xs named is k. k;
      }))
  moved_there t s (moves.Refuse id key units) decided apart h =
      inl (with_active_has IsThere s.active (λ x. refused s x id key units) s h (λ x is. h))
  moved_there t s (moves.Watch read) decided apart h =
      inl (with_active_has IsThere s.active (λ x. watching s x read) s h (λ x is. h))
  moved_there t s moves.Pick decided apart h = inl (picked_has IsThere s s.current h (λ x xs is. h))
  moved_there t s (moves.Clock time) decided apart h =
      elim (cases_Bool (is_due time e)) [
        | inl now ↦ inr (eqb-true e.time time now)
        | inr later ↦ inl (rest_has time s.future later h)
      ]

pub nobody_leaves_before_his_time : NobodyLeavesBeforeHisTime
nobody_leaves_before_his_time t seed n s v there is none e stands =
    let after = (step_decides t seed s v (sym (run_on t seed n s there) ∙ is)).0 in
    subst (StaysOrIsDue e) (sym after.is) (moved_there e t s after.move after.is_decided
    (no_clear t s after.move after.is_decided none) stands)
