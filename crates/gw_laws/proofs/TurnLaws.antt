-- Who becomes active, and who comes onto the chain when the clock moves on.
use Rattle.std.proofs.Common.{◌≡◌, ℕ, ◌<◌, ℤ, true, false, not, List, [], ◌∷◌, ◌++◌, filter, Some, None, refl, sym, ap, subst, ◌∙◌, arith, inl, inr}
use Rattle.std.specs.Prelude.{All}
use Rattle.std.specs.List.{AllByRecursion}
use Rattle.std.proofs.lemmas.Bool.{cases_Bool, cases_lt, eq-eqb, ne_eqb}
use Rattle.std.proofs.lemmas.List.Elements.{All-from_recursion}
use Rattle.gw_meaning.specs.declared.transaction.Transaction.{Transaction}
use Rattle.gw_meaning.specs.declared.transaction.Event.{Event}
use Rattle.gw_meaning.specs.declared.moves.Move.{Move}
use Rattle.gw_meaning.specs.declared.moves.Move.TheVariants as moves
use Rattle.gw_meaning.specs.Listing.{Listing}
use Rattle.gw_meaning.specs.Machine.{Machine}
use Rattle.gw_meaning.specs.Changes.{is_due, due, refused, picked, moved, watching, written, woken}
use Rattle.gw_meaning.proofs.Programs.{run_on}
use Rattle.gw_meaning.proofs.Chains.{IsOrdered}
use Rattle.gw_laws.specs.Chain.{FirstBecomesActive, AllOfATimeCome, numbers_of, coming_at}
use Rattle.gw_frame.proofs.Decided.{step_decides}
use Rattle.gw_frame.proofs.Known.{IsDecided}
use Rattle.gw_frame.proofs.Moves.{settled_is, with_active_has, entered_has, picked_has}
use Rattle.gw_laws.proofs.Waiting.{let_in_is}
use Rattle.gw_laws.proofs.ChainLaws.{all_ordered, all_lined_numbers}
use Rattle.gw_laws.proofs.ClockLaws.{AreAhead, least_is_least}
use Rattle.gw_laws.proofs.Waking.{unwoken}

-- ---- who becomes active

-- where none was active before, this one was the first
abbrev WasFirst : Transaction → Machine → Machine → Type 0
WasFirst x s v = v.active ≡ Some x → s.current ≡ x ∷ v.current

none_is : (x : Transaction) (s v : Machine) → v.active ≡ None → WasFirst x s v
none_is x s v none is = absurd (let no : None ≡ Some x = sym none ∙ is in cc)

decided_first : (t : Listing) (s : Machine) (m : Move) (x : Transaction) → IsDecided t s m → s.active ≡ None →
    WasFirst x s (woken (written s m) (moved s m))
decided_first t s (moves.Start count arrivals) x decided none = none_is x s (woken [] (moved s (moves.Start count arrivals))) none
decided_first t s moves.Command x decided none = none_is x s (woken [] (moved s moves.Command)) none
decided_first t s moves.Reset x decided none = none_is x s (woken [] (moved s moves.Reset)) none
decided_first t s moves.Clear x decided none = none_is x s (woken [] (moved s moves.Clear)) refl
decided_first t s (moves.Enter id change fate) x decided none =
    let nobody =
    entered_has (λ v. ⊥) (λ v. v.active ≡ None) t s id change fate decided.1 none (λ y there. absurd (let no : None ≡ Some y = sym none ∙ there in cc))
    (λ v. record {
      nothing = λ no. absurd no;
      one = λ a coming no. absurd no;
      lets = λ w key y passed ys is still. (let_in_is key y (passed ++ ys) w).active ∙ still;
      copies = λ w to y values copying still. still;
      unlinks = λ w key to y ys named is still. still;
    }) in
    (let m = moves.Enter id change fate in none_is x s (woken (written s m) (moved s m)) nobody)
decided_first t s (moves.Refuse id key units) x decided none =
    unwoken (WasFirst x s) (moved s (moves.Refuse id key units))
    (with_active_has (WasFirst x s) s.active (λ y. refused s y id key units) s (none_is x s s none) (λ y is. none_is x s (refused s y id key units) refl))
decided_first t s (moves.Watch read) x decided none =
    unwoken (WasFirst x s) (moved s (moves.Watch read))
    (with_active_has (WasFirst x s) s.active (λ y. watching s y read) s (none_is x s s none) (λ y is. none_is x s (watching s y read) refl))
decided_first t s moves.Pick x decided none =
    unwoken (WasFirst x s) (moved s moves.Pick) (picked_has (WasFirst x s) s s.current (none_is x s s none) (λ y ys is now. cc))
decided_first t s (moves.Clock time) x decided none = none_is x s (woken [] (moved s (moves.Clock time))) none

pub first_becomes_active : FirstBecomesActive
first_becomes_active t seed n s v x there is none =
    let after = (step_decides t seed s v (sym (run_on t seed n s there) ∙ is)).0 in
    subst (WasFirst x s) (sym after.is) (decided_first t s after.move x after.is_decided none)

-- ---- who comes

due_is : (time : ℕ) (es : List Event) → due time es ≡ coming_at time es
due_is time [] = refl
due_is time (e ∷ es) =
    elim (cases_Bool (is_due time e)) [
      | inl now ↦ rw now (ap (λ xs. e.transaction ∷ xs) (due_is time es))
      | inr later ↦ rw later (due_is time es)
    ]

-- what is left on the future chain lies beyond its least time
rest_beyond : (time : ℕ) (es : List Event) → AreAhead time es → AllByRecursion (λ (e : Event). time < e.time) (filter (λ e. not (is_due time e)) es)
rest_beyond time [] h = tt
rest_beyond time (e ∷ es) h =
    elim (cases_lt time e.time) [
      | inl less ↦ let other : is_due time e ≡ false = ne_eqb e.time time (λ same. omega arith) in rw other (less, rest_beyond time es h.1)
      | inr above ↦ let same : is_due time e ≡ true = eq-eqb e.time time (omega (arith, h.0)) in rw same (rest_beyond time es h.1)
    ]

-- all of the clock's new time come
abbrev TheyCome : Machine → Machine → Type 0
TheyCome s v =
    (All (λ (e : Event). v.clock < e.time) v.future) × ((priority : ℤ) →
    numbers_of priority v.current ≡ numbers_of priority s.current ++ numbers_of priority (coming_at v.clock s.future))

abbrev Come : Machine → Machine → Type 0
Come s v = s.clock < v.clock → TheyCome s v

stands : (s v : Machine) → v.clock ≡ s.clock → Come s v
stands s v same less = absurd (omega (arith, same, less))

decided_come : (t : Listing) (s : Machine) (m : Move) → IsDecided t s m → IsOrdered s.current → Come s (woken (written s m) (moved s m))
decided_come t s (moves.Start count arrivals) decided order = stands s (woken [] (moved s (moves.Start count arrivals))) refl
decided_come t s moves.Command decided order = stands s (woken [] (moved s moves.Command)) refl
decided_come t s moves.Reset decided order = stands s (woken [] (moved s moves.Reset)) refl
decided_come t s moves.Clear decided order = λ less. absurd (omega (arith, less))
decided_come t s (moves.Enter id change fate) decided order =
    let P : Machine → Type 0 = λ v. v.clock ≡ s.clock in
    let still =
    entered_has P P t s id change fate decided.1 refl (λ x is. (settled_is s x id change fate).clock)
    (λ v. record {
      nothing = λ same. same;
      one = λ a coming same. same;
      lets = λ w key x passed xs is same. (let_in_is key x (passed ++ xs) w).clock ∙ same;
      copies = λ w to x values copying same. same;
      unlinks = λ w key to x xs named is same. same;
    }) in
    (let m = moves.Enter id change fate in stands s (woken (written s m) (moved s m)) still)
decided_come t s (moves.Refuse id key units) decided order =
    unwoken (Come s) (moved s (moves.Refuse id key units))
    (with_active_has (Come s) s.active (λ x. refused s x id key units) s (stands s s refl) (λ x is. stands s (refused s x id key units) refl))
decided_come t s (moves.Watch read) decided order =
    unwoken (Come s) (moved s (moves.Watch read))
    (with_active_has (Come s) s.active (λ x. watching s x read) s (stands s s refl) (λ x is. stands s (watching s x read) refl))
decided_come t s moves.Pick decided order =
    unwoken (Come s) (moved s moves.Pick)
    (picked_has (Come s) s s.current (stands s s refl) (λ x xs is. stands s (picked s (x ∷ xs)) refl))
decided_come t s (moves.Clock time) decided order = unwoken (Come s) (moved s (moves.Clock time)) (λ less. (
  All-from_recursion (λ (e : Event). time < e.time) _ (rest_beyond time s.future (least_is_least s.future time decided.0)),
  λ priority. all_lined_numbers priority (due time s.future) s.current order
      ∙ ap (λ xs. numbers_of priority s.current ++ numbers_of priority xs) (due_is time s.future),
))

pub all_of_a_time_come : AllOfATimeCome
all_of_a_time_come t seed n s v there is =
    let after = (step_decides t seed s v (sym (run_on t seed n s there) ∙ is)).0 in
    subst (Come s) (sym after.is) (decided_come t s after.move after.is_decided (all_ordered t seed n s there))
