-- The delay chains, move by move and over a run: they are in order of priority, those of facilities first in first out within,
-- and whoever waits has a block to go to.
use Rattle.std.proofs.Common.{◌≡◌, ℕ, ℤ, false, List, [], ◌∷◌, ◌++◌, Some, Ok, refl, sym, ap, subst, ◌∙◌, arith}
use Rattle.std.specs.List.{AllByRecursion}
use Rattle.std.proofs.lemmas.List.Elements.{All-from_recursion}
use Rattle.gw_names.specs.declared.key.Key.{Key}
use Rattle.gw_names.specs.Keys.{key_eq}
use Rattle.gw_meaning.specs.declared.transaction.Transaction.{Transaction}
use Rattle.gw_meaning.specs.declared.entity_change.Update.{Update}
use Rattle.gw_meaning.specs.declared.entity_change.Update.TheVariants as updates
use Rattle.gw_meaning.specs.declared.entity_change.FacilityUpdate.TheVariants as of_facility
use Rattle.gw_meaning.specs.declared.entity_change.StorageUpdate.TheVariants as of_storage
use Rattle.gw_meaning.specs.declared.moves.Move.{Move}
use Rattle.gw_meaning.specs.declared.moves.Move.TheVariants as moves
use Rattle.gw_meaning.specs.Listing.{Listing}
use Rattle.gw_meaning.specs.Machine.{Machine, delay_at}
use Rattle.gw_meaning.specs.Changes.{lined_up, one_let_in, some_let_in, admitted, entering, bound, refused, picked, moved, watching}
use Rattle.gw_meaning.specs.Step.{run}
use Rattle.gw_meaning.proofs.Programs.{run_on}
use Rattle.gw_meaning.proofs.Chains.{IsOrdered, in_order}
use Rattle.gw_frame.proofs.Decided.{step_decides}
use Rattle.gw_frame.proofs.Known.{IsDecidedUpdate, IsDecided}
use Rattle.gw_frame.proofs.Moves.{settled_is, with_active_has, entered_has, picked_has}
use Rattle.gw_frame.proofs.Running.{over_run}
use Rattle.gw_laws.specs.Chain.{numbers_of, IsFirstInFirstOut}
use Rattle.gw_laws.specs.Delays.{DelaysAreInOrder, is_storage, DelaysAreFirstInFirstOut, IsBound, WhoWaitsIsBound}
use Rattle.gw_laws.proofs.Entries.{Each, at_has, with_has}
use Rattle.gw_laws.proofs.Waiting.{let_in_is, all_without, lined_all}
use Rattle.gw_laws.proofs.LettingIn.{set_has, no_storage, others_stay, entering_has}
use Rattle.gw_laws.proofs.Crowd.{active_crowd, waiting_with}
use Rattle.gw_laws.proofs.NumberLaws.{has_number, IsNumbered, all_numbered}
use Rattle.gw_laws.proofs.ChainLaws.{delay_ordered, all_chained, unchanged, lined_turn, picked_turn}
use Rattle.gw_laws.proofs.Anew.{all_go}

pub delays_are_in_order : DelaysAreInOrder
delays_are_in_order t seed n s is key = in_order (delay_at s.delays key) (delay_ordered s key (all_chained t seed n s is))

-- ---- first in first out

module _ (priority : ℤ) (q : Key) where
  abbrev InTurn : List Transaction → List Transaction → Type 0
  InTurn xs ys = IsFirstInFirstOut (numbers_of priority xs) (numbers_of priority ys)

  abbrev TakesTurns : Machine → Machine → Type 0
  TakesTurns s v = InTurn (delay_at s.delays q) (delay_at v.delays q)

  stays : (xs : List Transaction) → InTurn xs xs
  stays xs = unchanged (numbers_of priority xs)

  same_turn : (s v : Machine) → v.delays ≡ s.delays → TakesTurns s v
  same_turn s v same = rw same (stays (delay_at s.delays q))

  -- the first of a facility's chain is let in, where there is one, and of no chain but a storage's another one
  released_turn : (s v : Machine) (key : Key) (chain : List Transaction) → delay_at v.delays key ≡ chain → v.delays ≡ s.delays →
      TakesTurns s (some_let_in key (Some 1 ∷ []) [] chain v)
  released_turn s v key [] is same = same_turn s v same
  released_turn s v key (x ∷ xs) is same =
      let after = (let_in_is key x xs v).delays in
      let first : InTurn (delay_at v.delays key) xs = rw is (picked_turn priority x xs) in
      rw (after, ← same) (set_has InTurn stays v.delays q key xs first)

  update_turn : (t : Listing) (s v : Machine) (key : Key) (update : Update) → is_storage q ≡ false → v.delays ≡ s.delays → IsDecidedUpdate t s key update →
      TakesTurns s (admitted key update v)
  update_turn t s v key (updates.Facility (of_facility.Release next)) facility same decided = released_turn s v key (delay_at v.delays key) refl same
  update_turn t s v key (updates.Storage (of_storage.Leave units grants)) facility same decided =
      let other : key_eq q key ≡ false = ap (key_eq q) decided.named ∙ no_storage q decided.name facility in
      let rest = others_stay q key grants [] (delay_at v.delays key) v other in
      rw (rest, same) (stays (delay_at s.delays q))
  update_turn t s v key update facility same decided = same_turn s v same

  refused_turn : (s : Machine) (x : Transaction) (id : ℕ) (key : Key) (units : ℕ) → s.active ≡ Some x → IsNumbered s → IsOrdered (delay_at s.delays key) →
      TakesTurns s (refused s x id key units)
  refused_turn s x id key units is h order =
      set_has InTurn stays s.delays q key (lined_up (bound x id units) (delay_at s.delays key))
      (lined_turn priority (bound x id units) (delay_at s.delays key) order (λ k.
      let all = active_crowd (has_number k) s x is in
      let parts = waiting_with (has_number k) s.delays key [] in
      let once = h.apart k in
      omega arith))

  moved_turn : (t : Listing) (s : Machine) (m : Move) → is_storage q ≡ false → IsDecided t s m → IsNumbered s →
      ((key : Key) → IsOrdered (delay_at s.delays key)) → TakesTurns s (moved s m)
  moved_turn t s (moves.Start count arrivals) facility decided h order = same_turn s (moved s (moves.Start count arrivals)) refl
  moved_turn t s moves.Command facility decided h order = same_turn s (moved s moves.Command) refl
  moved_turn t s moves.Reset facility decided h order = same_turn s (moved s moves.Reset) refl
  moved_turn t s moves.Clear facility decided h order = all_go (numbers_of priority (delay_at s.delays q))
  moved_turn t s (moves.Enter id change fate) facility decided h order =
      with_active_has (TakesTurns s) s.active (λ x. entering s x id change fate) s (same_turn s s refl)
      (λ x is. entering_has (TakesTurns s) t s x id change fate decided.1 (λ v same entities. same_turn s v same)
      (λ v key update same entities does. update_turn t s v key update facility same does))
  moved_turn t s (moves.Refuse id key units) facility decided h order =
      with_active_has (TakesTurns s) s.active (λ x. refused s x id key units) s (same_turn s s refl) (λ x is. refused_turn s x id key units is h (order key))
  moved_turn t s (moves.Watch read) facility decided h order =
      with_active_has (TakesTurns s) s.active (λ x. watching s x read) s (same_turn s s refl) (λ x is. same_turn s (watching s x read) refl)
  moved_turn t s moves.Pick facility decided h order =
      picked_has (TakesTurns s) s s.current (same_turn s s refl) (λ x xs is. same_turn s (picked s (x ∷ xs)) refl)
  moved_turn t s (moves.Clock time) facility decided h order = same_turn s (moved s (moves.Clock time)) refl

pub delays_are_first_in_first_out : DelaysAreFirstInFirstOut
delays_are_first_in_first_out t seed n s v well within there is key priority facility =
    let after = (step_decides t seed s v (sym (run_on t seed n s there) ∙ is)).0 in
    let chained = all_chained t seed n s there in
    subst (TakesTurns priority key s) (sym after.is)
    (moved_turn priority key t s after.move facility after.is_decided (all_numbered t seed well n s there within) (λ other. delay_ordered s other chained))

-- ---- whoever waits has a block to go to

abbrev pub AreBound : List Transaction → Type 0
AreBound = AllByRecursion IsBound

abbrev pub AllAreBound : Machine → Type 0
AllAreBound s = Each AreBound s.delays

pub delay_bound : (s : Machine) (key : Key) → AllAreBound s → AreBound (delay_at s.delays key)
delay_bound s key h = at_has AreBound [] s.delays key tt h

lets_bound : (w : Machine) (key : Key) (x : Transaction) (passed xs : List Transaction) → delay_at w.delays key ≡ passed ++ x ∷ xs → AllAreBound w →
    AllAreBound (one_let_in key x (passed ++ xs) w)
lets_bound w key x passed xs is h =
    let chain : AreBound (passed ++ x ∷ xs) = subst AreBound is (delay_bound w key h) in
    rw (let_in_is key x (passed ++ xs) w).delays (with_has AreBound w.delays key (passed ++ xs) (all_without IsBound passed x xs chain) h)

refused_bound : (s : Machine) (x : Transaction) (id : ℕ) (key : Key) (units : ℕ) → AllAreBound s → AllAreBound (refused s x id key units)
refused_bound s x id key units h =
    with_has AreBound s.delays key _ (lined_all IsBound (bound x id units) (delay_at s.delays key) (id, refl) (delay_bound s key h)) h

moved_bound : (t : Listing) (s : Machine) (m : Move) → IsDecided t s m → AllAreBound s → AllAreBound (moved s m)
moved_bound t s moves.Clear decided h = tt
moved_bound t s (moves.Enter id change fate) decided h =
    entered_has AllAreBound AllAreBound t s id change fate decided.1 h (λ x is. rw (settled_is s x id change fate).delays h)
    (λ v. record {
      nothing = λ k. k;
      one = λ a coming k. k;
      lets = lets_bound;
      copies = λ w to x values copying k. k;
      unlinks = λ w key to x xs named is k. k;
    })
moved_bound t s (moves.Refuse id key units) decided h =
    with_active_has AllAreBound s.active (λ x. refused s x id key units) s h (λ x is. refused_bound s x id key units h)
moved_bound t s (moves.Watch read) decided h = with_active_has AllAreBound s.active (λ x. watching s x read) s h (λ x is. h)
moved_bound t s moves.Pick decided h = picked_has AllAreBound s s.current h (λ x xs is. h)
moved_bound t s m decided h = h

pub all_bound : (t : Listing) (seed n : ℕ) (s : Machine) → run t seed n ≡ Ok s → AllAreBound s
all_bound t seed = over_run t seed (λ n s. AllAreBound s) tt (λ n s m streams there decided h. moved_bound t s m decided h)

pub who_waits_is_bound : WhoWaitsIsBound
who_waits_is_bound t seed n s is key = All-from_recursion IsBound (delay_at s.delays key) (delay_bound s key (all_bound t seed n s is))
