-- How far a run comes in so many steps: how many transactions live, and what the next number is.
use Rattle.std.proofs.Common.{◌≡◌, ℕ, suc, ◌+◌, ◌-◌, ◌*◌, ◌^◌, ◌≤◌, ◌<◌, Bool, true, List, [], ◌∷◌, ◌++◌, length, Ok, refl, arith}
use Rattle.gw_meaning.specs.declared.transaction.Transaction.{Transaction}
use Rattle.gw_meaning.specs.declared.moves.Arrival.{Arrival}
use Rattle.gw_meaning.specs.declared.moves.Move.{Move}
use Rattle.gw_meaning.specs.declared.moves.Move.TheVariants as moves
use Rattle.gw_meaning.specs.Listing.{Listing}
use Rattle.gw_meaning.specs.Machine.{Machine}
use Rattle.gw_meaning.specs.Changes.{Making, made, all_made, making_of, with_making, newcomer, started, one_let_in, one_unlinked, refused, moved, watching, written}
use Rattle.gw_meaning.specs.Step.{run}
use Rattle.gw_model.specs.Well.{Well}
use Rattle.gw_frame.proofs.Known.{IsDecided}
use Rattle.gw_frame.proofs.Moves.{settled, settled_is, with_active_has, entered_has, picked_has}
use Rattle.gw_frame.proofs.Running.{over_run}
use Rattle.gw_laws.proofs.Waiting.{let_in_is}
use Rattle.gw_laws.proofs.Crowd.{crowd, future_push, settled_fewer, lets_crowd, copied_crowd, unlinked_crowd, woken_crowd}
use Rattle.gw_laws.proofs.Anew.{all_stay}

abbrev pub anyone : Transaction → Bool
anyone x = true

-- so many were made at the most, and no more live
pub record IsWithin (most : ℕ) (s : Machine) : Type 0 where
  pub next : s.next ≤ most + 1
  pub crowd : crowd anyone s < s.next

within_more : (most more : ℕ) (s : Machine) → most ≤ more → IsWithin most s → IsWithin more s
within_more most more s less h = record { next = omega (arith, h.next); crowd = h.crowd }

-- making
made_within : (most : ℕ) (a : Arrival) (w : Making) (s : Machine) → most < 2 ^ 64 - 2 → IsWithin most (with_making w s) →
    IsWithin (most + 1) (with_making (made a w) s)
made_within most a w s room h =
    let push = future_push anyone w.future (newcomer w.next a) in
    record { next = omega (arith, h.next); crowd = omega (arith, room, push, h.next, h.crowd) }

all_made_within : (most : ℕ) (arrivals : List Arrival) (w : Making) (s : Machine) → most + length arrivals < 2 ^ 64 - 2 →
    IsWithin most (with_making w s) →
    IsWithin (most + length arrivals) (with_making (all_made arrivals w) s)
all_made_within most [] w s room h = record { next = omega (arith, h.next); crowd = h.crowd }
all_made_within most (a ∷ rest) w s room h =
    let whole = all_made_within (most + 1) rest (made a w) s (omega (arith, room)) (made_within most a w s (omega (arith, room)) h) in
    within_more (most + 1 + length rest) (most + suc (length rest)) (with_making (all_made rest (made a w)) s) (omega arith) whole

-- a state with no more living transactions, and the same next number
same_within : (most : ℕ) (s v : Machine) → v.next ≡ s.next → crowd anyone v ≤ crowd anyone s → IsWithin most s → IsWithin most v
same_within most s v next fewer h = record { next = omega (arith, next, h.next); crowd = omega (arith, next, fewer, h.crowd) }

-- each move
moved_within : (t : Listing) (s : Machine) (m : Move) (most : ℕ) → most + 100000 < 2 ^ 64 - 2 → length t.lines ≤ 2000 → IsDecided t s m →
    IsWithin most s → IsWithin (most + 100000) (moved s m)
moved_within t s (moves.Start count arrivals) most room few decided h =
    let first : IsWithin most (with_making (making_of s) (started count s)) = record { next = h.next; crowd = h.crowd } in
    within_more (most + length arrivals) (most + 100000) (moved s (moves.Start count arrivals)) (omega (arith, few, decided.few))
    (all_made_within most arrivals (making_of s) (started count s) (omega (arith, room, few, decided.few)) first)
moved_within t s moves.Clear most room few decided h = record { next = omega arith; crowd = omega arith }
moved_within t s (moves.Enter id change fate) most room few decided h =
    entered_has (IsWithin most) (IsWithin (most + 100000)) t s id change fate decided.1 (within_more most (most + 100000) s (omega arith) h)
    (λ x is. same_within most s (settled s x id change fate) (settled_is s x id change fate).next (settled_fewer anyone s x id change fate is refl) h)
    (λ v. record {
      nothing = λ k. within_more most (most + 100000) v (omega arith) k;
      one = λ a coming k.
          within_more (most + 1) (most + 100000) (with_making (made a (making_of v)) v) (omega arith)
          (made_within most a (making_of v) v (omega (arith, room)) k);
      lets = λ w key x passed xs is k.
          (let same = lets_crowd anyone w key x passed xs is refl in
          same_within (most + 100000) w (one_let_in key x (passed ++ xs) w) (let_in_is key x (passed ++ xs) w).next (omega arith) k);
      copies = λ w to x values copying k.
          (let more = copied_crowd anyone to x values w in
          record { next = omega (arith, copying.below, h.next); crowd = omega (arith, more, k.crowd, copying.below, h.next, room) });
      unlinks = λ w key to x xs named is k.
          (let same = unlinked_crowd anyone w key to x xs is refl in
          same_within (most + 100000) w (one_unlinked key to x xs w) refl (omega arith) k);
    })
moved_within t s m most room few decided h =
    let same = all_stay anyone t s m decided tt (λ x id units. refl) in
    within_more most (most + 100000) (moved s m) (omega arith) (same_within most s (moved s m) same.next (let crowd = same.crowd in omega arith) h)

-- over a run
pub all_within : (t : Listing) (seed n : ℕ) (s : Machine) → Well t → n ≤ t.limit → run t seed n ≡ Ok s → IsWithin (100000 * n) s
all_within t seed n s well within is =
    over_run t seed (λ n s. n ≤ t.limit → IsWithin (100000 * n) s) (λ early. record { next = omega arith; crowd = omega arith })
    (λ n s m streams there decided h early.
    let k = moved_within t s m (100000 * n) (omega (arith, early, well.greatest_limit)) well.statements decided (h (omega (arith, early))) in
    let same = woken_crowd anyone (written s m) (moved s m) in
    record { next = omega (arith, k.next); crowd = omega (arith, same, k.crowd) })
    n s is within

-- the next number stays at 2^64 - 1 once it is there
all_made_low : (arrivals : List Arrival) (w : Making) → w.next < 2 ^ 64 → (all_made arrivals w).next < 2 ^ 64
all_made_low [] w h = h
all_made_low (a ∷ rest) w h = all_made_low rest (made a w) (omega arith)

abbrev IsLow : Machine → Type 0
IsLow s = s.next < 2 ^ 64

moved_low : (t : Listing) (s : Machine) (m : Move) → IsDecided t s m → IsLow s → IsLow (moved s m)
moved_low t s (moves.Start count arrivals) decided h = all_made_low arrivals (making_of s) h
moved_low t s moves.Clear decided h = omega arith
moved_low t s (moves.Enter id change fate) decided h =
    entered_has IsLow IsLow t s id change fate decided.1 h (λ x is. rw (settled_is s x id change fate).next h)
    (λ v. record {
      nothing = λ k. k;
      one = λ a coming k. omega arith;
      lets = λ w key x passed xs is k. rw (let_in_is key x (passed ++ xs) w).next k;
      copies = λ w to x values copying k. omega arith;
      unlinks = λ w key to x xs named is k. k;
    })
moved_low t s (moves.Refuse id key units) decided h = with_active_has IsLow s.active (λ x. refused s x id key units) s h (λ x is. h)
moved_low t s (moves.Watch read) decided h = with_active_has IsLow s.active (λ x. watching s x read) s h (λ x is. h)
moved_low t s moves.Pick decided h = picked_has IsLow s s.current h (λ x xs is. h)
moved_low t s m decided h = h

pub all_low : (t : Listing) (seed n : ℕ) (s : Machine) → run t seed n ≡ Ok s → s.next < 2 ^ 64
all_low t seed = over_run t seed (λ n s. IsLow s) (omega arith) (λ n s m streams there decided h. moved_low t s m decided h)
