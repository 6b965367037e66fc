-- The numbers of transactions, move by move and over a run: none lives twice, and none lives that was not given yet.
use Rattle.std.proofs.Common.{◌≡◌, ◌≢◌, ℕ, ℤ, ◌+◌, ◌-◌, ◌<◌, ◌≤◌, ◌^◌, nat_eq, Bool, true, false, List, [], ◌∷◌, ◌++◌, length, Option, Some, None, Ok, refl, ap, sym, ◌∙◌, arith, inl, inr}
use Rattle.std.specs.Prelude.{AllPairs}
use Rattle.std.specs.List.{AllByRecursion, list_any}
use Rattle.std.proofs.lemmas.Bool.{cases_Bool, false≢true, eq-eqb, ne_eqb, cases_eq, cases_lt}
use Rattle.std.proofs.lemmas.List.Elements.{All-from_recursion}
use Rattle.std.proofs.lemmas.List.Kept.{AllPairs-cons}
use Rattle.gw_names.specs.declared.key.Key.{Key}
use Rattle.gw_meaning.specs.declared.transaction.Transaction.{Transaction}
use Rattle.gw_meaning.specs.declared.moves.Arrival.{Arrival}
use Rattle.gw_meaning.specs.declared.moves.Change.{Change}
use Rattle.gw_meaning.specs.declared.moves.Fate.{Fate}
use Rattle.gw_meaning.specs.declared.moves.Move.{Move}
use Rattle.gw_meaning.specs.declared.moves.Move.TheVariants as moves
use Rattle.gw_meaning.specs.Listing.{Listing}
use Rattle.gw_meaning.specs.Machine.{Machine, delay_at, user_chain_at}
use Rattle.gw_meaning.specs.Changes.{Making, made, all_made, making_of, with_making, newcomer, placed, marked, started, one_let_in, copied, one_copied, sent, one_unlinked, bound, moved, written, woken}
use Rattle.gw_meaning.specs.Step.{run}
use Rattle.gw_meaning.specs.declared.watched.Watched.{Watched}
use Rattle.gw_model.specs.Well.{Well}
use Rattle.gw_laws.specs.Living.{living}
use Rattle.gw_laws.specs.Numbering.{NumbersAreApart, NumbersAreGiven, NumbersAreGivenOnce}
use Rattle.gw_frame.proofs.Known.{IsDecided}
use Rattle.gw_frame.proofs.Moves.{settled, settled_is, marked_same, entered_has}
use Rattle.gw_frame.proofs.Running.{over_run, over_rest}
use Rattle.gw_laws.proofs.Waiting.{let_in_as, let_in_number, let_in_is}
use Rattle.gw_laws.proofs.Crowd.{one, many, crowd, many_living, future_push, settled_fewer, lets_crowd, copied_crowd, unlinked_crowd, woken_crowd}
use Rattle.gw_laws.proofs.Room.{all_within}
use Rattle.gw_laws.proofs.Anew.{all_stay, no_clear}
use Rattle.gw_laws.specs.Anew.{Clears}

abbrev pub has_number : ℕ → Transaction → Bool
has_number k x = nat_eq x.number k

-- of each number at most one lives, and none that is still to be given
pub record IsNumbered (s : Machine) : Type 0 where
  pub apart : (k : ℕ) → crowd (has_number k) s ≤ 1
  pub given : (k : ℕ) → s.next ≤ k → crowd (has_number k) s ≡ 0

-- a state where no more of each number live, with the same next number
pub same_numbered : (s v : Machine) → v.next ≡ s.next → ((k : ℕ) → crowd (has_number k) v ≤ crowd (has_number k) s) → IsNumbered s → IsNumbered v
same_numbered s v next fewer h = record {
  apart = λ k. let less = fewer k in let once = h.apart k in omega arith;
  given = λ k above. let less = fewer k in let none = h.given k (omega arith) in omega arith;
}

-- a new transaction has the next number
pub made_numbered : (a : Arrival) (w : Making) (s : Machine) → w.next < 2 ^ 64 - 1 → IsNumbered (with_making w s) →
    IsNumbered (with_making (made a w) s)
made_numbered a w s room h = record {
  apart = λ k.
      let push = future_push (has_number k) w.future (newcomer w.next a) in
      elim (cases_eq w.next k) [
        | inl same ↦ let new = eq-eqb w.next k same in let is : one (has_number k (newcomer w.next a).transaction) ≡ 1 = rw new refl in let none =
            h.given k (omega arith) in omega arith
        | inr other ↦ let old =
            ne_eqb w.next k other in let is : one (has_number k (newcomer w.next a).transaction) ≡ 0 = rw old refl in let once = h.apart k in omega arith
      ];
  given = λ k above.
      let push = future_push (has_number k) w.future (newcomer w.next a) in
      let old = ne_eqb w.next k (λ same. omega arith) in
      let is : one (has_number k (newcomer w.next a).transaction) ≡ 0 = rw old refl in
      let none = h.given k (omega arith) in
      omega arith;
}

all_made_numbered : (arrivals : List Arrival) (w : Making) (s : Machine) → w.next + length arrivals < 2 ^ 64 - 1 → IsNumbered (with_making w s) →
    IsNumbered (with_making (all_made arrivals w) s)
all_made_numbered [] w s room h = h
all_made_numbered (a ∷ rest) w s room h = all_made_numbered rest (made a w) s (omega arith) (made_numbered a w s (omega arith) h)

-- who waited and is let in keeps the number
pub lets_same : (k : ℕ) (w : Machine) (key : Key) (x : Transaction) (passed xs : List Transaction) → delay_at w.delays key ≡ passed ++ x ∷ xs →
    crowd (has_number k) (one_let_in key x (passed ++ xs) w) ≡ crowd (has_number k) w
lets_same k w key x passed xs is = lets_crowd (has_number k) w key x passed xs is (ap (λ n. nat_eq n k) (let_in_number x x.destination))

-- whoever enters a block keeps the number, and so does who is let in
pub settled_numbered : (s : Machine) (x : Transaction) (id : ℕ) (change : Change) (fate : Fate) → s.active ≡ Some x → IsNumbered s →
    IsNumbered (settled s x id change fate)
settled_numbered s x id change fate is h =
    same_numbered s (settled s x id change fate) (settled_is s x id change fate).next
    (λ k. settled_fewer (has_number k) s x id change fate is (ap (λ n. nat_eq n k) (marked_same change s.clock (placed x id)).0)) h

pub lets_numbered : (w : Machine) (key : Key) (x : Transaction) (passed xs : List Transaction) → delay_at w.delays key ≡ passed ++ x ∷ xs →
    IsNumbered w → IsNumbered (one_let_in key x (passed ++ xs) w)
lets_numbered w key x passed xs is h =
    same_numbered w (one_let_in key x (passed ++ xs) w) (let_in_is key x (passed ++ xs) w).next
    (λ k. let same = lets_same k w key x passed xs is in omega arith) h

-- a copy has the next number, too
pub copied_numbered : (to : Option ℕ) (x : Transaction) (values : List (Key × ℤ)) (s : Machine) → s.next < 2 ^ 64 - 1 → IsNumbered s →
    IsNumbered (one_copied to x values s)
copied_numbered to x values s room h = record {
  apart = λ k.
      let more = copied_crowd (has_number k) to x values s in
      elim (cases_eq s.next k) [
        | inl same ↦
            let is : one (has_number k (copied x s.next to)) ≡ 1 = ap one (eq-eqb s.next k same) in
            let none = h.given k (omega arith) in
            omega arith
        | inr other ↦
            let is : one (has_number k (copied x s.next to)) ≡ 0 = ap one (ne_eqb s.next k other) in
            let once = h.apart k in
            omega arith
      ];
  given = λ k above.
      let more = copied_crowd (has_number k) to x values s in
      let is : one (has_number k (copied x s.next to)) ≡ 0 = ap one (ne_eqb s.next k (λ same. omega arith)) in
      let none = h.given k (omega arith) in
      omega arith;
}

-- whoever is unlinked keeps the number
pub unlinked_numbered : (w : Machine) (key : Key) (to : Option ℕ) (x : Transaction) (xs : List Transaction) →
    (user_chain_at w.linked key).members ≡ x ∷ xs →
    IsNumbered w → IsNumbered (one_unlinked key to x xs w)
unlinked_numbered w key to x xs is h =
    same_numbered w (one_unlinked key to x xs w) refl (λ k. let same = unlinked_crowd (has_number k) w key to x xs is refl in omega arith) h

-- each move
moved_numbered : (t : Listing) (s : Machine) (m : Move) → s.next + length t.lines + 100000 < 2 ^ 64 - 1 → IsDecided t s m → IsNumbered s →
    IsNumbered (moved s m)
moved_numbered t s (moves.Start count arrivals) room decided h =
    all_made_numbered arrivals (making_of s) (started count s) (omega (arith, room, decided.few)) (record { apart = h.apart; given = h.given })
moved_numbered t s moves.Clear room decided h = record { apart = λ k. omega arith; given = λ k above. refl }
moved_numbered t s (moves.Enter id change fate) room decided h =
    entered_has (λ v. (v.next ≡ s.next) × IsNumbered v) IsNumbered t s id change fate decided.1 h
    (λ x is. ((settled_is s x id change fate).next, settled_numbered s x id change fate is h))
    (λ v. record {
      nothing = λ k. k.1;
      one = λ a coming k. made_numbered a (making_of v) v (omega (arith, k.0)) k.1;
      lets = lets_numbered;
      copies = λ w to x values copying k. copied_numbered to x values w (omega (arith, room, copying.below)) k;
      unlinks = λ w key to x xs named is k. unlinked_numbered w key to x xs is k;
    })
moved_numbered t s m room decided h =
    same_numbered s (moved s m) (all_stay (λ x. true) t s m decided tt (λ x id units. refl)).next
    (λ k. let same = (all_stay (has_number k) t s m decided tt (λ x id units. refl)).crowd in omega arith) h

-- over a run
pub all_numbered : (t : Listing) (seed : ℕ) → Well t → (n : ℕ) (s : Machine) → run t seed n ≡ Ok s → n ≤ t.limit → IsNumbered s
all_numbered t seed well =
    over_run t seed (λ n s. n ≤ t.limit → IsNumbered s) (λ within. record { apart = λ k. omega arith; given = λ k above. refl })
    (λ n s m streams there decided h within.
    let room = all_within t seed n s well (omega (arith, within)) there in
    let k = moved_numbered t s m (omega (arith, room.next, within, well.greatest_limit, well.statements)) decided (h (omega arith)) in
    let v = moved s m in
    let all = same_numbered v (woken (written s m) v) refl (λ i. let same = woken_crowd (has_number i) (written s m) v in omega arith) k in
    record { apart = all.apart; given = all.given })

-- what that says of the list of the living
none_has : (k : ℕ) (xs : List Transaction) → many (has_number k) xs ≡ 0 → AllByRecursion (λ (y : Transaction). k ≢ y.number) xs
none_has k [] none = tt
none_has k (y ∷ ys) none =
    ((λ same. let here = eq-eqb y.number k (sym same) in let is : one (has_number k y) ≡ 1 = rw here refl in omega arith), none_has k ys (omega arith))

apart_in : (xs : List Transaction) → ((k : ℕ) → many (has_number k) xs ≤ 1) → AllPairs (λ (x y : Transaction). x.number ≢ y.number) xs
apart_in [] once = λ i j d before within. absurd (omega arith)
apart_in (x ∷ xs) once =
    let here = eq-eqb x.number x.number refl in
    let is : one (has_number x.number x) ≡ 1 = rw here refl in
    let first = once x.number in
    AllPairs-cons (λ (x y : Transaction). x.number ≢ y.number) x xs
    (All-from_recursion (λ (y : Transaction). x.number ≢ y.number) xs (none_has x.number xs (omega arith)))
    (apart_in xs (λ k. let all = once k in omega arith))

given_in : (next : ℕ) (xs : List Transaction) → ((k : ℕ) → next ≤ k → many (has_number k) xs ≡ 0) → AllByRecursion (λ (x : Transaction). x.number < next) xs
given_in next [] none = tt
given_in next (x ∷ xs) none =
    let rest = given_in next xs (λ k above. let all = none k above in omega arith) in
    elim (cases_lt x.number next) [
      | inl below ↦ (below, rest)
      | inr above ↦ absurd (let here = eq-eqb x.number x.number refl in let is : one (has_number x.number x) ≡ 1 = rw here refl in let all =
          none x.number above in omega arith)
    ]

pub numbers_are_apart : NumbersAreApart
numbers_are_apart t seed n s well within is =
    let h = all_numbered t seed well n s is within in
    apart_in (living s) (λ k. let same = many_living (has_number k) s in let once = h.apart k in omega arith)

pub numbers_are_given : NumbersAreGiven
numbers_are_given t seed n s well within is =
    let h = all_numbered t seed well n s is within in
    All-from_recursion (λ (x : Transaction). x.number < s.next) (living s)
    (given_in s.next (living s) (λ k above. many_living (has_number k) s ∙ h.given k above))

-- a test that only a transaction of one number passes, wherever it stands and waits, and wherever it is sent
pub record IsOf (k : ℕ) (test : Transaction → Bool) : Type 0 where
  pub no_other : (x : Transaction) → nat_eq x.number k ≡ false → test x ≡ false
  pub stands : (x : Transaction) (id : ℕ) → test (placed x id) ≡ test x
  pub waits : (x : Transaction) (id units : ℕ) → test (bound x id units) ≡ test x
  pub goes : (x : Transaction) (to : Option ℕ) → test (sent to x) ≡ test x

pub of_number : (k : ℕ) → IsOf k (has_number k)
of_number k = record { no_other = λ x other. other; stands = λ x id. refl; waits = λ x id units. refl; goes = λ x to. refl }

-- A number that was given, of which no transaction passes a test: none does after a move, where the block that the active one
-- enters does not change what it comes to.
module _ (k : ℕ) (test : Transaction → Bool) (of : IsOf k test) where
  abbrev pub IsGone : Machine → Type 0
  IsGone s = (k < s.next) × (crowd test s ≡ 0)

  abbrev pub StaysSo : Machine → Type 0
  StaysSo s = (x : Transaction) (change : Change) (id : ℕ) → s.active ≡ Some x → test (marked change s.clock (placed x id)) ≡ test x

  let_in_test : (x : Transaction) (to : Option ℕ) → test (let_in_as x to) ≡ test x
  let_in_test x None = refl
  let_in_test x (Some id) = of.stands x id

  pub made_gone : (a : Arrival) (w : Making) (s : Machine) → w.next < 2 ^ 64 - 1 → IsGone (with_making w s) → IsGone (with_making (made a w) s)
  made_gone a w s room h =
      let push = future_push test w.future (newcomer w.next a) in
      let is = ap one (of.no_other (newcomer w.next a).transaction (ne_eqb w.next k (λ same. omega (arith, h.0)))) in
      (omega (arith, h.0), omega (arith, h.1, push, is))

  all_made_gone : (arrivals : List Arrival) (w : Making) (s : Machine) → w.next + length arrivals < 2 ^ 64 - 1 → IsGone (with_making w s) →
      IsGone (with_making (all_made arrivals w) s)
  all_made_gone [] w s room h = h
  all_made_gone (a ∷ rest) w s room h = all_made_gone rest (made a w) s (omega arith) (made_gone a w s (omega arith) h)

  pub lets_gone : (w : Machine) (key : Key) (x : Transaction) (passed xs : List Transaction) → delay_at w.delays key ≡ passed ++ x ∷ xs → IsGone w →
      IsGone (one_let_in key x (passed ++ xs) w)
  lets_gone w key x passed xs is h =
      let same = lets_crowd test w key x passed xs is (let_in_test x x.destination) in
      let next = (let_in_is key x (passed ++ xs) w).next in
      (omega (arith, next, h.0), omega (arith, same, h.1))

  pub copied_gone : (to : Option ℕ) (x : Transaction) (values : List (Key × ℤ)) (w : Machine) → w.next < 2 ^ 64 - 1 → IsGone w →
      IsGone (one_copied to x values w)
  copied_gone to x values w room h =
      let more = copied_crowd test to x values w in
      let is = ap one (of.no_other (copied x w.next to) (ne_eqb w.next k (λ same. omega (arith, h.0)))) in
      (omega (arith, h.0), omega (arith, h.1, more, is))

  pub unlinked_gone : (w : Machine) (key : Key) (to : Option ℕ) (x : Transaction) (xs : List Transaction) →
      (user_chain_at w.linked key).members ≡ x ∷ xs → IsGone w → IsGone (one_unlinked key to x xs w)
  unlinked_gone w key to x xs is h = let same = unlinked_crowd test w key to x xs is (of.goes x to) in (h.0, omega (arith, same, h.1))

  pub moved_gone : (t : Listing) (s : Machine) (m : Move) → s.next + length t.lines + 100000 < 2 ^ 64 - 1 → IsDecided t s m → (Clears m → ⊥) → StaysSo s →
      IsGone s →
      IsGone (moved s m)
  moved_gone t s (moves.Start count arrivals) room decided apart stays h =
      all_made_gone arrivals (making_of s) (started count s) (omega (arith, room, decided.few)) h
  moved_gone t s moves.Clear room decided apart stays h = absurd (apart tt)
  moved_gone t s (moves.Enter id change fate) room decided apart stays h =
      entered_has (λ v. (v.next ≡ s.next) × IsGone v) IsGone t s id change fate decided.1 h
      (λ x is.
      let v = settled s x id change fate in
      let next : v.next ≡ s.next = (settled_is s x id change fate).next in
      let fewer = settled_fewer test s x id change fate is (stays x change id is) in
      (next, (omega (arith, next, h.0), omega (arith, fewer, h.1))))
      (λ v. record {
        nothing = λ g. g.1;
        one = λ a coming g. made_gone a (making_of v) v (omega (arith, room, g.0)) g.1;
        lets = lets_gone;
        copies = λ w to x values copying g. copied_gone to x values w (omega (arith, room, copying.below)) g;
        unlinks = λ w key to x xs named is g. unlinked_gone w key to x xs is g;
      })
  moved_gone t s m room decided apart stays h =
      let same = all_stay test t s m decided tt of.waits in
      let next = same.next in
      let crowd' = same.crowd in
      (omega (arith, next, h.0), omega (arith, crowd', h.1))

  pub woken_gone : (list : List Watched) (s : Machine) → IsGone s → IsGone (woken list s)
  woken_gone list s h = let same = woken_crowd test list s in (h.0, omega (arith, same, h.1))

module _ (k : ℕ) where
  -- what that says of the list of the living
  pub not_alive : (xs : List Transaction) → list_any (has_number k) xs ≡ false → many (has_number k) xs ≡ 0
  not_alive [] none = refl
  not_alive (x ∷ xs) none =
      elim (cases_Bool (has_number k x)) [
        | inl is ↦ absurd (let no : true ≡ false = rw is at none in false≢true (sym no))
        | inr other ↦ let no_more : one (has_number k x) ≡ 0 = rw other refl in let rest = not_alive xs (rw other at none) in omega arith
      ]

  pub alive : (xs : List Transaction) → many (has_number k) xs ≡ 0 → list_any (has_number k) xs ≡ false
  alive [] none = refl
  alive (x ∷ xs) none =
      elim (cases_Bool (has_number k x)) [
        | inl is ↦ absurd (let one_more : one (has_number k x) ≡ 1 = rw is refl in omega arith)
        | inr other ↦ rw other (alive xs (omega arith))
      ]

pub numbers_are_given_once : NumbersAreGivenOnce
numbers_are_given_once t seed m n s v well before within there is none k given gone =
    let Gone : Machine → Type 0 = IsGone k (has_number k) (of_number k) in
    let start : Gone s = (given, sym (many_living (has_number k) s) ∙ not_alive k (living s) gone) in
    let rest =
    over_rest t seed (λ i u. (m ≤ i) × (i ≤ n → Gone u)) m s there (omega arith, λ early. start)
    (λ i u move streams at decided h. (
      omega (arith, h.0),
      λ early.
          let room = all_within t seed i u well (omega (arith, early, within)) at in
          let apart = no_clear t u move decided (none i u h.0 (omega (arith, early)) at) in
          woken_gone k (has_number k) (of_number k) (written u move) (moved u move)
          (moved_gone k (has_number k) (of_number k) t u move (omega (arith, room.next, early, within, well.greatest_limit, well.statements)) decided apart
          (λ x change id is. ap (λ n. nat_eq n k) (marked_same change u.clock (placed x id)).0) (h.1 (omega (arith, early)))),
    )) n v before is in
    alive k (living v) (many_living (has_number k) v ∙ (rest.1 (omega arith)).1)
