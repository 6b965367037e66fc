-- The parameters that are kept, move by move and over a run: of the living alone.
use Rattle.std.proofs.Common.{◌≡◌, ℕ, ℤ, ◌+◌, ◌≤◌, nat_eq, nat_lt, Bool, true, false, List, [], ◌∷◌, ◌++◌, ◌⊎◌, Option, Some, None, Ok, refl, ap, sym, ◌∙◌, inl, inr, arith}
use Rattle.std.specs.List.{list_any}
use Rattle.std.proofs.lemmas.Bool.{cases_Bool, eq-eqb, eqb-true}
use Rattle.std.proofs.lemmas.Bool.Decides.{nat_tests}
use Rattle.gw_names.specs.declared.key.Key.{Key}
use Rattle.gw_meaning.specs.Tables.{with_value}
use Rattle.gw_meaning.specs.Parameters.{Held, values_at, with_values, assigned, inherited, without}
use Rattle.gw_meaning.specs.declared.transaction.Transaction.{Transaction}
use Rattle.gw_meaning.specs.declared.moves.Arrival.{Arrival}
use Rattle.gw_meaning.specs.declared.moves.Change.{Change}
use Rattle.gw_meaning.specs.declared.moves.Change.TheVariants as changes
use Rattle.gw_meaning.specs.declared.transaction_change.TransactionChange.TheVariants as own
use Rattle.gw_meaning.specs.declared.moves.Fate.{Fate}
use Rattle.gw_meaning.specs.declared.moves.Fate.TheVariants as fates
use Rattle.gw_meaning.specs.declared.moves.Move.{Move}
use Rattle.gw_meaning.specs.declared.moves.Move.TheVariants as moves
use Rattle.gw_meaning.specs.Listing.{Listing}
use Rattle.gw_meaning.specs.Machine.{Machine}
use Rattle.gw_meaning.specs.Changes.{Making, made, all_made, making_of, with_making, placed, marked, held_by, started, let_in, one_let_in, copied, one_copied, one_unlinked, moved, written, woken}
use Rattle.gw_meaning.specs.Step.{run}
use Rattle.gw_laws.specs.Parameters.{ParametersAreOfTheLiving}
use Rattle.gw_frame.proofs.Known.{IsDecided}
use Rattle.gw_frame.proofs.Moves.{settled, marked_same, entered_has}
use Rattle.gw_frame.proofs.Running.{over_run}
use Rattle.gw_laws.proofs.Crowd.{one, remains, active_crowd, settled_crowd, copied_crowd, unlinked_crowd, woken_crowd}
use Rattle.gw_laws.proofs.NumberLaws.{has_number, lets_same}
use Rattle.gw_laws.proofs.Waiting.{leaving}
use Rattle.gw_laws.proofs.LossLaws.{Lives, made_lives, all_made_lives, lives_here}
use Rattle.gw_laws.proofs.Anew.{all_stay}

abbrev pub Values : Type 0
Values = List (Key × ℤ)

nat_eq_symm : (a b : ℕ) → nat_eq a b ≡ nat_eq b a
nat_eq_symm a b = grind (arith, nat_tests)

-- how often the parameters of a transaction are kept
abbrev pub is_of : ℕ → ℕ × Values → Bool
is_of k h = nat_eq k h.0

abbrev pub times : ℕ → Held → ℕ
times k [] = 0
times k (h ∷ hs) = one (is_of k h) + times k hs

-- those of one transaction are set
set_others : (k n : ℕ) (held : Held) (values : Values) → nat_eq k n ≡ false → times k (with_values held n values) ≡ times k held
set_others k n [] values apart = let none : one (nat_eq k n) ≡ 0 = rw apart refl in omega arith
set_others k n (h ∷ hs) values apart =
    elim (cases_Bool (nat_eq n h.0)) [
      | inl is ↦ rw is refl
      | inr other ↦
          elim (cases_Bool (nat_lt n h.0)) [
            | inl before ↦ let none : one (nat_eq k n) ≡ 0 = rw apart refl in rw (other, before) (omega arith)
            | inr behind ↦ rw (other, behind) (ap (λ m. one (is_of k h) + m) (set_others k n hs values apart))
          ]
    ]

-- those of one transaction are forgotten
pub forget_fewer : (k n : ℕ) (held : Held) → times k (without held n) ≤ times k held
forget_fewer k n [] = omega arith
forget_fewer k n (h ∷ hs) =
    let rest = forget_fewer k n hs in
    elim (cases_Bool (nat_eq n h.0)) [ inl is ↦ rw is (omega arith) | inr other ↦ rw other (omega arith) ]

forget_all : (n : ℕ) (held : Held) → times n (without held n) ≡ 0
forget_all n [] = refl
forget_all n (h ∷ hs) =
    let rest = forget_all n hs in
    elim (cases_Bool (nat_eq n h.0)) [
      | inl is ↦ rw is rest
      | inr other ↦ rw other (let none : one (nat_eq n h.0) ≡ 0 = rw other refl in omega arith)
    ]

-- what a block sets of the parameters of its transaction
set_has : (k n : ℕ) (held : Held) (values : Values) → 1 ≤ times k (with_values held n values) → (k ≡ n) ⊎ (1 ≤ times k held)
set_has k n held values some =
    elim (cases_Bool (nat_eq k n)) [
      | inl is ↦ inl (eqb-true k n is)
      | inr other ↦ let same = set_others k n held values other in inr (omega arith)
    ]

change_has : (k n : ℕ) (change : Change) (held : Held) → 1 ≤ times k (held_by change n held) → (k ≡ n) ⊎ (1 ≤ times k held)
change_has k n (changes.Transaction (own.Assign key to)) held some = set_has k n held (with_value (values_at held n) key to) some
change_has k n (changes.Transaction (own.Loop key left to)) held some = set_has k n held (with_value (values_at held n) key left) some
change_has k n change held some = inr some

inherited_has : (k n : ℕ) (values : Values) (held : Held) → 1 ≤ times k (inherited values n held) → (k ≡ n) ⊎ (1 ≤ times k held)
inherited_has k n [] held some = inr some
inherited_has k n (v ∷ vs) held some =
    elim (inherited_has k n vs (assigned held n v.0 v.1) some) [
      | inl same ↦ inl same
      | inr before ↦ set_has k n held (with_value (values_at held n) v.0 v.1) before
    ]

-- ---- moves

-- parameters are kept of the living alone
pub record AreKept (s : Machine) : Type 0 where
  pub alive : (k : ℕ) → 1 ≤ times k s.parameters → Lives k s

same_kept : (s v : Machine) → v.parameters ≡ s.parameters → ((k : ℕ) → Lives k s → Lives k v) → AreKept s → AreKept v
same_kept s v same live h = record { alive = λ k some. live k (h.alive k (rw same at some)) }

module _ (s : Machine) (x : Transaction) (id : ℕ) (change : Change) (is : s.active ≡ Some x) (h : AreKept s) where
  abbrev number : ℕ
  number = (marked change s.clock (placed x id)).number

  number_is : number ≡ x.number
  number_is = (marked_same change s.clock (placed x id)).0

  -- whoever has parameters after the change lives before it
  alive_before : (k : ℕ) → 1 ≤ times k (held_by change x.number s.parameters) → Lives k s
  alive_before k some =
      elim (change_has k x.number change s.parameters some) [
        | inl same ↦
            let was = active_crowd (has_number k) s x is in
            let here = eq-eqb x.number k (sym same) in
            let is_one : one (has_number k x) ≡ 1 = rw here refl in
            omega arith
        | inr before ↦ h.alive k before
      ]

  stays_kept : (fate : Fate) → (settled s x id change fate).parameters ≡ held_by change x.number s.parameters →
      ((n : ℕ) → remains fate n ≡ n) → AreKept (settled s x id change fate)
  stays_kept fate parameters stays = record {
    alive = λ k some.
        let lived = alive_before k (rw parameters at some) in
        let was = active_crowd (has_number k) s x is in
        let now = settled_crowd (has_number k) s x id change fate in
        let still = stays (one (has_number k (marked change s.clock (placed x id)))) in
        let same : one (has_number k (marked change s.clock (placed x id))) ≡ one (has_number k x) = ap (λ n. one (nat_eq n k)) number_is in
        omega arith;
  }

  settled_kept : (fate : Fate) → AreKept (settled s x id change fate)
  settled_kept fates.Active = stays_kept fates.Active refl (λ n. refl)
  settled_kept fates.Current = stays_kept fates.Current refl (λ n. refl)
  settled_kept (fates.Delayed until) = stays_kept (fates.Delayed until) refl (λ n. refl)
  settled_kept (fates.Linked key discipline) = stays_kept (fates.Linked key discipline) refl (λ n. refl)
  settled_kept (fates.Destroyed count) =
      let held = held_by change x.number s.parameters in
      record {
        alive = λ k some.
            elim (cases_Bool (nat_eq k number)) [
              | inl same ↦
                  let at = eqb-true k number same in
                  let none = forget_all number held in
                  let some_there : 1 ≤ times number (without held number) = rw at at some in
                  absurd (omega arith)
              | inr other ↦
                  let fewer = forget_fewer k number held in
                  let lived = alive_before k (omega arith) in
                  let was = active_crowd (has_number k) s x is in
                  let now = settled_crowd (has_number k) s x id change (fates.Destroyed count) in
                  let apart : nat_eq x.number k ≡ false = rw number_is at (nat_eq_symm number k ∙ other) in
                  let not_he : one (has_number k x) ≡ 0 = rw apart refl in
                  omega arith
            ];
      }

pub let_in_parameters : (x : Transaction) (to : Option ℕ) (s : Machine) → (let_in x to s).parameters ≡ s.parameters
let_in_parameters x None s = refl
let_in_parameters x (Some id) s = refl

-- a copy lives
copied_kept : (to : Option ℕ) (x : Transaction) (values : Values) (w : Machine) → AreKept w → AreKept (one_copied to x values w)
copied_kept to x values w h = record {
  alive = λ k some.
      let more = copied_crowd (has_number k) to x values w in
      elim (inherited_has k w.next values w.parameters some) [
        | inl same ↦ let is : one (has_number k (copied x w.next to)) ≡ 1 = ap one (eq-eqb w.next k (sym same)) in omega arith
        | inr before ↦ let lived = h.alive k before in omega arith
      ];
}

all_made_parameters : (arrivals : List Arrival) (w : Making) (s : Machine) → (with_making (all_made arrivals w) s).parameters ≡ s.parameters
all_made_parameters arrivals w s = refl

-- each move
moved_kept : (t : Listing) (s : Machine) (m : Move) → IsDecided t s m → AreKept s → AreKept (moved s m)
moved_kept t s (moves.Start count arrivals) decided h =
    same_kept s (moved s (moves.Start count arrivals)) refl (λ k lived. all_made_lives k arrivals (making_of s) (started count s) lived) h
moved_kept t s moves.Clear decided h = record { alive = λ k some. absurd (omega arith) }
moved_kept t s (moves.Enter id change fate) decided h =
    entered_has AreKept AreKept t s id change fate decided.1 h (λ x is. settled_kept s x id change is h fate)
    (λ v. record {
      nothing = λ g. g;
      one = λ a coming g. same_kept v (with_making (made a (making_of v)) v) refl (λ k lived. made_lives k a (making_of v) v lived) g;
      lets = λ w key x passed xs is g.
          same_kept w (one_let_in key x (passed ++ xs) w) (let_in_parameters x x.destination (leaving w key (passed ++ xs)))
          (λ k lived. let same = lets_same k w key x passed xs is in omega arith) g;
      copies = λ w to x values copying g. copied_kept to x values w g;
      unlinks = λ w key to x xs named is g.
          same_kept w (one_unlinked key to x xs w) refl
          (λ k lived. let same = unlinked_crowd (has_number k) w key to x xs is refl in omega arith) g;
    })
moved_kept t s m decided h =
    same_kept s (moved s m) (all_stay (λ x. true) t s m decided tt (λ x id units. refl)).parameters
    (λ k lived. let same = (all_stay (has_number k) t s m decided tt (λ x id units. refl)).crowd in omega arith) h

-- over a run
pub all_kept : (t : Listing) (seed n : ℕ) (s : Machine) → run t seed n ≡ Ok s → AreKept s
all_kept t seed n s there =
    over_run t seed (λ n s. AreKept s) (record { alive = λ k some. absurd (omega arith) })
    (λ n s m streams there decided h.
    (let v = moved s m in
    let k = same_kept v (woken (written s m) v) refl
    (λ i lived. let same = woken_crowd (has_number i) (written s m) v in omega arith) (moved_kept t s m decided h) in
    record { alive = k.alive }))
    n s there

-- what that says of the list of parameters
some_times : (k : ℕ) (held : Held) → list_any (λ (h : ℕ × Values). nat_eq k h.0) held ≡ true → 1 ≤ times k held
some_times k [] is = absurd cc
some_times k (h ∷ hs) is =
    elim (cases_Bool (nat_eq k h.0)) [
      | inl here ↦ let is_one : one (nat_eq k h.0) ≡ 1 = rw here refl in omega arith
      | inr other ↦ let rest = some_times k hs (rw other at is) in omega arith
    ]

pub parameters_are_of_the_living : ParametersAreOfTheLiving
parameters_are_of_the_living t seed n s there number has =
    lives_here number s ((all_kept t seed n s there).alive number (some_times number s.parameters has))
