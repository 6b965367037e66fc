-- In a step no parameters change but those of the active transaction.
use Rattle.std.proofs.Common.{◌≡◌, ◌≢◌, ℕ, ◌+◌, ◌-◌, ◌^◌, ◌<◌, List, nat_eq, nat_lt, false, cond, [], ◌∷◌, ◌++◌, ◌⊎◌, Option, Some, unwrap_or, refl, ap, sym, subst, ◌∙◌, inl, inr, arith}
use Rattle.std.specs.Map.{lookup}
use Rattle.std.proofs.lemmas.Bool.Decides.{nat_tests}
use Rattle.std.proofs.lemmas.Bool.{cases_Bool, cases_eq, cases_lt, eq-eqb, ne_eqb, eqb-true, false≢true}
use Rattle.gw_names.specs.declared.key.Key.{Key}
use Rattle.gw_meaning.specs.Tables.{with_value}
use Rattle.gw_meaning.specs.Parameters.{Held, values_at, with_values, assigned, inherited, without}
use Rattle.gw_meaning.specs.declared.transaction.Transaction.{Transaction}
use Rattle.gw_meaning.specs.declared.moves.Change.{Change}
use Rattle.gw_meaning.specs.declared.moves.Change.TheVariants as changes
use Rattle.gw_meaning.specs.declared.transaction_change.TransactionChange.{TransactionChange}
use Rattle.gw_meaning.specs.declared.transaction_change.TransactionChange.TheVariants as own
use Rattle.gw_meaning.specs.declared.moves.Fate.{Fate}
use Rattle.gw_meaning.specs.declared.moves.Fate.TheVariants as fates
use Rattle.gw_meaning.specs.declared.moves.Move.{Move}
use Rattle.gw_meaning.specs.declared.moves.Move.TheVariants as moves
use Rattle.gw_meaning.specs.Listing.{Listing}
use Rattle.gw_meaning.specs.Machine.{Machine, delay_at, user_chain_at}
use Rattle.gw_meaning.specs.Changes.{own_held, held_by, making_of, placed, marked, one_let_in, one_copied, one_unlinked, refused, moved, watching, written, woken}
use Rattle.gw_meaning.proofs.Programs.{run_on}
use Rattle.gw_meaning.specs.declared.watched.Watched.{Watched}
use Rattle.gw_laws.specs.Living.{IsActive}
use Rattle.gw_laws.specs.Parameters.{ParametersAreOnesOwn, SetsAtMostOne, OneParameterIsSet}
use Rattle.gw_frame.proofs.Decided.{step_decides}
use Rattle.gw_frame.proofs.Known.{IsDecided}
use Rattle.gw_frame.proofs.Moves.{IsCopying, settled, settled_is, marked_same, with_active_has, entered_has, picked_has}
use Rattle.gw_laws.specs.Living.{living}
use Rattle.gw_laws.proofs.Crowd.{one, active_crowd, settled_crowd, many_living}
use Rattle.gw_laws.proofs.NumberLaws.{has_number, IsNumbered, of_number, IsGone, made_gone, lets_gone, copied_gone, unlinked_gone, alive, all_numbered, woken_gone}
use Rattle.gw_laws.proofs.Room.{all_within, all_low}
use Rattle.gw_laws.proofs.Waiting.{leaving}
use Rattle.gw_laws.proofs.ParameterLaws.{Values, let_in_parameters}
use Rattle.gw_laws.proofs.Anew.{clears_or, no_clear, nobody_lives}
use Rattle.gw_laws.specs.Anew.{Clears}
use Rattle.gw_frame.proofs.Known.{IsAfter}
use Rattle.gw_laws.specs.Numbering.{lives}
use Rattle.std.specs.List.{list_any}

-- ---- where the parameters of one transaction are set or forgotten, those of the others stay

other_way : (n k : ℕ) → nat_eq n k ≡ false → nat_eq k n ≡ false
other_way n k apart = grind (arith, nat_tests)

set_elsewhere : (k n : ℕ) (held : Held) (values : Values) → nat_eq k n ≡ false → lookup (nat_eq k) (with_values held n values) ≡ lookup (nat_eq k) held
set_elsewhere k n [] values apart = rw apart refl
set_elsewhere k n (h ∷ hs) values apart =
    elim (cases_Bool (nat_eq n h.0)) [
      | inl is ↦
          let differs : nat_eq k h.0 ≡ false = ap (nat_eq k) (sym (eqb-true n h.0 is)) ∙ apart in
          rw (is, differs) refl
      | inr other ↦
          elim (cases_Bool (nat_lt n h.0)) [
            | inl before ↦ rw (other, before) (ap (λ b. cond b (Some values) (cond (nat_eq k h.0) (Some h.1) (lookup (nat_eq k) hs))) apart)
            | inr behind ↦ rw (other, behind) (ap (λ o. cond (nat_eq k h.0) (Some h.1) o) (set_elsewhere k n hs values apart))
          ]
    ]

forgotten_elsewhere : (k n : ℕ) (held : Held) → nat_eq n k ≡ false → lookup (nat_eq k) (without held n) ≡ lookup (nat_eq k) held
forgotten_elsewhere k n [] apart = refl
forgotten_elsewhere k n (h ∷ hs) apart =
    elim (cases_Bool (nat_eq n h.0)) [
      | inl is ↦
          let differs : nat_eq k h.0 ≡ false = ap (nat_eq k) (sym (eqb-true n h.0 is)) ∙ other_way n k apart in
          rw is (forgotten_elsewhere k n hs apart ∙ sym (ap (λ b. cond b (Some h.1) (lookup (nat_eq k) hs)) differs))
      | inr other ↦ rw other (ap (λ o. cond (nat_eq k h.0) (Some h.1) o) (forgotten_elsewhere k n hs apart))
    ]

own_elsewhere : (k n : ℕ) (change : TransactionChange) (held : Held) → nat_eq k n ≡ false → lookup (nat_eq k) (own_held change n held) ≡ lookup (nat_eq k) held
own_elsewhere k n (own.Assign key to) held apart = set_elsewhere k n held (with_value (values_at held n) key to) apart
own_elsewhere k n (own.Loop key left to) held apart = set_elsewhere k n held (with_value (values_at held n) key left) apart
own_elsewhere k n change held apart = refl

change_elsewhere : (k n : ℕ) (change : Change) (held : Held) → nat_eq k n ≡ false → lookup (nat_eq k) (held_by change n held) ≡ lookup (nat_eq k) held
change_elsewhere k n (changes.Transaction change) held apart = own_elsewhere k n change held apart
change_elsewhere k n change held apart = refl

pub inherited_elsewhere : (k n : ℕ) (values : Values) (held : Held) → nat_eq k n ≡ false →
    lookup (nat_eq k) (inherited values n held) ≡ lookup (nat_eq k) held
inherited_elsewhere k n [] held apart = refl
inherited_elsewhere k n (v ∷ vs) held apart =
    inherited_elsewhere k n vs (assigned held n v.0 v.1) apart ∙ set_elsewhere k n held (with_value (values_at held n) v.0 v.1) apart

-- ---- moves

module _ (k : ℕ) where
  -- a copy has a number that was not given before the step
  copied_elsewhere : (t : Listing) (s w : Machine) (to : Option ℕ) (x : Transaction) (values : Values) → s.next < 2 ^ 64 → k < s.next →
      IsCopying t s w to x → values_at (one_copied to x values w).parameters k ≡ values_at w.parameters k
  copied_elsewhere t s w to x values low given copying =
      let above = copying.above low in
      ap (λ o. unwrap_or o []) (inherited_elsewhere k w.next values w.parameters (ne_eqb k w.next (λ same. omega (arith, given, above, same))))

  -- its parameters stay, or it was active
  abbrev pub KeepsParameters : Machine → Machine → Type 0
  KeepsParameters s v = (values_at v.parameters k ≡ values_at s.parameters k) ⊎ IsActive s k

  settled_elsewhere : (s : Machine) (x : Transaction) (id : ℕ) (change : Change) (fate : Fate) → x.number ≢ k →
      lookup (nat_eq k) (settled s x id change fate).parameters ≡ lookup (nat_eq k) s.parameters
  settled_elsewhere s x id change (fates.Destroyed count) other =
      let number = (marked change s.clock (placed x id)).number in
      let same : number ≡ x.number = (marked_same change s.clock (placed x id)).0 in
      let apart = ne_eqb number k (λ is. other (sym same ∙ is)) in
      let not_his = ne_eqb k x.number (λ is. other (sym is)) in
      forgotten_elsewhere k number (held_by change x.number s.parameters) apart
      ∙ change_elsewhere k x.number change s.parameters not_his
  settled_elsewhere s x id change fate other = change_elsewhere k x.number change s.parameters (ne_eqb k x.number (λ is. other (sym is)))

  pub moved_elsewhere : (t : Listing) (s : Machine) (m : Move) → s.next < 2 ^ 64 → k < s.next → IsDecided t s m → (Clears m → ⊥) →
      KeepsParameters s (moved s m)
  moved_elsewhere t s (moves.Enter id change fate) low given decided apart =
      entered_has (KeepsParameters s) (KeepsParameters s) t s id change fate decided.1 (inl refl)
      (λ x is.
      elim (cases_eq x.number k) [
        | inl same ↦ inr (x, is, same)
        | inr other ↦ inl (ap (λ o. unwrap_or o []) (settled_elsewhere s x id change fate other))
      ])
      (λ v. record {
        nothing = λ g. g;
        one = λ a coming g. g;
        lets = λ w key x passed xs is g. elim g [
          | inl same ↦ inl (ap (λ held. values_at held k) (let_in_parameters x x.destination (leaving w key (passed ++ xs))) ∙ same)
          | inr was ↦ inr was
        ];
        copies = λ w to x values copying g. elim g [
          | inl same ↦ inl (copied_elsewhere t s w to x values low given copying ∙ same)
          | inr was ↦ inr was
        ];
        unlinks = λ w key to x xs named is g. g;
      })
  moved_elsewhere t s (moves.Refuse id key units) low given decided apart =
      with_active_has (KeepsParameters s) s.active (λ x. refused s x id key units) s (inl refl) (λ x is. inl refl)
  moved_elsewhere t s (moves.Watch read) low given decided apart =
      with_active_has (KeepsParameters s) s.active (λ x. watching s x read) s (inl refl) (λ x is. inl refl)
  moved_elsewhere t s moves.Pick low given decided apart = picked_has (KeepsParameters s) s s.current (inl refl) (λ x xs is. inl refl)
  moved_elsewhere t s moves.Clear low given decided apart = absurd (apart tt)
  moved_elsewhere t s m low given decided apart = inl refl

pub parameters_are_ones_own : ParametersAreOnesOwn
parameters_are_ones_own t seed n s v there is none k given =
    let after = (step_decides t seed s v (sym (run_on t seed n s there) ∙ is)).0 in
    subst (KeepsParameters k s) (sym after.is) (moved_elsewhere k t s after.move (all_low t seed n s there) given after.is_decided
    (no_clear t s after.move after.is_decided none))

-- ---- of one transaction, one parameter is set at most

pub set_here : (n : ℕ) (held : Held) (values : Values) → lookup (nat_eq n) (with_values held n values) ≡ Some values
set_here n [] values = let here = eq-eqb n n refl in rw here refl
set_here n (h ∷ hs) values =
    elim (cases_Bool (nat_eq n h.0)) [
      | inl is ↦ rw is (ap (λ b. cond b (Some values) (lookup (nat_eq n) hs)) is)
      | inr other ↦
          elim (cases_Bool (nat_lt n h.0)) [
            | inl before ↦ rw (other, before) (ap (λ b. cond b (Some values) (lookup (nat_eq n) (h ∷ hs))) (eq-eqb n n refl))
            | inr behind ↦ rw (other, behind) (rw other (set_here n hs values))
          ]
    ]

own_sets : (n : ℕ) (change : TransactionChange) (held : Held) → SetsAtMostOne (values_at held n) (values_at (own_held change n held) n)
own_sets n (own.Assign key to) held = inr (key, to, ap (λ o. unwrap_or o []) (set_here n held (with_value (values_at held n) key to)))
own_sets n (own.Loop key left to) held = inr (key, left, ap (λ o. unwrap_or o []) (set_here n held (with_value (values_at held n) key left)))
own_sets n change held = inl refl

change_sets : (n : ℕ) (change : Change) (held : Held) → SetsAtMostOne (values_at held n) (values_at (held_by change n held) n)
change_sets n (changes.Transaction change) held = own_sets n change held
change_sets n change held = inl refl

held_sets : (k n : ℕ) (change : Change) (held : Held) → SetsAtMostOne (values_at held k) (values_at (held_by change n held) k)
held_sets k n change held =
    elim (cases_eq k n) [
      | inl same ↦ subst (λ j. SetsAtMostOne (values_at held j) (values_at (held_by change n held) j)) (sym same) (change_sets n change held)
      | inr other ↦ inl (ap (λ o. unwrap_or o []) (change_elsewhere k n change held (ne_eqb k n other)))
    ]

module _ (k : ℕ) where
  abbrev Gone : Machine → Type 0
  Gone = IsGone k (has_number k) (of_number k)

  -- one is set, or it is destroyed
  abbrev SetsOne : Machine → Machine → Type 0
  SetsOne s v = SetsAtMostOne (values_at s.parameters k) (values_at v.parameters k) ⊎ Gone v

  destroyed_gone : (s : Machine) (x : Transaction) (id : ℕ) (change : Change) (count : ℕ) → s.active ≡ Some x → x.number ≡ k → IsNumbered s →
      Gone (settled s x id change (fates.Destroyed count))
  destroyed_gone s x id change count is same h =
      let here : one (has_number k x) ≡ 1 = ap one (eq-eqb x.number k same) in
      let was = active_crowd (has_number k) s x is in
      let now = settled_crowd (has_number k) s x id change (fates.Destroyed count) in
      let once = h.apart k in (
        elim (cases_lt k s.next) [ inl below ↦ below | inr above ↦ absurd (let none = h.given k above in omega arith) ],
        omega arith,
      )

  settled_sets : (s : Machine) (x : Transaction) (id : ℕ) (change : Change) (fate : Fate) → s.active ≡ Some x → IsNumbered s →
      SetsOne s (settled s x id change fate)
  settled_sets s x id change (fates.Destroyed count) is h =
      elim (cases_eq x.number k) [
        | inl same ↦ inr (destroyed_gone s x id change count is same h)
        | inr other ↦ inl (inl (ap (λ o. unwrap_or o []) (settled_elsewhere k s x id change (fates.Destroyed count) other)))
      ]
  settled_sets s x id change fate is h = inl (held_sets k x.number change s.parameters)

  lets_sets : (s w : Machine) (key : Key) (x : Transaction) (passed xs : List Transaction) → delay_at w.delays key ≡ passed ++ x ∷ xs → SetsOne s w →
      SetsOne s (one_let_in key x (passed ++ xs) w)
  lets_sets s w key x passed xs is (inl sets) =
      inl (subst (λ held. SetsAtMostOne (values_at s.parameters k) (values_at held k))
      (sym (let_in_parameters x x.destination (leaving w key (passed ++ xs)))) sets)
  lets_sets s w key x passed xs is (inr gone) = inr (lets_gone k (has_number k) (of_number k) w key x passed xs is gone)

  copied_sets : (t : Listing) (s w : Machine) (to : Option ℕ) (x : Transaction) (values : Values) → s.next + 100000 < 2 ^ 64 - 1 → k < s.next →
      IsCopying t s w to x → SetsOne s w → SetsOne s (one_copied to x values w)
  copied_sets t s w to x values room given copying (inl sets) =
      inl (subst (SetsAtMostOne (values_at s.parameters k)) (sym (copied_elsewhere k t s w to x values (omega (arith, room)) given copying)) sets)
  copied_sets t s w to x values room given copying (inr gone) =
      inr (copied_gone k (has_number k) (of_number k) to x values w (omega (arith, room, copying.below)) gone)

  unlinked_sets : (s w : Machine) (key : Key) (to : Option ℕ) (x : Transaction) (xs : List Transaction) →
      (user_chain_at w.linked key).members ≡ x ∷ xs → SetsOne s w → SetsOne s (one_unlinked key to x xs w)
  unlinked_sets s w key to x xs is (inl sets) = inl sets
  unlinked_sets s w key to x xs is (inr gone) = inr (unlinked_gone k (has_number k) (of_number k) w key to x xs is gone)

  moved_sets : (t : Listing) (s : Machine) (m : Move) → s.next + 100000 < 2 ^ 64 - 1 → k < s.next → IsDecided t s m → (Clears m → ⊥) →
      IsNumbered s → SetsOne s (moved s m)
  moved_sets t s (moves.Enter id change fate) room given decided apart h =
      entered_has (λ v. (v.next ≡ s.next) × SetsOne s v) (SetsOne s) t s id change fate decided.1 (inl (inl refl))
      (λ x is. ((settled_is s x id change fate).next, settled_sets s x id change fate is h))
      (λ v. record {
        nothing = λ g. g.1;
        one = λ a coming g. elim g.1 [
          | inl sets ↦ inl sets
          | inr gone ↦ inr (made_gone k (has_number k) (of_number k) a (making_of v) v (omega (arith, room, g.0)) gone)
        ];
        lets = lets_sets s;
        copies = λ w to x values copying g. copied_sets t s w to x values room given copying g;
        unlinks = λ w key to x xs named is g. unlinked_sets s w key to x xs is g;
      })
  moved_sets t s (moves.Refuse id key units) room given decided apart h =
      with_active_has (SetsOne s) s.active (λ x. refused s x id key units) s (inl (inl refl)) (λ x is. inl (inl refl))
  moved_sets t s (moves.Watch read) room given decided apart h =
      with_active_has (SetsOne s) s.active (λ x. watching s x read) s (inl (inl refl)) (λ x is. inl (inl refl))
  moved_sets t s moves.Pick room given decided apart h = picked_has (SetsOne s) s s.current (inl (inl refl)) (λ x xs is. inl (inl refl))
  moved_sets t s moves.Clear room given decided apart h = absurd (apart tt)
  moved_sets t s m room given decided apart h = inl (inl refl)

  woken_sets : (list : List Watched) (s v : Machine) → SetsOne s v → SetsOne s (woken list v)
  woken_sets list s v (inl sets) = inl sets
  woken_sets list s v (inr gone) = inr (woken_gone k (has_number k) (of_number k) list v gone)

pub one_parameter_is_set : OneParameterIsSet
one_parameter_is_set t seed n s v well within there is k given lives' =
    let after = (step_decides t seed s v (sym (run_on t seed n s there) ∙ is)).0 in
    elim (clears_or after.move) [
      | inl clears ↦ absurd (
          let none = nobody_lives s v after.move after.streams after.is clears in
          let no : lives v k ≡ false = ap (λ xs. list_any (has_number k) xs) none in
          false≢true (sym no ∙ lives'))
      | inr apart ↦ go after apart
    ]
  where
    go : (after : IsAfter t seed s v) → (Clears after.move → ⊥) → SetsAtMostOne (values_at s.parameters k) (values_at v.parameters k)
    go after apart =
        let room = all_within t seed n s well within there in
        let sets =
        woken_sets k (written s after.move) s (moved s after.move)
        (moved_sets k t s after.move (omega (arith, room.next, within, well.greatest_limit)) given after.is_decided apart
        (all_numbered t seed well n s there within)) in
        elim (subst (SetsOne k s) (sym after.is) sets) [
          | inl one' ↦ one'
          | inr gone ↦ absurd (let no = alive k (living v) (many_living (has_number k) v ∙ gone.1) in false≢true (sym no ∙ lives'))
        ]
