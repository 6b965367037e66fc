-- Nobody but its owner gives a facility back, the first that waits has it then, and nobody but the active transaction
-- takes a free one.
use Rattle.std.proofs.Common.{◌≡◌, ℕ, suc, ◌⊎◌, true, false, List, ◌++◌, Option, Some, None, is_some, Ok, refl, sym, subst, ap, ◌∙◌, inl, inr}
use Rattle.std.proofs.lemmas.Bool.{cases_Bool, eqb-true}
use Rattle.gw_names.specs.declared.key.Key.{Key}
use Rattle.gw_names.specs.Keys.{key_eq}
use Rattle.gw_meaning.specs.Records.{Ownership, seized}
use Rattle.gw_entities.proofs.QueueArrivalLaws.{key_same}
use Rattle.gw_meaning.specs.declared.transaction.Transaction.{Transaction}
use Rattle.gw_meaning.specs.declared.entity_change.Update.{Update}
use Rattle.gw_meaning.specs.declared.entity_change.Update.TheVariants as updates
use Rattle.gw_meaning.specs.declared.entity_change.FacilityUpdate.TheVariants as of_facility
use Rattle.gw_meaning.specs.declared.moves.Change.{Change}
use Rattle.gw_meaning.specs.declared.moves.Change.TheVariants as changes
use Rattle.gw_meaning.specs.declared.moves.Move.{Move}
use Rattle.gw_meaning.specs.declared.moves.Move.TheVariants as moves
use Rattle.gw_meaning.specs.Listing.{Listing}
use Rattle.gw_meaning.specs.Entities.{Entities, facility_at, given_back, done, touched}
use Rattle.gw_meaning.specs.Machine.{Machine, delay_at}
use Rattle.gw_meaning.specs.Changes.{refused, moved, watching}
use Rattle.gw_meaning.specs.Step.{is_owner, first_number, run}
use Rattle.gw_meaning.proofs.Programs.{run_on}
use Rattle.gw_laws.specs.Owners.{OnlyTheOwnerGivesBack, TheFirstIsGivenIt, OnlyTheActiveTakes}
use Rattle.gw_frame.proofs.Decided.{step_decides}
use Rattle.gw_frame.proofs.Known.{IsDecidedUpdate, IsDecidedChange, IsDecided}
use Rattle.gw_frame.proofs.Moves.{settled_is, with_active_has, entered_has, picked_has}
use Rattle.gw_laws.proofs.Waiting.{let_in_is}
use Rattle.gw_laws.proofs.OwnerLaws.{owner_here, owner_there}
use Rattle.gw_laws.proofs.Anew.{clears_or, no_clear, owner_reset}
use Rattle.gw_laws.specs.Anew.{Clears, IsNoClear}
use Rattle.gw_frame.proofs.Known.{IsAfter}
use Rattle.gw_meaning.specs.Changes.{decided}
use Rattle.gw_streams.specs.declared.stream.Stream.{Stream}

-- what was tested of an owner
no_owner : (o : Option ℕ) → is_some o ≡ false → o ≡ None
no_owner None none = refl
no_owner (Some number) none = absurd cc

his_own : (o : Option ℕ) (number : ℕ) → is_owner o number ≡ true → o ≡ Some number
his_own None number owns = absurd cc
his_own (Some owner) number owns = ap (λ k. Some k) (eqb-true owner number owns)

-- who owns a facility that was given back
given_to : (next : Option ℕ) (clock : ℕ) (f : Ownership) → (given_back next clock f).owner ≡ next
given_to None clock f = refl
given_to (Some number) clock f = refl

module _ (q : Key) where
  abbrev owner : Entities → Option ℕ
  owner e = (facility_at e q).owner

  -- the owner stays, or the active transaction gave the facility back to the first that waits, or took it while it was
  -- free
  abbrev PassesFrom : Machine → Transaction → Entities → Type 0
  PassesFrom s x after =
      ((owner s.entities ≡ Some x.number) × (owner after ≡ first_number (delay_at s.delays q)))
      ⊎ ((owner s.entities ≡ None) × (owner after ≡ Some x.number))

  abbrev Passes : Machine → Entities → Type 0
  Passes s e = (owner e ≡ owner s.entities) ⊎ ((x : Transaction) × (s.active ≡ Some x) × PassesFrom s x e)

  done_passes : (t : Listing) (s : Machine) (x : Transaction) (key : Key) (update : Update) → s.active ≡ Some x → IsDecidedUpdate t s key update →
      Passes s (done key update s.clock x.number s.entities)
  done_passes t s x key (updates.Facility of_facility.Seize) active decided =
      let f = seized x.number s.clock (facility_at s.entities key) in
      elim (cases_Bool (key_eq q key)) [
        | inl here ↦
            let none = ap (λ k. (facility_at s.entities k).owner) (key_same q key here) ∙ no_owner (facility_at s.entities key).owner decided.1 in
            inr (x, active, inr (none, owner_here s.entities key q f here))
        | inr other ↦ inl (owner_there s.entities key q f other)
      ]
  done_passes t s x key (updates.Facility (of_facility.Release next)) active decided =
      let f = given_back next s.clock (facility_at s.entities key) in
      elim (cases_Bool (key_eq q key)) [
        | inl here ↦
            let his = his_own (facility_at s.entities key).owner x.number (decided.2 x active) in
            let same = key_same q key here in
            let first = decided.1 ∙ sym (ap (λ k. first_number (delay_at s.delays k)) same) in
            let given = owner_here s.entities key q f here ∙ (given_to next s.clock (facility_at s.entities key) ∙ first) in
            inr (x, active, inl (ap (λ k. (facility_at s.entities k).owner) same ∙ his, given))
        | inr other ↦ inl (owner_there s.entities key q f other)
      ]
  done_passes t s x key update active decided = inl refl

  touched_passes : (t : Listing) (s : Machine) (x : Transaction) (change : Change) → s.active ≡ Some x → IsDecidedChange t s change →
      Passes s (touched change s.clock x.number s.entities)
  touched_passes t s x (changes.Entity change) active decided = done_passes t s x change.0 change.1 active decided
  touched_passes t s x change active decided = inl refl

  moved_passes : (t : Listing) (s : Machine) (m : Move) → IsDecided t s m → (Clears m → ⊥) → Passes s (moved s m).entities
  moved_passes t s (moves.Enter id change fate) decided apart =
      let P : Machine → Type 0 = λ v. Passes s v.entities in
      entered_has P P t s id change fate decided.1 (inl refl)
      (λ x is. subst (Passes s) (sym (settled_is s x id change fate).entities) (touched_passes t s x change is decided.1))
      (λ v. record {
        nothing = λ h. h;
        one = λ a coming h. h;
        lets = λ w key x passed xs is h. subst (Passes s) (sym (let_in_is key x (passed ++ xs) w).entities) h;
        copies = λ w to x values copying h. h;
        unlinks = λ w key to x xs named is h. h;
      })
  moved_passes t s (moves.Refuse id key units) decided apart =
      with_active_has (λ v. Passes s v.entities) s.active (λ x. refused s x id key units) s (inl refl) (λ x is. inl refl)
  moved_passes t s (moves.Watch read) decided apart =
      with_active_has (λ v. Passes s v.entities) s.active (λ x. watching s x read) s (inl refl) (λ x is. inl refl)
  moved_passes t s moves.Pick decided apart = picked_has (λ v. Passes s v.entities) s s.current (inl refl) (λ x xs is. inl refl)
  moved_passes t s moves.Reset decided apart = inl (owner_reset s q)
  moved_passes t s moves.Clear decided apart = absurd (apart tt)
  moved_passes t s m decided apart = inl refl

  behind_passes : (t : Listing) (seed : ℕ) (s v : Machine) (after : IsAfter t seed s v) → (Clears after.move → ⊥) → Passes s v.entities
  behind_passes t seed s v after apart = subst (λ w. Passes s w.entities) (sym after.is) (moved_passes t s after.move after.is_decided apart)

  step_passes : (t : Listing) (seed n : ℕ) (s v : Machine) → run t seed n ≡ Ok s → run t seed (suc n) ≡ Ok v → IsNoClear t s →
      Passes s v.entities
  step_passes t seed n s v there is none =
      let after = (step_decides t seed s v (sym (run_on t seed n s there) ∙ is)).0 in
      behind_passes t seed s v after (no_clear t s after.move after.is_decided none)

pub only_the_owner_gives_back : OnlyTheOwnerGivesBack
only_the_owner_gives_back t seed n s v there is none key number owned =
    elim (step_passes key t seed n s v there is none) [
      | inl same ↦ inl (same ∙ owned)
      | inr passed ↦ elim passed.2 [
        | inl his ↦ inr (passed.0, passed.1, (let both : Some passed.0.number ≡ Some number = sym his.0 ∙ owned in cc))
        | inr took ↦ absurd (let no : None ≡ Some number = sym took.0 ∙ owned in cc)
      ]
    ]

pub the_first_is_given_it : TheFirstIsGivenIt
the_first_is_given_it t seed n s v there is none key number owned =
    elim (step_passes key t seed n s v there is none) [
      | inl same ↦ inl (same ∙ owned)
      | inr passed ↦ elim passed.2 [
        | inl his ↦ inr his.1
        | inr took ↦ absurd (let no : None ≡ Some number = sym took.0 ∙ owned in cc)
      ]
    ]

pub only_the_active_takes : OnlyTheActiveTakes
only_the_active_takes t seed n s v there is key number free taken =
    let after = (step_decides t seed s v (sym (run_on t seed n s there) ∙ is)).0 in
    elim (clears_or after.move) [
      | inl clears ↦ absurd (free_behind after.move after.streams after.is clears)
      | inr apart ↦ elim (behind_passes key t seed s v after apart) [
        | inl same ↦ absurd (let no : None ≡ Some number = sym free ∙ (sym same ∙ taken) in cc)
        | inr passed ↦ elim passed.2 [
          | inl his ↦ absurd (let no : None ≡ Some passed.0.number = sym free ∙ his.0 in cc)
          | inr took ↦ (passed.0, passed.1, (let both : Some passed.0.number ≡ Some number = sym took.1 ∙ taken in cc))
        ]
      ]
    ]
  where
    -- nobody takes a facility in a CLEAR
    free_behind : (m : Move) (streams : List Stream) → v ≡ decided s m streams → Clears m → ⊥
    free_behind moves.Clear streams same c =
        let no : None ≡ Some number = ap (λ (w : Machine). (facility_at w.entities key).owner) (sym same) ∙ taken in cc
    free_behind m streams same c = c
