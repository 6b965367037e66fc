-- The delay chains where one of them is set, and where the update of a block lets in: for the laws that go by the update.
use Rattle.std.proofs.Common.{◌≡◌, ℕ, true, false, cond, List, [], ◌∷◌, ◌++◌, Option, Some, None, refl, ap, ◌∙◌, inl, inr}
use Rattle.std.proofs.lemmas.Bool.{cases_Bool}
use Rattle.gw_names.specs.declared.key.Key.{Key}
use Rattle.gw_names.specs.declared.key.Key.TheVariants as keys
use Rattle.gw_names.specs.Keys.{key_eq}
use Rattle.gw_meaning.specs.Tables.{with_value}
use Rattle.gw_entities.proofs.QueueArrivalLaws.{key_same}
use Rattle.gw_meaning.specs.declared.transaction.Transaction.{Transaction}
use Rattle.gw_meaning.specs.declared.entity_change.Update.{Update}
use Rattle.gw_meaning.specs.declared.moves.Change.{Change}
use Rattle.gw_meaning.specs.declared.moves.Change.TheVariants as changes
use Rattle.gw_meaning.specs.declared.moves.Fate.{Fate}
use Rattle.gw_meaning.specs.Listing.{Listing}
use Rattle.gw_meaning.specs.Entities.{done}
use Rattle.gw_meaning.specs.Machine.{Machine, delay_at}
use Rattle.gw_meaning.specs.Changes.{one_let_in, some_let_in, admitted, entering}
use Rattle.gw_frame.proofs.Known.{IsDecidedChange, IsDecidedUpdate}
use Rattle.gw_frame.proofs.Moves.{settled, settled_is, split_is, unlink_is}
use Rattle.gw_laws.specs.Delays.{is_storage}
use Rattle.gw_laws.proofs.Entries.{at_with}
use Rattle.gw_laws.proofs.Waiting.{let_in_is}

-- ---- one chain, where another one is set in the place of some chain

pub set_here : (ds : List (Key × List Transaction)) (q key : Key) (xs : List Transaction) → key_eq q key ≡ true → delay_at (with_value ds key xs) q ≡ xs
set_here ds q key xs is = at_with [] ds key xs q ∙ ap (λ b. cond b xs (delay_at ds q)) is

pub set_there : (ds : List (Key × List Transaction)) (q key : Key) (xs : List Transaction) → key_eq q key ≡ false →
    delay_at (with_value ds key xs) q ≡ delay_at ds q
set_there ds q key xs other = at_with [] ds key xs q ∙ ap (λ b. cond b xs (delay_at ds q)) other

-- what holds of a chain that stays and of the one that is set, holds of each
pub set_has : (R : List Transaction → List Transaction → Type 0) → ((xs : List Transaction) → R xs xs) → (ds : List (Key × List Transaction)) (q key : Key)
    (xs : List Transaction) → R (delay_at ds key) xs → R (delay_at ds q) (delay_at (with_value ds key xs) q)
set_has R stays ds q key xs sets =
    elim (cases_Bool (key_eq q key)) [
      | inl is ↦ rw (set_here ds q key xs is, key_same q key is) sets
      | inr other ↦ rw (set_there ds q key xs other) (stays (delay_at ds q))
    ]

-- ---- the update of a block that is entered

-- the chains of facilities are none of a storage's
pub no_storage : (q : Key) (name : List ℕ) → is_storage q ≡ false → key_eq q (keys.Defined name) ≡ false
no_storage (keys.Num number) name facility = refl
no_storage (keys.Named other) name facility = refl
no_storage (keys.Defined other) name facility = absurd cc

-- who is let in from one chain leaves the others as they are, and the entities
pub others_stay : (q key : Key) (grants : List (Option ℕ)) (passed chain : List Transaction) (v : Machine) → key_eq q key ≡ false →
    delay_at (some_let_in key grants passed chain v).delays q ≡ delay_at v.delays q
others_stay q key [] passed chain v other = refl
others_stay q key (grant ∷ grants) passed [] v other = refl
others_stay q key (None ∷ grants) passed (x ∷ xs) v other = others_stay q key grants (passed ++ x ∷ []) xs v other
others_stay q key (Some units ∷ grants) passed (x ∷ xs) v other =
    others_stay q key grants passed xs (one_let_in key x (passed ++ xs) v) other
    ∙ (ap (λ ds. delay_at ds q) (let_in_is key x (passed ++ xs) v).delays ∙ set_there v.delays q key (passed ++ xs) other)

pub entities_stay : (key : Key) (grants : List (Option ℕ)) (passed chain : List Transaction) (v : Machine) →
    (some_let_in key grants passed chain v).entities ≡ v.entities
entities_stay key [] passed chain v = refl
entities_stay key (grant ∷ grants) passed [] v = refl
entities_stay key (None ∷ grants) passed (x ∷ xs) v = entities_stay key grants (passed ++ x ∷ []) xs v
entities_stay key (Some units ∷ grants) passed (x ∷ xs) v =
    entities_stay key grants passed xs (one_let_in key x (passed ++ xs) v) ∙ (let_in_is key x (passed ++ xs) v).entities

-- an update changes its entity, and lets in; any other change leaves the entities and the delay chains as they are
pub entering_has : (R : Machine → Type 0) (t : Listing) (s : Machine) (x : Transaction) (id : ℕ) (change : Change) (fate : Fate) →
    IsDecidedChange t s change → ((v : Machine) → v.delays ≡ s.delays → v.entities ≡ s.entities → R v) →
    ((v : Machine) (key : Key) (update : Update) → v.delays ≡ s.delays → v.entities ≡ done key update s.clock x.number s.entities →
    IsDecidedUpdate t s key update → R (admitted key update v)) → R (entering s x id change fate)
entering_has R t s x id (changes.Entity change) fate decided stays does =
    let same = settled_is s x id (changes.Entity change) fate in
    does (settled s x id (changes.Entity change) fate) change.0 change.1 same.delays same.entities decided
entering_has R t s x id (changes.Generate next) fate decided stays does =
    let same = settled_is s x id (changes.Generate next) fate in
    stays (entering s x id (changes.Generate next) fate) same.delays same.entities
entering_has R t s x id (changes.Transaction change) fate decided stays does =
    let same = settled_is s x id (changes.Transaction change) fate in
    stays (entering s x id (changes.Transaction change) fate) same.delays same.entities
entering_has R t s x id (changes.Split count to) fate decided stays does =
    let same = settled_is s x id (changes.Split count to) fate in
    let after = split_is (settled s x id (changes.Split count to) fate) count to in
    stays (entering s x id (changes.Split count to) fate) (after.delays ∙ same.delays) (after.entities ∙ same.entities)
entering_has R t s x id (changes.Unlink key count to) fate decided stays does =
    let same = settled_is s x id (changes.Unlink key count to) fate in
    let after = unlink_is (settled s x id (changes.Unlink key count to) fate) key count to in
    stays (entering s x id (changes.Unlink key count to) fate) (after.delays ∙ same.delays) (after.entities ∙ same.entities)
entering_has R t s x id changes.Nothing fate decided stays does =
    let same = settled_is s x id changes.Nothing fate in
    stays (entering s x id changes.Nothing fate) same.delays same.entities
