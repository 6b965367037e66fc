-- The storages, move by move and over a run: each is within its capacity.
use Rattle.std.proofs.Common.{◌≡◌, ℕ, ◌+◌, ◌-◌, ◌≤◌, ◌<◌, ◌^◌, nat_le, Bool, true, false, cond, List, [], ◌∷◌, Option, Some, Ok, unwrap_or, refl, sym, subst, ◌∙◌, arith}
use Rattle.std.specs.List.{AllByRecursion}
use Rattle.std.proofs.lemmas.Bool.Decides.{nat_tests}
use Rattle.std.proofs.lemmas.List.Elements.{All-from_recursion}
use Rattle.std.proofs.lemmas.Bool.{leb-true}
use Rattle.gw_names.specs.declared.key.Key.{Key}
use Rattle.gw_names.specs.declared.key.Key.TheVariants as keys
use Rattle.gw_names.specs.Keys.{key_eq}
use Rattle.gw_meaning.specs.Records.{Store, never_used, entered, left}
use Rattle.gw_meaning.specs.Tables.{value_of, with_value}
use Rattle.gw_entities.proofs.QueueArrivalLaws.{key_same}
use Rattle.gw_meaning.specs.declared.transaction.Transaction.{Transaction}
use Rattle.gw_meaning.specs.declared.entity_change.Update.{Update}
use Rattle.gw_meaning.specs.declared.entity_change.Update.TheVariants as updates
use Rattle.gw_meaning.specs.declared.entity_change.StorageUpdate.TheVariants as of_storage
use Rattle.gw_meaning.specs.Listing.{Listing, capacity_at}
use Rattle.gw_meaning.specs.Entities.{store_at, all_entered, done}
use Rattle.gw_meaning.specs.Machine.{Machine, delay_at}
use Rattle.gw_meaning.specs.Step.{beside, in_use, grant_of, all_granted, run}
use Rattle.gw_frame.proofs.Known.{does_fit, grants_of, ComesIn, GoesOut, IsDecidedUpdate}
use Rattle.gw_laws.specs.Storages.{IsWithin, IsStored, StoragesAreWithin}
use Rattle.gw_laws.proofs.EntityLaws.{KeepsEntities, over_entities}
use Rattle.gw_meaning.specs.Entities.{all_anew}
use Rattle.gw_meaning.specs.Records.{storage_anew}

pub no_room : (n m : ℕ) → nat_le n m ≡ false → m < n
no_room n m is = grind (arith, nat_tests)

-- a storage is within, and its content is a count of 64 bits
pub record IsSound (capacity clock : ℕ) (s : Store) : Type 0 where
  pub within : IsWithin capacity clock s
  pub counted : s.level.content ≤ 2 ^ 64 - 1

never_sound : (capacity clock : ℕ) → IsSound capacity clock never_used
never_sound capacity clock = record {
  within = record { content = omega arith; least = omega arith; most = omega arith; greatest = omega arith; entries = omega arith; at = omega arith };
  counted = omega arith;
}

-- what a block makes of one
entered_sound : (capacity clock units : ℕ) (s : Store) → beside units s.level.content ≤ capacity → s.entries + units ≤ 1000000000 →
    IsSound capacity clock s → IsSound capacity clock (entered units clock s)
entered_sound capacity clock units s fits few h = record {
  within = record {
    content = omega arith;
    least = omega (arith, h.within.least, h.counted);
    most = omega arith;
    greatest = omega (arith, h.within.greatest);
    entries = omega arith;
    at = omega (arith, h.within.at);
  };
  counted = omega arith;
}

left_sound : (capacity clock units : ℕ) (s : Store) → IsSound capacity clock s → IsSound capacity clock (left units clock s)
left_sound capacity clock units s h = record {
  within = record {
    content = omega (arith, h.within.content);
    least = omega arith;
    most = omega (arith, h.within.most);
    greatest = h.within.greatest;
    entries = h.within.entries;
    at = omega (arith, h.within.at);
  };
  counted = omega (arith, h.counted);
}

module _ (t : Listing) (clock : ℕ) where
  -- those who are let in with a grant of what is left
  shared_sound : (name : List ℕ) (chain : List Transaction) (content : ℕ) (s : Store) → s.level.content ≡ content →
      s.entries + all_granted (grants_of t name content chain) ≤ 1000000000 → IsSound (capacity_at t name) clock s →
      IsSound (capacity_at t name) clock (all_entered (grants_of t name content chain) clock s)
  shared_sound name [] content s is few h = h
  shared_sound name (x ∷ xs) content s is few h =
      go (does_fit t name (beside x.asked content)) refl (shared_sound name xs) few
    where
      go : (fits : Bool) → does_fit t name (beside x.asked content) ≡ fits →
          ((c : ℕ) (r : Store) → r.level.content ≡ c → r.entries + all_granted (grants_of t name c xs) ≤ 1000000000 → IsSound (capacity_at t name) clock r →
          IsSound (capacity_at t name) clock (all_entered (grants_of t name c xs) clock r)) →
          s.entries + all_granted (grant_of x.asked fits ∷ grants_of t name (in_use content x.asked fits) xs) ≤ 1000000000 →
          IsSound (capacity_at t name) clock (all_entered (grant_of x.asked fits ∷ grants_of t name (in_use content x.asked fits) xs) clock s)
      go false fits rest few = rest content s is few h
      go true fits rest few =
          let room = leb-true (beside x.asked content) (capacity_at t name) fits in
          rest (beside x.asked content) (entered x.asked clock s) (omega (arith, is)) (omega (arith, few))
          (entered_sound (capacity_at t name) clock x.asked s (omega (arith, is, room)) (omega (arith, few)) h)

  -- each storage has a name, and is sound
  abbrev IsKept : Key × Store → Type 0
  IsKept e = (name : List ℕ) × (e.0 ≡ keys.Defined name) × IsSound (capacity_at t name) clock e.1

  abbrev AreKept : List (Key × Store) → Type 0
  AreKept = AllByRecursion IsKept

  pub one_name : (a b : List ℕ) → keys.Defined a ≡ keys.Defined b → a ≡ b
  one_name a b same = cc

  pub store_sound : (es : List (Key × Store)) (name : List ℕ) → AreKept es →
      IsSound (capacity_at t name) clock (unwrap_or (value_of es (keys.Defined name)) never_used)
  store_sound [] name all = never_sound (capacity_at t name) clock
  store_sound (e ∷ es) name all = go (key_eq (keys.Defined name) e.0) refl (store_sound es name all.1) where
    go : (b : Bool) → key_eq (keys.Defined name) e.0 ≡ b →
        IsSound (capacity_at t name) clock (unwrap_or (value_of es (keys.Defined name)) never_used) →
        IsSound (capacity_at t name) clock (unwrap_or (cond b (Some e.1) (value_of es (keys.Defined name))) never_used)
    go true is rest =
        let same : all.0.0 ≡ name = one_name all.0.0 name (sym (key_same (keys.Defined name) e.0 is ∙ all.0.1)) in
        subst (λ n. IsSound (capacity_at t n) clock e.1) same all.0.2
    go false is rest = rest

  with_sound : (es : List (Key × Store)) (name : List ℕ) (s : Store) → IsSound (capacity_at t name) clock s → AreKept es →
      AreKept (with_value es (keys.Defined name) s)
  with_sound [] name s here all = ((name, refl, here), tt)
  with_sound (e ∷ es) name s here all = go (key_eq (keys.Defined name) e.0) refl (with_sound es name s here all.1) where
    go : (b : Bool) → key_eq (keys.Defined name) e.0 ≡ b → AreKept (with_value es (keys.Defined name) s) →
        AreKept (cond b ((e.0, s) ∷ es) (e ∷ with_value es (keys.Defined name) s))
    go true is rest = ((name, sym (key_same (keys.Defined name) e.0 is), here), all.1)
    go false is rest = (all.0, rest)

-- what is known of ENTER and LEAVE, in the words of the name
abbrev FitsIn : Listing → Machine → List ℕ → ℕ → Key → Type 0
FitsIn t s name units key = (does_fit t name (beside units (store_at s.entities key).level.content) ≡ true) × ((store_at s.entities key).entries + units ≤
    1000000000)

abbrev pub LeavesTo : Listing → Machine → List ℕ → ℕ → List (Option ℕ) → Key → Type 0
LeavesTo t s name units grants key =
    (grants ≡ grants_of t name ((store_at s.entities key).level.content - units) (delay_at s.delays key))
    × ((store_at s.entities key).entries + all_granted grants ≤ 1000000000)

comes_in : (t : Listing) (s : Machine) (key : Key) (units : ℕ) (h : ComesIn t s key units) → FitsIn t s h.name units (keys.Defined h.name)
comes_in t s key units h = subst (FitsIn t s h.name units) h.named (h.fits, h.entries)

pub goes_out : (t : Listing) (s : Machine) (key : Key) (units : ℕ) (grants : List (Option ℕ)) (h : GoesOut t s key units grants) →
    LeavesTo t s h.name units grants (keys.Defined h.name)
goes_out t s key units grants h = subst (LeavesTo t s h.name units grants) h.named (h.shared, h.entries)

enter_kept : (t : Listing) (s : Machine) (name : List ℕ) (units number : ℕ) → FitsIn t s name units (keys.Defined name) →
    AreKept t s.clock s.entities.storages → AreKept t s.clock (done (keys.Defined name) (updates.Storage (of_storage.Enter units)) s.clock number s.entities).storages
enter_kept t s name units number h all =
    let store = store_at s.entities (keys.Defined name) in
    let room = leb-true (beside units store.level.content) (capacity_at t name) h.0 in
    with_sound t s.clock s.entities.storages name (entered units s.clock store)
    (entered_sound (capacity_at t name) s.clock units store room h.1 (store_sound t s.clock s.entities.storages name all)) all

leave_kept : (t : Listing) (s : Machine) (name : List ℕ) (units : ℕ) (grants : List (Option ℕ)) (number : ℕ) →
    LeavesTo t s name units grants (keys.Defined name) → AreKept t s.clock s.entities.storages →
    AreKept t s.clock (done (keys.Defined name) (updates.Storage (of_storage.Leave units grants)) s.clock number s.entities).storages
leave_kept t s name units grants number h all =
    let store = store_at s.entities (keys.Defined name) in
    let chain = delay_at s.delays (keys.Defined name) in
    let content = store.level.content - units in
    let few : store.entries + all_granted (grants_of t name content chain) ≤ 1000000000 =
    subst (λ rs. store.entries + all_granted rs ≤ 1000000000) h.0 h.1 in
    with_sound t s.clock s.entities.storages name (all_entered grants s.clock (left units s.clock store))
    (subst (λ rs. IsSound (capacity_at t name) s.clock (all_entered rs s.clock (left units s.clock store))) (sym h.0)
    (shared_sound t s.clock name chain content (left units s.clock store) refl few
    (left_sound (capacity_at t name) s.clock units store (store_sound t s.clock s.entities.storages name all)))) all

done_kept : (t : Listing) (s : Machine) (key : Key) (update : Update) (number : ℕ) → IsDecidedUpdate t s key update → AreKept t s.clock s.entities.storages →
    AreKept t s.clock (done key update s.clock number s.entities).storages
done_kept t s key (updates.Storage (of_storage.Enter units)) number decided all =
    subst (λ k. AreKept t s.clock (done k (updates.Storage (of_storage.Enter units)) s.clock number s.entities).storages) (sym decided.named)
    (enter_kept t s decided.name units number (comes_in t s key units decided) all)
done_kept t s key (updates.Storage (of_storage.Leave units grants)) number decided all =
    subst (λ k. AreKept t s.clock (done k (updates.Storage (of_storage.Leave units grants)) s.clock number s.entities).storages) (sym decided.named)
    (leave_kept t s decided.name units grants number (goes_out t s key units grants decided) all)
done_kept t s key update number decided all = all

-- a later clock
later_kept : (t : Listing) (clock later : ℕ) (es : List (Key × Store)) → clock ≤ later → AreKept t clock es → AreKept t later es
later_kept t clock later [] on all = tt
later_kept t clock later (e ∷ es) on all =
    let h = all.0.2 in
    let at : e.1.level.at ≤ later = omega (arith, on, h.within.at) in
    let now : IsSound (capacity_at t all.0.0) later e.1 = record {
      within = record {
        content = h.within.content;
        least = h.within.least;
        most = h.within.most;
        greatest = h.within.greatest;
        entries = h.within.entries;
        at = at;
      };
      counted = h.counted;
    } in
    ((all.0.0, all.0.1, now), later_kept t clock later es on all.1)

-- counted anew
anew_kept : (t : Listing) (clock : ℕ) (es : List (Key × Store)) → AreKept t clock es → AreKept t clock (all_anew (storage_anew clock) es)
anew_kept t clock [] all = tt
anew_kept t clock (e ∷ es) all =
    let h = all.0.2 in
    let now : IsSound (capacity_at t all.0.0) clock (storage_anew clock e.1) = record {
      within = record {
        content = h.within.content;
        least = omega arith;
        most = omega arith;
        greatest = h.within.content;
        entries = omega arith;
        at = omega arith;
      };
      counted = h.counted;
    } in
    ((all.0.0, all.0.1, now), anew_kept t clock es all.1)

-- over a run
keeps_storages : (t : Listing) → KeepsEntities t (λ n clock e. AreKept t clock e.storages)
keeps_storages t = record {
  none = λ n. tt;
  further = λ n clock e all. all;
  does = λ n s key update number decided all. done_kept t s key update number decided all;
  goes_on = λ n before now e on all. later_kept t before now e.storages on all;
  anew = λ n clock e all. anew_kept t clock e.storages all;
}

pub all_kept : (t : Listing) (seed n : ℕ) (s : Machine) → run t seed n ≡ Ok s → AreKept t s.clock s.entities.storages
all_kept t seed n s is = over_entities t (λ n clock e. AreKept t clock e.storages) (keeps_storages t) seed n s is

each_stored : (t : Listing) (clock : ℕ) (es : List (Key × Store)) → AreKept t clock es → AllByRecursion (IsStored t clock) es
each_stored t clock [] all = tt
each_stored t clock (e ∷ es) all =
    (record { name = all.0.0; named = all.0.1; within = all.0.2.within }, each_stored t clock es all.1)

pub storages_are_within : StoragesAreWithin
storages_are_within t seed n s is =
    All-from_recursion (IsStored t s.clock) s.entities.storages (each_stored t s.clock s.entities.storages (all_kept t seed n s is))
