-- Nobody waits at a storage that has room for him, move by move and over a run: whoever is refused finds no room, and
-- LEAVE lets in all who fit.
use Rattle.std.proofs.Common.{◌≡◌, ℕ, ◌+◌, ◌-◌, ◌≤◌, ◌<◌, ◌^◌, Bool, true, false, cond, List, [], ◌∷◌, ◌++◌, Option, Some, unwrap_or, refl, sym, ap, subst, ◌∙◌, append-nil, append_assoc, inl, inr, arith}
use Rattle.std.specs.List.{AllByRecursion}
use Rattle.std.proofs.lemmas.Bool.{cases_Bool}
use Rattle.std.proofs.lemmas.List.Elements.{All-from_recursion}
use Rattle.gw_names.specs.declared.key.Key.{Key}
use Rattle.gw_names.specs.declared.key.Key.TheVariants as keys
use Rattle.gw_names.specs.Keys.{key_eq}
use Rattle.gw_meaning.specs.Records.{Store, never_used, entered, left}
use Rattle.gw_meaning.specs.Tables.{value_of, with_value}
use Rattle.gw_entities.proofs.QueueArrivalLaws.{key_same}
use Rattle.gw_entities.proofs.TableLaws.{key_eq_equiv}
use Rattle.gw_meaning.specs.declared.transaction.Transaction.{Transaction}
use Rattle.gw_meaning.specs.declared.entity_change.Update.{Update}
use Rattle.gw_meaning.specs.declared.entity_change.Update.TheVariants as updates
use Rattle.gw_meaning.specs.declared.entity_change.FacilityUpdate.TheVariants as of_facility
use Rattle.gw_meaning.specs.declared.entity_change.StorageUpdate.TheVariants as of_storage
use Rattle.gw_meaning.specs.declared.moves.Move.{Move}
use Rattle.gw_meaning.specs.declared.moves.Move.TheVariants as moves
use Rattle.gw_meaning.specs.Listing.{Listing, capacity_at}
use Rattle.gw_meaning.specs.Entities.{Entities, store_at, all_entered, done}
use Rattle.gw_meaning.specs.Machine.{Machine, delay_at}
use Rattle.gw_meaning.specs.Changes.{lined_up, one_let_in, some_let_in, admitted, entering, bound, refused, moved, watching}
use Rattle.gw_meaning.specs.Step.{beside, in_use, grant_of}
use Rattle.gw_frame.proofs.Known.{does_fit, grants_of, is_storage, IsDecidedUpdate, IsRefused, IsDecided}
use Rattle.gw_frame.proofs.Moves.{chain_behind, with_active_has, picked_has}
use Rattle.gw_frame.proofs.Running.{over_run}
use Rattle.gw_laws.specs.Storages.{content_at, NobodyWaitsAtRoom}
use Rattle.gw_laws.proofs.Entries.{at_with}
use Rattle.gw_laws.proofs.Waiting.{lined_all}
use Rattle.gw_laws.proofs.LettingIn.{set_here, set_there, others_stay, entities_stay, entering_has}
use Rattle.gw_laws.proofs.StorageLaws.{no_room, goes_out, one_name, store_sound, all_kept}
use Rattle.gw_laws.proofs.Anew.{storage_reset}

-- there is no room for any of these beside so many units
abbrev AllWait : Listing → List ℕ → ℕ → List Transaction → Type 0
AllWait t name content = AllByRecursion (λ (x : Transaction). capacity_at t name < content + x.asked)

abbrev NobodyHasRoom : Listing → Machine → Type 0
NobodyHasRoom t s = (name : List ℕ) → AllWait t name (content_at s.entities name) (delay_at s.delays (keys.Defined name))

-- no count of units in use is beyond 64 bits
abbrev AreCounted : Machine → Type 0
AreCounted s = (name : List ℕ) → content_at s.entities name ≤ 2 ^ 64 - 1

wait_more : (t : Listing) (name : List ℕ) (less more : ℕ) (xs : List Transaction) → less ≤ more → AllWait t name less xs → AllWait t name more xs
wait_more t name less more [] on all = tt
wait_more t name less more (x ∷ xs) on all = (omega (arith, on, all.0), wait_more t name less more xs on all.1)

wait_both : (t : Listing) (name : List ℕ) (content : ℕ) (xs ys : List Transaction) → AllWait t name content xs → AllWait t name content ys →
    AllWait t name content (xs ++ ys)
wait_both t name content [] ys here there = there
wait_both t name content (x ∷ xs) ys here there = (here.0, wait_both t name content xs ys here.1 there)

-- where the chain and the content of a storage are as they were, or more units are in use
same_room : (t : Listing) (s w : Machine) (name : List ℕ) → delay_at w.delays (keys.Defined name) ≡ delay_at s.delays (keys.Defined name) →
    content_at s.entities name ≤ content_at w.entities name → NobodyHasRoom t s →
    AllWait t name (content_at w.entities name) (delay_at w.delays (keys.Defined name))
same_room t s w name chain more h =
    subst (AllWait t name (content_at w.entities name)) (sym chain)
    (wait_more t name (content_at s.entities name) (content_at w.entities name) (delay_at s.delays (keys.Defined name)) more (h name))

no_less : (a b : ℕ) → b ≡ a → a ≤ b
no_less a b same = omega arith

-- the storage that is set, and the others
store_here : (e : Entities) (name : List ℕ) (s : Store) → store_at (record e { storages = with_value e.storages (keys.Defined name) s }) (keys.Defined name) ≡ s
store_here e name s =
    at_with never_used e.storages (keys.Defined name) s (keys.Defined name)
    ∙ ap (λ b. cond b s (store_at e (keys.Defined name))) (key_eq_equiv.refl (keys.Defined name))

store_there : (e : Entities) (q key : Key) (s : Store) → key_eq q key ≡ false →
    store_at (record e { storages = with_value e.storages key s }) q ≡ store_at e q
store_there e q key s other = at_with never_used e.storages key s q ∙ ap (λ b. cond b s (store_at e q)) other

-- of a chain, those who fit are let in, and there is no room for the others
room_left : (t : Listing) (name : List ℕ) (clock : ℕ) (chain passed : List Transaction) (content : ℕ) (s : Store) (w : Machine) →
    delay_at w.delays (keys.Defined name) ≡ passed ++ chain → s.level.content ≡ content → content ≤ 2 ^ 64 - 1 → AllWait t name content passed →
    AllWait t name (all_entered (grants_of t name content chain) clock s).level.content
    (delay_at (some_let_in (keys.Defined name) (grants_of t name content chain) passed chain w).delays (keys.Defined name))
room_left t name clock [] passed content s w is at counted all =
    subst (AllWait t name s.level.content) (sym (is ∙ append-nil passed)) (subst (λ c. AllWait t name c passed) (sym at) all)
room_left t name clock (x ∷ xs) passed content s w is at counted all =
    go (does_fit t name (beside x.asked content)) refl (room_left t name clock xs)
  where
    go : (fits : Bool) → does_fit t name (beside x.asked content) ≡ fits →
        ((before : List Transaction) (c : ℕ) (r : Store) (v : Machine) → delay_at v.delays (keys.Defined name) ≡ before ++ xs → r.level.content ≡ c →
        c ≤ 2 ^ 64 - 1 → AllWait t name c before → AllWait t name (all_entered (grants_of t name c xs) clock r).level.content
        (delay_at (some_let_in (keys.Defined name) (grants_of t name c xs) before xs v).delays (keys.Defined name))) →
        AllWait t name (all_entered (grant_of x.asked fits ∷ grants_of t name (in_use content x.asked fits) xs) clock s).level.content
        (delay_at (some_let_in (keys.Defined name) (grant_of x.asked fits ∷ grants_of t name (in_use content x.asked fits) xs) passed (x ∷ xs) w).delays
        (keys.Defined name))
    go false fits rest =
        let none = no_room (beside x.asked content) (capacity_at t name) fits in
        let here : capacity_at t name < content + x.asked = omega arith in
        rest (passed ++ x ∷ []) content s w (is ∙ sym (append_assoc passed (x ∷ []) xs)) at counted (wait_both t name content passed (x ∷ []) all (here, tt))
    go true fits rest =
        rest passed (beside x.asked content) (entered x.asked clock s) (one_let_in (keys.Defined name) x (passed ++ xs) w)
        (chain_behind (keys.Defined name) x (passed ++ xs) w) (omega (arith, at)) (omega arith)
        (wait_more t name content (beside x.asked content) passed (omega (arith, counted)) all)

-- no facility's key is a storage's
apart : (key : Key) (name : List ℕ) → is_storage key ≡ false → key_eq (keys.Defined name) key ≡ false
apart (keys.Num number) name facility = refl
apart (keys.Named other) name facility = refl
apart (keys.Defined other) name facility = absurd cc

-- one storage is set, and some of its chain may be let in: the others are as they were
other_room : (t : Listing) (s v : Machine) (name q : List ℕ) (grants : List (Option ℕ)) (chain : List Transaction) (store : Store) →
    key_eq (keys.Defined q) (keys.Defined name) ≡ false → v.delays ≡ s.delays →
    v.entities ≡ record s.entities { storages = with_value s.entities.storages (keys.Defined name) store } → NobodyHasRoom t s →
    AllWait t q (content_at (some_let_in (keys.Defined name) grants [] chain v).entities q)
    (delay_at (some_let_in (keys.Defined name) grants [] chain v).delays (keys.Defined q))
other_room t s v name q grants chain store other chains entities h =
    let w = some_let_in (keys.Defined name) grants [] chain v in
    let same : content_at w.entities q ≡ content_at s.entities q =
    ap (λ (e : Entities). content_at e q) (entities_stay (keys.Defined name) grants [] chain v ∙ entities)
    ∙ ap (λ (r : Store). r.level.content) (store_there s.entities (keys.Defined q) (keys.Defined name) store other) in
    same_room t s w q
    (others_stay (keys.Defined q) (keys.Defined name) grants [] chain v other ∙ ap (λ ds. delay_at ds (keys.Defined q)) chains)
    (no_less (content_at s.entities q) (content_at w.entities q) same) h

enter_room : (t : Listing) (s v : Machine) (name : List ℕ) (units number : ℕ) → v.delays ≡ s.delays →
    v.entities ≡ done (keys.Defined name) (updates.Storage (of_storage.Enter units)) s.clock number s.entities → AreCounted s → NobodyHasRoom t s → NobodyHasRoom t v
enter_room t s v name units number chains entities counted h q =
    let store = entered units s.clock (store_at s.entities (keys.Defined name)) in
    elim (cases_Bool (key_eq (keys.Defined q) (keys.Defined name))) [
      | inl here ↦
          let same : q ≡ name = one_name t s.clock q name (key_same (keys.Defined q) (keys.Defined name) here) in
          let now : content_at v.entities name ≡ store.level.content =
          ap (λ (e : Entities). content_at e name) entities ∙ ap (λ (r : Store). r.level.content) (store_here s.entities name store) in
          let before = counted name in
          subst (λ n. AllWait t n (content_at v.entities n) (delay_at v.delays (keys.Defined n))) (sym same)
          (same_room t s v name (ap (λ ds. delay_at ds (keys.Defined name)) chains) (omega arith) h)
      | inr other ↦ other_room t s v name q [] [] store other chains entities h
    ]

leave_room : (t : Listing) (s v : Machine) (name : List ℕ) (units number : ℕ) (chain : List Transaction) → delay_at v.delays (keys.Defined name) ≡ chain →
    v.delays ≡ s.delays →
    v.entities
    ≡ done (keys.Defined name) (updates.Storage (of_storage.Leave units (grants_of t name (content_at s.entities name - units) chain))) s.clock number s.entities →
    AreCounted s → NobodyHasRoom t s →
    NobodyHasRoom t (some_let_in (keys.Defined name) (grants_of t name (content_at s.entities name - units) chain) [] chain v)
leave_room t s v name units number chain is chains entities counted h q =
    let content = content_at s.entities name - units in
    let grants = grants_of t name content chain in
    let w = some_let_in (keys.Defined name) grants [] chain v in
    let less = left units s.clock (store_at s.entities (keys.Defined name)) in
    let store = all_entered grants s.clock less in
    elim (cases_Bool (key_eq (keys.Defined q) (keys.Defined name))) [
      | inl here ↦
          let same : q ≡ name = one_name t s.clock q name (key_same (keys.Defined q) (keys.Defined name) here) in
          let now : content_at w.entities name ≡ store.level.content =
          ap (λ (e : Entities). content_at e name) (entities_stay (keys.Defined name) grants [] chain v ∙ entities)
          ∙ ap (λ (r : Store). r.level.content) (store_here s.entities name store) in
          let before = counted name in
          subst (λ n. AllWait t n (content_at w.entities n) (delay_at w.delays (keys.Defined n))) (sym same)
          (subst (λ c. AllWait t name c (delay_at w.delays (keys.Defined name))) (sym now)
          (room_left t name s.clock chain [] content less v is refl (omega arith) tt))
      | inr other ↦ other_room t s v name q grants chain store other chains entities h
    ]

-- an update that concerns no storage
facility_room : (t : Listing) (s v : Machine) (key : Key) (grants : List (Option ℕ)) (chain : List Transaction) → is_storage key ≡ false →
    v.delays ≡ s.delays → v.entities.storages ≡ s.entities.storages → NobodyHasRoom t s → NobodyHasRoom t (some_let_in key grants [] chain v)
facility_room t s v key grants chain facility chains storages h q =
    let w = some_let_in key grants [] chain v in
    let same : content_at w.entities q ≡ content_at s.entities q =
    ap (λ (e : Entities). content_at e q) (entities_stay key grants [] chain v)
    ∙ ap (λ es. (unwrap_or (value_of es (keys.Defined q)) never_used).level.content) storages in
    same_room t s w q
    (others_stay (keys.Defined q) key grants [] chain v (apart key q facility) ∙ ap (λ ds. delay_at ds (keys.Defined q)) chains)
    (no_less (content_at s.entities q) (content_at w.entities q) same) h

untouched_room : (t : Listing) (s v : Machine) → v.delays ≡ s.delays → v.entities.storages ≡ s.entities.storages → NobodyHasRoom t s → NobodyHasRoom t v
untouched_room t s v chains storages h q =
    let same : content_at v.entities q ≡ content_at s.entities q =
    ap (λ es. (unwrap_or (value_of es (keys.Defined q)) never_used).level.content) storages in
    same_room t s v q (ap (λ ds. delay_at ds (keys.Defined q)) chains) (no_less (content_at s.entities q) (content_at v.entities q) same) h

abbrev storages_of : Entities → List (Key × Store)
storages_of e = e.storages

update_room : (t : Listing) (s v : Machine) (key : Key) (update : Update) (number : ℕ) → v.delays ≡ s.delays →
    v.entities ≡ done key update s.clock number s.entities → IsDecidedUpdate t s key update → AreCounted s → NobodyHasRoom t s →
    NobodyHasRoom t (admitted key update v)
update_room t s v key (updates.Storage (of_storage.Enter units)) number chains entities decided counted h =
    enter_room t s v decided.name units number chains
    (entities ∙ ap (λ k. done k (updates.Storage (of_storage.Enter units)) s.clock number s.entities) decided.named) counted h
update_room t s v key (updates.Storage (of_storage.Leave units grants)) number chains entities decided counted h =
    let name = decided.name in
    let content = content_at s.entities name - units in
    let chain = delay_at v.delays (keys.Defined name) in
    let out = goes_out t s key units grants decided in
    let shared : grants ≡ grants_of t name content chain =
    out.0 ∙ ap (λ ds. grants_of t name content (delay_at ds (keys.Defined name))) (sym chains) in
    let behind =
    leave_room t s v name units number chain refl chains
    (entities
    ∙ (ap (λ k. done k (updates.Storage (of_storage.Leave units grants)) s.clock number s.entities) decided.named
    ∙ ap (λ rs. done (keys.Defined name) (updates.Storage (of_storage.Leave units rs)) s.clock number s.entities) shared)) counted h in
    subst (λ k. NobodyHasRoom t (some_let_in k grants [] (delay_at v.delays k) v)) (sym decided.named)
    (subst (λ rs. NobodyHasRoom t (some_let_in (keys.Defined name) rs [] chain v)) (sym shared) behind)
update_room t s v key (updates.Facility (of_facility.Release next)) number chains entities decided counted h =
    facility_room t s v key (Some 1 ∷ []) (delay_at v.delays key) decided.0 chains (ap storages_of entities) h
update_room t s v key update number chains entities decided counted h = untouched_room t s v chains (ap storages_of entities) h

-- whoever is refused finds no room
refused_room : (t : Listing) (s : Machine) (x : Transaction) (id : ℕ) (key : Key) (units : ℕ) → IsRefused t s key units → NobodyHasRoom t s →
    NobodyHasRoom t (refused s x id key units)
refused_room t s x id (keys.Defined name) units refuses h q =
    let chain = delay_at s.delays (keys.Defined name) in
    let after = lined_up (bound x id units) chain in
    let none = no_room (beside units (content_at s.entities name)) (capacity_at t name) refuses in
    let here : capacity_at t name < content_at s.entities name + units = omega arith in
    elim (cases_Bool (key_eq (keys.Defined q) (keys.Defined name))) [
      | inl is ↦
          let same : q ≡ name = one_name t s.clock q name (key_same (keys.Defined q) (keys.Defined name) is) in
          subst (AllWait t q (content_at s.entities q)) (sym (set_here s.delays (keys.Defined q) (keys.Defined name) after is))
          (subst (λ n. AllWait t n (content_at s.entities n) after) (sym same)
          (lined_all (λ (y : Transaction). capacity_at t name < content_at s.entities name + y.asked) (bound x id units) chain here (h name)))
      | inr other ↦
          subst (AllWait t q (content_at s.entities q)) (sym (set_there s.delays (keys.Defined q) (keys.Defined name) after other)) (h q)
    ]
refused_room t s x id (keys.Num number) units refuses h q =
    subst (AllWait t q (content_at s.entities q)) (sym (set_there s.delays (keys.Defined q) (keys.Num number) _ refl)) (h q)
refused_room t s x id (keys.Named name) units refuses h q =
    subst (AllWait t q (content_at s.entities q)) (sym (set_there s.delays (keys.Defined q) (keys.Named name) _ refl)) (h q)

-- each move
moved_room : (t : Listing) (s : Machine) (m : Move) → IsDecided t s m → AreCounted s → NobodyHasRoom t s → NobodyHasRoom t (moved s m)
moved_room t s moves.Reset decided counted h =
    λ q. subst (λ content. AllWait t q content (delay_at s.delays (keys.Defined q))) (sym (storage_reset s (keys.Defined q))) (h q)
moved_room t s moves.Clear decided counted h = λ q. tt
moved_room t s (moves.Enter id change fate) decided counted h =
    with_active_has (NobodyHasRoom t) s.active (λ x. entering s x id change fate) s h
    (λ x is. entering_has (NobodyHasRoom t) t s x id change fate decided.1
    (λ v chains entities. untouched_room t s v chains (ap storages_of entities) h)
    (λ v key update chains entities does. update_room t s v key update x.number chains entities does counted h))
moved_room t s (moves.Refuse id key units) decided counted h =
    with_active_has (NobodyHasRoom t) s.active (λ x. refused s x id key units) s h (λ x is. refused_room t s x id key units decided.1 h)
moved_room t s (moves.Watch read) decided counted h =
    with_active_has (NobodyHasRoom t) s.active (λ x. watching s x read) s h (λ x is. h)
moved_room t s moves.Pick decided counted h = picked_has (NobodyHasRoom t) s s.current h (λ x xs is. h)
moved_room t s m decided counted h = h

-- over a run
pub nobody_waits_at_room : NobodyWaitsAtRoom
nobody_waits_at_room t seed n s is name =
    All-from_recursion (λ (x : Transaction). capacity_at t name < content_at s.entities name + x.asked) (delay_at s.delays (keys.Defined name))
    (over_run t seed (λ n v. NobodyHasRoom t v) (λ q. tt)
    (λ n v m streams there decided h.
    let all = all_kept t seed n v there in
    moved_room t v m decided (λ q. (store_sound t v.clock v.entities.storages q all).counted) h) n s is name)
