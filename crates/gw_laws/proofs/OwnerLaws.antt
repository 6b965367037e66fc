-- The owners of facilities and those who wait for them, move by move and over a run: the first of a delay chain takes the
-- facility over, and nobody waits at a free one.
use Rattle.std.proofs.Common.{◌≡◌, ℕ, ◌<◌, ◌≤◌, true, false, cond, List, [], ◌∷◌, ◌++◌, length, Option, Some, None, is_some, refl, sym, ap, subst, ◌∙◌, inl, inr, arith, filter}
use Rattle.std.specs.Prelude.{Contains}
use Rattle.std.proofs.lemmas.Bool.{cases_Bool}
use Rattle.gw_names.specs.declared.key.Key.{Key}
use Rattle.gw_names.specs.declared.key.Key.TheVariants as keys
use Rattle.gw_names.specs.Keys.{key_eq}
use Rattle.gw_meaning.specs.Records.{Ownership, never_owned, seized}
use Rattle.gw_meaning.specs.Tables.{with_value}
use Rattle.gw_entities.proofs.QueueArrivalLaws.{key_same}
use Rattle.gw_entities.proofs.TableLaws.{key_eq_equiv}
use Rattle.gw_streams.specs.declared.stream.Stream.{Stream}
use Rattle.gw_meaning.specs.declared.transaction.Transaction.{Transaction}
use Rattle.gw_meaning.specs.declared.entity_change.Update.{Update}
use Rattle.gw_meaning.specs.declared.entity_change.Update.TheVariants as updates
use Rattle.gw_meaning.specs.declared.entity_change.FacilityUpdate.TheVariants as of_facility
use Rattle.gw_meaning.specs.declared.entity_change.StorageUpdate.TheVariants as of_storage
use Rattle.gw_meaning.specs.declared.moves.Change.{Change}
use Rattle.gw_meaning.specs.declared.moves.Change.TheVariants as changes
use Rattle.gw_meaning.specs.declared.moves.Fate.{Fate}
use Rattle.gw_meaning.specs.declared.moves.Move.{Move}
use Rattle.gw_meaning.specs.declared.moves.Move.TheVariants as moves
use Rattle.gw_meaning.specs.Listing.{Listing}
use Rattle.gw_meaning.specs.Entities.{Entities, facility_at, given_back, done, touched}
use Rattle.gw_meaning.specs.Machine.{Machine, delay_at}
use Rattle.gw_meaning.specs.Changes.{lined_up, let_in, one_let_in, some_let_in, admitted, entering, placed, bound, refused, picked, moved, watching, is_woken, woken, written}
use Rattle.gw_meaning.specs.Step.{first_number}
use Rattle.gw_meaning.proofs.Programs.{run_on}
use Rattle.gw_meaning.proofs.Chains.{length_lined}
use Rattle.gw_meaning.specs.declared.watched.Watched.{Watched}
use Rattle.gw_meaning.specs.Watching.{transactions_of}
use Rattle.gw_frame.proofs.Decided.{step_decides}
use Rattle.gw_frame.proofs.Known.{IsDecidedUpdate, IsDecidedChange, IsRefused, IsDecided}
use Rattle.gw_frame.proofs.Moves.{settled, settled_is, with_active_has, entered_has, picked_has}
use Rattle.gw_frame.proofs.Running.{over_run}
use Rattle.gw_laws.specs.Delays.{is_storage, TakesOver, FirstTakesOver, NobodyWaitsAtAFreeFacility}
use Rattle.gw_laws.proofs.Entries.{at_with}
use Rattle.gw_laws.proofs.Waiting.{leaving, let_in_is, lined_has}
use Rattle.gw_laws.proofs.LettingIn.{set_here, set_there, set_has, no_storage, others_stay, entering_has}
use Rattle.gw_laws.proofs.DelayLaws.{AreBound, AllAreBound, delay_bound, all_bound}
use Rattle.gw_laws.proofs.Waking.{all_lined_keeps}
use Rattle.gw_laws.proofs.Anew.{no_clear, owner_reset}
use Rattle.gw_laws.specs.Anew.{Clears}

-- the owner of a facility that is set, and of the others
pub owner_here : (e : Entities) (key q : Key) (f : Ownership) → key_eq q key ≡ true →
    (facility_at (record e { facilities = with_value e.facilities key f }) q).owner ≡ f.owner
owner_here e key q f is =
    ap (λ (g : Ownership). g.owner) (at_with never_owned e.facilities key f q ∙ ap (λ b. cond b f (facility_at e q)) is)

pub owner_there : (e : Entities) (key q : Key) (f : Ownership) → key_eq q key ≡ false →
    (facility_at (record e { facilities = with_value e.facilities key f }) q).owner ≡ (facility_at e q).owner
owner_there e key q f other =
    ap (λ (g : Ownership). g.owner) (at_with never_owned e.facilities key f q ∙ ap (λ b. cond b f (facility_at e q)) other)

-- ---- who is let in

stands_in_block : (x : Transaction) (id : ℕ) (v : Machine) → x.destination ≡ Some id → Contains (let_in x x.destination v).current (placed x id)
stands_in_block x id v is = rw is (lined_has (placed x id) v.current)

module _ (q : Key) where
  abbrev LetsIn : Machine → Machine → Type 0
  LetsIn s v = length (delay_at v.delays q) < length (delay_at s.delays q) → TakesOver q s v

  nobody : (s v : Machine) → length (delay_at s.delays q) ≤ length (delay_at v.delays q) → LetsIn s v
  nobody s v more less = absurd (omega (arith, more, less))

  same_chains : (s v : Machine) → v.delays ≡ s.delays → LetsIn s v
  same_chains s v same = nobody s v (let long = ap (λ ds. length (delay_at ds q)) same in omega arith)

  -- the facility of who is let in
  taken : (s w : Machine) (number : ℕ) (next : Option ℕ) (x : Transaction) → next ≡ Some x.number →
      w.entities ≡ done q (updates.Facility (of_facility.Release next)) s.clock number s.entities → (facility_at w.entities q).owner ≡ Some x.number
  taken s w number next x is same =
      let f = given_back next s.clock (facility_at s.entities q) in
      ap (λ (e : Entities). (facility_at e q).owner) same ∙ (owner_here s.entities q q f (key_eq_equiv.refl q) ∙ rw is refl)

  released_lets : (s v : Machine) (key : Key) (number : ℕ) (next : Option ℕ) (chain : List Transaction) → delay_at v.delays key ≡ chain →
      v.delays ≡ s.delays → v.entities ≡ done key (updates.Facility (of_facility.Release next)) s.clock number s.entities → next ≡ first_number (delay_at s.delays key) →
      AllAreBound s → LetsIn s (some_let_in key (Some 1 ∷ []) [] chain v)
  released_lets s v key number next [] is chains entities first all = same_chains s v chains
  released_lets s v key number next (x ∷ xs) is chains entities first all =
      let w = one_let_in key x xs v in
      let same = let_in_is key x xs v in
      let after : w.delays ≡ with_value s.delays key xs = same.delays ∙ ap (λ ds. with_value ds key xs) chains in
      let there : delay_at s.delays key ≡ x ∷ xs = ap (λ ds. delay_at ds key) (sym chains) ∙ is in
      let bounds : AreBound (x ∷ xs) = subst AreBound there (delay_bound s key all) in
      elim (cases_Bool (key_eq q key)) [
        | inl here ↦ λ less. record {
          first = x;
          block = bounds.0.0;
          left =
              ap (delay_at s.delays) (key_same q key here)
              ∙ (there ∙ ap (λ ys. x ∷ ys) (sym (ap (λ ds. delay_at ds q) after ∙ set_here s.delays q key xs here)));
          bound = bounds.0.1;
          stands = stands_in_block x bounds.0.0 (leaving v key xs) bounds.0.1;
          owns = taken s w number next x (first ∙ ap first_number there)
              (same.entities ∙ (entities ∙ ap (λ k. done k (updates.Facility (of_facility.Release next)) s.clock number s.entities) (sym (key_same q key here))));
        }
        | inr other ↦
            let long = ap (λ ds. length (delay_at ds q)) after in
            let stands = ap length (set_there s.delays q key xs other) in
            nobody s w (omega arith)
      ]

  update_lets : (t : Listing) (s v : Machine) (key : Key) (update : Update) (number : ℕ) → is_storage q ≡ false → v.delays ≡ s.delays →
      v.entities ≡ done key update s.clock number s.entities → IsDecidedUpdate t s key update → AllAreBound s → LetsIn s (admitted key update v)
  update_lets t s v key (updates.Facility (of_facility.Release next)) number facility chains entities decided all =
      released_lets s v key number next (delay_at v.delays key) refl chains entities decided.1 all
  update_lets t s v key (updates.Storage (of_storage.Leave units grants)) number facility chains entities decided all =
      let other : key_eq q key ≡ false = ap (key_eq q) decided.named ∙ no_storage q decided.name facility in
      let rest = ap length (others_stay q key grants [] (delay_at v.delays key) v other) in
      let long = ap (λ ds. length (delay_at ds q)) chains in
      nobody s (admitted key (updates.Storage (of_storage.Leave units grants)) v) (omega arith)
  update_lets t s v key update number facility chains entities decided all = same_chains s v chains

  refused_lets : (s : Machine) (x : Transaction) (id : ℕ) (key : Key) (units : ℕ) → LetsIn s (refused s x id key units)
  refused_lets s x id key units =
      let R : List Transaction → List Transaction → Type 0 = λ xs ys. length xs ≤ length ys in
      let more = length_lined (bound x id units) (delay_at s.delays key) in
      nobody s (refused s x id key units)
      (set_has R (λ xs. omega arith) s.delays q key (lined_up (bound x id units) (delay_at s.delays key)) (omega arith))

  moved_lets : (t : Listing) (s : Machine) (m : Move) → is_storage q ≡ false → IsDecided t s m → (Clears m → ⊥) →
      AllAreBound s → LetsIn s (moved s m)
  moved_lets t s (moves.Start count arrivals) facility decided apart all = same_chains s (moved s (moves.Start count arrivals)) refl
  moved_lets t s moves.Command facility decided apart all = same_chains s (moved s moves.Command) refl
  moved_lets t s moves.Reset facility decided apart all = same_chains s (moved s moves.Reset) refl
  moved_lets t s moves.Clear facility decided apart all = absurd (apart tt)
  moved_lets t s (moves.Enter id change fate) facility decided apart all =
      with_active_has (LetsIn s) s.active (λ x. entering s x id change fate) s (same_chains s s refl)
      (λ x is. entering_has (LetsIn s) t s x id change fate decided.1 (λ v chains entities. same_chains s v chains)
      (λ v key update chains entities does. update_lets t s v key update x.number facility chains entities does all))
  moved_lets t s (moves.Refuse id key units) facility decided apart all =
      with_active_has (LetsIn s) s.active (λ x. refused s x id key units) s (same_chains s s refl) (λ x is. refused_lets s x id key units)
  moved_lets t s (moves.Watch read) facility decided apart all =
      with_active_has (LetsIn s) s.active (λ x. watching s x read) s (same_chains s s refl) (λ x is. same_chains s (watching s x read) refl)
  moved_lets t s moves.Pick facility decided apart all =
      picked_has (LetsIn s) s s.current (same_chains s s refl) (λ x xs is. same_chains s (picked s (x ∷ xs)) refl)
  moved_lets t s (moves.Clock time) facility decided apart all = same_chains s (moved s (moves.Clock time)) refl

  woken_lets : (list : List Watched) (s v : Machine) (streams : List Stream) → LetsIn s v → LetsIn s (record (woken list v) { streams = streams })
  woken_lets list s v streams h less =
      let k = h less in
      record {
        first = k.first;
        block = k.block;
        left = k.left;
        bound = k.bound;
        stands = all_lined_keeps (transactions_of (filter (is_woken list) v.retry)) v.current (placed k.first k.block) k.stands;
        owns = k.owns;
      }

pub first_takes_over : FirstTakesOver
first_takes_over t seed n s v there is none key facility =
    let after = (step_decides t seed s v (sym (run_on t seed n s there) ∙ is)).0 in
    subst (LetsIn key s) (sym after.is)
    (woken_lets key (written s after.move) s (moved s after.move) after.streams (moved_lets key t s after.move facility after.is_decided
    (no_clear t s after.move after.is_decided none) (all_bound t seed n s there)))

-- ---- nobody waits at a free facility

abbrev NobodyWaits : Machine → Type 0
NobodyWaits s = (q : Key) → is_storage q ≡ false → (facility_at s.entities q).owner ≡ None → delay_at s.delays q ≡ []

none_next : (next : Option ℕ) (chain : List Transaction) (clock : ℕ) (f : Ownership) → next ≡ first_number chain →
    (given_back next clock f).owner ≡ None → chain ≡ []
none_next next [] clock f first none = refl
none_next None (x ∷ xs) clock f first none = absurd cc
none_next (Some number) (x ∷ xs) clock f first none = absurd cc

done_free : (t : Listing) (s : Machine) (key : Key) (update : Update) (number : ℕ) → IsDecidedUpdate t s key update → NobodyWaits s → (q : Key) →
    is_storage q ≡ false → (facility_at (done key update s.clock number s.entities) q).owner ≡ None → delay_at s.delays q ≡ []
done_free t s key (updates.Facility of_facility.Seize) number decided h q facility free =
    let f = seized number s.clock (facility_at s.entities key) in
    elim (cases_Bool (key_eq q key)) [
      | inl here ↦ absurd (let owner : Some number ≡ None = sym (owner_here s.entities key q f here) ∙ free in cc)
      | inr other ↦ h q facility (sym (owner_there s.entities key q f other) ∙ free)
    ]
done_free t s key (updates.Facility (of_facility.Release next)) number decided h q facility free =
    let f = given_back next s.clock (facility_at s.entities key) in
    elim (cases_Bool (key_eq q key)) [
      | inl here ↦
          let none = none_next next (delay_at s.delays key) s.clock (facility_at s.entities key) decided.1 (sym (owner_here s.entities key q f here) ∙ free) in
          ap (delay_at s.delays) (key_same q key here) ∙ none
      | inr other ↦ h q facility (sym (owner_there s.entities key q f other) ∙ free)
    ]
done_free t s key update number decided h q facility free = h q facility free

settled_free : (t : Listing) (s : Machine) (x : Transaction) (id : ℕ) (change : Change) (fate : Fate) → IsDecidedChange t s change → NobodyWaits s →
    NobodyWaits (settled s x id change fate)
settled_free t s x id change fate decided h =
    let same = settled_is s x id change fate in
    λ q facility free.
    ap (λ ds. delay_at ds q) same.delays
    ∙ go change decided q facility (sym (ap (λ (e : Entities). (facility_at e q).owner) same.entities) ∙ free)
  where
    go : (c : Change) → IsDecidedChange t s c → (q : Key) → is_storage q ≡ false →
        (facility_at (touched c s.clock x.number s.entities) q).owner ≡ None → delay_at s.delays q ≡ []
    go (changes.Entity change) decided q facility free = done_free t s change.0 change.1 x.number decided h q facility free
    go change decided q facility free = h q facility free

nobody_there : (passed : List Transaction) (x : Transaction) (xs : List Transaction) → [] ≡ passed ++ x ∷ xs → ⊥
nobody_there [] x xs is = cc
nobody_there (y ∷ ys) x xs is = cc

lets_free : (w : Machine) (key : Key) (x : Transaction) (passed xs : List Transaction) → delay_at w.delays key ≡ passed ++ x ∷ xs → NobodyWaits w →
    NobodyWaits (one_let_in key x (passed ++ xs) w)
lets_free w key x passed xs is h q facility free =
    let same = let_in_is key x (passed ++ xs) w in
    let none : delay_at w.delays q ≡ [] = h q facility (sym (ap (λ (e : Entities). (facility_at e q).owner) same.entities) ∙ free) in
    ap (λ ds. delay_at ds q) same.delays
    ∙ elim (cases_Bool (key_eq q key)) [
      | inl here ↦ absurd (nobody_there passed x xs (sym none ∙ (ap (delay_at w.delays) (key_same q key here) ∙ is)))
      | inr other ↦ set_there w.delays q key (passed ++ xs) other ∙ none
    ]

-- a facility refuses while it is owned
owned_there : (t : Listing) (s : Machine) (key : Key) (units : ℕ) → is_storage key ≡ false → IsRefused t s key units →
    is_some (facility_at s.entities key).owner ≡ true
owned_there t s (keys.Num number) units facility refuses = refuses
owned_there t s (keys.Named name) units facility refuses = refuses
owned_there t s (keys.Defined name) units facility refuses = absurd cc

refused_free : (t : Listing) (s : Machine) (x : Transaction) (id : ℕ) (key : Key) (units : ℕ) → IsRefused t s key units → NobodyWaits s →
    NobodyWaits (refused s x id key units)
refused_free t s x id key units refuses h q facility free =
    elim (cases_Bool (key_eq q key)) [
      | inl here ↦ absurd (
          let same = key_same q key here in
          let owned = owned_there t s key units (ap is_storage (sym same) ∙ facility) refuses in
          let one' = ap (λ k. (facility_at s.entities k).owner) (sym same) in
          let clash : true ≡ false = sym owned ∙ ap is_some (one' ∙ free) in
          cc)
      | inr other ↦ set_there s.delays q key _ other ∙ h q facility free
    ]

moved_free : (t : Listing) (s : Machine) (m : Move) → IsDecided t s m → NobodyWaits s → NobodyWaits (moved s m)
moved_free t s moves.Reset decided h = λ q facility free. h q facility (sym (owner_reset s q) ∙ free)
moved_free t s moves.Clear decided h = λ q facility free. refl
moved_free t s (moves.Enter id change fate) decided h =
    entered_has NobodyWaits NobodyWaits t s id change fate decided.1 h (λ x is. settled_free t s x id change fate decided.1 h)
    (λ v. record {
      nothing = λ k. k;
      one = λ a coming k. k;
      lets = lets_free;
      copies = λ w to x values copying k. k;
      unlinks = λ w key to x xs named is k. k;
    })
moved_free t s (moves.Refuse id key units) decided h =
    with_active_has NobodyWaits s.active (λ x. refused s x id key units) s h (λ x is. refused_free t s x id key units decided.1 h)
moved_free t s (moves.Watch read) decided h = with_active_has NobodyWaits s.active (λ x. watching s x read) s h (λ x is. h)
moved_free t s moves.Pick decided h = picked_has NobodyWaits s s.current h (λ x xs is. h)
moved_free t s m decided h = h

pub nobody_waits_at_a_free_facility : NobodyWaitsAtAFreeFacility
nobody_waits_at_a_free_facility t seed =
    over_run t seed (λ n s. NobodyWaits s) (λ q facility free. refl) (λ n s m streams there decided h. moved_free t s m decided h)
