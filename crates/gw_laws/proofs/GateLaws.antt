-- Nobody waits at a GATE whose condition holds: what a refused attempt read it waits for, and what is not written stays. And whoever
-- waits so is at a TEST or a GATE without a label.
use Rattle.std.proofs.Common.{◌≡◌, ℤ, pos, ℕ, Bool, true, false, cond, not, ◌||◌, List, [], ◌∷◌, ◌++◌, filter, Option, Some, None, is_some, nat_eq, nat_le, unwrap_or, Ok, refl, sym, ap, subst, ◌∙◌, inl, inr, arith}
use Rattle.std.specs.Prelude.{Contains}
use Rattle.std.specs.List.{AllByRecursion, list_any}
use Rattle.std.proofs.lemmas.Bool.{cases_Bool, false≢true, or_parts, or_left, or_right, eqb-true}
use Rattle.std.proofs.lemmas.List.Folds.{list_any-append}
use Rattle.gw_nums.specs.Range.{is_below, magnitude}
use Rattle.gw_names.specs.declared.key.Key.{Key}
use Rattle.gw_names.specs.declared.key.Key.TheVariants as keys
use Rattle.gw_names.specs.Keys.{key_eq}
use Rattle.gw_names.specs.declared.verb.BlockVerb.{BlockVerb}
use Rattle.gw_names.specs.declared.verb.BlockVerb.TheVariants as blocks
use Rattle.gw_meaning.specs.Tables.{value_of, with_value}
use Rattle.gw_entities.proofs.Finding.{value_of-with_value}
use Rattle.gw_entities.proofs.QueueArrivalLaws.{key_same}
use Rattle.gw_expr.specs.declared.atom.Atom.TheVariants as atoms
use Rattle.gw_expr.specs.Term.{Term}
use Rattle.gw_expr.specs.declared.expr.Expr.TheVariants.{Value, Computed, Named, Label, Fraction, Defined, Table, Order}
use Rattle.gw_expr.specs.Evaluation as operands
use Rattle.gw_expr.specs.declared.stop.Stop.TheVariants.{Range}
use Rattle.gw_streams.specs.declared.stream.Stream.{Stream}
use Rattle.gw_meaning.specs.declared.item.Asked.TheVariants as asking
use Rattle.gw_meaning.specs.declared.item.Item.TheVariants as items
use Rattle.gw_meaning.specs.declared.asker.Asker.{Asker}
use Rattle.gw_meaning.specs.declared.auxiliary.Auxiliary.TheVariants as auxiliaries
use Rattle.gw_meaning.specs.declared.auxiliary.Condition.{Condition}
use Rattle.gw_meaning.specs.declared.auxiliary.Condition.TheVariants as conditions
use Rattle.gw_meaning.specs.declared.statement.Block.{Block}
use Rattle.gw_meaning.specs.declared.transaction.Transaction.{Transaction}
use Rattle.gw_meaning.specs.declared.entity_change.Update.{Update}
use Rattle.gw_meaning.specs.declared.entity_change.Update.TheVariants as updates
use Rattle.gw_meaning.specs.declared.moves.Change.{Change}
use Rattle.gw_meaning.specs.declared.moves.Change.TheVariants as changes
use Rattle.gw_meaning.specs.declared.moves.Fate.{Fate}
use Rattle.gw_meaning.specs.declared.moves.Fate.TheVariants as fates
use Rattle.gw_meaning.specs.declared.moves.Move.{Move}
use Rattle.gw_meaning.specs.declared.moves.Move.TheVariants as moves
use Rattle.gw_meaning.specs.declared.watched.EntityKind.{EntityKind}
use Rattle.gw_meaning.specs.declared.watched.EntityKind.TheVariants as kinds
use Rattle.gw_meaning.specs.declared.watched.Watched.{Watched}
use Rattle.gw_meaning.specs.declared.watched.Watched.TheVariants as watched
use Rattle.gw_meaning.specs.contracts.watched.WatchedEq.TheImpl.Laws as laws
use Rattle.gw_meaning.specs.Statements.{A, B, operand}
use Rattle.gw_meaning.specs.Listing.{Listing, block_at, number_at, capacity_at}
use Rattle.gw_meaning.specs.Entities.{Entities, facility_at, line_at, store_at, savevalue_at, switch_at, done, touched, later, table_at}
use Rattle.gw_meaning.specs.Watching.{Waiter, same_watched, is_watched, with_watched, kind_of, transactions_of}
use Rattle.gw_meaning.specs.Machine.{Machine, UserChain, user_chain_at, zero_state}
use Rattle.gw_meaning.specs.Questions.{result_of}
use Rattle.gw_meaning.specs.Evaluation.{Eval, gives, stops_if, numbered, named, entity_prog, entity_traced}
use Rattle.gw_meaning.specs.Records.{Ownership, never_owned, no_line, Store, never_used, Line}
use Rattle.gw_meaning.specs.Changes.{placed, marked, changed, written_by, written_in, entering, refused, watching, with_active, moved, written_where, written, is_woken, decided}
use Rattle.gw_meaning.specs.Step.{for_one, is_open, kind_of_condition, reads_capacity, pass_or_wait, lead_to, go_to, gate_at, gate_storage, gate_other, gate_of, gate_prog, block_prog, meet_prog, decide, run}
use Rattle.gw_frame.proofs.Moves.{settled, settled_is, linked_behind, split_is, with_active_has, picked_has}
use Rattle.gw_frame.proofs.Running.{over_steps}
use Rattle.gw_laws.specs.Destinations.{goes_to, IsTestOrGate, IsAtATestOrAGate}
use Rattle.gw_laws.specs.Waiters.{named_key, key_written, capacity_of, NobodyWaitsAtAnOpenGate, WhoWaitsIsAtATestOrAGate}
use Rattle.gw_laws.proofs.Waiting.{let_in_is}
use Rattle.gw_laws.proofs.Linking.{chain_there, admitted_chain, unlinked_there}
use Rattle.gw_laws.proofs.Tried.{Comes, comes_gives, comes_ends, comes_asks, comes_bind, comes_then, comes_more, comes_any, changed_keeps}
use Rattle.gw_laws.proofs.Entries.{at_with}
use Rattle.gw_frame.proofs.Known.{WaitsAtVerb, IsAttempt, IsStep}
use Rattle.gw_frame.proofs.Decided.{move_is_step}
use Rattle.gw_laws.proofs.WaiterLaws.{stands_of, all_stands, who_comes, waits_on, retry_decided}
use Rattle.gw_laws.proofs.Anew.{owner_reset, queue_reset, storage_reset, chain_members}
use Rattle.gw_laws.specs.Anew.{Resets, Clears}
use Rattle.gw_meaning.specs.Changes.{reset}

-- ---- what is watched is told apart

kind_same : (k l : EntityKind) (p q : Key) → same_watched (watched.Entity k p) (watched.Entity l q) ≡ true → watched.Entity k p ≡ watched.Entity l q
kind_same kinds.Facility kinds.Facility p q h = ap (λ n. watched.Entity kinds.Facility n) (key_same p q h)
kind_same kinds.Queue kinds.Queue p q h = ap (λ n. watched.Entity kinds.Queue n) (key_same p q h)
kind_same kinds.Storage kinds.Storage p q h = ap (λ n. watched.Entity kinds.Storage n) (key_same p q h)
kind_same kinds.Savevalue kinds.Savevalue p q h = ap (λ n. watched.Entity kinds.Savevalue n) (key_same p q h)
kind_same kinds.Switch kinds.Switch p q h = ap (λ n. watched.Entity kinds.Switch n) (key_same p q h)
kind_same kinds.UserChain kinds.UserChain p q h = ap (λ n. watched.Entity kinds.UserChain n) (key_same p q h)
kind_same kinds.Table kinds.Table p q h = ap (λ n. watched.Entity kinds.Table n) (key_same p q h)
kind_same k l p q h = absurd (false≢true h)

pub watched_same : (v w : Watched) → same_watched v w ≡ true → v ≡ w
watched_same (watched.Entity k p) (watched.Entity l q) h = kind_same k l p q h
watched_same (watched.Counts i) (watched.Counts j) h = ap (λ n. watched.Counts n) (eqb-true i j h)
watched_same v w h = absurd cc

-- what is added to a list stands on it
pub with_has : (read : List Watched) (w : Watched) → is_watched (with_watched read w) w ≡ true
with_has read w = go (is_watched read w) refl where
  go : (b : Bool) → is_watched read w ≡ b → is_watched (cond b read (read ++ w ∷ [])) w ≡ true
  go true is = is
  go false other =
      list_any-append (same_watched w) read (w ∷ [])
      ∙ or_right (is_watched read w) (same_watched w w || false) (or_left (same_watched w w) false (laws.laws-law.refl w))

-- whoever does not wake read nothing that is written
pub unread_unwritten : (list read : List Watched) (w : Watched) → list_any (is_watched list) read ≡ false → is_watched read w ≡ true → is_watched list w ≡ false
unread_unwritten list [] w unread has = absurd cc
unread_unwritten list (r ∷ rs) w unread has =
    let parts = or_parts (is_watched list r) (list_any (is_watched list) rs) unread in
    elim (cases_Bool (same_watched w r)) [
      | inl is ↦ ap (is_watched list) (watched_same w r is) ∙ parts.0
      | inr other ↦ unread_unwritten list rs w parts.1 (rw other at has)
    ]

-- ---- what is not written stays

-- the entities of a state, and its user chains
abbrev pub Kept : Type 0
Kept = Entities × List (Key × UserChain)

abbrev pub kept_of : Machine → Kept
kept_of s = (s.entities, s.linked)

abbrev pub SameEntity : EntityKind → Key → Kept → Kept → Type 0
SameEntity kinds.Facility key e f = facility_at f.0 key ≡ facility_at e.0 key
SameEntity kinds.Queue key e f = line_at f.0 key ≡ line_at e.0 key
SameEntity kinds.Storage key e f = store_at f.0 key ≡ store_at e.0 key
SameEntity kinds.Savevalue key e f = savevalue_at f.0 key ≡ savevalue_at e.0 key
SameEntity kinds.Switch key e f = switch_at f.0 key ≡ switch_at e.0 key
SameEntity kinds.UserChain key e f = user_chain_at f.1 key ≡ user_chain_at e.1 key
SameEntity kinds.Table key e f = table_at f.0 key ≡ table_at e.0 key

-- the same but for what a RESET counts anew
abbrev pub KeptEntity : EntityKind → Key → Kept → Kept → Type 0
KeptEntity kinds.Facility key e f = (facility_at f.0 key).owner ≡ (facility_at e.0 key).owner
KeptEntity kinds.Queue key e f = (line_at f.0 key).level.content ≡ (line_at e.0 key).level.content
KeptEntity kinds.Storage key e f = (store_at f.0 key).level.content ≡ (store_at e.0 key).level.content
KeptEntity kinds.Savevalue key e f = savevalue_at f.0 key ≡ savevalue_at e.0 key
KeptEntity kinds.Switch key e f = switch_at f.0 key ≡ switch_at e.0 key
KeptEntity kinds.UserChain key e f = (user_chain_at f.1 key).members ≡ (user_chain_at e.1 key).members
KeptEntity kinds.Table key e f = Unit {0}

kept_same : (kind : EntityKind) (key : Key) (e f : Kept) → SameEntity kind key e f → KeptEntity kind key e f
kept_same kinds.Facility key e f same = ap (λ (o : Ownership). o.owner) same
kept_same kinds.Queue key e f same = ap (λ (q : Line). q.level.content) same
kept_same kinds.Storage key e f same = ap (λ (q : Store). q.level.content) same
kept_same kinds.Savevalue key e f same = same
kept_same kinds.Switch key e f same = same
kept_same kinds.UserChain key e f same = ap (λ (c : UserChain). c.members) same
kept_same kinds.Table key e f same = tt

entity_itself : (kind : EntityKind) (key : Key) (e : Kept) → SameEntity kind key e e
entity_itself kinds.Facility key e = refl
entity_itself kind key e = refl

later_same : (kind : EntityKind) (key : Key) (before now : ℕ) (e : Kept) → SameEntity kind key e (later before now e.0, e.1)
later_same kinds.Facility key before now e = refl
later_same kind key before now e = refl

-- the value of another key
other_stays : {V : Type 0} (none : V) (es : List (Key × V)) (other : Key) (v : V) (key : Key) → key_eq key other ≡ false →
    unwrap_or (value_of (with_value es other v) key) none ≡ unwrap_or (value_of es key) none
other_stays none es other v key apart = at_with none es other v key ∙ ap (λ b. cond b v (unwrap_or (value_of es key) none)) apart

-- an update changes the entity of its kind with the key
done_same : (kind : EntityKind) (key other : Key) (update : Update) (clock number : ℕ) (e : Kept) →
    same_watched (watched.Entity kind key) (watched.Entity (kind_of update) other) ≡ false → SameEntity kind key e (done other update clock number e.0, e.1)
done_same kinds.Facility key other (updates.Facility update) clock number e apart = other_stays never_owned e.0.facilities other _ key apart
done_same kinds.Queue key other (updates.Queue update) clock number e apart = other_stays no_line e.0.queues other _ key apart
done_same kinds.Storage key other (updates.Storage update) clock number e apart = other_stays never_used e.0.storages other _ key apart
done_same kinds.Savevalue key other (updates.Savevalue to) clock number e apart =
    value_of-with_value e.0.savevalues other to key ∙ ap (λ b. cond b (Some to) (value_of e.0.savevalues key)) apart
done_same kinds.Switch key other (updates.Switch set) clock number e apart = other_stays false e.0.switches other set key apart
done_same kinds.Table key other (updates.Table value) clock number e apart = other_stays [] e.0.tables other _ key apart
done_same kind key other update clock number e apart = refl

entering_entities : (s : Machine) (x : Transaction) (id : ℕ) (change : Change) (fate : Fate) →
    (entering s x id change fate).entities ≡ touched change s.clock x.number s.entities
entering_entities s x id change fate =
    let e = touched change s.clock x.number s.entities in
    changed_keeps (λ v. v.entities ≡ e) change (settled s x id change fate)
    (record {
      makes = λ a w k. k;
      lets = λ w key y passed ys is k. (let_in_is key y (passed ++ ys) w).entities ∙ k;
      copies = λ w to y values k. k;
      unlinks = λ w key to y ys is k. k;
    })
    (settled_is s x id change fate).entities

touched_same : (s : Machine) (x : Transaction) (change : Change) (kind : EntityKind) (key : Key) →
    is_watched (written_by change s) (watched.Entity kind key) ≡ false →
    SameEntity kind key (kept_of s) (touched change s.clock x.number s.entities, s.linked)
touched_same s x (changes.Entity change) kind key unwritten =
    let parts = or_parts (same_watched (watched.Entity kind key) (watched.Entity (kind_of change.1) change.0)) _ unwritten in
    done_same kind key change.0 change.1 s.clock x.number (kept_of s) parts.0
touched_same s x change kind key unwritten = entity_itself kind key (kept_of s)

-- a user chain that is not written stays
fated_chain : (fate : Fate) (x : Transaction) (cs : List (Key × UserChain)) (key : Key) →
    is_watched (written_in fate) (watched.Entity kinds.UserChain key) ≡ false → user_chain_at (linked_behind fate x cs) key ≡ user_chain_at cs key
fated_chain (fates.Linked chain discipline) x cs key unwritten =
    let parts = or_parts (same_watched (watched.Entity kinds.UserChain key) (watched.Entity kinds.UserChain chain)) false unwritten in
    chain_there cs key chain _ parts.0
fated_chain fate x cs key unwritten = refl

changed_chain : (s v : Machine) (change : Change) (key : Key) → is_watched (written_by change s) (watched.Entity kinds.UserChain key) ≡ false →
    user_chain_at (changed change v).linked key ≡ user_chain_at v.linked key
changed_chain s v (changes.Split count to) key unwritten = ap (λ cs. user_chain_at cs key) (split_is v count to).linked
changed_chain s v (changes.Unlink chain count to) key unwritten =
    let parts = or_parts (same_watched (watched.Entity kinds.UserChain key) (watched.Entity kinds.UserChain chain)) false unwritten in
    unlinked_there count chain to v key parts.0
changed_chain s v (changes.Entity change) key unwritten = admitted_chain change.0 change.1 v key
changed_chain s v change key unwritten = refl

entered_chain : (s : Machine) (x : Transaction) (id : ℕ) (change : Change) (fate : Fate) (key : Key) →
    is_watched (written_by change s) (watched.Entity kinds.UserChain key) ≡ false →
    is_watched (written_in fate) (watched.Entity kinds.UserChain key) ≡ false →
    user_chain_at (entering s x id change fate).linked key ≡ user_chain_at s.linked key
entered_chain s x id change fate key by_change by_fate =
    changed_chain s (settled s x id change fate) change key by_change
    ∙ (ap (λ cs. user_chain_at cs key) (settled_is s x id change fate).linked
    ∙ fated_chain fate (marked change s.clock (placed x id)) s.linked key by_fate)

-- what is known of the entities and of the user chains, put together
both_same : (kind : EntityKind) (key : Key) (e : Kept) (f : Entities) (cs : List (Key × UserChain)) → SameEntity kind key e (f, e.1) →
    (kind ≡ kinds.UserChain → user_chain_at cs key ≡ user_chain_at e.1 key) → SameEntity kind key e (f, cs)
both_same kinds.UserChain key e f cs same chain = chain refl
both_same kind key e f cs same chain = same

entered_same : (s : Machine) (x : Transaction) (id : ℕ) (change : Change) (fate : Fate) (kind : EntityKind) (key : Key) →
    is_watched (written_where (Some x) id change fate s) (watched.Entity kind key) ≡ false →
    SameEntity kind key (kept_of s) (kept_of (entering s x id change fate))
entered_same s x id change fate kind key unwritten =
    let parts = or_parts (is_watched (written_by change s) (watched.Entity kind key)) (is_watched (written_in fate) (watched.Entity kind key))
    (sym (list_any-append (same_watched (watched.Entity kind key)) (written_by change s) (written_in fate)) ∙ unwritten) in
    both_same kind key (kept_of s) (entering s x id change fate).entities (entering s x id change fate).linked
    (subst (λ e. SameEntity kind key (kept_of s) (e, s.linked)) (sym (entering_entities s x id change fate)) (touched_same s x change kind key parts.0))
    (λ is. entered_chain s x id change fate key
    (subst (λ k. is_watched (written_by change s) (watched.Entity k key) ≡ false) is parts.0)
    (subst (λ k. is_watched (written_in fate) (watched.Entity k key) ≡ false) is parts.1))

pub moved_entity : (s : Machine) (m : Move) (kind : EntityKind) (key : Key) → (Resets m → ⊥) → (Clears m → ⊥) → is_watched (written s m) (watched.Entity kind key) ≡ false →
    SameEntity kind key (kept_of s) (kept_of (moved s m))
moved_entity s (moves.Start count arrivals) kind key uncounted apart unwritten = entity_itself kind key (kept_of s)
moved_entity s moves.Command kind key uncounted apart unwritten = entity_itself kind key (kept_of s)
moved_entity s moves.Reset kind key uncounted apart unwritten = absurd (uncounted tt)
moved_entity s moves.Clear kind key uncounted apart unwritten = absurd (apart tt)
moved_entity s (moves.Enter id change fate) kind key uncounted apart unwritten = go s.active unwritten where
  go : (o : Option Transaction) → is_watched (written_where o id change fate s) (watched.Entity kind key) ≡ false →
      SameEntity kind key (kept_of s) (kept_of (with_active o (λ x. entering s x id change fate) s))
  go None is = entity_itself kind key (kept_of s)
  go (Some x) is = entered_same s x id change fate kind key is
moved_entity s (moves.Refuse id key' units) kind key uncounted apart unwritten =
    let itself = entity_itself kind key (kept_of s) in
    with_active_has (λ v. SameEntity kind key (kept_of s) (kept_of v)) s.active (λ x. refused s x id key' units) s itself (λ x is. itself)
moved_entity s (moves.Watch read) kind key uncounted apart unwritten =
    let itself = entity_itself kind key (kept_of s) in
    with_active_has (λ v. SameEntity kind key (kept_of s) (kept_of v)) s.active (λ x. watching s x read) s itself (λ x is. itself)
moved_entity s moves.Pick kind key uncounted apart unwritten =
    let itself = entity_itself kind key (kept_of s) in
    picked_has (λ v. SameEntity kind key (kept_of s) (kept_of v)) s s.current itself (λ x xs is. itself)
moved_entity s (moves.Clock time) kind key uncounted apart unwritten = later_same kind key s.clock time (kept_of s)

-- but a RESET counts it anew
reset_kept : (s : Machine) (kind : EntityKind) (key : Key) → KeptEntity kind key (kept_of s) (kept_of (reset s))
reset_kept s kinds.Facility key = owner_reset s key
reset_kept s kinds.Queue key = queue_reset s key
reset_kept s kinds.Storage key = storage_reset s key
reset_kept s kinds.Savevalue key = refl
reset_kept s kinds.Switch key = refl
reset_kept s kinds.UserChain key = chain_members s key
reset_kept s kinds.Table key = tt

pub moved_kept : (s : Machine) (m : Move) (kind : EntityKind) (key : Key) → (Clears m → ⊥) → is_watched (written s m) (watched.Entity kind key) ≡ false →
    KeptEntity kind key (kept_of s) (kept_of (moved s m))
moved_kept s moves.Reset kind key apart unwritten = reset_kept s kind key
moved_kept s moves.Clear kind key apart unwritten = absurd (apart tt)
moved_kept s m kind key apart unwritten =
    kept_same kind key (kept_of s) (kept_of (moved s m)) (moved_entity s m kind key (λ r. r) (λ c. c) unwritten)

-- ---- a condition

open_same : (s u : Machine) (condition : Condition) (key : Key) (capacity : ℕ) → KeptEntity (kind_of_condition condition) key (kept_of s) (kept_of u) →
    is_open u condition key capacity ≡ is_open s condition key capacity
open_same s u conditions.InUse key capacity h = ap is_some h
open_same s u conditions.NotInUse key capacity h = ap (λ (o : Option ℕ). not (is_some o)) h
open_same s u conditions.IsSet key capacity h = h
open_same s u conditions.IsReset key capacity h = ap not h
open_same s u conditions.Empty key capacity h = ap (λ (n : ℕ). nat_eq n 0) h
open_same s u conditions.NotEmpty key capacity h = ap (λ (n : ℕ). not (nat_eq n 0)) h
open_same s u conditions.Full key capacity h = ap (λ (n : ℕ). nat_le capacity n) h
open_same s u conditions.NotFull key capacity h = ap (λ (n : ℕ). not (nat_le capacity n)) h

unheeded : (s : Machine) (condition : Condition) (key : Key) (m n : ℕ) → reads_capacity condition ≡ false →
    is_open s condition key m ≡ is_open s condition key n
unheeded s conditions.Full key m n none = absurd cc
unheeded s conditions.NotFull key m n none = absurd cc
unheeded s condition key m n none = refl

-- it does not hold of the entity with a key, and that was read
abbrev IsShut : Machine → Condition → Key → ℕ → List Watched → Type 0
IsShut s condition key capacity read =
    (is_open s condition key capacity ≡ false) × (is_watched read (watched.Entity (kind_of_condition condition) key) ≡ true)

-- ---- whoever comes to wait was refused at the block to which it goes

abbrev pub IfWatches : (List Watched → Type 0) → Move → Type 0
IfWatches P (moves.Watch read) = P read
IfWatches P m = Unit {0}

abbrev pub IsRefusedAt : Listing → ℕ → Machine → List Watched → Type 0
IsRefusedAt t seed s read = IsAttempt t seed s (moves.Watch read)

module _ (t : Listing) (seed : ℕ) (s : Machine) where
  pub refused_at : (d : Move × List Stream) → result_of t seed (decide s) ≡ Ok d → IfWatches (IsRefusedAt t seed s) d.0
  refused_at d is = go d.0 (move_is_step t seed s s.streams d is) where
    go : (m : Move) → IsStep t seed s m → IfWatches (IsRefusedAt t seed s) m
    go (moves.Watch read) step = step.1
    go m step = tt

  -- ---- at a GATE

  go_never : (P : List Watched → Type 0) (id : ℕ) (to : Option ℕ) → Comes t seed (IfWatches P) (go_to id to)
  go_never P id None = comes_ends
  go_never P id (Some to) = comes_gives tt

  lead_never : (P : List Watched → Type 0) (id : ℕ) (label : Option Term) → Comes t seed (IfWatches P) (lead_to id label)
  lead_never P id (Some (Label name)) = comes_asks (items.Named asking.Label name) (go_never P id _)
  lead_never P id (Some term) = comes_gives tt
  lead_never P id None = comes_gives tt

  -- with a label nobody waits; without one it is what was read for which it waits, where it may not pass
  pub passes_or : (id : ℕ) (label : Option Term) (read : List Watched) (passes : Bool) →
      Comes t seed (IfWatches (λ r. (label ≡ None) × (passes ≡ false) × (r ≡ read))) (pass_or_wait id label read passes)
  passes_or id None read true = comes_gives tt
  passes_or id None read false = comes_gives (refl, refl, refl)
  passes_or id (Some label) read passes = lead_never _ id (cond passes None (Some label))

  gate_at_shut : (id : ℕ) (condition : Condition) (label : Option Term) (key : Key) (read : List Watched) (capacity : ℕ) →
      Comes t seed (IfWatches (IsShut s condition key capacity)) (gate_at s id condition label key read capacity)
  gate_at_shut id condition label key read capacity =
      let entity = watched.Entity (kind_of_condition condition) key in
      comes_more shut (passes_or id label (with_watched read entity) (is_open s condition key capacity)) where
        shut : (m : Move) → IfWatches (λ r. (label ≡ None) × (is_open s condition key capacity ≡ false)
            × (r ≡ with_watched read (watched.Entity (kind_of_condition condition) key))) m → IfWatches (IsShut s condition key capacity) m
        shut (moves.Watch r) h =
            let entity = watched.Entity (kind_of_condition condition) key in
            (h.1, ap (λ list. is_watched list entity) h.2 ∙ with_has read entity)
        shut m h = tt

  -- of the entity that the operand names
  abbrev IsShutFor : Condition → Option Term → List Watched → Type 0
  IsShutFor condition entity read = (key : Key) → key_written t entity ≡ Some key → IsShut s condition key (capacity_of t key) read

  abbrev IsFor : Condition → Option Term → Key → ℕ → Type 0
  IsFor condition entity key capacity = (other : Key) → key_written t entity ≡ Some other →
      (key ≡ other) × (is_open s condition key capacity ≡ is_open s condition key (capacity_of t key))

  shut_for : (condition : Condition) (entity : Option Term) (key : Key) (capacity : ℕ) → IsFor condition entity key capacity →
      (m : Move) → IfWatches (IsShut s condition key capacity) m → IfWatches (IsShutFor condition entity) m
  shut_for condition entity key capacity is (moves.Watch read) h = λ other named.
      (let for = is other named in
      subst (λ k. IsShut s condition k (capacity_of t k) read) for.0 (sym for.1 ∙ h.0, h.1))
  shut_for condition entity key capacity is m h = tt

  gate_storage_shut : (id : ℕ) (condition : Condition) (label : Option Term) (name : List ℕ) (reads : Bool) → reads_capacity condition ≡ reads →
      Comes t seed (IfWatches (IsShutFor condition (Some (Defined name)))) (gate_storage s id condition label name reads)
  gate_storage_shut id condition label name true heeds =
      comes_asks (items.Named asking.Storage name)
      (comes_more (shut_for condition (Some (Defined name)) (keys.Defined name) (capacity_at t name) (λ other is. (cc, refl)))
      (gate_at_shut id condition label (keys.Defined name) [] (capacity_at t name)))
  gate_storage_shut id condition label name false heeds =
      comes_more (shut_for condition (Some (Defined name)) (keys.Defined name) 0
      (λ other is. (cc, unheeded s condition (keys.Defined name) 0 (capacity_at t name) heeds)))
      (gate_at_shut id condition label (keys.Defined name) [] 0)

  -- the entity that an operand names
  abbrev IsNamed : Option Term → Key × List Watched → Type 0
  IsNamed entity r = (key : Key) → key_written t entity ≡ Some key → (r.0 ≡ key) × (capacity_of t r.0 ≡ 0)

  numbered_is : (n : ℤ) → Comes t seed (λ key. key ≡ keys.Num (magnitude n)) (numbered n)
  numbered_is n = go (is_below n (pos 1)) where
    go : (b : Bool) → Comes t seed (λ key. key ≡ keys.Num (magnitude n)) (stops_if b Range (gives (keys.Num (magnitude n))))
    go true = comes_ends
    go false = comes_gives refl

  named_is : (name : List ℕ) (number : Option ℤ) → Comes t seed (λ key. (key ≡ named_key name number) × (capacity_of t key ≡ 0)) (named name number)
  named_is name None = comes_gives (refl, refl)
  named_is name (Some n) = comes_more (λ key is. (is, ap (capacity_of t) is)) (numbered_is n)

  constant_named : (q : Asker) (n : ℤ) → Comes t seed (IsNamed (Some (Value (atoms.Constant n)))) (entity_traced s q (Some (Value (atoms.Constant n))))
  unfolding operands.value_of operands.value_by operands.value_of_atom
  constant_named q n = comes_then {k = λ key. gives (key, [])} (numbered_is n)
      (λ key num. comes_gives {a = (key, [])} (λ other named. (num ∙ cc, ap (capacity_of t) num)))

  unnamed : (entity : Option Term) {p : Eval (Key × List Watched)} → key_written t entity ≡ None → Comes t seed (IsNamed entity) p
  unnamed entity none = comes_any (λ r key is. absurd (let no : None ≡ Some key = sym none ∙ is in cc))

  entity_named : (q : Asker) (entity : Option Term) → ((name : List ℕ) → entity ≡ Some (Defined name) → ⊥) →
      Comes t seed (IsNamed entity) (entity_traced s q entity)
  entity_named q None apart = comes_ends
  entity_named q (Some (Named name)) apart = comes_then (comes_asks (items.Named asking.Number name) (named_is name (number_at t name)))
      (λ key h. comes_gives (λ other named. (h.0 ∙ cc, h.1)))
  entity_named q (Some (Value (atoms.Constant n))) apart = constant_named q n
  entity_named q (Some (Value (atoms.Number name))) apart = unnamed (Some (Value (atoms.Number name))) refl
  entity_named q (Some (Value (atoms.Attribute class of))) apart = unnamed (Some (Value (atoms.Attribute class of))) refl
  entity_named q (Some (Computed ts)) apart = unnamed (Some (Computed ts)) refl
  entity_named q (Some (Label name)) apart = unnamed (Some (Label name)) refl
  entity_named q (Some (Order discipline)) apart = unnamed (Some (Order discipline)) refl
  entity_named q (Some (Table name)) apart = unnamed (Some (Table name)) refl
  entity_named q (Some (Fraction part)) apart = unnamed (Some (Fraction part)) refl
  entity_named q (Some (Defined name)) apart = absurd (apart name refl)

  gate_other_shut : (q : Asker) (id : ℕ) (condition : Condition) (entity label : Option Term) → ((name : List ℕ) → entity ≡ Some (Defined name) → ⊥) →
      Comes t seed (IfWatches (IsShutFor condition entity)) (gate_other s q id condition entity label)
  gate_other_shut q id condition entity None apart = comes_then (entity_named q entity apart)
      (λ r h. comes_more (shut_for condition entity r.0 0
      (λ other is. (let both = h other is in (both.0, ap (is_open s condition r.0) (sym both.1))))) (gate_at_shut id condition None r.0 r.1 0))
  gate_other_shut q id condition entity (Some label) apart =
      comes_bind (entity_prog s q entity)
      (λ key. lead_never (IsShutFor condition entity) id (cond (is_open s condition key 0) None (Some label)))

  gate_of_shut : (q : Asker) (id : ℕ) (condition : Condition) (entity label : Option Term) →
      Comes t seed (IfWatches (IsShutFor condition entity)) (gate_of s q id condition entity label)
  gate_of_shut q id condition None label = gate_other_shut q id condition None label (λ name is. cc)
  gate_of_shut q id condition (Some (Value atom)) label = gate_other_shut q id condition (Some (Value atom)) label (λ name is. cc)
  gate_of_shut q id condition (Some (Computed ts)) label = gate_other_shut q id condition (Some (Computed ts)) label (λ name is. cc)
  gate_of_shut q id condition (Some (Named name)) label = gate_other_shut q id condition (Some (Named name)) label (λ name is. cc)
  gate_of_shut q id condition (Some (Label name)) label = gate_other_shut q id condition (Some (Label name)) label (λ name is. cc)
  gate_of_shut q id condition (Some (Order discipline)) label = gate_other_shut q id condition (Some (Order discipline)) label (λ name is. cc)
  gate_of_shut q id condition (Some (Table name)) label = gate_other_shut q id condition (Some (Table name)) label (λ name is. cc)
  gate_of_shut q id condition (Some (Fraction part)) label = gate_other_shut q id condition (Some (Fraction part)) label (λ name is. cc)
  gate_of_shut q id condition (Some (Defined name)) label = gate_storage_shut id condition label name (reads_capacity condition) refl

-- ---- over a run

-- what holds of each who waits, and of whoever comes, holds of each who waits after a step
pub all_wait_on : (P Q : Waiter → Type 0) (s : Machine) (m : Move) (streams : List Stream) → AllByRecursion P s.retry →
    AllByRecursion P (who_comes m s.active) → ((w : Waiter) → (Clears m → ⊥) → is_woken (written s m) w ≡ false → P w → Q w) →
    AllByRecursion Q (decided s m streams).retry
all_wait_on P Q s moves.Clear streams all comes keeps = tt
all_wait_on P Q s m streams all comes keeps =
    subst (AllByRecursion Q) (sym (retry_decided s m streams (λ c. c))) (both s.retry all) where
      kept : (ws : List Waiter) → AllByRecursion P ws → AllByRecursion Q (filter (waits_on s m) ws)
      kept [] h = tt
      kept (w ∷ ws) h =
          let rest = kept ws h.1 in
          elim (cases_Bool (is_woken (written s m) w)) [ inl is ↦ rw is rest | inr other ↦ rw other (keeps w (λ c. c) other h.0, rest) ]

      both : (ws : List Waiter) → AllByRecursion P ws → AllByRecursion Q (filter (waits_on s m) ws ++ filter (waits_on s m) (who_comes m s.active))
      both [] h = kept (who_comes m s.active) comes
      both (w ∷ ws) h =
          let rest = both ws h.1 in
          elim (cases_Bool (is_woken (written s m) w)) [ inl is ↦ rw is rest | inr other ↦ rw other (keeps w (λ c. c) other h.0, rest) ]

-- where its block is a GATE, its condition does not hold, and it waits for a change of the entity
abbrev AtGate : Listing → Machine → Waiter → Type 0
AtGate t s w =
    (id : ℕ) (b : Block) (condition : Condition) (key : Key) → goes_to t w.transaction ≡ Some id → block_at t id ≡ Some b →
    b.verb ≡ blocks.Gate → b.auxiliary ≡ auxiliaries.Gate condition → key_written t (operand b A) ≡ Some key →
    IsShut s condition key (capacity_of t key) w.read

pub one_of : {X : Type 0} (x y : X) → Some x ≡ Some y → x ≡ y
one_of x y is = cc

-- the block that is tried is the one that stands where it goes
pub tried_here : (t : Listing) (seed : ℕ) (s : Machine) (m : Move) (a : IsAttempt t seed s m) (id : ℕ) (b : Block) → goes_to t a.who ≡ Some id →
    block_at t id ≡ Some b → result_of t seed (meet_prog s a.who a.id (Some b) a.before) ≡ Ok (m, a.after)
tried_here t seed s m a id b goes there =
    let same : a.id ≡ id = one_of a.id id (sym a.goes ∙ goes) in
    let at : a.block ≡ b = one_of a.block b (sym a.there ∙ (ap (block_at t) same ∙ there)) in
    subst (λ c. result_of t seed (meet_prog s a.who a.id (Some c) a.before) ≡ Ok (m, a.after)) at a.comes

gate_tried : (t : Listing) (seed : ℕ) (s : Machine) (x : Transaction) (id : ℕ) (b : Block) (condition : Condition) →
    b.verb ≡ blocks.Gate → b.auxiliary ≡ auxiliaries.Gate condition →
    Comes t seed (IfWatches (IsShutFor t seed s condition (operand b A))) (meet_prog s x id (Some b))
gate_tried t seed s x id b condition verb sort =
    subst (λ v. Comes t seed (IfWatches (IsShutFor t seed s condition (operand b A))) (block_prog s x id b v)) (sym verb)
    (subst (λ a. Comes t seed (IfWatches (IsShutFor t seed s condition (operand b A))) (gate_prog s (for_one s x) id a (operand b A) (operand b B)))
    (sym sort) (gate_of_shut t seed s (for_one s x) id condition (operand b A) (operand b B)))

gate_refused : (t : Listing) (seed : ℕ) (s : Machine) (read : List Watched) (r : IsRefusedAt t seed s read) →
    AtGate t s (record { transaction = r.who; read = read })
gate_refused t seed s read r id b condition key goes there verb sort named =
    let tries = tried_here t seed s (moves.Watch read) r id b goes there in
    (gate_tried t seed s r.who r.id b condition verb sort).from r.before (moves.Watch read, r.after) tries key named

gate_stays : (t : Listing) (s : Machine) (m : Move) (streams : List Stream) (w : Waiter) → (Clears m → ⊥) → is_woken (written s m) w ≡ false → AtGate t s w →
    AtGate t (decided s m streams) w
gate_stays t s m streams w apart unread gate = λ id b condition key goes there verb sort named.
    (let h = gate id b condition key goes there verb sort named in
    let kind = kind_of_condition condition in
    let unwritten = unread_unwritten (written s m) w.read (watched.Entity kind key) unread h.1 in
    (open_same s (decided s m streams) condition key (capacity_of t key) (moved_kept s m kind key apart unwritten) ∙ h.0, h.1))

-- what is known of whoever comes, by what is known of the refusal
pub who_comes_has : (P : Waiter → Type 0) (t : Listing) (seed : ℕ) (s : Machine) (m : Move) →
    ((read : List Watched) (r : IsRefusedAt t seed s read) → P (record { transaction = r.who; read = read })) →
    IfWatches (IsRefusedAt t seed s) m → AllByRecursion P (who_comes m s.active)
who_comes_has P t seed s (moves.Watch read) each r =
    subst (λ o. AllByRecursion P (who_comes (moves.Watch read) o)) (sym r.active) (each read r, tt)
who_comes_has P t seed s m each r = tt

gates_are_shut : (t : Listing) (seed n : ℕ) (s : Machine) → run t seed n ≡ Ok s → AllByRecursion (AtGate t s) s.retry
gates_are_shut t seed n s is =
    over_steps t seed (λ n s. AllByRecursion (AtGate t s) s.retry) 0 zero_state refl tt
    (λ n s m streams from there goes all. all_wait_on (AtGate t s) (AtGate t (decided s m streams)) s m streams all
    (who_comes_has (AtGate t s) t seed s m (gate_refused t seed s) (refused_at t seed s (m, streams) goes))
    (gate_stays t s m streams)) n s (omega arith) is

pub nobody_waits_at_an_open_gate : NobodyWaitsAtAnOpenGate
nobody_waits_at_an_open_gate t seed n s is w id b condition key waits goes there verb sort named =
    (all_stands (AtGate t s) s.retry w (gates_are_shut t seed n s is) (stands_of s.retry w waits) id b condition key goes there verb sort named).0

-- ---- whoever waits is at a TEST or a GATE without a label

of_verb : (b : Block) (verb : BlockVerb) → b.verb ≡ verb → WaitsAtVerb b verb → IsTestOrGate b
of_verb b blocks.Test is none = inl (is, none)
of_verb b blocks.Gate is none = inr (is, none)
of_verb b verb is none = absurd none

refused_there : (t : Listing) (seed : ℕ) (s : Machine) (read : List Watched) (r : IsRefusedAt t seed s read) → IsAtATestOrAGate t r.who
refused_there t seed s read r = (r.id, r.block, r.goes, r.there, of_verb r.block r.block.verb refl r.tried.0)

abbrev IsThere : Listing → Waiter → Type 0
IsThere t w = IsAtATestOrAGate t w.transaction

all_there : (t : Listing) (seed n : ℕ) (s : Machine) → run t seed n ≡ Ok s → AllByRecursion (IsThere t) s.retry
all_there t seed n s is =
    over_steps t seed (λ n s. AllByRecursion (IsThere t) s.retry) 0 zero_state refl tt
    (λ n s m streams from there goes all. all_wait_on (IsThere t) (IsThere t) s m streams all
    (who_comes_has (IsThere t) t seed s m (refused_there t seed s) (refused_at t seed s (m, streams) goes)) (λ w apart unread is. is))
    n s (omega arith) is

pub who_waits_is_at_a_test_or_a_gate : WhoWaitsIsAtATestOrAGate
who_waits_is_at_a_test_or_a_gate t seed n s is w waits = all_stands (IsThere t) s.retry w (all_there t seed n s is) (stands_of s.retry w waits)

-- the same of a transaction that waits so
pub transaction_there : (t : Listing) (seed n : ℕ) (s : Machine) (x : Transaction) → run t seed n ≡ Ok s → Contains (transactions_of s.retry) x →
    IsAtATestOrAGate t x
transaction_there t seed n s x is there =
    all_stands (IsAtATestOrAGate t) (transactions_of s.retry) x (each s.retry (all_there t seed n s is)) (stands_of (transactions_of s.retry) x there) where
      each : (ws : List Waiter) → AllByRecursion (IsThere t) ws → AllByRecursion (IsAtATestOrAGate t) (transactions_of ws)
      each [] all = tt
      each (w ∷ ws) all = (all.0, each ws all.1)
