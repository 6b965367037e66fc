-- What a RESET and a CLEAR leave: who lives, who is on each user chain, what stands in each block, and what is read of
-- each entity. And what moves leave with which nobody comes or goes.
use Rattle.std.proofs.Common.{◌≡◌, ◌⊎◌, ℕ, ◌+◌, ◌-◌, ◌*◌, nat_eq, Bool, true, false, cond, List, [], ◌∷◌, ◌++◌, append-nil, drop, filter, length, Some, unwrap_or, refl, sym, ap, subst, ◌∙◌, inl, inr, arith}
use Rattle.std.specs.Prelude.{Contains}
use Rattle.std.proofs.lemmas.List.Elements.{All-from_recursion}
use Rattle.gw_names.specs.declared.key.Key.{Key}
use Rattle.gw_names.specs.Keys.{key_eq}
use Rattle.gw_meaning.specs.Levels.{Course, restarted, sum_up_to}
use Rattle.gw_meaning.specs.Tables.{value_of}
use Rattle.gw_meaning.specs.Records.{Ownership, never_owned, facility_anew, Line, no_line, queue_anew, Store, never_used, storage_anew}
use Rattle.gw_streams.specs.declared.stream.Stream.{Stream}
use Rattle.gw_meaning.specs.declared.moves.Move.{Move}
use Rattle.gw_meaning.specs.declared.moves.Move.TheVariants as moves
use Rattle.gw_meaning.specs.declared.transaction.Count.{Count}
use Rattle.gw_meaning.specs.declared.transaction.Transaction.{Transaction}
use Rattle.gw_meaning.specs.Entities.{facility_at, line_at, store_at, all_anew}
use Rattle.gw_meaning.specs.Listing.{Listing}
use Rattle.gw_meaning.specs.Machine.{Machine, UserChain, no_chain, user_chain_at, members_of, waiting, count_in, count_at, or_no_count}
use Rattle.gw_meaning.specs.Changes.{count_anew, user_chain_anew, reset, bound, refused, watching, moved, decided}
use Rattle.gw_frame.proofs.Moves.{with_active_has, picked_has}
use Rattle.gw_frame.proofs.Known.{IsDecided}
use Rattle.gw_laws.specs.Anew.{Resets, Clears, IsNextCommand, IsNoClear, keys_of}
use Rattle.gw_meaning.specs.declared.statement.Command.TheVariants as commands
use Rattle.gw_laws.specs.Chain.{is_in, IsFirstInFirstOut, KeepPlaces}
use Rattle.gw_laws.specs.Living.{living}
use Rattle.gw_laws.proofs.Crowd.{many, crowd, refused_crowd, watching_crowd, picked_crowd, advanced_crowd}

-- ---- which move it is

pub clears_or : (m : Move) → Clears m ⊎ (Clears m → ⊥)
clears_or moves.Clear = inl tt
clears_or m = inr (λ c. c)

-- where no CLEAR is next, none is decided
pub no_clear : (t : Listing) (s : Machine) (m : Move) → IsDecided t s m → IsNoClear t s → Clears m → ⊥
no_clear t s moves.Clear decided none c = none (record { idle = decided.idle; next = decided.next })
no_clear t s m decided none c = c

pub no_reset_decided : (t : Listing) (s : Machine) (m : Move) → IsDecided t s m → (IsNextCommand t s commands.Reset → ⊥) → Resets m → ⊥
no_reset_decided t s moves.Reset decided none c = none (record { idle = decided.idle; next = decided.next })
no_reset_decided t s m decided none c = c

-- nobody lives after a CLEAR
pub nobody_lives : (s v : Machine) (m : Move) (streams : List Stream) → v ≡ decided s m streams → Clears m → living v ≡ []
nobody_lives s v moves.Clear streams is c = ap living is
nobody_lives s v m streams is c = absurd c

pub nobody_in : (x : Transaction) (xs : List Transaction) → xs ≡ [] → Contains xs x → ⊥
nobody_in x xs none there = let here : Contains [] x = subst (λ ys. Contains ys x) none there in absurd (omega (arith, here.1))

-- ---- lists

drop_all : {X : Type 0} (xs : List X) → drop (length xs) xs ≡ []
drop_all [] = refl
drop_all (x ∷ xs) = drop_all xs

pub all_dropped : {X : Type 0} (xs : List X) → [] ≡ drop (length xs) xs ++ []
all_dropped xs = sym (append-nil (drop (length xs) xs) ∙ drop_all xs)

pub filter_none : {X : Type 0} (xs : List X) → filter (λ x. false) xs ≡ []
filter_none [] = refl
filter_none (x ∷ xs) = filter_none xs

-- all go
pub all_go : (ks : List ℕ) → IsFirstInFirstOut ks []
all_go ks = (length ks, [], all_dropped ks, All-from_recursion (λ k. is_in ks k ≡ false) [] tt)

pub none_stay : (ks : List ℕ) → KeepPlaces ks []
none_stay ks =
    ((λ k. false), [], sym (append-nil (filter (λ k. false) ks) ∙ filter_none ks), All-from_recursion (λ k. is_in ks k ≡ false) [] tt)

-- ---- values by key

-- where a look does not tell a value from that one counted anew
module _ {V W : Type 0} (anew : V → V) (look : V → W) (none : V) (same : (v : V) → look (anew v) ≡ look v) where
  pub look_anew : (es : List (Key × V)) (key : Key) →
      look (unwrap_or (value_of (all_anew anew es) key) none) ≡ look (unwrap_or (value_of es key) none)
  look_anew [] key = refl
  look_anew (e ∷ es) key = go (key_eq key e.0) (look_anew es key) where
    go : (b : Bool) → look (unwrap_or (value_of (all_anew anew es) key) none) ≡ look (unwrap_or (value_of es key) none) →
        look (unwrap_or (cond b (Some (anew e.1)) (value_of (all_anew anew es) key)) none) ≡ look (unwrap_or (cond b (Some e.1) (value_of es key)) none)
    go true rest = same e.1
    go false rest = rest

-- what holds of all that are counted anew, and of the one that stands for none
module _ {V : Type 0} (anew : V → V) (P : V → Type 0) (none : V) (all : (v : V) → P (anew v)) (nobody : P none) where
  pub all_hold : (es : List (Key × V)) (key : Key) → P (unwrap_or (value_of (all_anew anew es) key) none)
  all_hold [] key = nobody
  all_hold (e ∷ es) key = go (key_eq key e.0) (all_hold es key) where
    go : (b : Bool) → P (unwrap_or (value_of (all_anew anew es) key) none) →
        P (unwrap_or (cond b (Some (anew e.1)) (value_of (all_anew anew es) key)) none)
    go true rest = all e.1
    go false rest = rest

-- where all have one look that are counted anew, and so has the one that stands for none
pub all_look : {V W : Type 0} (anew : V → V) (look : V → W) (none : V) (w : W) (all : (v : V) → look (anew v) ≡ w) (nobody : look none ≡ w)
    (es : List (Key × V)) (key : Key) → look (unwrap_or (value_of (all_anew anew es) key) none) ≡ w
all_look anew look none w all nobody = all_hold anew (λ v. look v ≡ w) none all nobody

-- each keeps its key
pub keys_anew : {V : Type 0} (anew : V → V) (es : List (Key × V)) → keys_of (all_anew anew es) ≡ keys_of es
keys_anew anew [] = refl
keys_anew anew (e ∷ es) = ap (λ ks. e.0 ∷ ks) (keys_anew anew es)

-- no time has passed since a course was restarted
pub just_restarted : (clock : ℕ) (course : Course) → sum_up_to (restarted clock course) clock ≡ 0
just_restarted clock course =
    let none : clock - clock ≡ 0 = omega arith in
    ap (λ d. 0 + course.content * d) none ∙ omega arith

-- ---- a RESET

pub members_anew : (cs : List (Key × UserChain)) → members_of (all_anew user_chain_anew cs) ≡ members_of cs
members_anew [] = refl
members_anew (c ∷ cs) = ap (λ ds. (c.0, c.1.members) ∷ ds) (members_anew cs)

pub crowd_reset : (test : Transaction → Bool) (s : Machine) → crowd test (reset s) ≡ crowd test s
crowd_reset test s = let same = ap (λ ds. many test (waiting ds)) (members_anew s.linked) in omega arith

pub chain_members : (s : Machine) (key : Key) → (user_chain_at (reset s).linked key).members ≡ (user_chain_at s.linked key).members
chain_members s key = look_anew user_chain_anew (λ (c : UserChain). c.members) no_chain (λ c. refl) s.linked key

pub chain_entries : (s : Machine) (key : Key) → (user_chain_at (reset s).linked key).entries ≡ 0
chain_entries s key = all_look user_chain_anew (λ (c : UserChain). c.entries) no_chain 0 (λ c. refl) refl s.linked key

pub owner_reset : (s : Machine) (key : Key) → (facility_at (reset s).entities key).owner ≡ (facility_at s.entities key).owner
owner_reset s key = look_anew (facility_anew s.clock) (λ (f : Ownership). f.owner) never_owned (λ f. refl) s.entities.facilities key

pub queue_reset : (s : Machine) (key : Key) → (line_at (reset s).entities key).level.content ≡ (line_at s.entities key).level.content
queue_reset s key = look_anew (queue_anew s.clock) (λ (q : Line). q.level.content) no_line (λ q. refl) s.entities.queues key

pub storage_reset : (s : Machine) (key : Key) → (store_at (reset s).entities key).level.content ≡ (store_at s.entities key).level.content
storage_reset s key = look_anew (storage_anew s.clock) (λ (q : Store). q.level.content) never_used (λ q. refl) s.entities.storages key

-- the counts of a block
pub count_reset : (s : Machine) (id : ℕ) → count_at (reset s).counts id ≡ count_anew (count_at s.counts id)
count_reset s id = go s.counts where
  go : (cs : List (ℕ × Count)) → count_at (all_anew count_anew cs) id ≡ count_anew (count_at cs id)
  go [] = refl
  go (c ∷ cs) = each (nat_eq id c.0) (go cs) where
    each : (b : Bool) → count_at (all_anew count_anew cs) id ≡ count_anew (count_at cs id) →
        or_no_count (cond b (Some (count_anew c.1)) (count_in (all_anew count_anew cs) id)) ≡ count_anew (or_no_count (cond b (Some c.1) (count_in cs id)))
    each true rest = refl
    each false rest = rest

-- ---- a move with which nobody comes or goes

abbrev pub KeepsAll : Move → Type 0
KeepsAll (moves.Start count arrivals) = ⊥
KeepsAll moves.Clear = ⊥
KeepsAll (moves.Enter id change fate) = ⊥
KeepsAll m = Unit {0}

-- it gives no number and no parameter, each block has the content that it had, and as many pass a test that does not
-- tell whether one waits
pub record AllStay (test : Transaction → Bool) (s v : Machine) : Type 0 where
  pub next : v.next ≡ s.next
  pub parameters : v.parameters ≡ s.parameters
  pub contents : (id : ℕ) → (count_at v.counts id).content ≡ (count_at s.counts id).content
  pub crowd : crowd test v ≡ crowd test s

itself : (test : Transaction → Bool) (s : Machine) → AllStay test s s
itself test s = record { next = refl; parameters = refl; contents = λ id. refl; crowd = refl }

pub all_stay : (test : Transaction → Bool) (t : Listing) (s : Machine) (m : Move) → IsDecided t s m → KeepsAll m →
    ((x : Transaction) (id units : ℕ) → test (bound x id units) ≡ test x) → AllStay test s (moved s m)
all_stay test t s moves.Command decided keeps waits = record { next = refl; parameters = refl; contents = λ id. refl; crowd = refl }
all_stay test t s moves.Reset decided keeps waits = record {
  next = refl;
  parameters = refl;
  contents = λ id. ap (λ (c : Count). c.content) (count_reset s id);
  crowd = crowd_reset test s;
}
all_stay test t s (moves.Refuse id key units) decided keeps waits =
    with_active_has (AllStay test s) s.active (λ x. refused s x id key units) s (itself test s)
    (λ x is. record { next = refl; parameters = refl; contents = λ id. refl; crowd = refused_crowd test s x id key units is (waits x id units) })
all_stay test t s (moves.Watch read) decided keeps waits =
    with_active_has (AllStay test s) s.active (λ x. watching s x read) s (itself test s)
    (λ x is. record { next = refl; parameters = refl; contents = λ id. refl; crowd = watching_crowd test s x read is })
all_stay test t s moves.Pick decided keeps waits =
    picked_has (AllStay test s) s s.current (itself test s)
    (λ x xs is. record { next = refl; parameters = refl; contents = λ id. refl; crowd = picked_crowd test s x xs decided is })
all_stay test t s (moves.Clock time) decided keeps waits =
    record { next = refl; parameters = refl; contents = λ id. refl; crowd = advanced_crowd test s time }
all_stay test t s m decided keeps waits = absurd keeps
