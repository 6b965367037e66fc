-- Nobody waits at a TEST that holds: what its attempt read and nobody wrote since replies as it did.
use Rattle.std.proofs.Common.{◌≡◌, ◌⊎◌, ℤ, pos, ℕ, ◌-◌, ◌^◌, ◌<◌, ◌≤◌, length, Bool, true, false, cond, nat_eq, ◌||◌, List, [], ◌∷◌, ◌++◌, Option, Some, None, unwrap_or, Result, Ok, Err, refl, sym, ap, ap₂, subst, ◌∙◌, inl, inr, arith}
use Rattle.std.specs.Prelude.{Contains}
use Rattle.std.specs.List.{AllByRecursion}
use Rattle.std.proofs.lemmas.Bool.{cases_lt, or_parts, or_left, eq-eqb, and_parts, false≢true}
use Rattle.std.proofs.lemmas.List.Folds.{list_any-append}
use Rattle.gw_names.specs.declared.class.Class.{Class}
use Rattle.gw_names.specs.declared.class.Class.TheVariants as class
use Rattle.gw_names.specs.declared.key.Key.{Key}
use Rattle.gw_names.specs.declared.key.Key.TheVariants as keys
use Rattle.gw_names.specs.declared.verb.BlockVerb.TheVariants as blocks
use Rattle.gw_meaning.specs.Records.{Ownership, Line, Store}
use Rattle.gw_meaning.specs.Tables.{value_of, with_value}
use Rattle.gw_meaning.specs.Parameters.{parameter_at, values_at}
use Rattle.gw_expr.specs.declared.attribute.Subject.{Subject}
use Rattle.gw_expr.specs.declared.attribute.Subject.TheVariants as subjects
use Rattle.gw_expr.specs.Term.{Term}
use Rattle.gw_expr.specs.Evaluation.{Question, NumberOf, AttributeOf, PartOf, VariableOf, FunctionOf, Reply, Evaluation, Yields, Stops, Wants}
use Rattle.gw_expr.specs.Evaluation as operands
use Rattle.gw_streams.specs.declared.stream.Stream.{Stream}
use Rattle.gw_expr.specs.declared.halt.End.{End}
use Rattle.gw_meaning.specs.declared.item.Asked.TheVariants as asking
use Rattle.gw_meaning.specs.declared.item.Item.TheVariants as items
use Rattle.gw_meaning.specs.declared.asker.Asker.{Asker}
use Rattle.gw_meaning.specs.declared.auxiliary.Auxiliary.{Auxiliary}
use Rattle.gw_meaning.specs.declared.statement.Block.{Block}
use Rattle.gw_meaning.specs.declared.transaction.Transaction.{Transaction}
use Rattle.gw_meaning.specs.declared.transaction.Count.{Count}
use Rattle.gw_meaning.specs.declared.moves.Arrival.{Arrival}
use Rattle.gw_meaning.specs.declared.moves.Change.{Change}
use Rattle.gw_meaning.specs.declared.moves.Change.TheVariants as changes
use Rattle.gw_meaning.specs.declared.moves.Fate.{Fate}
use Rattle.gw_meaning.specs.declared.moves.Fate.TheVariants as fates
use Rattle.gw_meaning.specs.declared.moves.Move.{Move}
use Rattle.gw_meaning.specs.declared.moves.Move.TheVariants as moves
use Rattle.gw_meaning.specs.declared.watched.EntityKind.{EntityKind}
use Rattle.gw_meaning.specs.declared.watched.EntityKind.TheVariants as kinds
use Rattle.gw_meaning.specs.declared.watched.Watched.{Watched}
use Rattle.gw_meaning.specs.declared.watched.Watched.TheVariants as watched
use Rattle.gw_meaning.specs.Statements.{A, B, C, operand}
use Rattle.gw_meaning.specs.Listing.{Listing, block_at, label_at}
use Rattle.gw_meaning.specs.Entities.{store_at}
use Rattle.gw_meaning.specs.Watching.{Waiter, same_watched, is_watched, with_watched, with_all_watched, transactions_of}
use Rattle.gw_meaning.specs.Machine.{Machine, UserChain, zero_state, count_at, delay_at}
use Rattle.gw_meaning.specs.Questions.{result_of}
use Rattle.gw_meaning.specs.Evaluation.{Eval, gives, asks, ◌~>◌, amount, numbered, subject_prog, defined_prog, left_prog, counted, block_count, owned, one_if, value_held, parameter_value, value_there, entity_value, table_value, attribute_prog, reply_prog, evaluated, entity_watched, defined_watched, counts_of, counts_watched, watched_prog, watched_by, traced, value_traced}
use Rattle.gw_meaning.specs.Changes.{placed, all_copied, written_in, Making, made, maybe_made, all_made, making_of, update_grants, let_in, one_let_in, some_let_in, changed, entering, refused, watching, with_active, moved, crossing, crossings, written_by, written_where, written, is_woken, decided}
use Rattle.gw_meaning.specs.Step.{for_one, holds, test_prog, block_prog, run}
use Rattle.gw_meaning.proofs.Traces as alone
use Rattle.gw_meaning.proofs.Programs.{bind_gives}
use Rattle.gw_frame.proofs.Moves.{settled, settled_is, marked_same, still_active, all_copied_keep, unlink_is, with_active_has, picked_has}
use Rattle.gw_laws.specs.Waiters.{is_lasting, outlasts_reset, lasts_through, IsLasting, ComesTo, ReadsWhatLasts, WaitsSince, NobodyWaitsAtATestThatHolds, value_alone, TellingChangesNothing}
use Rattle.gw_laws.proofs.Counts.{tally, tally_elsewhere, tally_made, tally_stood}
use Rattle.gw_laws.proofs.Room.{all_low}
use Rattle.gw_frame.proofs.Decided.{is_decided, unmoved}
use Rattle.gw_frame.proofs.DecidedValues.{draws, IsQuiet, subject_decides, watched_by_decides, reply_decides}
use Rattle.gw_frame.proofs.Lawful.{bind_parts}
use Rattle.gw_frame.proofs.Known.{IsDecided}
use Rattle.gw_model.specs.Well.{Well}
use Rattle.gw_laws.specs.Destinations.{goes_to}
use Rattle.gw_laws.specs.Living.{IsActive}
use Rattle.gw_laws.proofs.Crowd.{one, many_has, active_crowd}
use Rattle.gw_laws.proofs.NumberLaws.{has_number, IsNumbered, all_numbered}
use Rattle.gw_laws.proofs.OwnParameterLaws.{moved_elsewhere}
use Rattle.gw_laws.proofs.WaiterLaws.{Stands, stands_of, contains_of, stands_transactions, all_stands, who_comes}
use Rattle.gw_laws.proofs.GateLaws.{kept_of, SameEntity, KeptEntity, moved_entity, moved_kept, with_has, unread_unwritten, IsRefusedAt, refused_at, IfWatches, passes_or, tried_here, all_wait_on}
use Rattle.gw_laws.proofs.Anew.{count_reset, no_reset_decided}
use Rattle.gw_laws.specs.Anew.{Resets, Clears, NoneBetween}
use Rattle.gw_meaning.specs.declared.statement.Command.TheVariants as commands
use Rattle.gw_frame.proofs.Running.{over_steps}
use Rattle.gw_laws.proofs.EndLaws.{ends_for_good}

-- what lasts through a RESET, lasts
does_last : (resets : Bool) (class : Class) → lasts_through resets class ≡ true → is_lasting class ≡ true
does_last true class is = (and_parts (is_lasting class) (outlasts_reset class) is).0
does_last false class is = is

-- what a RESET counts anew lasts where none was done
not_through : (resets : Bool) (class : Class) → outlasts_reset class ≡ false → lasts_through resets class ≡ true → resets ≡ false
not_through true class counted is = absurd (false≢true (sym counted ∙ (and_parts (is_lasting class) (outlasts_reset class) is).1))
not_through false class counted is = refl

-- nor does what lasts draw
no_draw : (class : Class) → is_lasting class ≡ true → draws class ≡ false
no_draw class.Rn is = absurd cc
no_draw class is = refl

module _ (resets : Bool) (t : Listing) (seed : ℕ) where
  -- it draws nothing, and what it comes to does not hang on the streams
  abbrev IsSteady : {A : Type 0} → Eval A → Type 0
  IsSteady {A} p = (before : List Stream) (r : A × List Stream) → result_of t seed (p before) ≡ Ok r → ComesTo t seed p r.0

  abbrev Comes : {A : Type 0} → Eval A → A → Type 0
  Comes p a = ComesTo t seed p a

  -- of two parts, after the first
  behind : {A B : Type 0} (p : Eval A) (k : A → Eval B) (a : A) (b : B) → Comes p a → Comes (p ~> k) b → Comes (k a) b
  behind p k a b first both streams =
      sym (bind_gives t seed (p streams) (λ c. k c.0 c.1) (a, streams) (first streams)).0 ∙ both streams

  together : {A B : Type 0} (p : Eval A) (k : A → Eval B) (a : A) (b : B) → Comes p a → Comes (k a) b → Comes (p ~> k) b
  together p k a b first second streams =
      (bind_gives t seed (p streams) (λ c. k c.0 c.1) (a, streams) (first streams)).0 ∙ second streams

  -- ---- what lasts is steady

  is_quiet : (question : Question) → IsLasting resets question → IsQuiet question
  is_quiet (AttributeOf class of) is = no_draw class (does_last resets class is)
  is_quiet (PartOf of) is = is
  is_quiet question is = tt

  steady_subject : (of : Subject) → IsSteady (subject_prog of)
  steady_subject of = (subject_decides (unmoved t seed zero_state) (Unit {0}) of).steady tt

  steady_by : (question : Question) → IsSteady (watched_by question)
  steady_by question = (watched_by_decides (unmoved t seed zero_state) (Unit {0}) question).steady tt

  steady_reply : (s : Machine) (q : Asker) (question : Question) → IsLasting resets question → IsSteady (reply_prog s q question)
  steady_reply s q question is = (reply_decides (unmoved t seed s) (Unit {0}) q question (λ quiet. is_quiet question is)).steady tt

  -- ---- what was read

  abbrev AllIn : List Watched → List Watched → Type 0
  AllIn read more = AllByRecursion (λ w. is_watched read w ≡ true) more

  abbrev Within : List Watched → List Watched → Type 0
  Within few all = (w : Watched) → is_watched few w ≡ true → is_watched all w ≡ true

  within_with : (read : List Watched) (v : Watched) → Within read (with_watched read v)
  within_with read v w is = go (is_watched read v) where
    go : (b : Bool) → is_watched (cond b read (read ++ v ∷ [])) w ≡ true
    go true = is
    go false = list_any-append (same_watched w) read (v ∷ []) ∙ or_left (is_watched read w) _ is

  within_all : (read more : List Watched) → Within read (with_all_watched read more)
  within_all read [] w is = is
  within_all read (v ∷ vs) w is = within_all (with_watched read v) vs w (within_with read v w is)

  all_in : (read more : List Watched) → AllIn (with_all_watched read more) more
  all_in read [] = tt
  all_in read (v ∷ vs) = (within_all (with_watched read v) vs v (with_has read v), all_in (with_watched read v) vs)

  all_within_in : (few all more : List Watched) → Within few all → AllIn few more → AllIn all more
  all_within_in few all [] sub h = tt
  all_within_in few all (v ∷ vs) sub h = (sub v h.0, all_within_in few all vs sub h.1)

  -- an evaluation that reads what lasts came to a, and what it read is on a list
  abbrev Came : {A : Type 0} → Machine → Asker → List Watched → Evaluation A → A → Type 0
  Came s q read (Yields b) a = b ≡ a
  Came s q read (Stops stop) a = ⊥
  Came s q read (Wants question k) a = IsLasting resets question →
      (reply : Reply question) × Comes (reply_prog s q question) reply
      × ((more : List Watched) × Comes (watched_by question) more × AllIn read more)
      × Came s q read (k reply) a

  traced_came : {A : Type 0} (s : Machine) (q : Asker) (read : List Watched) (e : Evaluation A) (before : List Stream)
      (r : (A × List Watched) × List Stream) → result_of t seed (traced s q read e before) ≡ Ok r →
      Within read r.0.1 × ((all : List Watched) → Within r.0.1 all → Came s q all e r.0.0)
  traced_came s q read (Yields a) before r is =
      let same : ((a, read), before) ≡ r = cc in
      let read_is : read ≡ r.0.1 = ap (λ (v : (_ × List Watched) × List Stream). v.0.1) same in
      (λ w h. subst (λ list. is_watched list w ≡ true) read_is h, λ all sub. ap (λ (v : (_ × List Watched) × List Stream). v.0.0) same)
  traced_came s q read (Stops stop) before r is = absurd cc
  traced_came s q read (Wants question k) before r is =
      let parts = bind_parts t seed (watched_by question) _ before r is in
      let more = parts.0.0 in
      let rest = bind_parts t seed (reply_prog s q question) _ parts.0.1 r parts.2 in
      let behind' = traced_came s q (with_all_watched read more) (k rest.0.0) rest.0.1 r rest.2 in (
        λ w h. behind'.0 w (within_all read more w h),
        λ all sub lasting. (
          rest.0.0,
          steady_reply s q question lasting parts.0.1 rest.0 rest.1,
          (
            more,
            steady_by question before parts.0 parts.1,
            all_within_in (with_all_watched read more) all more (λ w h. sub w (behind'.0 w h)) (all_in read more),
          ),
          behind'.1 all sub,
        ),
      )

  given_is : {A : Type 0} (a b : A) → result_of t seed (gives a []) ≡ Ok (b, []) → a ≡ b
  given_is {A} a b is =
      let p : A × List Stream = (a, []) in
      let r : A × List Stream = (b, []) in
      let same : p ≡ r = cc in
      ap (λ (v : A × List Stream). v.0) same

  -- where it is known to read what lasts, it comes to nothing else
  came_is : {A : Type 0} (s : Machine) (q : Asker) (read : List Watched) (e : Evaluation A) (a b : A) → Came s q read e a →
      ReadsWhatLasts resets t seed s q e → Comes (evaluated s q e) b → a ≡ b
  came_is s q read (Yields c) a b came lasts is = sym came ∙ given_is c b (is [])
  came_is s q read (Stops stop) a b came lasts is = absurd came
  came_is s q read (Wants question k) a b came lasts is =
      let h = came lasts.0 in
      came_is s q read (k h.0) a b h.3 (lasts.1 h.0 h.1) (behind (reply_prog s q question) (λ reply. evaluated s q (k reply)) h.0 b h.1 is)

  -- ---- what nobody wrote replies as it did

  -- what is on a list of what was read stays, but for what a RESET counts anew; that stays where none was done; and so does
  -- what a transaction has of its own
  record Stays (s u : Machine) (read : List Watched) (x : Transaction) : Type 0 where
    entity : (kind : EntityKind) (key : Key) → is_watched read (watched.Entity kind key) ≡ true → KeptEntity kind key (kept_of s) (kept_of u)
    counted : resets ≡ false → (kind : EntityKind) (key : Key) → is_watched read (watched.Entity kind key) ≡ true →
        SameEntity kind key (kept_of s) (kept_of u)
    counts : (id : ℕ) → is_watched read (watched.Counts id) ≡ true → (count_at u.counts id).content ≡ (count_at s.counts id).content
    entries : resets ≡ false → (id : ℕ) → is_watched read (watched.Counts id) ≡ true → tally u.counts id ≡ tally s.counts id
    own : (key : Key) → parameter_at u.parameters x.number key ≡ parameter_at s.parameters x.number key

  -- which entity was read
  entity_read : (kind : EntityKind) (of : Subject) (more : List Watched) → Comes (entity_watched kind of) more →
      (key : Key) × Comes (subject_prog of) key × (more ≡ watched.Entity kind key ∷ [])
  entity_read kind of more is =
      let parts = bind_parts t seed (subject_prog of) (λ key. gives (watched.Entity kind key ∷ [])) [] (more, []) (is []) in
      (parts.0.0, steady_subject of [] parts.0 parts.1, sym (read_is parts.0.0 parts.0.1 parts.2)) where
        read_is : (key : Key) (streams : List Stream) → result_of t seed (gives (watched.Entity kind key ∷ []) streams) ≡ Ok (more, []) →
            watched.Entity kind key ∷ [] ≡ more
        read_is key streams h =
            let p : List Watched × List Stream = (watched.Entity kind key ∷ [], streams) in
            let r : List Watched × List Stream = (more, []) in
            let same : p ≡ r = cc in
            ap (λ (v : List Watched × List Stream). v.0) same

  module _ (s u : Machine) (read : List Watched) (x : Transaction) (stays : Stays s u read x) where
    read_replies : (kind : EntityKind) (f g : Key → Eval ℤ) (of : Subject) (more : List Watched) (reply : ℤ) → Comes (entity_watched kind of) more →
        AllIn read more → ((key : Key) → is_watched read (watched.Entity kind key) ≡ true → f key ≡ g key) → Comes (subject_prog of ~> f) reply →
        Comes (subject_prog of ~> g) reply
    read_replies kind f g of more reply reads all same is =
        let found = entity_read kind of more reads in
        let key = found.0 in
        let there : AllIn read (watched.Entity kind key ∷ []) = subst (AllIn read) found.2 all in
        let alike = same key there.0 in
        together (subject_prog of) g key reply found.1
        (subst (λ p. Comes p reply) alike (behind (subject_prog of) f key reply found.1 is))

    entity_replies : (kind : EntityKind) (f g : Key → Eval ℤ) (of : Subject) (more : List Watched) (reply : ℤ) → Comes (entity_watched kind of) more →
        AllIn read more → ((key : Key) → KeptEntity kind key (kept_of s) (kept_of u) → f key ≡ g key) → Comes (subject_prog of ~> f) reply →
        Comes (subject_prog of ~> g) reply
    entity_replies kind f g of more reply reads all same is =
        read_replies kind f g of more reply reads all (λ key there. same key (stays.entity kind key there)) is

    counted_entity : (class : Class) → outlasts_reset class ≡ false → lasts_through resets class ≡ true →
        (kind : EntityKind) (f g : Key → Eval ℤ) (of : Subject) (more : List Watched) (reply : ℤ) → Comes (entity_watched kind of) more →
        AllIn read more → ((key : Key) → SameEntity kind key (kept_of s) (kept_of u) → f key ≡ g key) → Comes (subject_prog of ~> f) reply →
        Comes (subject_prog of ~> g) reply
    counted_entity class anew lasting kind f g of more reply reads all same is =
        read_replies kind f g of more reply reads all (λ key there. same key (stays.counted (not_through resets class anew lasting) kind key there)) is

    storage_read : (name : List ℕ) (more : List Watched) → Comes (defined_watched kinds.Storage (subjects.Name name)) more → AllIn read more →
        is_watched read (watched.Entity kinds.Storage (keys.Defined name)) ≡ true
    storage_read name more reads all =
        let one' : watched.Entity kinds.Storage (keys.Defined name) ∷ [] ≡ more = given_is _ more (reads []) in
        let there : AllIn read (watched.Entity kinds.Storage (keys.Defined name) ∷ []) = subst (AllIn read) (sym one') all in
        there.0

    content_there : (name : List ℕ) (more : List Watched) → Comes (defined_watched kinds.Storage (subjects.Name name)) more → AllIn read more →
        (store_at u.entities (keys.Defined name)).level.content ≡ (store_at s.entities (keys.Defined name)).level.content
    content_there name more reads all = stays.entity kinds.Storage (keys.Defined name) (storage_read name more reads all)

    storage_there : resets ≡ false → (name : List ℕ) (more : List Watched) → Comes (defined_watched kinds.Storage (subjects.Name name)) more →
        AllIn read more → store_at u.entities (keys.Defined name) ≡ store_at s.entities (keys.Defined name)
    storage_there none name more reads all = stays.counted none kinds.Storage (keys.Defined name) (storage_read name more reads all)

    -- a number of a storage that is the same in both states, where it was read
    abbrev StaysStored : (Store → ℕ) → Type 0
    StaysStored f = (name : List ℕ) (more : List Watched) → Comes (defined_watched kinds.Storage (subjects.Name name)) more → AllIn read more →
        f (store_at u.entities (keys.Defined name)) ≡ f (store_at s.entities (keys.Defined name))

    stored_replies : (f : Store → ℕ) (of : Subject) (more : List Watched) (reply : ℤ) → StaysStored f → Comes (defined_watched kinds.Storage of) more →
        AllIn read more →
        Comes (defined_prog of (λ key. amount (f (store_at s.entities key)))) reply →
        Comes (defined_prog of (λ key. amount (f (store_at u.entities key)))) reply
    stored_replies f subjects.Own more reply same reads all is = λ streams. absurd (let no = is [] in cc)
    stored_replies f (subjects.Number n) more reply same reads all is = λ streams. absurd (let no = is [] in cc)
    stored_replies f (subjects.Name name) more reply same reads all is =
        subst (λ p. Comes p reply) (sym (ap (λ (n : ℕ). amount n) (same name more reads all))) is

    table_replies : (of : Subject) (more : List Watched) (reply : ℤ) → resets ≡ false → Comes (defined_watched kinds.Table of) more →
        AllIn read more →
        Comes (defined_prog of (λ key. table_value s key)) reply → Comes (defined_prog of (λ key. table_value u key)) reply
    table_replies subjects.Own more reply never reads all is = λ streams. absurd (let no = is [] in cc)
    table_replies (subjects.Number n) more reply never reads all is = λ streams. absurd (let no = is [] in cc)
    table_replies (subjects.Name name) more reply never reads all is =
        let one' : watched.Entity kinds.Table (keys.Defined name) ∷ [] ≡ more = given_is _ more (reads []) in
        let there : AllIn read (watched.Entity kinds.Table (keys.Defined name) ∷ []) = subst (AllIn read) (sym one') all in
        let same = stays.counted never kinds.Table (keys.Defined name) there.0 in
        subst (λ p. Comes p reply) (sym (ap (λ (values : List ℤ). amount (length values)) same)) is

    left_replies : (of : Subject) (more : List Watched) (reply : ℤ) → Comes (defined_watched kinds.Storage of) more → AllIn read more →
        Comes (left_prog s of) reply → Comes (left_prog u of) reply
    left_replies subjects.Own more reply reads all is = λ streams. absurd (let no = is [] in cc)
    left_replies (subjects.Number n) more reply reads all is = λ streams. absurd (let no = is [] in cc)
    left_replies (subjects.Name name) more reply reads all is =
        subst (λ p. Comes p reply)
        (sym (ap (λ (n : ℕ). asks (items.Named asking.Storage name) (λ capacity. amount (capacity - n))) (content_there name more reads all))) is

    -- a count of a block that is the same in both states, where it was read
    abbrev StaysCounted : (Count → ℕ) → Type 0
    StaysCounted f = (id : ℕ) → is_watched read (watched.Counts id) ≡ true → f (count_at u.counts id) ≡ f (count_at s.counts id)

    counted_replies : (f : Count → ℕ) (id : Option ℕ) (reply : ℤ) → StaysCounted f → AllIn read (counts_of id) →
        Comes (counted id (λ id. amount (f (count_at s.counts id)))) reply → Comes (counted id (λ id. amount (f (count_at u.counts id)))) reply
    counted_replies f None reply same all is = is
    counted_replies f (Some id) reply same all is = subst (λ p. Comes p reply) (sym (ap amount (same id all.0))) is

    block_replies : (f : Count → ℕ) (of : Subject) (more : List Watched) (reply : ℤ) → StaysCounted f → Comes (counts_watched of) more → AllIn read more →
        Comes (block_count of (λ id. amount (f (count_at s.counts id)))) reply → Comes (block_count of (λ id. amount (f (count_at u.counts id)))) reply
    block_replies f subjects.Own more reply same reads all is = λ streams. absurd (let no = is [] in cc)
    block_replies f (subjects.Number n) more reply same reads all is = λ streams. absurd (let no = is [] in cc)
    block_replies f (subjects.Name name) more reply same reads all is =
        counted_replies f (label_at t name) reply same (subst (AllIn read) (sym (given_is (counts_of (label_at t name)) more (reads []))) all) is

    attribute_replies : (class : Class) (of : Subject) (more : List Watched) (reply : ℤ) → lasts_through resets class ≡ true →
        Comes (watched_prog class of) more →
        AllIn read more → Comes (attribute_prog s (for_one s x) class of) reply → Comes (attribute_prog u (for_one u x) class of) reply
    unfolding attribute_prog watched_prog
    attribute_replies class.F of more reply lasting reads all is =
        entity_replies kinds.Facility (entity_value s class.F) (entity_value u class.F) of more reply reads all
        (λ key same. ap (λ o. amount (owned o)) (sym same)) is
    attribute_replies class.Fc of more reply lasting reads all is =
        counted_entity class.Fc refl lasting kinds.Facility (entity_value s class.Fc) (entity_value u class.Fc) of more reply reads all
        (λ key same. ap (λ (f : Ownership). amount f.captures) (sym same)) is
    attribute_replies class.S of more reply lasting reads all is = stored_replies (λ q. q.level.content) of more reply content_there reads all is
    attribute_replies class.Sc of more reply lasting reads all is =
        stored_replies (λ q. q.entries) of more reply
        (λ name more reads all. ap (λ (q : Store). q.entries) (storage_there (not_through resets class.Sc refl lasting) name more reads all)) reads all is
    attribute_replies class.Sm of more reply lasting reads all is =
        stored_replies (λ q. q.greatest) of more reply
        (λ name more reads all. ap (λ (q : Store). q.greatest) (storage_there (not_through resets class.Sm refl lasting) name more reads all)) reads all is
    attribute_replies class.R of more reply lasting reads all is = left_replies of more reply reads all is
    attribute_replies class.Q of more reply lasting reads all is =
        entity_replies kinds.Queue (entity_value s class.Q) (entity_value u class.Q) of more reply reads all
        (λ key same. ap (λ n. amount n) (sym same)) is
    attribute_replies class.Qc of more reply lasting reads all is =
        counted_entity class.Qc refl lasting kinds.Queue (entity_value s class.Qc) (entity_value u class.Qc) of more reply reads all
        (λ key same. ap (λ (q : Line). amount q.entries) (sym same)) is
    attribute_replies class.Qm of more reply lasting reads all is =
        counted_entity class.Qm refl lasting kinds.Queue (entity_value s class.Qm) (entity_value u class.Qm) of more reply reads all
        (λ key same. ap (λ (q : Line). amount q.greatest) (sym same)) is
    attribute_replies class.Qz of more reply lasting reads all is =
        counted_entity class.Qz refl lasting kinds.Queue (entity_value s class.Qz) (entity_value u class.Qz) of more reply reads all
        (λ key same. ap (λ (q : Line). amount q.zero_entries) (sym same)) is
    attribute_replies class.N of more reply lasting reads all is =
        block_replies (λ c. c.entries) of more reply
        (λ id there. ap (λ (n : ℕ × ℕ). n.0) (stays.entries (not_through resets class.N refl lasting) id there)) reads all is
    attribute_replies class.W of more reply lasting reads all is =
        block_replies (λ c. c.content) of more reply stays.counts reads all is
    attribute_replies class.X of more reply lasting reads all is =
        entity_replies kinds.Savevalue (entity_value s class.X) (entity_value u class.X) of more reply reads all
        (λ key same. ap (λ o. gives (unwrap_or o (pos 0))) (sym same)) is
    attribute_replies class.Ls of more reply lasting reads all is =
        entity_replies kinds.Switch (entity_value s class.Ls) (entity_value u class.Ls) of more reply reads all
        (λ key same. ap (λ b. amount (one_if b)) (sym same)) is
    attribute_replies class.Ch of more reply lasting reads all is =
        entity_replies kinds.UserChain (entity_value s class.Ch) (entity_value u class.Ch) of more reply reads all
        (λ key same. ap (λ (xs : List Transaction). amount (length xs)) (sym same)) is
    attribute_replies class.Cc of more reply lasting reads all is =
        counted_entity class.Cc refl lasting kinds.UserChain (entity_value s class.Cc) (entity_value u class.Cc) of more reply reads all
        (λ key same. ap (λ (c : UserChain). amount c.entries) (sym same)) is
    attribute_replies class.Tc of more reply lasting reads all is =
        table_replies of more reply (not_through resets class.Tc refl lasting) reads all is
    attribute_replies class.P of more reply lasting reads all is =
        let parts = bind_parts t seed (subject_prog of) (λ key. parameter_value s (for_one s x) key) [] (reply, []) (is []) in
        let key = parts.0.0 in
        let there = steady_subject of [] parts.0 parts.1 in
        together (subject_prog of) (λ key. parameter_value u (for_one u x) key) key reply there
        (subst (λ p. Comes p reply) (ap value_held (sym (stays.own key)))
        (behind (subject_prog of) (λ key. parameter_value s (for_one s x) key) key reply there is))
    attribute_replies class.Pr of more reply lasting reads all is = is
    attribute_replies class.Xn1 of more reply lasting reads all is = is
    attribute_replies class of more reply lasting reads all is = absurd (let no = does_last resets class lasting in cc)

    replies : (question : Question) (more : List Watched) (reply : Reply question) → IsLasting resets question → Comes (watched_by question) more →
        AllIn read more → Comes (reply_prog s (for_one s x) question) reply → Comes (reply_prog u (for_one u x) question) reply
    replies (NumberOf name) more reply lasting reads all is = is
    replies (AttributeOf class of) more reply lasting reads all is = attribute_replies class of more reply lasting reads all is
    replies (PartOf of) more reply lasting reads all is = absurd lasting
    replies (VariableOf name) more reply lasting reads all is = is
    replies (FunctionOf name) more reply lasting reads all is = is

    still_came : {A : Type 0} (e : Evaluation A) (a : A) → Came s (for_one s x) read e a → Came u (for_one u x) read e a
    still_came (Yields b) a came = came
    still_came (Stops stop) a came = came
    still_came (Wants question k) a came = λ lasting.
        (let h = came lasting in
        (h.0, replies question h.2.0 h.0 lasting h.2.1 h.2.2 h.1, h.2, still_came (k h.0) a h.3))

-- ---- the entries and the content of a block that is not written

module _ (p : ℕ) where
  abbrev IsUnwritten : List Watched → Type 0
  IsUnwritten list = is_watched list (watched.Counts p) ≡ false

  let_in_tally : (x : Transaction) (to : Option ℕ) (v : Machine) → IsUnwritten (crossing x to) → tally (let_in x to v).counts p ≡ tally v.counts p
  let_in_tally x None v is = refl
  let_in_tally x (Some id) v is =
      let first = or_parts (nat_eq p x.current) (nat_eq p id || false) is in
      let second = or_parts (nat_eq p id) false first.1 in
      tally_elsewhere fates.Active v.counts x.current id p first.0 second.0

  some_tally : (key : Key) (grants : List (Option ℕ)) (passed chain : List Transaction) (v : Machine) → IsUnwritten (crossings grants chain) →
      tally (some_let_in key grants passed chain v).counts p ≡ tally v.counts p
  some_tally key [] passed chain v is = refl
  some_tally key (grant ∷ grants) passed [] v is = refl
  some_tally key (None ∷ grants) passed (x ∷ xs) v is = some_tally key grants (passed ++ x ∷ []) xs v is
  some_tally key (Some units ∷ grants) passed (x ∷ xs) v is =
      let parts = or_parts (is_watched (crossing x x.destination) (watched.Counts p)) (is_watched (crossings grants xs) (watched.Counts p))
      (sym (list_any-append (same_watched (watched.Counts p)) (crossing x x.destination) (crossings grants xs)) ∙ is) in
      some_tally key grants passed xs (one_let_in key x (passed ++ xs) v) parts.1
      ∙ let_in_tally x x.destination (record v { delays = with_value v.delays key (passed ++ xs) }) parts.0

  maybe_made_tally : (next : Option Arrival) (w : Making) → tally (maybe_made next w).counts p ≡ tally w.counts p
  maybe_made_tally None w = refl
  maybe_made_tally (Some a) w = tally_made w.counts a.id p

  all_made_tally : (arrivals : List Arrival) (w : Making) → tally (all_made arrivals w).counts p ≡ tally w.counts p
  all_made_tally [] w = refl
  all_made_tally (a ∷ rest) w = all_made_tally rest (made a w) ∙ tally_made w.counts a.id p

  copied_tally : (count : ℕ) (to : Option ℕ) (x : Transaction) (values : List (Key × ℤ)) (v : Machine) → nat_eq p x.current ≡ false →
      tally (all_copied count to x values v).counts p ≡ tally v.counts p
  copied_tally count to x values v apart =
      all_copied_keep (λ n w. tally w.counts p ≡ tally v.counts p) to x values (λ n w same. tally_stood w.counts x.current p apart ∙ same) count v refl

  changed_tally : (s v : Machine) (change : Change) → v.delays ≡ s.delays → ((y : Transaction) → v.active ≡ Some y → nat_eq p y.current ≡ false) →
      IsUnwritten (written_by change s) → tally (changed change v).counts p ≡ tally v.counts p
  changed_tally s v (changes.Generate next) same apart is = maybe_made_tally next (making_of v)
  changed_tally s v (changes.Split count to) same apart is = go v.active refl where
    go : (o : Option Transaction) → v.active ≡ o →
        tally (with_active o (λ x. all_copied count to x (values_at v.parameters x.number) v) v).counts p ≡ tally v.counts p
    go None none = refl
    go (Some x) active = copied_tally count to x (values_at v.parameters x.number) v (apart x active)
  changed_tally s v (changes.Unlink key count to) same apart is = ap (λ cs. tally cs p) (unlink_is v key count to).counts
  changed_tally s v (changes.Entity change) same apart is =
      let chain = ap (λ ds. delay_at ds change.0) same in
      some_tally change.0 (update_grants change.1) [] (delay_at v.delays change.0) v
      (subst (λ xs. IsUnwritten (crossings (update_grants change.1) xs)) (sym chain) is)
  changed_tally s v (changes.Transaction change) same apart is = refl
  changed_tally s v changes.Nothing same apart is = refl

  entering_tally : (s : Machine) (x : Transaction) (id : ℕ) (change : Change) (fate : Fate) → IsUnwritten (written_where (Some x) id change fate s) →
      tally (entering s x id change fate).counts p ≡ tally s.counts p
  entering_tally s x id change fate is =
      let same = settled_is s x id change fate in
      let first = or_parts (nat_eq p x.current) _ is in
      let second = or_parts (nat_eq p id) _ first.1 in
      let by_change = or_parts (is_watched (written_by change s) (watched.Counts p)) (is_watched (written_in fate) (watched.Counts p))
      (sym (list_any-append (same_watched (watched.Counts p)) (written_by change s) (written_in fate)) ∙ second.1) in
      changed_tally s (settled s x id change fate) change same.delays
      (λ y active. ap (λ (z : Transaction). nat_eq p z.current) (still_active s x id change fate y active)
      ∙ (ap (nat_eq p) (marked_same change s.clock (placed x id)).1 ∙ second.0)) by_change.0
      ∙ (ap (λ cs. tally cs p) same.counts ∙ tally_elsewhere fate s.counts x.current id p first.0 second.0)

  moved_tally : (s : Machine) (m : Move) → (Resets m → ⊥) → (Clears m → ⊥) → IsUnwritten (written s m) → tally (moved s m).counts p ≡ tally s.counts p
  moved_tally s (moves.Start count arrivals) uncounted apart is = all_made_tally arrivals (making_of s)
  moved_tally s moves.Command uncounted apart is = refl
  moved_tally s moves.Reset uncounted apart is = absurd (uncounted tt)
  moved_tally s moves.Clear uncounted apart is = absurd (apart tt)
  moved_tally s (moves.Enter id change fate) uncounted apart is = go s.active is where
    go : (o : Option Transaction) → IsUnwritten (written_where o id change fate s) →
        tally (with_active o (λ x. entering s x id change fate) s).counts p ≡ tally s.counts p
    go None h = refl
    go (Some x) h = entering_tally s x id change fate h
  moved_tally s (moves.Refuse id key units) uncounted apart is =
      with_active_has (λ v. tally v.counts p ≡ tally s.counts p) s.active (λ x. refused s x id key units) s refl (λ x is. refl)
  moved_tally s (moves.Watch read) uncounted apart is =
      with_active_has (λ v. tally v.counts p ≡ tally s.counts p) s.active (λ x. watching s x read) s refl (λ x is. refl)
  moved_tally s moves.Pick uncounted apart is = picked_has (λ v. tally v.counts p ≡ tally s.counts p) s s.current refl (λ x xs is. refl)
  moved_tally s (moves.Clock time) uncounted apart is = refl

  -- a RESET leaves the content
  moved_content : (s : Machine) (m : Move) → (Clears m → ⊥) → IsUnwritten (written s m) →
      (count_at (moved s m).counts p).content ≡ (count_at s.counts p).content
  moved_content s moves.Reset apart is = ap (λ (c : Count). c.content) (count_reset s p)
  moved_content s moves.Clear apart is = absurd (apart tt)
  moved_content s m apart is = ap (λ (n : ℕ × ℕ). n.1) (moved_tally s m (λ r. r) (λ c. c) is)

-- ---- over a run

test_came : (resets : Bool) (t : Listing) (seed : ℕ) (s : Machine) (q : Asker) (id : ℕ) (relation : Auxiliary) (first second : Term) (label : Option Term)
    (read : List Watched) (before after : List Stream) →
    result_of t seed (test_prog s q id relation (Some first) (Some second) label before) ≡ Ok (moves.Watch read, after) →
    (x y : ℤ) × (holds relation x y ≡ false) × Came resets t seed s q read (operands.value_of first) x ×
    Came resets t seed s q read (operands.value_of second) y
test_came resets t seed s q id relation first second None read before after is =
    let one' = bind_parts t seed (value_traced s q [] (Some first)) _ before (moves.Watch read, after) is in
    let two = bind_parts t seed (value_traced s q one'.0.0.1 (Some second)) _ one'.0.1 (moves.Watch read, after) one'.2 in
    let last = (passes_or t seed s id None two.0.0.1 (holds relation one'.0.0.0 two.0.0.0)).from two.0.1 (moves.Watch read, after) two.2 in
    let left' = traced_came resets t seed s q [] (operands.value_of first) before one'.0 one'.1 in
    let right' = traced_came resets t seed s q one'.0.0.1 (operands.value_of second) one'.0.1 two.0 two.1 in
    let all : (w : Watched) → is_watched two.0.0.1 w ≡ true → is_watched read w ≡ true =
    λ w h. subst (λ list. is_watched list w ≡ true) (sym last.2) h in (
      one'.0.0.0,
      two.0.0.0,
      last.1,
      left'.1 read (λ w h. all w (right'.0 w h)),
      right'.1 read all,
    )
test_came resets t seed s q id relation first second (Some label) read before after is =
    let one' = bind_parts t seed (value_there s q (Some first)) _ before (moves.Watch read, after) is in
    let two = bind_parts t seed (value_there s q (Some second)) _ one'.0.1 (moves.Watch read, after) one'.2 in
    let last = (passes_or t seed s id (Some label) [] (holds relation one'.0.0 two.0.0)).from two.0.1 (moves.Watch read, after) two.2 in
    absurd (let no : Some label ≡ None = last.0 in cc)

-- where its block is a TEST, its relation did not hold of two values, and it waits for a change of what they read
abbrev AtTest : Bool → Listing → ℕ → Machine → Waiter → Type 0
AtTest resets t seed s w =
    (id : ℕ) (b : Block) (first second : Term) → goes_to t w.transaction ≡ Some id → block_at t id ≡ Some b → b.verb ≡ blocks.Test →
    operand b A ≡ Some first → operand b B ≡ Some second →
    (x y : ℤ) × (holds b.auxiliary x y ≡ false)
    × Came resets t seed s (for_one s w.transaction) w.read (operands.value_of first) x
    × Came resets t seed s (for_one s w.transaction) w.read (operands.value_of second) y

test_refused : (resets : Bool) (t : Listing) (seed : ℕ) (s : Machine) (read : List Watched) (r : IsRefusedAt t seed s read) →
    AtTest resets t seed s (record { transaction = r.who; read = read })
test_refused resets t seed s read r id b first second goes there verb one' two =
    let tries = tried_here t seed s (moves.Watch read) r id b goes there in
    let tests : result_of t seed (block_prog s r.who r.id b blocks.Test r.before) ≡ Ok (moves.Watch read, r.after) =
    subst (λ v. result_of t seed (block_prog s r.who r.id b v r.before) ≡ Ok (moves.Watch read, r.after)) verb tries in
    let q = for_one s r.who in
    let left' : result_of t seed (test_prog s q r.id b.auxiliary (Some first) (operand b B) (operand b C) r.before) ≡ Ok (moves.Watch read, r.after) =
    subst (λ o. result_of t seed (test_prog s q r.id b.auxiliary o (operand b B) (operand b C) r.before) ≡ Ok (moves.Watch read, r.after)) one' tests in
    let both : result_of t seed (test_prog s q r.id b.auxiliary (Some first) (Some second) (operand b C) r.before) ≡ Ok (moves.Watch read, r.after) =
    subst (λ o. result_of t seed (test_prog s q r.id b.auxiliary (Some first) o (operand b C) r.before) ≡ Ok (moves.Watch read, r.after)) two left' in
    test_came resets t seed s q r.id b.auxiliary first second (operand b C) read r.before r.after both

-- whoever waits is not active
not_active : (s : Machine) (w : Waiter) → IsNumbered s → Contains s.retry w → IsActive s w.transaction.number → ⊥
not_active s w h waits active =
    let k = w.transaction.number in
    let here = active_crowd (has_number k) s active.0 active.1 in
    let his : one (has_number k active.0) ≡ 1 = ap one (eq-eqb active.0.number k active.2) in
    let there = many_has (has_number k) (transactions_of s.retry) w.transaction
    (contains_of (transactions_of s.retry) w.transaction (stands_transactions s.retry w (stands_of s.retry w waits))) (eq-eqb k k refl) in
    let once = h.apart k in
    omega arith

-- what a transaction has of its own stays in a move
abbrev OwnStays : Machine → Move → Waiter → Type 0
OwnStays s m w = (key : Key) →
    parameter_at (moved s m).parameters w.transaction.number key ≡ parameter_at s.parameters w.transaction.number key

was_given : (s : Machine) (w : Waiter) → IsNumbered s → Contains s.retry w → w.transaction.number < s.next
was_given s w h waits =
    elim (cases_lt w.transaction.number s.next) [
      | inl below ↦ below
      | inr above ↦ absurd (
          let k = w.transaction.number in
          let there = many_has (has_number k) (transactions_of s.retry) w.transaction
          (contains_of (transactions_of s.retry) w.transaction (stands_transactions s.retry w (stands_of s.retry w waits))) (eq-eqb k k refl) in
          let none = h.given k above in
          omega arith)
    ]

waiting_own : (t : Listing) (s : Machine) (m : Move) (w : Waiter) → s.next < 2 ^ 64 → IsDecided t s m → (Clears m → ⊥) → IsNumbered s → Contains s.retry w →
    OwnStays s m w
waiting_own t s m w low decided' apart numbered waits key =
    elim (moved_elsewhere w.transaction.number t s m low (was_given s w numbered waits) decided' apart) [
      | inl same ↦ ap (λ values. value_of values key) same
      | inr active ↦ absurd (not_active s w numbered waits active)
    ]

abbrev Tested : Bool → Listing → ℕ → Machine → Move → Waiter → Type 0
Tested resets t seed s m w = AtTest resets t seed s w × ((Clears m → ⊥) → OwnStays s m w)

coming_tested : (resets : Bool) (t : Listing) (seed : ℕ) (s : Machine) (m : Move) → IfWatches (IsRefusedAt t seed s) m →
    AllByRecursion (Tested resets t seed s m) (who_comes m s.active)
coming_tested resets t seed s (moves.Watch read) r =
    let w : Waiter = record { transaction = r.who; read = read } in
    let own : OwnStays s (moves.Watch read) w = λ key.
    with_active_has (λ v. parameter_at v.parameters w.transaction.number key ≡ parameter_at s.parameters w.transaction.number key) s.active
    (λ x. watching s x read) s refl (λ x is. refl) in
    subst (λ o. AllByRecursion (Tested resets t seed s (moves.Watch read)) (who_comes (moves.Watch read) o)) (sym r.active)
    ((test_refused resets t seed s read r, λ apart. own), tt)
coming_tested resets t seed s m r = tt

each_tested : (P Q : Waiter → Type 0) (ws : List Waiter) → ((w : Waiter) → Stands ws w → Q w) → AllByRecursion P ws → AllByRecursion (λ w. P w × Q w) ws
each_tested P Q [] each all = tt
each_tested P Q (w ∷ ws) each all = ((all.0, each w (inl refl)), each_tested P Q ws (λ v there. each v (inr there)) all.1)

test_stays : (resets : Bool) (t : Listing) (seed : ℕ) (s : Machine) (m : Move) (streams : List Stream) → (resets ≡ false → Resets m → ⊥) → (w : Waiter) →
    (Clears m → ⊥) → is_woken (written s m) w ≡ false →
    Tested resets t seed s m w → AtTest resets t seed (decided s m streams) w
test_stays resets t seed s m streams none w apart unread tested = λ id b first second goes there verb one' two.
    (let h = tested.0 id b first second goes there verb one' two in
    let u = decided s m streams in
    let stays : Stays resets t seed s u w.read w.transaction = record {
      entity = λ kind key read. moved_kept s m kind key apart (unread_unwritten (written s m) w.read (watched.Entity kind key) unread read);
      counted = λ never kind key read.
          moved_entity s m kind key (none never) apart (unread_unwritten (written s m) w.read (watched.Entity kind key) unread read);
      counts = λ i read. moved_content i s m apart (unread_unwritten (written s m) w.read (watched.Counts i) unread read);
      entries = λ never i read. moved_tally i s m (none never) apart (unread_unwritten (written s m) w.read (watched.Counts i) unread read);
      own = tested.1 apart;
    } in (
      h.0,
      h.1,
      h.2,
      still_came resets t seed s u w.read w.transaction stays (operands.value_of first) h.0 h.3,
      still_came resets t seed s u w.read w.transaction stays (operands.value_of second) h.1 h.4,
    ))

each_stands : (Q : Waiter → Type 0) (ws : List Waiter) → ((w : Waiter) → Stands ws w → Q w) → AllByRecursion Q ws
each_stands Q [] each = tt
each_stands Q (w ∷ ws) each = (each w (inl refl), each_stands Q ws (λ v there. each v (inr there)))

each_more : (P Q : Waiter → Type 0) (ws : List Waiter) → ((w : Waiter) → P w → Q w) → AllByRecursion P ws → AllByRecursion Q ws
each_more P Q [] more all = tt
each_more P Q (w ∷ ws) more all = (more w all.0, each_more P Q ws more all.1)

-- whoever came after a moment waits at no TEST that holds
module _ (resets : Bool) (t : Listing) (seed : ℕ) (well : Well t) (m : ℕ) (start : Machine) where
  abbrev CameOr : Machine → Waiter → Type 0
  CameOr s w = Contains start.retry w ⊎ AtTest resets t seed s w

  abbrev CameOrTested : Machine → Move → Waiter → Type 0
  CameOrTested s move w = CameOr s w × ((Clears move → ⊥) → OwnStays s move w)

  abbrev NoReset : ℕ → Type 0
  NoReset n = resets ≡ false → NoneBetween commands.Reset t seed m n

  came_stays : (s : Machine) (move : Move) (streams : List Stream) → (resets ≡ false → Resets move → ⊥) → (w : Waiter) → (Clears move → ⊥) →
      is_woken (written s move) w ≡ false → CameOrTested s move w → CameOr (decided s move streams) w
  came_stays s move streams none w apart unread (inl there, own) = inl there
  came_stays s move streams none w apart unread (inr tested, own) = inr (test_stays resets t seed s move streams none w apart unread (tested, own))

  tests_fail : run t seed m ≡ Ok start → (n : ℕ) (s : Machine) → m ≤ n → run t seed n ≡ Ok s → n ≤ t.limit → NoReset n →
      AllByRecursion (CameOr s) s.retry
  tests_fail at =
      over_steps t seed (λ n s. n ≤ t.limit → NoReset n → AllByRecursion (CameOr s) s.retry) m start at
      (λ within none. each_stands (CameOr start) start.retry (λ w stands. inl (contains_of start.retry w stands)))
      (λ n s move streams from there goes all within none.
      let early : n ≤ t.limit = omega (arith, within) in
      let numbered = all_numbered t seed well n s there early in
      let own : (w : Waiter) → Stands s.retry w → (Clears move → ⊥) → OwnStays s move w =
      λ w stands apart. waiting_own t s move w (all_low t seed n s there) (is_decided t seed s (move, streams) goes) apart numbered (contains_of s.retry w stands) in
      let earlier : NoReset n = λ never k u start' below. none never k u start' (omega (arith, below)) in
      let no_reset : resets ≡ false → Resets move → ⊥ =
      λ never. no_reset_decided t s move (is_decided t seed s (move, streams) goes) (none never n s from (omega arith) there) in
      all_wait_on (CameOrTested s move) (CameOr (decided s move streams)) s move streams
      (each_tested (CameOr s) (λ w. (Clears move → ⊥) → OwnStays s move w) s.retry own (all early earlier))
      (each_more (Tested resets t seed s move) (CameOrTested s move) (who_comes move s.active) (λ w tested. (inr tested.0, tested.1))
      (coming_tested resets t seed s move (refused_at t seed s (move, streams) goes)))
      (came_stays s move streams no_reset))

-- a run that came so far came to a state before
state_before : (t : Listing) (seed m n : ℕ) (s : Machine) → m ≤ n → run t seed n ≡ Ok s → (u : Machine) × (run t seed m ≡ Ok u)
state_before t seed m n s before is = go (run t seed m) refl where
  go : (r : Result Machine End) → run t seed m ≡ r → (u : Machine) × (run t seed m ≡ Ok u)
  go (Ok u) at = (u, at)
  go (Err end) at = absurd (let no : Err end ≡ Ok s = sym (ends_for_good t seed m n end before at) ∙ is in cc)

waits_at_test : (resets : Bool) (t : Listing) (seed m n : ℕ) (s : Machine) → Well t → n ≤ t.limit → run t seed n ≡ Ok s → (w : Waiter) →
    Contains s.retry w → (resets ≡ false → WaitsSince t seed m n w) → AtTest resets t seed s w
waits_at_test true t seed m n s well within is w waits since =
    let all = tests_fail true t seed well 0 zero_state refl n s (omega arith) is within (λ never. absurd cc) in
    elim (all_stands (CameOr true t seed well 0 zero_state s) s.retry w all (stands_of s.retry w waits)) [
      | inl there ↦ absurd (omega (arith, there.1))
      | inr tested ↦ tested
    ]
waits_at_test false t seed m n s well within is w waits since =
    let h = since refl in
    let first = state_before t seed m n s h.before is in
    let all = tests_fail false t seed well m first.0 first.1 n s h.before is within (λ never. h.no_reset) in
    elim (all_stands (CameOr false t seed well m first.0 s) s.retry w all (stands_of s.retry w waits)) [
      | inl there ↦ absurd (h.not_yet first.0 first.1 there)
      | inr tested ↦ tested
    ]

pub nobody_waits_at_a_test_that_holds : NobodyWaitsAtATestThatHolds
nobody_waits_at_a_test_that_holds resets t seed m n s well within is w id b first second x y waits since goes there verb one' two left' right' =
    let q = for_one s w.transaction in
    let h = waits_at_test resets t seed m n s well within is w waits since id b first second goes there verb one' two in
    let a : h.0 ≡ x = came_is resets t seed s q w.read (operands.value_of first) h.0 x h.3 left'.0 left'.1 in
    let c : h.1 ≡ y = came_is resets t seed s q w.read (operands.value_of second) h.1 y h.4 right'.0 right'.1 in
    sym (ap₂ (holds b.auxiliary) a c) ∙ h.2

-- ---- what tells what it read comes to the same

alone_is : {A : Type 0} (r : Result ((A × List Watched) × List Stream) End) → value_alone r ≡ alone.value_alone r
alone_is (Ok r) = refl
alone_is (Err end) = refl

pub telling_changes_nothing : TellingChangesNothing
telling_changes_nothing t seed s q read operand streams =
    let alike = alone.value_alike t seed s q read operand streams in
    (alone_is (result_of t seed (value_traced s q read operand streams)) ∙ alike.value, alike.same)
