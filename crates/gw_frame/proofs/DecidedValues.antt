-- Each evaluation of an operand is lawful: it reads items that name no ids but those of blocks, it draws with the seed
-- where a stream is set, it ends with errors alone, and it tells no id, so that the evaluation in a moved state follows
-- it.
use Rattle.std.proofs.Common.{◌≡◌, ℕ, zero, suc, ◌<◌, nat_le, false, cond, not, ◌&&◌, Bool, true, List, [], ◌∷◌, ◌++◌, length, Result, Ok, Err, Option, Some, None, ℤ, ◌-◌, pos, inr, refl, append-nil, map, option_map, arith}
use Rattle.std.specs.List.{AllByRecursion}
use Rattle.std.proofs.lemmas.Bool.Decides.{nat_tests}
use Rattle.gw_nums.specs.Range.{is_value, is_negative, is_below, magnitude}
use Rattle.gw_expr.specs.Term.{Term}
use Rattle.gw_expr.specs.declared.expr.Expr.TheVariants.{Named}
use Rattle.gw_expr.specs.Evaluation.{Question, NumberOf, AttributeOf, PartOf, VariableOf, FunctionOf, Evaluation, Yields, Stops, Wants, value_of, function_of}
use Rattle.gw_nums.specs.declared.val.ArithmeticFault.{ArithmeticFault}
use Rattle.gw_nums.specs.declared.val.ArithmeticFault.TheVariants as arithmetic_faults
use Rattle.gw_streams.specs.declared.stream.Stream.{Stream}
use Rattle.gw_streams.specs.declared.stream.Stream.TheVariants as streams
use Rattle.gw_streams.specs.Draws.{is_set, stream_at}
use Rattle.gw_names.specs.declared.class.Class.{Class}
use Rattle.gw_names.specs.declared.class.Class.TheVariants as class
use Rattle.gw_expr.specs.declared.attribute.Subject.{Subject}
use Rattle.gw_expr.specs.declared.attribute.Subject.TheVariants as subjects
use Rattle.gw_nums.specs.Millionths.{times}
use Rattle.gw_meaning.specs.declared.asker.Asker.{Asker}
use Rattle.gw_meaning.specs.declared.item.Asked.{Asked}
use Rattle.gw_meaning.specs.declared.item.Asked.TheVariants as asking
use Rattle.gw_meaning.specs.Questions.{Answer, ask}
use Rattle.gw_meaning.specs.Evaluation.{asks}
use Rattle.gw_meaning.specs.declared.item.Item.TheVariants as items
use Rattle.gw_meaning.specs.Listing.{Listing, capacity_at, label_at}
use Rattle.gw_names.specs.declared.key.Key.{Key}
use Rattle.gw_meaning.specs.Entities.{facility_at, line_at, switch_at, table_at}
use Rattle.gw_meaning.specs.Parameters.{parameter_at}
use Rattle.gw_meaning.specs.Machine.{Machine, count_at, user_chain_at}
use Rattle.gw_meaning.specs.Evaluation.{Eval, number_of_draw, draw, amount, numbered, named, subject_prog, defined_prog, counted, block_count, random_prog, random_part, own_value, value_held, parameter_value, entity_value, storage_value, table_value, block_value, owned, one_if, attribute_prog, arithmetic, value_prog, value_there, value_or_zero, entity_prog, units_prog, in_range, spread, sample_within, time_prog, left_prog, modifier_of, time_by, drawn_prog, reply_prog, evaluated, entity_watched, defined_watched, counts_of, counts_watched, watched_prog, watched_by, traced, value_traced, entity_traced}
use Rattle.gw_frame.proofs.Seeds.{uses_seed, one_drew}
use Rattle.gw_frame.proofs.Lawful.{IsError, ProgLawful, Lawful, prog_gives, prog_bind, lawful_gives, lawful_ends, lawful_asks, lawful_cond, lawful_stops, lawful_unless, lawful_bind, all_with}
use Rattle.gw_frame.specs.Moved.{IsMove, moved_answer, moved_watched, moved_machine}
use Rattle.gw_frame.proofs.MovedLists.{count_at_moved}
use Rattle.gw_frame.proofs.UserChains.{content_moved, entries_moved}
use Rattle.gw_frame.proofs.MovedWaiters.{counts_of_moved, with_all_watched_moved}
use Rattle.gw_names.specs.declared.key.Key.TheVariants as keys
use Rattle.gw_meaning.specs.Listing.{number_at}
use Rattle.gw_meaning.specs.Entities.{store_at}
use Rattle.gw_meaning.specs.declared.watched.EntityKind.{EntityKind}
use Rattle.gw_meaning.specs.declared.watched.EntityKind.TheVariants as kinds
use Rattle.gw_meaning.specs.declared.watched.Watched.{Watched}
use Rattle.gw_meaning.specs.Watching.{is_watched, with_watched, with_all_watched}
use Rattle.gw_frame.specs.BlockIds.{WatchedNames}
use Rattle.gw_frame.proofs.Labels.{label_there}
use Rattle.gw_frame.proofs.Known.{is_storage, AreWatched, IsRead}

a_stream : (i : ℕ) → not (nat_le 1 (suc i) && nat_le (suc i) 7) ≡ false → i < 7
a_stream i h = grind (arith, nat_tests)

-- of a value nothing is wanted
abbrev pub Whatever : {A : Type 0} → A → Type 0
Whatever a = Unit {0}

abbrev pub IsNoStorage : Key → Type 0
IsNoStorage key = is_storage key ≡ false

abbrev pub same : {A : Type 0} → A → A
same a = a

-- an attribute that draws; and a question that may be replied to without a draw
abbrev pub draws : Class → Bool
draws class.Rn = true
draws class = false

abbrev pub IsQuiet : Question → Type 0
IsQuiet (AttributeOf class of) = draws class ≡ false
IsQuiet (PartOf of) = ⊥
IsQuiet question = Unit {0}

-- a state of a version; its twin is the same state with its ids moved
pub record Twins : Type 0 where
  pub version : Listing
  pub seed : ℕ
  pub state : Machine
  pub move : ℕ → ℕ
  pub renames : IsMove move

module _ (twins : Twins) where
  abbrev pub t : Listing
  t = twins.version

  abbrev pub seed : ℕ
  seed = twins.seed

  abbrev pub s : Machine
  s = twins.state

  abbrev pub move : ℕ → ℕ
  move = twins.move

  abbrev pub twin : Machine
  twin = moved_machine move s

  -- what an evaluation gives is known, and what it reads is read, in this state; it ends with an error alone; the one
  -- in the moved state follows it; and where D holds, it draws nothing
  abbrev pub Reckons : {A B : Type 0} → Type 0 → (A → B) → (A → Type 0) → Eval A → Eval B → Type 0
  Reckons D f Q p q = Lawful t seed move D (IsRead t s) IsError f Q p q

  abbrev pub Decides : {A B : Type 0} → (A → B) → (A → Type 0) → Eval A → Eval B → Type 0
  Decides f Q p q = Reckons ⊥ f Q p q

  -- what is asked of a name names no id
  pub asks_named : {A B D : Type 0} {f : A → B} {Q : A → Type 0} (asked : Asked) (name : List ℕ) {k : Answer (items.Named asked name) → Eval A}
      {l : Answer (items.Named asked name) → Eval B} →
      Reckons D f Q (k (ask t seed (items.Named asked name))) (l (moved_answer move (items.Named asked name) (ask t seed (items.Named asked name)))) →
      Reckons D f Q (asks (items.Named asked name) k) (asks (items.Named asked name) l)
  asks_named asked name rest = lawful_asks (items.Named asked name) refl (λ numbered named. tt) rest

  module _ (D : Type 0) where
    abbrev pub Evaluates : {A : Type 0} → Eval A → Eval A → Type 0
    Evaluates p q = Reckons D same Whatever p q

    -- values and draws
    number_decides : (stream : Stream) →
        ProgLawful t seed move IsError same (λ x is. AllByRecursion (IsRead t s) is × (uses_seed is ≡ is_set stream)) (number_of_draw stream)
        (number_of_draw stream)
    number_decides (streams.Set value) = record {
      given = λ x there. (((λ numbered named. tt), tt), refl);
      ended = λ end there. absurd cc;
      follows = λ u new_seed answered. rw (answered items.Seed) refl;
    }
    number_decides (streams.At x) = prog_gives refl (tt, refl)

    pub draw_decides : (D → ⊥) → (i : ℕ) → i < 7 → Evaluates (draw (suc i)) (draw (suc i))
    draw_decides loud i kept = record {
      from = λ before. prog_bind _ (number_decides (stream_at before (suc i)))
          (λ x is h. prog_gives refl (tt, rw append-nil h.0, rw append-nil (one_drew before i x is kept h.1)));
      steady = λ quiet. absurd (loud quiet);
    }

    pub in_range_decides : (z : ℤ) → Evaluates (in_range z) (in_range z)
    in_range_decides z = lawful_cond (is_value z) (lawful_gives refl tt) lawful_ends

    -- attributes
    amount_decides : (n : ℕ) → Evaluates (amount n) (amount n)
    amount_decides n = in_range_decides (pos n)

    -- an entity, which is no storage
    abbrev pub Names : Eval Key → Eval Key → Type 0
    Names p q = Reckons D same IsNoStorage p q

    numbered_decides : (n : ℤ) → Names (numbered n) (numbered n)
    numbered_decides n = lawful_stops (is_below n (pos 1)) _ (lawful_gives refl refl)

    named_decides : (name : List ℕ) (number : Option ℤ) → Names (named name number) (named name number)
    named_decides name None = lawful_gives refl refl
    named_decides name (Some n) = numbered_decides n

    pub subject_decides : (of : Subject) → Names (subject_prog of) (subject_prog of)
    subject_decides subjects.Own = lawful_ends
    subject_decides (subjects.Number n) = numbered_decides (pos n)
    subject_decides (subjects.Name name) = asks_named asking.Number name (named_decides name (number_at t name))

    defined_decides : (of : Subject) (f g : Key → Eval ℤ) → ((key : Key) → Evaluates (f key) (g key)) → Evaluates (defined_prog of f) (defined_prog of g)
    defined_decides subjects.Own f g each = lawful_ends
    defined_decides (subjects.Number n) f g each = lawful_ends
    defined_decides (subjects.Name name) f g each = each (keys.Defined name)

    left_decides : (of : Subject) → Evaluates (left_prog s of) (left_prog twin of)
    left_decides subjects.Own = lawful_ends
    left_decides (subjects.Number n) = lawful_ends
    left_decides (subjects.Name name) = asks_named asking.Storage name
        (amount_decides (capacity_at t name - (store_at s.entities (keys.Defined name)).level.content))

    counted_decides : (o : Option ℕ) (f g : ℕ → Eval ℤ) → ((id : ℕ) → Evaluates (f id) (g (move id))) →
        Evaluates (counted o f) (counted (option_map move o) g)
    counted_decides None f g each = lawful_ends
    counted_decides (Some id) f g each = each id

    block_count_decides : (of : Subject) (f g : ℕ → Eval ℤ) → ((id : ℕ) → Evaluates (f id) (g (move id))) →
        Evaluates (block_count of f) (block_count of g)
    block_count_decides subjects.Own f g each = lawful_ends
    block_count_decides (subjects.Number n) f g each = lawful_ends
    block_count_decides (subjects.Name name) f g each =
        asks_named asking.Label name (counted_decides (label_at t name) f g each)

    drawn_decides : (D → ⊥) → (of : Subject) → Evaluates (drawn_prog of) (drawn_prog of)
    drawn_decides loud subjects.Own = lawful_ends
    drawn_decides loud (subjects.Number zero) = lawful_ends
    drawn_decides loud (subjects.Number (suc i)) =
        lawful_unless (not (nat_le 1 (suc i) && nat_le (suc i) 7)) _ (λ h. draw_decides loud i (a_stream i h))
    drawn_decides loud (subjects.Name name) = lawful_ends

    random_decides : (D → ⊥) → (of : Subject) → Evaluates (random_prog of) (random_prog of)
    random_decides loud of = lawful_bind _ (drawn_decides loud of) (λ x k. lawful_gives refl tt)

    random_part_decides : (D → ⊥) → (of : Subject) → Evaluates (random_part of) (random_part of)
    random_part_decides loud of = lawful_bind _ (drawn_decides loud of) (λ x k. lawful_gives refl tt)

    own_decides : (q : Asker) (class : Class) → Evaluates (own_value s q class) (own_value twin q class)
    own_decides q class.C1 = amount_decides (s.clock - s.since)
    own_decides q class.Ac1 = amount_decides s.clock
    own_decides q class.Tg1 = amount_decides q.remaining
    own_decides q class.M1 = lawful_stops (not q.is_transaction) _ (amount_decides (s.clock - q.mark))
    own_decides q class.Xn1 = lawful_stops (not q.is_transaction) _ (amount_decides q.number)
    own_decides q class.Pr = lawful_stops (not q.is_transaction) _ (lawful_gives refl tt)
    own_decides q class = lawful_ends

    value_held_decides : (o : Option ℤ) → Evaluates (value_held o) (value_held o)
    value_held_decides None = lawful_ends
    value_held_decides (Some v) = lawful_gives refl tt

    parameter_value_decides : (q : Asker) (key : Key) → Evaluates (parameter_value s q key) (parameter_value twin q key)
    parameter_value_decides q key = lawful_stops (not q.is_transaction) _ (value_held_decides (parameter_at s.parameters q.number key))

    entity_value_decides : (class : Class) (key : Key) → Evaluates (entity_value s class key) (entity_value twin class key)
    entity_value_decides class.F key = amount_decides (owned (facility_at s.entities key).owner)
    entity_value_decides class.Fc key = amount_decides (facility_at s.entities key).captures
    entity_value_decides class.Q key = amount_decides (line_at s.entities key).level.content
    entity_value_decides class.Qc key = amount_decides (line_at s.entities key).entries
    entity_value_decides class.Qm key = amount_decides (line_at s.entities key).greatest
    entity_value_decides class.Qz key = amount_decides (line_at s.entities key).zero_entries
    entity_value_decides class.X key = lawful_gives refl tt
    entity_value_decides class.Ls key = amount_decides (one_if (switch_at s.entities key))
    entity_value_decides class.Ch key = rw (content_moved move s.linked key) (amount_decides (length (user_chain_at s.linked key).members))
    entity_value_decides class.Cc key = rw (entries_moved move s.linked key) (amount_decides (user_chain_at s.linked key).entries)
    entity_value_decides class key = lawful_ends

    storage_value_decides : (class : Class) (key : Key) → Evaluates (storage_value s class key) (storage_value twin class key)
    storage_value_decides class.S key = amount_decides (store_at s.entities key).level.content
    storage_value_decides class.Sc key = amount_decides (store_at s.entities key).entries
    storage_value_decides class.Sm key = amount_decides (store_at s.entities key).greatest
    storage_value_decides class key = lawful_ends

    table_value_decides : (key : Key) → Evaluates (table_value s key) (table_value twin key)
    table_value_decides key = amount_decides (length (table_at s.entities key))

    block_value_decides : (class : Class) (id : ℕ) → Evaluates (block_value s class id) (block_value twin class (move id))
    block_value_decides class.N id = rw (count_at_moved move twins.renames s.counts id) (amount_decides (count_at s.counts id).entries)
    block_value_decides class.W id = rw (count_at_moved move twins.renames s.counts id) (amount_decides (count_at s.counts id).content)
    block_value_decides class id = lawful_ends

    attribute_decides : (q : Asker) (class : Class) (of : Subject) → (D → draws class ≡ false) →
        Evaluates (attribute_prog s q class of) (attribute_prog twin q class of)
    unfolding attribute_prog
    attribute_decides q class.C1 of quiet = own_decides q class.C1
    attribute_decides q class.Ac1 of quiet = own_decides q class.Ac1
    attribute_decides q class.Tg1 of quiet = own_decides q class.Tg1
    attribute_decides q class.M1 of quiet = own_decides q class.M1
    attribute_decides q class.Xn1 of quiet = own_decides q class.Xn1
    attribute_decides q class.Pr of quiet = own_decides q class.Pr
    attribute_decides q class.P of quiet = lawful_bind _ (subject_decides of) (λ key h. parameter_value_decides q key)
    attribute_decides q class.F of quiet = lawful_bind _ (subject_decides of) (λ key h. entity_value_decides class.F key)
    attribute_decides q class.Fc of quiet = lawful_bind _ (subject_decides of) (λ key h. entity_value_decides class.Fc key)
    attribute_decides q class.Q of quiet = lawful_bind _ (subject_decides of) (λ key h. entity_value_decides class.Q key)
    attribute_decides q class.Qc of quiet = lawful_bind _ (subject_decides of) (λ key h. entity_value_decides class.Qc key)
    attribute_decides q class.Qm of quiet = lawful_bind _ (subject_decides of) (λ key h. entity_value_decides class.Qm key)
    attribute_decides q class.Qz of quiet = lawful_bind _ (subject_decides of) (λ key h. entity_value_decides class.Qz key)
    attribute_decides q class.X of quiet = lawful_bind _ (subject_decides of) (λ key h. entity_value_decides class.X key)
    attribute_decides q class.Ls of quiet = lawful_bind _ (subject_decides of) (λ key h. entity_value_decides class.Ls key)
    attribute_decides q class.Ch of quiet = lawful_bind _ (subject_decides of) (λ key h. entity_value_decides class.Ch key)
    attribute_decides q class.Cc of quiet = lawful_bind _ (subject_decides of) (λ key h. entity_value_decides class.Cc key)
    attribute_decides q class.S of quiet = defined_decides of _ _ (storage_value_decides class.S)
    attribute_decides q class.R of quiet = left_decides of
    attribute_decides q class.Sc of quiet = defined_decides of _ _ (storage_value_decides class.Sc)
    attribute_decides q class.Sm of quiet = defined_decides of _ _ (storage_value_decides class.Sm)
    attribute_decides q class.Tc of quiet = defined_decides of _ _ table_value_decides
    attribute_decides q class.N of quiet = block_count_decides of _ _ (block_value_decides class.N)
    attribute_decides q class.W of quiet = block_count_decides of _ _ (block_value_decides class.W)
    attribute_decides q class.Rn of quiet = random_decides (λ d. absurd (let no : true ≡ false = quiet d in cc)) of
    attribute_decides q class of quiet = lawful_ends

    -- what is replied to a question, and so what comes of any evaluation
    pub reply_decides : (q : Asker) (question : Question) → (D → IsQuiet question) → Evaluates (reply_prog s q question) (reply_prog twin q question)
    reply_decides q (NumberOf name) quiet = asks_named asking.Number name (lawful_gives refl tt)
    reply_decides q (AttributeOf class of) quiet = attribute_decides q class of quiet
    reply_decides q (PartOf of) quiet = random_part_decides quiet of
    reply_decides q (VariableOf name) quiet = asks_named asking.Variable name (lawful_gives refl tt)
    reply_decides q (FunctionOf name) quiet = asks_named asking.Function name (lawful_gives refl tt)

    -- an operator
    pub arithmetic_decides : (r : Result ℤ ArithmeticFault) → Evaluates (arithmetic r) (arithmetic r)
    arithmetic_decides (Ok z) = lawful_gives refl tt
    arithmetic_decides (Err arithmetic_faults.Range) = lawful_ends
    arithmetic_decides (Err arithmetic_faults.ZeroDivisor) = lawful_ends

    -- what is read: the counts are those of blocks
    abbrev Reads : Eval (List Watched) → Eval (List Watched) → Type 0
    Reads p q = Reckons D (map (moved_watched move)) (AreWatched t) p q

    entity_watched_decides : (kind : EntityKind) (of : Subject) → Reads (entity_watched kind of) (entity_watched kind of)
    entity_watched_decides kind of = lawful_bind _ (subject_decides of) (λ key h. lawful_gives refl (λ numbered. (tt, tt)))

    defined_watched_decides : (kind : EntityKind) (of : Subject) → Reads (defined_watched kind of) (defined_watched kind of)
    defined_watched_decides kind subjects.Own = lawful_gives refl (λ numbered. tt)
    defined_watched_decides kind (subjects.Number n) = lawful_gives refl (λ numbered. tt)
    defined_watched_decides kind (subjects.Name name) = lawful_gives refl (λ numbered. (tt, tt))

    counts_there : (name : List ℕ) (id : Option ℕ) → label_at t name ≡ id → AreWatched t (counts_of id)
    counts_there name None is = λ numbered. tt
    counts_there name (Some id) is = λ numbered. (inr (label_there t.lines name id numbered is), tt)

    counts_watched_decides : (of : Subject) → Reads (counts_watched of) (counts_watched of)
    counts_watched_decides subjects.Own = lawful_gives refl (λ numbered. tt)
    counts_watched_decides (subjects.Number n) = lawful_gives refl (λ numbered. tt)
    counts_watched_decides (subjects.Name name) = asks_named asking.Label name
        (lawful_gives (counts_of_moved move (label_at t name)) (counts_there name (label_at t name) refl))

    watched_decides : (class : Class) (of : Subject) → Reads (watched_prog class of) (watched_prog class of)
    unfolding watched_prog
    watched_decides class.F of = entity_watched_decides kinds.Facility of
    watched_decides class.Fc of = entity_watched_decides kinds.Facility of
    watched_decides class.Q of = entity_watched_decides kinds.Queue of
    watched_decides class.Qc of = entity_watched_decides kinds.Queue of
    watched_decides class.Qm of = entity_watched_decides kinds.Queue of
    watched_decides class.Qz of = entity_watched_decides kinds.Queue of
    watched_decides class.X of = entity_watched_decides kinds.Savevalue of
    watched_decides class.Ls of = entity_watched_decides kinds.Switch of
    watched_decides class.Ch of = entity_watched_decides kinds.UserChain of
    watched_decides class.Cc of = entity_watched_decides kinds.UserChain of
    watched_decides class.S of = defined_watched_decides kinds.Storage of
    watched_decides class.R of = defined_watched_decides kinds.Storage of
    watched_decides class.Sc of = defined_watched_decides kinds.Storage of
    watched_decides class.Sm of = defined_watched_decides kinds.Storage of
    watched_decides class.Tc of = defined_watched_decides kinds.Table of
    watched_decides class.N of = counts_watched_decides of
    watched_decides class.W of = counts_watched_decides of
    watched_decides class of = lawful_gives refl (λ numbered. tt)

    pub watched_by_decides : (question : Question) → Reads (watched_by question) (watched_by question)
    watched_by_decides (NumberOf name) = lawful_gives refl (λ numbered. tt)
    watched_by_decides (AttributeOf class of) = watched_decides class of
    watched_by_decides (PartOf of) = lawful_gives refl (λ numbered. tt)
    watched_by_decides (VariableOf name) = lawful_gives refl (λ numbered. tt)
    watched_by_decides (FunctionOf name) = lawful_gives refl (λ numbered. tt)

  evaluation_decides : {A : Type 0} (q : Asker) (p : Evaluation A) → Evaluates ⊥ (evaluated s q p) (evaluated twin q p)
  evaluation_decides q (Yields a) = lawful_gives refl tt
  evaluation_decides q (Stops stop) = lawful_ends
  evaluation_decides q (Wants question k) = lawful_bind _ (reply_decides ⊥ q question (λ no. absurd no)) (λ reply h. evaluation_decides q (k reply))

  -- operands
  pub value_decides : (q : Asker) (term : Term) → Evaluates ⊥ (value_prog s q term) (value_prog twin q term)
  unfolding value_prog
  value_decides q term = evaluation_decides q (value_of term)

  pub value_there_decides : (q : Asker) (term : Option Term) → Evaluates ⊥ (value_there s q term) (value_there twin q term)
  value_there_decides q None = lawful_ends
  value_there_decides q (Some term) = value_decides q term

  pub value_or_zero_decides : (q : Asker) (term : Option Term) → Evaluates ⊥ (value_or_zero s q term) (value_or_zero twin q term)
  value_or_zero_decides q None = lawful_gives refl tt
  value_or_zero_decides q (Some term) = value_decides q term

  pub entity_decides : (q : Asker) (term : Option Term) → Names ⊥ (entity_prog s q term) (entity_prog twin q term)
  entity_decides q None = lawful_ends
  entity_decides q (Some (Named name)) = asks_named asking.Number name (named_decides ⊥ name (number_at t name))
  entity_decides q (Some term) = lawful_bind _ (value_decides q term) (λ n h. numbered_decides ⊥ n)

  pub units_decides : (q : Asker) (term : Option Term) → Evaluates ⊥ (units_prog s q term) (units_prog twin q term)
  units_decides q None = lawful_gives refl tt
  units_decides q (Some term) = lawful_bind _ (value_decides q term) (λ n h. lawful_stops (is_below n (pos 1)) _ (lawful_gives refl tt))

  sample_within_decides : (mean : ℤ) (range : ℕ) → Evaluates ⊥ (sample_within mean range) (sample_within mean range)
  sample_within_decides mean zero = lawful_gives refl tt
  sample_within_decides mean (suc n) =
      lawful_bind _ (draw_decides ⊥ (λ no. no) 0 (omega arith)) (λ x h. in_range_decides ⊥ (spread mean (suc n) x))

  time_by_decides : (q : Asker) (mean range : Option Term) (of : Option Subject) → Evaluates ⊥ (time_by s q mean range of) (time_by twin q mean range of)
  time_by_decides q mean range (Some of) = lawful_bind _ (value_or_zero_decides q mean)
      (λ m h. lawful_bind _ (evaluation_decides q (function_of of)) (λ y k. in_range_decides ⊥ (times m y)))
  time_by_decides q mean range None = lawful_bind _ (value_or_zero_decides q mean)
      (λ m h. lawful_bind _ (value_or_zero_decides q range) (λ r k. lawful_cond (is_negative r) (lawful_gives refl tt) (sample_within_decides m (magnitude r))))

  pub time_decides : (q : Asker) (mean range : Option Term) → Evaluates ⊥ (time_prog s q mean range) (time_prog twin q mean range)
  time_decides q mean range = time_by_decides q mean range (modifier_of range)

  pub with_one : (read : List Watched) (w : Watched) → AreWatched t read → WatchedNames t w → AreWatched t (with_watched read w)
  with_one read w all one = λ numbered. go (is_watched read w) (all numbered) where
    go : (b : Bool) → AllByRecursion (WatchedNames t) read → AllByRecursion (WatchedNames t) (cond b read (read ++ w ∷ []))
    go true h = h
    go false h = all_with (WatchedNames t) read (w ∷ []) h (one, tt)

  with_more : (read more : List Watched) → AreWatched t read → AreWatched t more → AreWatched t (with_all_watched read more)
  with_more read [] all rest = all
  with_more read (w ∷ ws) all rest = λ numbered.
      with_more (with_watched read w) ws (with_one read w all (rest numbered).0) (λ numbered. (rest numbered).1) numbered

  -- a result, with what was read for it
  abbrev pub with_read_moved : {A : Type 0} → A × List Watched → A × List Watched
  with_read_moved r = (r.0, map (moved_watched move) r.1)

  abbrev pub Traces : {A : Type 0} → Eval (A × List Watched) → Eval (A × List Watched) → Type 0
  Traces {A} p q = Decides with_read_moved (λ (r : A × List Watched). AreWatched t r.1) p q

  traced_decides : {A : Type 0} (q : Asker) (read : List Watched) (p : Evaluation A) → AreWatched t read →
      Traces (traced s q read p) (traced twin q (map (moved_watched move) read) p)
  traced_decides q read (Yields a) all = lawful_gives refl all
  traced_decides q read (Stops stop) all = lawful_ends
  traced_decides q read (Wants question k) all =
      lawful_bind _ (watched_by_decides ⊥ question) (λ more here. lawful_bind _ (reply_decides ⊥ q question (λ no. absurd no))
      (λ reply h. rw (with_all_watched_moved move twins.renames read more)
      (traced_decides q (with_all_watched read more) (k reply) (with_more read more all here))))

  pub value_traced_decides : (q : Asker) (read : List Watched) (term : Option Term) → AreWatched t read →
      Traces (value_traced s q read term) (value_traced twin q (map (moved_watched move) read) term)
  value_traced_decides q read None all = lawful_ends
  value_traced_decides q read (Some term) all = traced_decides q read (value_of term) all

  pub entity_traced_decides : (q : Asker) (term : Option Term) → Traces (entity_traced s q term) (entity_traced twin q term)
  entity_traced_decides q None = lawful_ends
  entity_traced_decides q (Some (Named name)) =
      lawful_bind _ (asks_named asking.Number name (named_decides ⊥ name (number_at t name)))
      (λ key h. lawful_gives refl (λ numbered. tt))
  entity_traced_decides q (Some term) = lawful_bind _ (traced_decides q [] (value_of term) (λ numbered. tt))
      (λ r h. lawful_bind _ (numbered_decides ⊥ r.0) (λ key k. lawful_gives refl h))
