-- Each evaluation of a step is lawful: it decides a move of which holds what Known says, it reads items that name no
-- ids but those of blocks, it ends as Known says, and the evaluation from a moved state follows it. There is one lemma
-- for each choice, and one line for each verb: no law goes over the verbs again.
use Rattle.std.proofs.Common.{◌≡◌, ℕ, zero, suc, ◌+◌, ◌≤◌, nat_eq, nat_le, nat_lt, Bool, true, false, cond, not, ◌&&◌, ◌||◌, List, [], ◌∷◌, length, Option, Some, None, is_some, option_map, map, inl, inr, ℤ, pos, ◌-◌, ◌++◌, append_assoc, refl, ap, sym, subst, ◌∙◌, append-nil, arith, Ok, Err}
use Rattle.std.specs.List.{AllByRecursion}
use Rattle.std.proofs.lemmas.Bool.{cond_both, not-false, or_parts}
use Rattle.std.proofs.lemmas.Bool.Decides.{nat_tests}
use Rattle.std.proofs.Math.Nat.{min-le_right}
use Rattle.std.proofs.lemmas.List.{length-append}
use Rattle.gw_nums.specs.Range.{is_negative, magnitude}
use Rattle.gw_expr.specs.Term.{Term}
use Rattle.gw_expr.specs.declared.expr.Expr.TheVariants.{Label, Fraction, Defined, Table, Order}
use Rattle.gw_streams.specs.declared.stream.Stream.{Stream}
use Rattle.gw_meaning.specs.declared.asker.Asker.{Asker}
use Rattle.gw_meaning.specs.declared.item.Item.{Item}
use Rattle.gw_meaning.specs.declared.item.Asked.TheVariants as asking
use Rattle.gw_meaning.specs.declared.item.Item.TheVariants as items
use Rattle.gw_meaning.specs.declared.statement.Block.{Block}
use Rattle.gw_names.specs.declared.verb.BlockVerb.{BlockVerb}
use Rattle.gw_names.specs.declared.verb.BlockVerb.TheVariants as blocks
use Rattle.gw_meaning.specs.Statements.{A, B, C, D, E, operand, is_generate_verb}
use Rattle.gw_meaning.specs.declared.statement.Command.{Command}
use Rattle.gw_meaning.specs.declared.statement.Command.TheVariants as commands
use Rattle.gw_meaning.specs.declared.statement.Numbered.{Numbered}
use Rattle.gw_meaning.specs.declared.transaction.Transaction.{Transaction}
use Rattle.gw_meaning.specs.declared.moves.Arrival.{Arrival}
use Rattle.gw_meaning.specs.declared.moves.Move.{Move}
use Rattle.gw_meaning.specs.declared.moves.Change.TheVariants as changes
use Rattle.gw_meaning.specs.declared.watched.Watched.{Watched}
use Rattle.gw_meaning.specs.declared.watched.Watched.TheVariants as watched
use Rattle.gw_meaning.specs.Listing.{Listing, argument_at, command_at, capacity_at, block_at, label_at, generates_in, is_generate}
use Rattle.gw_meaning.specs.Numbers.{AreNumbered}
use Rattle.gw_names.specs.declared.key.Key.{Key}
use Rattle.gw_meaning.specs.QueueArrivals.{came}
use Rattle.gw_meaning.specs.Entities.{facility_at, line_at, savevalue_at}
use Rattle.gw_meaning.specs.Machine.{Machine, raised, live, delay_at, user_chain_at}
use Rattle.gw_meaning.specs.Questions.{result_of}
use Rattle.gw_meaning.specs.Evaluation.{asks, Eval, named, owned, millionths}
use Rattle.gw_meaning.specs.Step.{for_none, for_one, arrival_at, arrival_in_time, arrival_prog, first_of_generate, first_of, first_arrival, with_arrival, prime_prog, arrivals_prog, first_arrivals_prog, start_prog, command_prog, generate_prog, delay_of, advance_prog, terminate_prog, is_too_many, queue_prog, depart_prog, seize_or_wait, seize_prog, first_number, is_owner, release_prog, go_to, lead_to, transfer_prog, priority_prog, block_prog, meet_prog, try_prog, attempt_prog, least_time, within_prog, clock_prog, pick_prog, scan_prog, move_prog, decide, step_prog}
use Rattle.gw_expr.specs.Arithmetic.{applied}
use Rattle.gw_expr.specs.declared.token.Operator.TheVariants as operators
use Rattle.gw_meaning.specs.declared.auxiliary.Auxiliary.{Auxiliary}
use Rattle.gw_meaning.specs.declared.auxiliary.Auxiliary.TheVariants as auxiliaries
use Rattle.gw_meaning.specs.declared.auxiliary.Condition.{Condition}
use Rattle.gw_meaning.specs.Parameters.{parameter_at}
use Rattle.gw_meaning.specs.Step.{by_sign, assign_prog, left_of, loop_back, loop_to, loop_prog, pass_or_wait, holds, test_prog, kind_of_condition, is_open, reads_capacity, gate_at, gate_storage, gate_other, gate_of, gate_prog, logic_prog, savevalue_prog, split_to, split_count, split_prog, link_prog, unlink_to, unlink_count, leaving_prog, unlink_prog, tabulate_prog}
use Rattle.std.proofs.lemmas.List.{map-append, length-map}
use Rattle.gw_expr.specs.declared.expr.Discipline.{Discipline}
use Rattle.gw_expr.specs.declared.halt.End.{End}
use Rattle.gw_expr.specs.declared.halt.End.TheVariants as ends
use Rattle.gw_meaning.specs.declared.transaction.Event.{Event}
use Rattle.gw_meaning.specs.declared.auxiliary.Condition.TheVariants as conditions
use Rattle.gw_meaning.specs.Listing.{after_at, or_next}
use Rattle.gw_meaning.specs.Machine.{count_at, number_of_active, waiting, members_of}
use Rattle.gw_meaning.specs.Questions.{Prog, items_of}
use Rattle.gw_meaning.specs.Step.{sooner, step, run_prog}
use Rattle.gw_frame.specs.Moved.{IsMove, moved_transaction, moved_event, moved_watched, moved_waiter, moved_machine}
use Rattle.gw_frame.proofs.MovedLists.{count_at_moved, none_moved}
use Rattle.gw_frame.proofs.Delays.{delay_at_moved, waiting_moved}
use Rattle.gw_frame.proofs.UserChains.{linked_moved, content_moved}
use Rattle.gw_frame.proofs.MovedWaiters.{with_watched_moved}
use Rattle.gw_frame.proofs.MovedChanges.{moved_arrival, moved_move, decided_moved}
use Rattle.gw_frame.specs.BlockIds.{IsBlockId, ActiveNames, TransactionNames}
use Rattle.gw_frame.proofs.Generates.{IsBlockIn, generates_there}
use Rattle.gw_frame.proofs.Labels.{label_there}
use Rattle.gw_frame.proofs.Seeds.{ReadsSeed, set_first}
use Rattle.gw_frame.proofs.Lawful.{IsError, ProgLawful, Lawful, result_with, and_streams, all_with, prog_gives, prog_so, prog_bind, lawful_gives, lawful_end, lawful_ends, lawful_asks, lawful_asks_so, lawful_cond, lawful_stops, lawful_unless, lawful_bind, lawful_so}
use Rattle.gw_names.specs.declared.key.Key.TheVariants as keys
use Rattle.gw_meaning.specs.Entities.{store_at}
use Rattle.gw_meaning.specs.Step.{beside, in_use, grant_of, all_granted, enter_or_wait, enter_prog, grants_prog, leave_units, leave_prog}
use Rattle.gw_frame.proofs.DecidedValues.{Twins, Decides, asks_named, Whatever, IsNoStorage, draw_decides, arithmetic_decides, value_decides, value_there_decides, value_or_zero_decides, entity_decides, units_decides, time_decides, with_one, value_traced_decides, entity_traced_decides, same}
use Rattle.gw_frame.proofs.Known.{IsQueueArrival, IsComingIfAny, AreFirst, within_limit, leaves, does_fit, grants_of, ActiveOwns, IsDecidedFate, IsRefused, AreWatched, IsDecided, IsRead, IsAfter, LinksBy, never, WaitsAtVerb, WaitsAtBlock, LinksAtVerb, LinksAtBlock, IsTried, IsNext, NobodyMoves, IsStep, IsEnd, attempt_step, step_is_decided, IsDecidedChange, IsSentTo}

-- there are no more GENERATEs than statements
few_generates : (lines : List Numbered) → length (generates_in lines) ≤ length lines
few_generates [] = omega arith
few_generates (line ∷ lines) =
    let rest = few_generates lines in
    cond_both (is_generate line) (line.number ∷ generates_in lines) (generates_in lines) (λ ns. length ns ≤ suc (length lines)) (λ _. omega arith)
    (λ _. omega arith)

not_over : (content units : ℕ) → nat_lt content units ≡ false → units ≤ content
not_over content units h = grind (arith, nat_tests)

module _ (move : ℕ → ℕ) where
  -- what is read off a state
  active_moved : (x : Option Transaction) → number_of_active (option_map (moved_transaction move) x) ≡ number_of_active x
  active_moved None = refl
  active_moved (Some x) = refl

  live_moved : (s : Machine) → live (moved_machine move s) ≡ live s
  live_moved s =
      let current = length-map s.current (moved_transaction move) in
      let future = length-map s.future (moved_event move) in
      let retry = length-map s.retry (moved_waiter move) in
      let delays = length-map (waiting s.delays) (moved_transaction move) in
      let linked = length-map (waiting (members_of s.linked)) (moved_transaction move) in
      rw (active_moved s.active, current, future, waiting_moved move s.delays, delays, retry, linked_moved move s.linked, linked) refl

  least_time_moved : (es : List Event) → least_time (map (moved_event move) es) ≡ least_time es
  least_time_moved [] = refl
  least_time_moved (e ∷ es) = ap (sooner e.time) (least_time_moved es)

  first_number_moved : (chain : List Transaction) → first_number (map (moved_transaction move) chain) ≡ first_number chain
  first_number_moved [] = refl
  first_number_moved (x ∷ xs) = refl

  next_moved : (s : Machine) (key : Key) → first_number (delay_at (moved_machine move s).delays key) ≡ first_number (delay_at s.delays key)
  next_moved s key = ap first_number (delay_at_moved move s.delays key) ∙ first_number_moved (delay_at s.delays key)

module _ (twins : Twins) where
  abbrev t : Listing
  t = twins.version

  abbrev seed : ℕ
  seed = twins.seed

  abbrev s : Machine
  s = twins.state

  abbrev move : ℕ → ℕ
  move = twins.move

  abbrev twin : Machine
  twin = moved_machine move s

  -- the next transaction of a GENERATE
  abbrev arrival_if_any : Option Arrival → Option Arrival
  arrival_if_any = option_map (moved_arrival move)

  abbrev Comes : Eval (Option Arrival) → Eval (Option Arrival) → Type 0
  Comes p q = Decides twins arrival_if_any (IsComingIfAny t s) p q

  arrival_at_decides : (id : ℕ) (time priority : ℤ) → IsBlockId t id → Comes (arrival_at s id time priority) (arrival_at twin (move id) time priority)
  arrival_at_decides id time priority named =
      lawful_stops (is_negative time) _
      (rw (live_moved move s) (lawful_stops (nat_le 100000 (live s)) _ (lawful_gives refl (record { ahead = omega arith; id = named }))))

  arrival_in_time_decides : (q : Asker) (id : ℕ) (mean range priority : Option Term) → IsBlockId t id →
      Comes (arrival_in_time s q id mean range priority) (arrival_in_time twin q (move id) mean range priority)
  arrival_in_time_decides q id mean range priority named =
      lawful_bind _ (time_decides twins q mean range)
      (λ v h. lawful_bind _ (value_or_zero_decides twins q priority) (λ p k. arrival_at_decides id v p named))

  arrival_decides : (q : Asker) (id made : ℕ) (mean range limit priority : Option Term) → IsBlockId t id →
      Comes (arrival_prog s q id made mean range limit priority) (arrival_prog twin q (move id) made mean range limit priority)
  arrival_decides q id made mean range None priority named = arrival_in_time_decides q id mean range priority named
  arrival_decides q id made mean range (Some limit) priority named =
      lawful_bind _ (value_decides twins q limit)
      (λ n h. lawful_stops (is_negative n) _
      (lawful_cond (nat_le (magnitude n) made) (lawful_gives refl tt) (arrival_in_time_decides q id mean range priority named)))

  -- priming
  first_of_generate_decides : (q : Asker) (id : ℕ) (mean range offset limit priority : Option Term) → IsBlockId t id →
      Comes (first_of_generate s q id mean range offset limit priority) (first_of_generate twin q (move id) mean range offset limit priority)
  first_of_generate_decides q id mean range None limit priority named =
      rw (count_at_moved move twins.renames s.counts id) (arrival_decides q id (count_at s.counts id).made mean range limit priority named)
  first_of_generate_decides q id mean range (Some offset) limit priority named =
      rw (count_at_moved move twins.renames s.counts id) (arrival_decides q id (count_at s.counts id).made (Some offset) None limit priority named)

  first_of_decides : (q : Asker) (id : ℕ) (b : Block) (generates : Bool) → IsBlockId t id →
      Comes (first_of s q id b generates) (first_of twin q (move id) b generates)
  first_of_decides q id b true named = first_of_generate_decides q id (operand b A) (operand b B) (operand b C) (operand b D) (operand b E) named
  first_of_decides q id b false named = lawful_gives refl tt

  first_arrival_decides : (q : Asker) (id : ℕ) (block : Option Block) → block_at t id ≡ block →
      Comes (first_arrival s q id block) (first_arrival twin q (move id) block)
  first_arrival_decides q id None is = lawful_gives refl tt
  first_arrival_decides q id (Some b) is = first_of_decides q id b (is_generate_verb b.verb) (inr (b, is))

  with_arrival_coming : (a : Option Arrival) (made : List Arrival) → IsComingIfAny t s a → AllByRecursion (IsQueueArrival t s) made →
      AllByRecursion (IsQueueArrival t s) (with_arrival a made)
  with_arrival_coming None made here all = all
  with_arrival_coming (Some a) made here all = all_with (IsQueueArrival t s) made (a ∷ []) all (here, tt)

  with_arrival_few : (a : Option Arrival) (made : List Arrival) → length (with_arrival a made) ≤ suc (length made)
  with_arrival_few None made = omega arith
  with_arrival_few (Some a) made = let longer = length-append made (a ∷ []) in omega arith

  with_arrival_moved : (a : Option Arrival) (made : List Arrival) →
      with_arrival (arrival_if_any a) (map (moved_arrival move) made) ≡ map (moved_arrival move) (with_arrival a made)
  with_arrival_moved None made = refl
  with_arrival_moved (Some a) made = sym (map-append (moved_arrival move) made (a ∷ []))

  arrivals_decide : (q : Asker) (ids : List ℕ) (made : List Arrival) → (AreNumbered t.lines → AllByRecursion (IsBlockIn t.lines) ids) →
      AllByRecursion (IsQueueArrival t s) made → length made + length ids ≤ length t.lines →
      Decides twins (map (moved_arrival move)) (AreFirst t s) (arrivals_prog s q ids made)
      (arrivals_prog twin q (map move ids) (map (moved_arrival move) made))
  arrivals_decide q [] made named all few = lawful_gives refl (record { coming = all; few = omega arith })
  arrivals_decide q (id ∷ ids) made named all few =
      lawful_bind _ (prime_decides q id (λ numbered. (named numbered).0))
      (λ a here.
      let one = with_arrival_few a made in
      rw (with_arrival_moved a made)
      (arrivals_decide q ids (with_arrival a made) (λ numbered. (named numbered).1) (with_arrival_coming a made here all) (omega arith)))
    where
      prime_decides : (q : Asker) (id : ℕ) → (AreNumbered t.lines → IsBlockIn t.lines id) → Comes (prime_prog s q id) (prime_prog twin q (move id))
      prime_decides q id there =
          lawful_asks (items.Block id) refl (λ numbered named. inr (there numbered)) (first_arrival_decides q id (block_at t id) refl)

  first_arrivals_decide : (count : ℕ) →
      Decides twins (map (moved_arrival move)) (AreFirst t s) (first_arrivals_prog s count) (first_arrivals_prog twin count)
  first_arrivals_decide count =
      let few = few_generates t.lines in
      lawful_asks items.Generates refl (λ numbered named. tt)
      (arrivals_decide (for_none count) (generates_in t.lines) [] (generates_there t.lines) tt (omega arith))

  -- GATE
  is_open_moved : (condition : Condition) (key : Key) (capacity : ℕ) →
      is_open twin condition key capacity ≡ is_open s condition key capacity
  is_open_moved conditions.InUse key capacity = refl
  is_open_moved conditions.NotInUse key capacity = refl
  is_open_moved conditions.IsSet key capacity = refl
  is_open_moved conditions.IsReset key capacity = refl
  is_open_moved conditions.Empty key capacity = refl
  is_open_moved conditions.NotEmpty key capacity = refl
  is_open_moved conditions.Full key capacity = refl
  is_open_moved conditions.NotFull key capacity = refl

  -- An attempt to enter the block at id. Whoever waits for a change there has the property P, and the discipline of a
  -- link has the property L.
  module _ (id : ℕ) (P : Type 0) (L : Discipline → Type 0) where
    abbrev Attempts : Eval Move → Eval Move → Type 0
    Attempts p q = Decides twins (moved_move move) (IsTried t s P L id) p q

    -- where a label is, there is a block
    to_label : (name : List ℕ) {k l : Option ℕ → Eval Move} → ((to : Option ℕ) → IsSentTo t to → Attempts (k to) (l (option_map move to))) →
        Attempts (asks (items.Named asking.Label name) k) (asks (items.Named asking.Label name) l)
    to_label name each = asks_named twins asking.Label name (each (label_at t name) (sent_to (label_at t name) refl)) where
      sent_to : (to : Option ℕ) → label_at t name ≡ to → IsSentTo t to
      sent_to None is = λ numbered. tt
      sent_to (Some to) is = λ numbered. inr (label_there t.lines name to numbered is)

    generate_decides : (x : Transaction) (mean range limit priority : Option Term) → IsBlockId t id →
        Attempts (generate_prog s x id mean range limit priority)
        (generate_prog twin (moved_transaction move x) (move id) mean range limit priority)
    generate_decides x mean range limit priority named =
        rw (none_moved move twins.renames x.current, count_at_moved move twins.renames s.counts id)
        (lawful_stops (not (nat_eq x.current 0)) _
        (lawful_bind _ (arrival_decides (for_none s.remaining) id (count_at s.counts id).made mean range limit priority named)
        (λ next h. lawful_gives refl (refl, tt, h, tt))))

    delay_decided : (n : ℕ) → LinksBy L (delay_of s n) × IsDecidedChange t s changes.Nothing × IsDecidedFate s changes.Nothing (delay_of s n)
    delay_decided zero = (tt, tt, tt)
    delay_decided (suc n) = (tt, tt, (refl, omega arith))

    advance_decides : (q : Asker) (mean range : Option Term) → Attempts (advance_prog s q id mean range) (advance_prog twin q (move id) mean range)
    advance_decides q mean range =
        lawful_bind _ (time_decides twins q mean range) (λ v h. lawful_stops (is_negative v) _
        (let d = delay_decided (magnitude v) in lawful_gives refl (refl, d.0, d.1, d.2)))

    terminate_decides : (q : Asker) (count : Option Term) → Attempts (terminate_prog s q id count) (terminate_prog twin q (move id) count)
    terminate_decides q count =
        lawful_bind _ (value_or_zero_decides twins q count) (λ n h. lawful_stops (is_negative n) _ (lawful_gives refl (refl, tt, tt, refl)))

    queue_decides : (q : Asker) (entity units : Option Term) → Attempts (queue_prog s q id entity units) (queue_prog twin q (move id) entity units)
    queue_decides q entity units =
        lawful_bind _ (entity_decides twins q entity) (λ key h. lawful_bind _ (units_decides twins q units) (λ n k.
        let line = line_at s.entities key in
        lawful_unless (is_too_many (line.entries + n) || is_too_many (line.level.content + n)) _ (λ few.
        let both = or_parts (is_too_many (line.entries + n)) (is_too_many (line.level.content + n)) few in
        lawful_gives refl (refl, tt, record { entries = within_limit _ both.0; content = within_limit _ both.1 }, tt))))

    depart_decides : (q : Asker) (x : Transaction) (entity units : Option Term) →
        Attempts (depart_prog s q x id entity units) (depart_prog twin q (moved_transaction move x) (move id) entity units)
    depart_decides q x entity units =
        lawful_bind _ (entity_decides twins q entity) (λ key h. lawful_bind _ (units_decides twins q units) (λ n k.
        let line = line_at s.entities key in
        let at_once = came s.entities.queue_arrivals key x.number in
        lawful_unless (at_once && is_too_many (line.zero_entries + n)) _
        (λ few. lawful_stops (nat_lt line.level.content n) _ (lawful_gives refl (refl, tt, leaves line n at_once few, tt)))))

    refused_by_owner : (key : Key) → IsNoStorage key → is_some (facility_at s.entities key).owner ≡ true → IsRefused t s key 1
    refused_by_owner (keys.Num number) none owned = owned
    refused_by_owner (keys.Named name) none owned = owned
    refused_by_owner (keys.Defined name) none owned = absurd cc

    seize_or_wait_decides : (key : Key) (owned : Bool) → IsNoStorage key → is_some (facility_at s.entities key).owner ≡ owned →
        Attempts (seize_or_wait id key owned) (seize_or_wait (move id) key owned)
    seize_or_wait_decides key true none is = lawful_gives refl (refl, refused_by_owner key none is)
    seize_or_wait_decides key false none is = lawful_gives refl (refl, tt, (none, is), tt)

    seize_decides : (q : Asker) (entity : Option Term) → Attempts (seize_prog s q id entity) (seize_prog twin q (move id) entity)
    seize_decides q entity =
        lawful_bind _ (entity_decides twins q entity) (λ key h. seize_or_wait_decides key (is_some (facility_at s.entities key).owner) h refl)

    active_owns : (x : Transaction) (key : Key) → s.active ≡ Some x → not (is_owner (facility_at s.entities key).owner x.number) ≡ false → ActiveOwns s key
    active_owns x key is owns y there =
        let both : Some x ≡ Some y = sym is ∙ there in
        let same : x ≡ y = cc in subst (λ z. is_owner (facility_at s.entities key).owner z.number ≡ true) same (not-false _ owns)

    release_decides : (q : Asker) (x : Transaction) (entity : Option Term) → s.active ≡ Some x →
        Attempts (release_prog s q x id entity) (release_prog twin q (moved_transaction move x) (move id) entity)
    release_decides q x entity is =
        lawful_bind _ (entity_decides twins q entity)
        (λ key h. rw (next_moved move s key)
        (lawful_unless (not (is_owner (facility_at s.entities key).owner x.number)) _
        (λ owns. lawful_gives refl (refl, tt, (h, refl, active_owns x key is owns), tt))))

    -- ENTER and LEAVE
    enter_or_wait_decides : (name : List ℕ) (units : ℕ) (fits : Bool) → does_fit t name
        (beside units (store_at s.entities (keys.Defined name)).level.content) ≡ fits →
        Attempts (enter_or_wait id (keys.Defined name) (store_at s.entities (keys.Defined name)) units fits)
        (enter_or_wait (move id) (keys.Defined name) (store_at s.entities (keys.Defined name)) units fits)
    enter_or_wait_decides name units true is =
        lawful_unless (is_too_many ((store_at s.entities (keys.Defined name)).entries + units)) _
        (λ h. lawful_gives refl (refl, tt, record { name = name; named = refl; fits = is; entries = within_limit _ h }, tt))
    enter_or_wait_decides name units false is = lawful_gives refl (refl, is)

    enter_decides : (q : Asker) (storage units : Option Term) → Attempts (enter_prog s q id storage units) (enter_prog twin q (move id) storage units)
    enter_decides q (Some (Defined name)) units =
        lawful_bind _ (units_decides twins q units)
        (λ n h. asks_named twins (asking.Fits n) name
        (lawful_stops (not (does_fit t name n)) _
        (asks_named twins (asking.Fits (beside n (store_at s.entities (keys.Defined name)).level.content)) name (enter_or_wait_decides name n _ refl))))
    enter_decides q (Some term) units = lawful_ends
    enter_decides q None units = lawful_ends

    grants_decide : (name : List ℕ) (content : ℕ) (before : List (Option ℕ)) (chain : List Transaction) →
        Decides twins same (λ grants. grants ≡ before ++ grants_of t name content chain) (grants_prog name content before chain)
        (grants_prog name content before (map (moved_transaction move) chain))
    grants_decide name content before [] = lawful_gives refl (sym (append-nil before))
    grants_decide name content before (x ∷ xs) =
        let fits = does_fit t name (beside x.asked content) in
        let rest = grants_of t name (in_use content x.asked fits) xs in
        asks_named twins (asking.Fits (beside x.asked content)) name
        (subst (λ ys. Decides twins same (λ grants. grants ≡ ys)
        (grants_prog name (in_use content x.asked fits) (before ++ grant_of x.asked fits ∷ []) xs)
        (grants_prog name (in_use content x.asked fits) (before ++ grant_of x.asked fits ∷ []) (map (moved_transaction move) xs)))
        (append_assoc before (grant_of x.asked fits ∷ []) rest)
        (grants_decide name (in_use content x.asked fits) (before ++ grant_of x.asked fits ∷ []) xs))

    leave_units_decides : (name : List ℕ) (units : ℕ) →
        Attempts (leave_units s id name (store_at s.entities (keys.Defined name)) units)
        (leave_units twin (move id) name (store_at s.entities (keys.Defined name)) units)
    leave_units_decides name units =
        let store = store_at s.entities (keys.Defined name) in
        let content = store.level.content in
        rw (delay_at_moved move s.delays (keys.Defined name))
        (lawful_unless (nat_lt content units) _
        (λ h. lawful_bind _ (grants_decide name (content - units) [] (delay_at s.delays (keys.Defined name)))
        (λ grants is. lawful_unless (is_too_many (store.entries + all_granted grants)) _
        (λ few. lawful_gives refl
        (refl, tt, record { name = name; named = refl; in_use = not_over content units h; shared = is; entries = within_limit _ few }, tt)))))

    leave_decides : (q : Asker) (storage units : Option Term) → Attempts (leave_prog s q id storage units) (leave_prog twin q (move id) storage units)
    leave_decides q (Some (Defined name)) units = lawful_bind _ (units_decides twins q units) (λ n h. leave_units_decides name n)
    leave_decides q (Some term) units = lawful_ends
    leave_decides q None units = lawful_ends

    go_to_decides : (to : Option ℕ) → IsSentTo t to → Attempts (go_to id to) (go_to (move id) (option_map move to))
    go_to_decides None named = lawful_ends
    go_to_decides (Some to) named = lawful_gives refl (refl, tt, named, tt)

    lead_to_decides : (label : Option Term) → Attempts (lead_to id label) (lead_to (move id) label)
    lead_to_decides (Some (Label name)) = to_label name go_to_decides
    lead_to_decides (Some term) = lawful_gives refl (refl, tt, tt, tt)
    lead_to_decides None = lawful_gives refl (refl, tt, tt, tt)

    transfer_decides : (fraction near far : Option Term) → Attempts (transfer_prog id fraction near far) (transfer_prog (move id) fraction near far)
    transfer_decides (Some (Fraction part)) near far =
        lawful_bind _ (draw_decides twins ⊥ (λ no. no) 0 (omega arith)) (λ x h. lead_to_decides (cond (nat_lt (millionths x) part) far near))
    transfer_decides (Some term) near far = lead_to_decides near
    transfer_decides None near far = lead_to_decides near

    -- TEST
    pass_or_wait_decides : (label : Option Term) (read : List Watched) (passes : Bool) → (label ≡ None → P) → AreWatched t read →
        Attempts (pass_or_wait id label read passes) (pass_or_wait (move id) label (map (moved_watched move) read) passes)
    pass_or_wait_decides None read true waits all = lawful_gives refl (refl, tt, tt, tt)
    pass_or_wait_decides None read false waits all = lawful_gives refl (waits refl, all)
    pass_or_wait_decides (Some label) read passes waits all = lead_to_decides (cond passes None (Some label))

    test_decides : (q : Asker) (relation : Auxiliary) (first second label : Option Term) → (label ≡ None → P) →
        Attempts (test_prog s q id relation first second label) (test_prog twin q (move id) relation first second label)
    test_decides q relation first second None waits =
        lawful_bind _ (value_traced_decides twins q [] first (λ numbered. tt))
        (λ a h. lawful_bind _ (value_traced_decides twins q a.1 second h) (λ b k. pass_or_wait_decides None b.1 (holds relation a.0 b.0) waits k))
    test_decides q relation first second (Some label) waits =
        lawful_bind _ (value_there_decides twins q first) (λ a h. lawful_bind _ (value_there_decides twins q second)
        (λ b k. pass_or_wait_decides (Some label) [] (holds relation a b) waits (λ numbered. tt)))

    -- PRIORITY
    priority_decides : (q : Asker) (priority : Option Term) → Attempts (priority_prog s q id priority) (priority_prog twin q (move id) priority)
    priority_decides q priority = lawful_bind _ (value_there_decides twins q priority) (λ p h. lawful_gives refl (refl, tt, tt, tt))

    -- ASSIGN and LOOP
    assign_decides : (q : Asker) (sign : Auxiliary) (parameter value : Option Term) →
        Attempts (assign_prog s q id sign parameter value) (assign_prog twin q (move id) sign parameter value)
    assign_decides q sign parameter value =
        lawful_bind _ (entity_decides twins q parameter)
        (λ key h. lawful_bind _ (value_there_decides twins q value)
        (λ v k. lawful_bind _ (arithmetic_decides twins ⊥ (by_sign sign (parameter_at s.parameters q.number key) v))
        (λ to r. lawful_gives refl (refl, tt, tt, tt))))

    left_decides : (was : Option ℤ) → Decides twins same (Whatever {A = ℤ}) (left_of was) (left_of was)
    left_decides None = lawful_ends
    left_decides (Some v) = arithmetic_decides twins ⊥ (applied operators.Minus v (pos 1))

    loop_back_decides : (key : Key) (left : ℤ) (to : Option ℕ) → IsSentTo t to →
        Attempts (loop_back id key left to) (loop_back (move id) key left (option_map move to))
    loop_back_decides key left None named = lawful_ends
    loop_back_decides key left (Some to) named = lawful_gives refl (refl, tt, named, tt)

    loop_to_decides : (key : Key) (left : ℤ) (label : Option Term) → Attempts (loop_to id key left label) (loop_to (move id) key left label)
    loop_to_decides key left (Some (Label name)) = to_label name (loop_back_decides key left)
    loop_to_decides key left (Some term) = lawful_ends
    loop_to_decides key left None = lawful_ends

    loop_decides : (q : Asker) (parameter label : Option Term) → Attempts (loop_prog s q id parameter label) (loop_prog twin q (move id) parameter label)
    loop_decides q parameter label =
        lawful_bind _ (entity_decides twins q parameter) (λ key h. lawful_bind _ (left_decides (parameter_at s.parameters q.number key))
        (λ left k. lawful_cond (nat_eq (magnitude left) 0) (lawful_gives refl (refl, tt, tt, tt)) (loop_to_decides key left label)))

    -- GATE
    gate_at_decides : (condition : Condition) (label : Option Term) (key : Key) (read : List Watched) (capacity : ℕ) → (label ≡ None → P) →
        AreWatched t read →
        Attempts (gate_at s id condition label key read capacity)
        (gate_at twin (move id) condition label key (map (moved_watched move) read) capacity)
    gate_at_decides condition label key read capacity waits all =
        let entity = watched.Entity (kind_of_condition condition) key in
        rw (is_open_moved condition key capacity, with_watched_moved move twins.renames read entity)
        (pass_or_wait_decides label _ (is_open s condition key capacity) waits (with_one twins read entity all tt))

    gate_storage_decides : (condition : Condition) (label : Option Term) (name : List ℕ) (reads : Bool) → (label ≡ None → P) →
        Attempts (gate_storage s id condition label name reads) (gate_storage twin (move id) condition label name reads)
    gate_storage_decides condition label name true waits =
        asks_named twins asking.Storage name (gate_at_decides condition label (keys.Defined name) [] (capacity_at t name) waits (λ numbered. tt))
    gate_storage_decides condition label name false waits = gate_at_decides condition label (keys.Defined name) [] 0 waits (λ numbered. tt)

    gate_other_decides : (q : Asker) (condition : Condition) (entity label : Option Term) → (label ≡ None → P) →
        Attempts (gate_other s q id condition entity label) (gate_other twin q (move id) condition entity label)
    gate_other_decides q condition entity None waits =
        lawful_bind _ (entity_traced_decides twins q entity) (λ r h. gate_at_decides condition None r.0 r.1 0 waits h)
    gate_other_decides q condition entity (Some label) waits =
        lawful_bind _ (entity_decides twins q entity) (λ key h. gate_at_decides condition (Some label) key [] 0 waits (λ numbered. tt))

    gate_of_decides : (q : Asker) (condition : Condition) (entity label : Option Term) → (label ≡ None → P) →
        Attempts (gate_of s q id condition entity label) (gate_of twin q (move id) condition entity label)
    gate_of_decides q condition (Some (Defined name)) label waits = gate_storage_decides condition label name (reads_capacity condition) waits
    gate_of_decides q condition (Some term) label waits = gate_other_decides q condition (Some term) label waits
    gate_of_decides q condition None label waits = gate_other_decides q condition None label waits

    gate_decides : (q : Asker) (auxiliary : Auxiliary) (entity label : Option Term) → (label ≡ None → P) →
        Attempts (gate_prog s q id auxiliary entity label) (gate_prog twin q (move id) auxiliary entity label)
    gate_decides q (auxiliaries.Gate condition) entity label waits = gate_of_decides q condition entity label waits
    gate_decides q auxiliary entity label waits = lawful_ends

    -- LOGIC and SAVEVALUE
    logic_decides : (q : Asker) (auxiliary : Auxiliary) (entity : Option Term) →
        Attempts (logic_prog s q id auxiliary entity) (logic_prog twin q (move id) auxiliary entity)
    logic_decides q (auxiliaries.Logic switching) entity = lawful_bind _ (entity_decides twins q entity) (λ key h. lawful_gives refl (refl, tt, tt, tt))
    logic_decides q auxiliary entity = lawful_ends

    savevalue_decides : (q : Asker) (sign : Auxiliary) (entity value : Option Term) →
        Attempts (savevalue_prog s q id sign entity value) (savevalue_prog twin q (move id) sign entity value)
    savevalue_decides q sign entity value =
        lawful_bind _ (entity_decides twins q entity)
        (λ key h. lawful_bind _ (value_there_decides twins q value)
        (λ v k. lawful_bind _ (arithmetic_decides twins ⊥ (by_sign sign (savevalue_at s.entities key) v))
        (λ to r. lawful_gives refl (refl, tt, tt, tt))))

    -- SPLIT
    split_to_decides : (count : ℕ) → live s + count ≤ 100000 → (to : Option ℕ) → IsSentTo t to →
        Attempts (split_to id count to) (split_to (move id) count (option_map move to))
    split_to_decides count few None named = lawful_ends
    split_to_decides count few (Some to) named = lawful_gives refl (refl, tt, record { few = few; named = named }, tt)

    split_count_decides : (label : Option Term) (count : ℕ) → live s + count ≤ 100000 →
        Attempts (split_count id label count) (split_count (move id) label count)
    split_count_decides label zero few = lawful_gives refl (refl, tt, record { few = few; named = λ numbered. tt }, tt)
    split_count_decides (Some (Label name)) (suc n) few = to_label name (split_to_decides (suc n) few)
    split_count_decides (Some term) (suc n) few = lawful_gives refl (refl, tt, record { few = few; named = λ numbered. tt }, tt)
    split_count_decides None (suc n) few = lawful_gives refl (refl, tt, record { few = few; named = λ numbered. tt }, tt)

    split_decides : (q : Asker) (copies label : Option Term) → Attempts (split_prog s q id copies label) (split_prog twin q (move id) copies label)
    split_decides q copies label =
        lawful_bind _ (value_there_decides twins q copies)
        (λ n h. rw (live_moved move s) (lawful_stops (is_negative n) _
        (lawful_unless (nat_lt 100000 (live s + magnitude n)) _
        (λ few. split_count_decides label (magnitude n) (not_over 100000 (live s + magnitude n) few)))))

    -- LINK
    link_decides : (q : Asker) (entity order : Option Term) → ((discipline : Discipline) → order ≡ Some (Order discipline) → L discipline) →
        Attempts (link_prog s q id entity order) (link_prog twin q (move id) entity order)
    link_decides q entity (Some (Order discipline)) links =
        lawful_bind _ (entity_decides twins q entity) (λ key h. lawful_gives refl (refl, links discipline refl, tt, refl))
    link_decides q entity (Some term) links = lawful_ends
    link_decides q entity None links = lawful_ends

    -- UNLINK
    unlink_to_decides : (key : Key) (count : ℕ) → count ≤ length (user_chain_at s.linked key).members → (to : Option ℕ) → IsSentTo t to →
        Attempts (unlink_to id key count to) (unlink_to (move id) key count (option_map move to))
    unlink_to_decides key count there None named = lawful_ends
    unlink_to_decides key count there (Some to) named = lawful_gives refl (refl, tt, record { there = there; named = named }, tt)

    unlink_count_decides : (key : Key) (label : Option Term) (count : ℕ) → count ≤ length (user_chain_at s.linked key).members →
        Attempts (unlink_count id key label count) (unlink_count (move id) key label count)
    unlink_count_decides key label zero there = lawful_gives refl (refl, tt, record { there = there; named = λ numbered. tt }, tt)
    unlink_count_decides key (Some (Label name)) (suc n) there = to_label name (unlink_to_decides key (suc n) there)
    unlink_count_decides key (Some term) (suc n) there = lawful_ends
    unlink_count_decides key None (suc n) there = lawful_ends

    leaving_decides : (q : Asker) (count : Option Term) (there : ℕ) →
        Decides twins same (λ n. n ≤ there) (leaving_prog s q count there) (leaving_prog twin q count there)
    leaving_decides q None there = lawful_gives refl (omega arith)
    leaving_decides q (Some count) there = lawful_bind _ (units_decides twins q (Some count)) (λ n h. lawful_gives refl (min-le_right n there))

    unlink_decides : (q : Asker) (entity label count : Option Term) →
        Attempts (unlink_prog s q id entity label count) (unlink_prog twin q (move id) entity label count)
    unlink_decides q entity label count =
        lawful_bind _ (entity_decides twins q entity) (λ key h. rw (content_moved move s.linked key)
        (lawful_bind _ (leaving_decides q count (length (user_chain_at s.linked key).members)) (λ n there. unlink_count_decides key label n there)))

    -- TABULATE
    tabulate_decides : (q : Asker) (table : Option Term) → Attempts (tabulate_prog s q id table) (tabulate_prog twin q (move id) table)
    tabulate_decides q (Some (Table name)) =
        asks_named twins asking.Table name
        (lawful_bind _ (value_there_decides twins q (argument_at t name)) (λ v h. lawful_gives refl (refl, tt, tt, tt)))
    tabulate_decides q (Some term) = lawful_ends
    tabulate_decides q None = lawful_ends

  block_decides : (x : Transaction) (id : ℕ) (b : Block) (verb : BlockVerb) → s.active ≡ Some x → IsBlockId t id →
      Attempts id (WaitsAtVerb b verb) (LinksAtVerb b verb) (block_prog s x id b verb)
      (block_prog twin (moved_transaction move x) (move id) b verb)
  block_decides x id b blocks.Generate is named = generate_decides id ⊥ never x (operand b A) (operand b B) (operand b D) (operand b E) named
  block_decides x id b blocks.Advance is named = advance_decides id ⊥ never (for_one s x) (operand b A) (operand b B)
  block_decides x id b blocks.Terminate is named = terminate_decides id ⊥ never (for_one s x) (operand b A)
  block_decides x id b blocks.Queue is named = queue_decides id ⊥ never (for_one s x) (operand b A) (operand b B)
  block_decides x id b blocks.Depart is named = depart_decides id ⊥ never (for_one s x) x (operand b A) (operand b B)
  block_decides x id b blocks.Seize is named = seize_decides id ⊥ never (for_one s x) (operand b A)
  block_decides x id b blocks.Release is named = release_decides id ⊥ never (for_one s x) x (operand b A) is
  block_decides x id b blocks.Enter is named = enter_decides id ⊥ never (for_one s x) (operand b A) (operand b B)
  block_decides x id b blocks.Leave is named = leave_decides id ⊥ never (for_one s x) (operand b A) (operand b B)
  block_decides x id b blocks.Transfer is named = transfer_decides id ⊥ never (operand b A) (operand b B) (operand b C)
  block_decides x id b blocks.Test is named =
      test_decides id (operand b C ≡ None) never (for_one s x) b.auxiliary (operand b A) (operand b B) (operand b C) (λ none. none)
  block_decides x id b blocks.Gate is named = gate_decides id (operand b B ≡ None) never (for_one s x) b.auxiliary (operand b A) (operand b B) (λ none. none)
  block_decides x id b blocks.Logic is named = logic_decides id ⊥ never (for_one s x) b.auxiliary (operand b A)
  block_decides x id b blocks.Savevalue is named = savevalue_decides id ⊥ never (for_one s x) b.auxiliary (operand b A) (operand b B)
  block_decides x id b blocks.Split is named = split_decides id ⊥ never (for_one s x) (operand b A) (operand b B)
  block_decides x id b blocks.Link is named = link_decides id ⊥ (LinksAtVerb b blocks.Link) (for_one s x) (operand b A) (operand b B) (λ discipline is. is)
  block_decides x id b blocks.Unlink is named = unlink_decides id ⊥ never (for_one s x) (operand b A) (operand b B) (operand b C)
  block_decides x id b blocks.Tabulate is named = tabulate_decides id ⊥ never (for_one s x) (operand b A)
  block_decides x id b blocks.Mark is named = lawful_gives refl (refl, tt, tt, tt)
  block_decides x id b blocks.Priority is named = priority_decides id ⊥ never (for_one s x) (operand b A)
  block_decides x id b blocks.Buffer is named = lawful_gives refl (refl, tt, tt, refl)
  block_decides x id b blocks.Assign is named = assign_decides id ⊥ never (for_one s x) b.auxiliary (operand b A) (operand b B)
  block_decides x id b blocks.Loop is named = loop_decides id ⊥ never (for_one s x) (operand b A) (operand b B)

  -- the block that is tried
  meet_decides : (x : Transaction) (id : ℕ) (block : Option Block) → s.active ≡ Some x → block_at t id ≡ block →
      Attempts id (WaitsAtBlock block) (LinksAtBlock block) (meet_prog s x id block) (meet_prog twin (moved_transaction move x) (move id) block)
  meet_decides x id None active is = lawful_ends
  meet_decides x id (Some b) active is = block_decides x id b b.verb active (inr (b, is))

  -- ---- the step

  abbrev Steps : Eval Move → Eval Move → Type 0
  Steps p q = Lawful t seed move ⊥ (IsRead t s) (IsEnd t s) (moved_move move) (IsStep t seed s) p q

  -- commands
  start_decides : (primed : Bool) (count : ℕ) → IsNext t s (commands.Start count) → s.primed ≡ primed →
      Steps (start_prog s primed count) (start_prog twin primed count)
  start_decides true count next is = lawful_gives refl (next, record { coming = tt; few = omega arith })
  start_decides false count next is =
      lawful_so (λ end error. ends_priming end error) (λ streams m is h. h)
      (lawful_bind {g = moved_move move} {R = IsStep t seed s} _ (first_arrivals_decide count) (λ first h. lawful_gives refl (next, h)))
    where
      ends_priming : (end : End) → IsError end → IsEnd t s end
      ends_priming (ends.Error stop) error = inr (count, is, next)
      ends_priming end error = absurd error

  -- with a command that sets streams, less is known of them
  abbrev IsStepped : List Stream → Move × List Stream → List Item → Type 0
  IsStepped before r is = IsStep t seed s r.0 × AllByRecursion (IsRead t s) is × ReadsSeed before r.1 is

  abbrev Stepped : List Stream → Prog (Move × List Stream) → Prog (Move × List Stream) → Type 0
  Stepped before p q = ProgLawful t seed move (IsEnd t s) (and_streams (moved_move move)) (IsStepped before) p q

  steps : (before : List Stream) (p q : Eval Move) → Steps p q → Stepped before (p before) (q before)
  steps before p q h =
      prog_so (λ end why. why) (λ r is k. (k.0, k.1, λ seven. (let drew = k.2 seven in (drew.seven, drew.seed)))) (h.from before)

  command_decides : (command : Option Command) (before : List Stream) → s.remaining ≡ 0 → command_at t (raised s.commands) ≡ command →
      Stepped before (command_prog s command before) (command_prog twin command before)
  command_decides None before idle next = steps before _ _ (lawful_end (idle, next))
  command_decides (Some (commands.Start count)) before idle next =
      steps before _ _ (start_decides s.primed count (record { idle = idle; next = next }) refl)
  command_decides (Some (commands.Rmult values)) before idle next =
      prog_gives refl
      ((values, record { idle = idle; next = next }), tt, λ seven. (let set = set_first before values in (set.1 ∙ seven, set.0)))
  command_decides (Some commands.Reset) before idle next = steps before _ _ (lawful_gives refl (record { idle = idle; next = next }))
  command_decides (Some commands.Clear) before idle next = steps before _ _ (lawful_gives refl (record { idle = idle; next = next }))

  -- an attempt: an id that is no block ends the run
  try_decides : (x : Transaction) (to : Option ℕ) → 1 ≤ s.remaining → s.active ≡ Some x → or_next x.destination (after_at t x.current) ≡ to →
      Steps (try_prog s x to) (try_prog twin (moved_transaction move x) (option_map move to))
  try_decides x None started active goes = lawful_end (inl (started, x, active))
  try_decides x (Some id) started active goes =
      lawful_asks_so (items.Block id) refl (λ streams r is numbered named. there streams r (block_at t id) refl is)
      (lawful_so (λ end error. ends_moving end error) (λ streams r is h. attempt_is r.0 streams r.1 (block_at t id) refl is h)
      (meet_decides x id (block_at t id) active refl))
    where
      there : (streams : List Stream) (r : Move × List Stream) (block : Option Block) → block_at t id ≡ block →
          result_of t seed (meet_prog s x id block streams) ≡ Ok r → IsBlockId t id
      there streams r None is comes = absurd cc
      there streams r (Some b) is comes = inr (b, is)

      attempt_is : (m : Move) (before after : List Stream) (block : Option Block) → block_at t id ≡ block →
          result_of t seed (meet_prog s x id block before) ≡ Ok (m, after) →
          IsTried t s (WaitsAtBlock block) (LinksAtBlock block) id m → IsStep t seed s m
      attempt_is m before after None is comes tried = absurd cc
      attempt_is m before after (Some b) is comes tried = attempt_step t seed s m started (record {
        who = x;
        active = active;
        id = id;
        goes = goes;
        block = b;
        there = is;
        before = before;
        after = after;
        comes = comes;
        tried = tried;
      })

      ends_moving : (end : End) → IsError end → IsEnd t s end
      ends_moving (ends.Error stop) error = inl (started, x, active)
      ends_moving end error = absurd error

  attempt_decides : (x : Transaction) (destination : Option ℕ) → 1 ≤ s.remaining → s.active ≡ Some x → x.destination ≡ destination →
      Steps (attempt_prog s x destination) (attempt_prog twin (moved_transaction move x) (option_map move destination))
  attempt_decides x None started active is =
      lawful_asks (items.After x.current) refl
      (λ numbered named. (let here : TransactionNames t x = subst (λ o. ActiveNames t o) active named in here.current))
      (try_decides x (after_at t x.current) started active (ap (λ o. or_next o (after_at t x.current)) is))
  attempt_decides x (Some id) started active is = try_decides x (Some id) started active (ap (λ o. or_next o (after_at t x.current)) is)

  -- the clock
  within_decides : (time : ℕ) (within : Bool) → NobodyMoves s → nat_le time t.horizon ≡ within → least_time s.future ≡ Some time →
      Steps (within_prog time within) (within_prog time within)
  within_decides time true nobody is least = lawful_gives refl (nobody, least, is)
  within_decides time false nobody is least = lawful_end (nobody, time, least, is)

  clock_decides : (time : Option ℕ) → NobodyMoves s → least_time s.future ≡ time → Steps (clock_prog time) (clock_prog time)
  clock_decides None nobody least = lawful_end (nobody, least)
  clock_decides (Some time) nobody least =
      lawful_asks (items.Within time) refl (λ numbered named. tt) (within_decides time (nat_le time t.horizon) nobody refl least)

  -- the scan
  pick_decides : (chain : List Transaction) → 1 ≤ s.remaining → s.active ≡ None → s.current ≡ chain →
      Steps (pick_prog s chain) (pick_prog twin (map (moved_transaction move) chain))
  pick_decides [] started none empty =
      rw (least_time_moved move s.future) (clock_decides (least_time s.future) (record { started = started; active = none; current = empty }) refl)
  pick_decides (x ∷ xs) started none is = lawful_gives refl (started, none)

  scan_decides : (active : Option Transaction) → 1 ≤ s.remaining → s.active ≡ active →
      Steps (scan_prog s active) (scan_prog twin (option_map (moved_transaction move) active))
  scan_decides None started is = pick_decides s.current started is refl
  scan_decides (Some x) started is = attempt_decides x x.destination started is refl

  move_decides : (remaining : ℕ) (before : List Stream) → s.remaining ≡ remaining →
      Stepped before (move_prog s remaining before) (move_prog twin remaining before)
  move_decides zero before idle =
      let command = command_decides (command_at t (raised s.commands)) before idle refl in
      record {
        given = λ r is. (let h = command.given r is in (h.0, ((λ numbered named. tt), h.1), h.2));
        ended = λ end is. command.ended end is;
        follows = λ u new_seed answered. subst
            (λ (o : Option Command). result_of u new_seed (command_prog twin o before) ≡ result_with (and_streams (moved_move move))
            (result_of t seed (command_prog s (command_at t (raised s.commands)) before)))
            (sym (answered (items.Cmd (raised s.commands)))) (command.follows u new_seed answered);
      }
  move_decides (suc n) before some = steps before (scan_prog s s.active) _ (scan_decides s.active (omega arith) refl)

  pub step_lawful : ProgLawful t seed move (IsEnd t s) (moved_machine move)
      (λ v is. IsAfter t seed s v × AllByRecursion (IsRead t s) is × ReadsSeed s.streams v.streams is) (step_prog s) (step_prog twin)
  step_lawful =
      prog_bind {Q = λ d is. (result_of t seed (decide s) ≡ Ok d) × IsStepped s.streams d is} _
      (prog_so (λ end why. why) (λ d goes h. (goes, h)) (move_decides s.remaining s.streams refl))
      (λ d is h. prog_gives (decided_moved move twins.renames s d.0 d.1) (
        record {
          move = d.0;
          streams = d.1;
          goes = h.0;
          is_step = h.1.0;
          is_decided = step_is_decided t seed s d.0 h.1.0;
          is = refl;
        },
        rw append-nil h.1.1,
        rw append-nil h.1.2,
      ))

pub run_lawful : (t : Listing) (seed : ℕ) (move : ℕ → ℕ) → IsMove move → (n : ℕ) →
    ProgLawful t seed move (λ end. Unit {0}) (moved_machine move) (λ s is. Unit {0}) (run_prog n) (run_prog n)
run_lawful t seed move renames zero = prog_gives refl tt
run_lawful t seed move renames (suc n) = prog_bind _ (run_lawful t seed move renames n)
    (λ s is h. prog_so (λ end why. tt) (λ v is k. tt)
    (step_lawful (record { version = t; seed = seed; state = s; move = move; renames = renames })))

-- ---- the step alone

module _ (t : Listing) (seed : ℕ) (s : Machine) where
  -- a state whose ids stay
  abbrev pub unmoved : Twins
  unmoved = record { version = t; seed = seed; state = s; move = λ n. n; renames = record { none = refl; apart = λ p q is. is } }

  -- the move of a step, from any streams
  pub move_is_step : (before : List Stream) (d : Move × List Stream) → result_of t seed (move_prog s s.remaining before) ≡ Ok d → IsStep t seed s d.0
  move_is_step before d is = ((move_decides unmoved s.remaining before refl).given d is).0

  pub move_is_decided : (before : List Stream) (d : Move × List Stream) → result_of t seed (move_prog s s.remaining before) ≡ Ok d → IsDecided t s d.0
  move_is_decided before d is = step_is_decided t seed s d.0 (move_is_step before d is)

  -- the decision
  pub is_decided : (d : Move × List Stream) → result_of t seed (decide s) ≡ Ok d → IsDecided t s d.0
  is_decided d there = move_is_decided s.streams d there

  -- the step, and why there is none
  pub step_decides : (v : Machine) → step t seed s ≡ Ok v →
      IsAfter t seed s v × AllByRecursion (IsRead t s) (items_of t seed (step_prog s))
      × ReadsSeed s.streams v.streams (items_of t seed (step_prog s))
  step_decides v is = (step_lawful unmoved).given v is

  pub step_ends : (end : End) → step t seed s ≡ Err end → IsEnd t s end
  step_ends end is = (step_lawful unmoved).ended end is
