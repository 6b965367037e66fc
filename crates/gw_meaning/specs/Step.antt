-- A step: which move it is, by questions; then the move. One definition for each choice, with what is chosen by as an
-- argument. (Manual: the order of the scan. Our own: commands, priming and picking are steps of their own; the order in
-- which a GENERATE's operands are met; a facility refuses its own owner, too; units that fit go in, whoever waits; a
-- PRIORITY leaves its transaction active; whoever waits for a change tries its block anew when it is woken.)
use Rattle.std.specs.Prelude.{ℕ, zero, suc, ◌+◌, ◌-◌, Bool, true, false, ◌==◌, List, [], ◌∷◌, ◌++◌, Option, Some, None, Result, Ok, Err, ℤ, pos, ◌&&◌, ◌||◌, if◌then◌else◌, nat_le, nat_lt, min, not, is_some, length}
use Rattle.gw_nums.specs.Range.{is_negative, is_below, magnitude}
use Rattle.gw_nums.specs.declared.val.ArithmeticFault.{ArithmeticFault}
use Rattle.gw_expr.specs.Arithmetic.{applied}
use Rattle.gw_expr.specs.declared.token.Operator.TheVariants as operators
use Rattle.gw_expr.specs.Term.{Term}
use Rattle.gw_expr.specs.declared.expr.Expr.TheVariants.{Label, Fraction, Defined, Table, Order}
use Rattle.gw_expr.specs.declared.stop.Stop.TheVariants.{NegativeTime, NotOwner, LeaveTooMany, DepartTooMany, NoParameter, NoNextBlock, TooManyTransactions, BadCount, TooManyUnits, Range}
use Rattle.gw_names.specs.declared.key.Key.{Key}
use Rattle.gw_names.specs.declared.key.Key.TheVariants as keys
use Rattle.gw_names.specs.declared.verb.BlockVerb.{BlockVerb}
use Rattle.gw_names.specs.declared.verb.BlockVerb.TheVariants as blocks
use Rattle.gw_meaning.specs.declared.item.Item.{Item}
use Rattle.gw_meaning.specs.declared.item.Asked.TheVariants as asking
use Rattle.gw_meaning.specs.declared.item.Item.TheVariants as items
use Rattle.gw_expr.specs.declared.halt.End.{End}
use Rattle.gw_expr.specs.declared.halt.End.TheVariants as ends
use Rattle.gw_meaning.specs.declared.auxiliary.Auxiliary.{Auxiliary}
use Rattle.gw_meaning.specs.declared.auxiliary.Auxiliary.TheVariants as auxiliaries
use Rattle.gw_meaning.specs.declared.statement.Block.{Block}
use Rattle.gw_meaning.specs.declared.statement.Command.{Command}
use Rattle.gw_meaning.specs.declared.statement.Command.TheVariants as commands
use Rattle.gw_meaning.specs.declared.asker.Asker.{Asker}
use Rattle.gw_meaning.specs.declared.transaction.Transaction.{Transaction}
use Rattle.gw_meaning.specs.declared.transaction.Event.{Event}
use Rattle.gw_streams.specs.declared.stream.Stream.{Stream}
use Rattle.gw_streams.specs.Draws.{all_set}
use Rattle.gw_meaning.specs.declared.moves.Arrival.{Arrival}
use Rattle.gw_meaning.specs.declared.entity_change.Update.TheVariants as updates
use Rattle.gw_meaning.specs.declared.entity_change.FacilityUpdate.TheVariants as of_facility
use Rattle.gw_meaning.specs.declared.entity_change.QueueUpdate.TheVariants as of_queue
use Rattle.gw_meaning.specs.declared.entity_change.StorageUpdate.TheVariants as of_storage
use Rattle.gw_meaning.specs.declared.auxiliary.Condition.{Condition}
use Rattle.gw_meaning.specs.declared.auxiliary.Condition.TheVariants as conditions
use Rattle.gw_meaning.specs.declared.auxiliary.Switching.{Switching}
use Rattle.gw_meaning.specs.declared.auxiliary.Switching.TheVariants as switchings
use Rattle.gw_meaning.specs.declared.watched.EntityKind.{EntityKind}
use Rattle.gw_meaning.specs.declared.watched.EntityKind.TheVariants as kinds
use Rattle.gw_meaning.specs.declared.watched.Watched.{Watched}
use Rattle.gw_meaning.specs.declared.watched.Watched.TheVariants as watched
use Rattle.gw_meaning.specs.Watching.{with_watched}
use Rattle.gw_meaning.specs.declared.moves.Change.TheVariants as changes
use Rattle.gw_meaning.specs.declared.transaction_change.TransactionChange.TheVariants as own
use Rattle.gw_meaning.specs.declared.moves.Fate.{Fate}
use Rattle.gw_meaning.specs.declared.moves.Fate.TheVariants as fates
use Rattle.gw_meaning.specs.declared.moves.Move.{Move}
use Rattle.gw_meaning.specs.declared.moves.Move.TheVariants as moves
use Rattle.gw_meaning.specs.Statements.{A, B, C, D, E, operand, is_generate_verb}
use Rattle.gw_meaning.specs.Listing.{Listing}
use Rattle.gw_meaning.specs.Machine.{Machine, zero_state, raised, live, count_at, delay_at, user_chain_at}
use Rattle.gw_meaning.specs.Records.{Line, Store, capped}
use Rattle.gw_meaning.specs.QueueArrivals.{came}
use Rattle.gw_meaning.specs.Parameters.{parameter_at}
use Rattle.gw_meaning.specs.Entities.{facility_at, line_at, store_at, savevalue_at, switch_at}
use Rattle.gw_meaning.specs.Questions.{Prog, Gives, result_of, items_of, ◌>>=◌}
use Rattle.gw_meaning.specs.Evaluation.{Eval, gives, ends_with, asks, ◌~>◌, stops_if, value_prog, value_or_zero, value_there, entity_prog, units_prog, value_traced, entity_traced, arithmetic, millionths, draw, time_prog}
use Rattle.gw_meaning.specs.Changes.{decided}

-- The next transaction of a GENERATE: its limit, then the time, then its priority.
abbrev pub arrival_at : Machine → ℕ → ℤ → ℤ → Eval (Option Arrival)
arrival_at s id time priority =
    stops_if (is_negative time) NegativeTime
    (stops_if (nat_le 100000 (live s)) TooManyTransactions
    (gives (Some (record { id = id; time = s.clock + magnitude time; priority = priority }))))

abbrev pub arrival_in_time : Machine → Asker → ℕ → Option Term → Option Term → Option Term → Eval (Option Arrival)
arrival_in_time s q id mean range priority =
    time_prog s q mean range ~> (λ t. value_or_zero s q priority ~> (λ p. arrival_at s id t p))

-- with a limit of n, of which some are made
abbrev pub arrival_within :
    Machine → Asker → ℕ → ℕ → Option Term → Option Term → Option Term → ℤ → Eval (Option Arrival)
arrival_within s q id made mean range priority n =
    stops_if (is_negative n) BadCount (if nat_le (magnitude n) made then gives None
    else arrival_in_time s q id mean range priority)

abbrev pub arrival_prog :
    Machine → Asker → ℕ → ℕ → Option Term → Option Term → Option Term → Option Term → Eval (Option Arrival)
arrival_prog s q id made mean range None priority = arrival_in_time s q id mean range priority
arrival_prog s q id made mean range (Some limit) priority =
    value_prog s q limit ~> (λ n. arrival_within s q id made mean range priority n)

-- Priming: the first transactions of the GENERATEs, in order; each comes after the offset, where there is one, and else
-- as those after it do. They are evaluated for no transaction, with the count of the START that primes.
abbrev pub first_of_generate :
    Machine → Asker → ℕ → Option Term → Option Term → Option Term → Option Term → Option Term → Eval (Option Arrival)
first_of_generate s q id mean range None limit priority =
    arrival_prog s q id (count_at s.counts id).made mean range limit priority
first_of_generate s q id mean range (Some offset) limit priority =
    arrival_prog s q id (count_at s.counts id).made (Some offset) None limit priority

abbrev pub first_of : Machine → Asker → ℕ → Block → Bool → Eval (Option Arrival)
first_of s q id b true = first_of_generate s q id (operand b A) (operand b B) (operand b C) (operand b D) (operand b E)
first_of s q id b false = gives None

abbrev pub first_arrival : Machine → Asker → ℕ → Option Block → Eval (Option Arrival)
first_arrival s q id None = gives None
first_arrival s q id (Some b) = first_of s q id b (is_generate_verb b.verb)

abbrev pub with_arrival : Option Arrival → List Arrival → List Arrival
with_arrival None made = made
with_arrival (Some a) made = made ++ a ∷ []

abbrev pub prime_prog : Machine → Asker → ℕ → Eval (Option Arrival)
prime_prog s q id = asks (items.Block id) (first_arrival s q id)

abbrev pub arrivals_prog : Machine → Asker → List ℕ → List Arrival → Eval (List Arrival)
arrivals_prog s q [] made = gives made
arrivals_prog s q (id ∷ ids) made = prime_prog s q id ~> (λ a. arrivals_prog s q ids (with_arrival a made))

-- for whom operands are evaluated: for no transaction, or for one
abbrev pub for_none : ℕ → Asker
for_none remaining =
    record { is_transaction = false; number = 0; priority = pos 0; mark = 0; remaining = remaining }

abbrev pub for_one : Machine → Transaction → Asker
for_one s x = record {
  is_transaction = true;
  number = x.number;
  priority = x.priority;
  mark = x.mark;
  remaining = s.remaining;
}

abbrev pub first_arrivals_prog : Machine → ℕ → Eval (List Arrival)
first_arrivals_prog s count = asks items.Generates (λ ids. arrivals_prog s (for_none count) ids [])

-- Command: where no START is under way. An RMULT sets streams, and does no more; a RESET and a CLEAR ask nothing.
abbrev pub start_prog : Machine → Bool → ℕ → Eval Move
start_prog s true count = gives (moves.Start count [])
start_prog s false count = first_arrivals_prog s count ~> (λ first. gives (moves.Start count first))

abbrev pub rmult_prog : List (Option ℕ) → Eval Move
rmult_prog values = λ streams. Gives (moves.Command, all_set streams values)

abbrev pub command_prog : Machine → Option Command → Eval Move
command_prog s None = ends_with ends.CommandsDone
command_prog s (Some (commands.Start count)) = start_prog s s.primed count
command_prog s (Some (commands.Rmult values)) = rmult_prog values
command_prog s (Some commands.Reset) = gives moves.Reset
command_prog s (Some commands.Clear) = gives moves.Clear

-- Attempt: the active transaction x tries the block at id.
abbrev pub generate_prog :
    Machine → Transaction → ℕ → Option Term → Option Term → Option Term → Option Term → Eval Move
generate_prog s x id mean range limit priority =
    stops_if (not (x.current == 0)) NoNextBlock
    (arrival_prog s (for_none s.remaining) id (count_at s.counts id).made mean range limit priority ~>
    (λ next. gives (moves.Enter id (changes.Generate next) fates.Active)))

abbrev pub delay_of : Machine → ℕ → Fate
delay_of s zero = fates.Active
delay_of s (suc n) = fates.Delayed (s.clock + suc n)

abbrev pub advance_prog : Machine → Asker → ℕ → Option Term → Option Term → Eval Move
advance_prog s q id mean range =
    time_prog s q mean range ~> (λ t. stops_if (is_negative t) NegativeTime
    (gives (moves.Enter id changes.Nothing (delay_of s (magnitude t)))))

abbrev pub terminate_prog : Machine → Asker → ℕ → Option Term → Eval Move
terminate_prog s q id count =
    value_or_zero s q count ~> (λ n. stops_if (is_negative n) BadCount
    (gives (moves.Enter id changes.Nothing (fates.Destroyed (magnitude n)))))

-- QUEUE and DEPART, of an entity and so many units. A content and a count of entries go to 1,000,000,000, and no more
-- units leave than there are.
abbrev pub is_too_many : ℕ → Bool
is_too_many n = nat_lt 1000000000 n

abbrev pub queue_units : ℕ → Key → Line → ℕ → Eval Move
queue_units id key line units =
    stops_if (is_too_many (line.entries + units) || is_too_many (line.level.content + units)) TooManyUnits
    (gives (moves.Enter id (changes.Entity (key, updates.Queue (of_queue.Queue units))) fates.Active))

abbrev pub queue_prog : Machine → Asker → ℕ → Option Term → Option Term → Eval Move
queue_prog s q id entity units =
    entity_prog s q entity ~> (λ key. units_prog s q units ~> (λ n. queue_units id key (line_at s.entities key) n))

abbrev pub depart_units : ℕ → Key → Line → Bool → ℕ → Eval Move
depart_units id key line at_once units =
    stops_if (at_once && is_too_many (line.zero_entries + units)) TooManyUnits
    (stops_if (nat_lt line.level.content units) DepartTooMany
    (gives (moves.Enter id (changes.Entity (key, updates.Queue (of_queue.Depart units at_once))) fates.Active)))

abbrev pub depart_prog : Machine → Asker → Transaction → ℕ → Option Term → Option Term → Eval Move
depart_prog s q x id entity units = entity_prog s q entity ~> (λ key. units_prog s q units ~>
    (λ n. depart_units id key (line_at s.entities key) (came s.entities.queue_arrivals key x.number) n))

-- SEIZE, of a facility that may be owned; RELEASE, by its owner, for the first that waits.
abbrev pub seize_or_wait : ℕ → Key → Bool → Eval Move
seize_or_wait id key true = gives (moves.Refuse id key 1)
seize_or_wait id key false =
    gives (moves.Enter id (changes.Entity (key, updates.Facility of_facility.Seize)) fates.Active)

abbrev pub seize_prog : Machine → Asker → ℕ → Option Term → Eval Move
seize_prog s q id entity =
    entity_prog s q entity ~> (λ key. seize_or_wait id key (is_some (facility_at s.entities key).owner))

-- the number of the first transaction of a chain
abbrev pub first_number : List Transaction → Option ℕ
first_number [] = None
first_number (x ∷ xs) = Some x.number

-- whether the transaction with a number owns it
abbrev pub is_owner : Option ℕ → ℕ → Bool
is_owner None number = false
is_owner (Some owner) number = owner == number

abbrev pub release_to : ℕ → Key → Bool → Option ℕ → Eval Move
release_to id key owns next =
    stops_if (not owns) NotOwner
    (gives (moves.Enter id (changes.Entity (key, updates.Facility (of_facility.Release next))) fates.Active))

abbrev pub release_prog : Machine → Asker → Transaction → ℕ → Option Term → Eval Move
release_prog s q x id entity = entity_prog s q entity ~> (λ key. release_to id key
    (is_owner (facility_at s.entities key).owner x.number) (first_number (delay_at s.delays key)))

-- so many units beside those in use (a count of 64 bits stays at its greatest value)
abbrev pub beside : ℕ → ℕ → ℕ
beside units content = capped (units + content)

-- ENTER, of a storage that has as many units at least: they come into use where they fit beside those in use, whoever
-- waits.
abbrev pub enter_or_wait : ℕ → Key → Store → ℕ → Bool → Eval Move
enter_or_wait id key store units true =
    stops_if (is_too_many (store.entries + units)) TooManyUnits
    (gives (moves.Enter id (changes.Entity (key, updates.Storage (of_storage.Enter units))) fates.Active))
enter_or_wait id key store units false = gives (moves.Refuse id key units)

abbrev pub enter_storage : ℕ → List ℕ → Store → ℕ → Bool → Eval Move
enter_storage id name store units large =
    stops_if (not large) TooManyUnits
    (asks (items.Named (asking.Fits (beside units store.level.content)) name)
    (enter_or_wait id (keys.Defined name) store units))

abbrev pub enter_prog : Machine → Asker → ℕ → Option Term → Option Term → Eval Move
enter_prog s q id (Some (Defined name)) units = units_prog s q units ~>
    (λ n. asks (items.Named (asking.Fits n) name)
    (enter_storage id name (store_at s.entities (keys.Defined name)) n))
enter_prog s q id storage units = ends_with (ends.Error Range)

-- LEAVE, of no more units than are in use: then each of the delay chain, from the front, is let in where its units fit
-- beside those that are in use by then.
abbrev pub grant_of : ℕ → Bool → Option ℕ
grant_of units fits = if fits then Some units else None

abbrev pub in_use : ℕ → ℕ → Bool → ℕ
in_use content units fits = if fits then beside units content else content

abbrev pub grants_prog : List ℕ → ℕ → List (Option ℕ) → List Transaction → Eval (List (Option ℕ))
grants_prog name content grants [] = gives grants
grants_prog name content grants (x ∷ xs) = asks (items.Named (asking.Fits (beside x.asked content)) name)
    (λ fits. grants_prog name (in_use content x.asked fits) (grants ++ grant_of x.asked fits ∷ []) xs)

-- the units of those who are let in
abbrev pub all_granted : List (Option ℕ) → ℕ
all_granted [] = 0
all_granted (None ∷ grants) = all_granted grants
all_granted (Some units ∷ grants) = units + all_granted grants

abbrev pub leave_for : ℕ → Key → Store → ℕ → List (Option ℕ) → Eval Move
leave_for id key store units grants =
    stops_if (is_too_many (store.entries + all_granted grants)) TooManyUnits
    (gives (moves.Enter id (changes.Entity (key, updates.Storage (of_storage.Leave units grants))) fates.Active))

abbrev pub leave_units : Machine → ℕ → List ℕ → Store → ℕ → Eval Move
leave_units s id name store units =
    stops_if (nat_lt store.level.content units) LeaveTooMany
    (grants_prog name (store.level.content - units) [] (delay_at s.delays (keys.Defined name)) ~>
    (λ grants. leave_for id (keys.Defined name) store units grants))

abbrev pub leave_prog : Machine → Asker → ℕ → Option Term → Option Term → Eval Move
leave_prog s q id (Some (Defined name)) units =
    units_prog s q units ~> (λ n. leave_units s id name (store_at s.entities (keys.Defined name)) n)
leave_prog s q id storage units = ends_with (ends.Error Range)

-- TRANSFER: to the block with a label, which each version has, or to the next block where there is no label. With a
-- fraction it draws, and goes to the third operand's block where the number is below the fraction, else to the
-- second's.
abbrev pub go_to : ℕ → Option ℕ → Eval Move
go_to id None = ends_with (ends.Error NoNextBlock)
go_to id (Some to) = gives (moves.Enter id (changes.Transaction (own.Transfer to)) fates.Active)

abbrev pub lead_to : ℕ → Option Term → Eval Move
lead_to id (Some (Label name)) = asks (items.Named asking.Label name) (go_to id)
lead_to id label = gives (moves.Enter id changes.Nothing fates.Active)

abbrev pub by_fraction : ℕ → ℕ → Option Term → Option Term → Eval Move
by_fraction id part near far = draw 1 ~> (λ x. lead_to id (if nat_lt (millionths x) part then far else near))

abbrev pub transfer_prog : ℕ → Option Term → Option Term → Option Term → Eval Move
transfer_prog id (Some (Fraction part)) near far = by_fraction id part near far
transfer_prog id fraction near far = lead_to id near

-- MARK; PRIORITY, after which the transaction stays active; BUFFER, after which it stands after its equals on the
-- current chain, so that they move first.
abbrev pub mark_prog : ℕ → Eval Move
mark_prog id = gives (moves.Enter id (changes.Transaction own.Mark) fates.Active)

abbrev pub priority_prog : Machine → Asker → ℕ → Option Term → Eval Move
priority_prog s q id priority =
    value_there s q priority ~> (λ p. gives (moves.Enter id (changes.Transaction (own.Priority p)) fates.Active))

abbrev pub buffer_prog : ℕ → Eval Move
buffer_prog id = gives (moves.Enter id changes.Nothing fates.Current)

-- ASSIGN: the parameter is set to the value, or by a sign that is added to it or taken from it; one that is absent
-- counts as 0 then.
abbrev pub or_zero : Option ℤ → ℤ
or_zero None = pos 0
or_zero (Some v) = v

abbrev pub by_sign : Auxiliary → Option ℤ → ℤ → Result ℤ ArithmeticFault
by_sign auxiliaries.Plus was v = applied operators.Plus (or_zero was) v
by_sign auxiliaries.Minus was v = applied operators.Minus (or_zero was) v
by_sign auxiliary was v = Ok v

abbrev pub assign_to : ℕ → Key → ℤ → Eval Move
assign_to id key to = gives (moves.Enter id (changes.Transaction (own.Assign key to)) fates.Active)

abbrev pub assign_with : ℕ → Auxiliary → Key → Option ℤ → ℤ → Eval Move
assign_with id sign key was v = arithmetic (by_sign sign was v) ~> (λ to. assign_to id key to)

abbrev pub assign_prog : Machine → Asker → ℕ → Auxiliary → Option Term → Option Term → Eval Move
assign_prog s q id sign parameter value = entity_prog s q parameter ~> (λ key. value_there s q value ~>
    (λ v. assign_with id sign key (parameter_at s.parameters q.number key) v))

-- LOOP: 1 is taken from the parameter, which has to be there. While it is not 0 the transaction goes to the block with
-- the label, which each version has; at 0 it goes on to the next block, and no label is looked up.
abbrev pub left_of : Option ℤ → Eval ℤ
left_of None = ends_with (ends.Error NoParameter)
left_of (Some v) = arithmetic (applied operators.Minus v (pos 1))

abbrev pub loop_back : ℕ → Key → ℤ → Option ℕ → Eval Move
loop_back id key left None = ends_with (ends.Error NoNextBlock)
loop_back id key left (Some to) = gives (moves.Enter id (changes.Transaction (own.Loop key left to)) fates.Active)

abbrev pub loop_to : ℕ → Key → ℤ → Option Term → Eval Move
loop_to id key left (Some (Label name)) = asks (items.Named asking.Label name) (loop_back id key left)
loop_to id key left label = ends_with (ends.Error NoNextBlock)

abbrev pub loop_with : ℕ → Key → ℤ → Option Term → Eval Move
loop_with id key left label = if magnitude left == 0 then assign_to id key left else loop_to id key left label

abbrev pub loop_prog : Machine → Asker → ℕ → Option Term → Option Term → Eval Move
loop_prog s q id parameter label = entity_prog s q parameter ~>
    (λ key. left_of (parameter_at s.parameters q.number key) ~> (λ left. loop_with id key left label))

-- TEST and GATE: where a transaction may not pass, it goes to the block with the label; without a label it waits for a
-- change of what was read.
abbrev pub pass_or_wait : ℕ → Option Term → List Watched → Bool → Eval Move
pass_or_wait id None read passes =
    gives (if passes then moves.Enter id changes.Nothing fates.Active else moves.Watch read)
pass_or_wait id (Some label) read passes = lead_to id (if passes then None else Some label)

-- TEST: it passes where the relation of the first value to the second holds.
abbrev pub holds : Auxiliary → ℤ → ℤ → Bool
holds auxiliaries.Equal a b = not (is_below a b) && not (is_below b a)
holds auxiliaries.NotEqual a b = is_below a b || is_below b a
holds auxiliaries.Greater a b = is_below b a
holds auxiliaries.GreaterOrEqual a b = not (is_below a b)
holds auxiliaries.Less a b = is_below a b
holds auxiliaries.LessOrEqual a b = not (is_below b a)
holds auxiliary a b = false

abbrev pub test_values : ℕ → Auxiliary → Option Term → List Watched → ℤ → ℤ → Eval Move
test_values id relation label read a b = pass_or_wait id label read (holds relation a b)

abbrev pub test_or_wait : Machine → Asker → ℕ → Auxiliary → Option Term → Option Term → Eval Move
test_or_wait s q id relation first second = value_traced s q [] first ~> (λ a. value_traced s q a.1 second ~>
    (λ b. test_values id relation None b.1 a.0 b.0))

abbrev pub test_prog : Machine → Asker → ℕ → Auxiliary → Option Term → Option Term → Option Term → Eval Move
test_prog s q id relation first second None = test_or_wait s q id relation first second
test_prog s q id relation first second (Some label) = value_there s q first ~> (λ a. value_there s q second ~>
    (λ b. test_values id relation (Some label) [] a b))

-- GATE: the kind of entity that its condition is of, whether it holds of the one with a key, and whether that hangs on
-- the capacity of a storage.
abbrev pub kind_of_condition : Condition → EntityKind
kind_of_condition conditions.InUse = kinds.Facility
kind_of_condition conditions.NotInUse = kinds.Facility
kind_of_condition conditions.IsSet = kinds.Switch
kind_of_condition conditions.IsReset = kinds.Switch
kind_of_condition condition = kinds.Storage

abbrev pub is_open : Machine → Condition → Key → ℕ → Bool
is_open s conditions.InUse key capacity = is_some (facility_at s.entities key).owner
is_open s conditions.NotInUse key capacity = not (is_some (facility_at s.entities key).owner)
is_open s conditions.IsSet key capacity = switch_at s.entities key
is_open s conditions.IsReset key capacity = not (switch_at s.entities key)
is_open s conditions.Empty key capacity = (store_at s.entities key).level.content == 0
is_open s conditions.NotEmpty key capacity = not ((store_at s.entities key).level.content == 0)
is_open s conditions.Full key capacity = nat_le capacity (store_at s.entities key).level.content
is_open s conditions.NotFull key capacity = not (nat_le capacity (store_at s.entities key).level.content)

abbrev pub reads_capacity : Condition → Bool
reads_capacity conditions.Full = true
reads_capacity conditions.NotFull = true
reads_capacity condition = false

-- it waits for a change of its entity, and of what was read to find that
abbrev pub gate_at : Machine → ℕ → Condition → Option Term → Key → List Watched → ℕ → Eval Move
gate_at s id condition label key read capacity =
    pass_or_wait id label (with_watched read (watched.Entity (kind_of_condition condition) key))
    (is_open s condition key capacity)

abbrev pub gate_storage : Machine → ℕ → Condition → Option Term → List ℕ → Bool → Eval Move
gate_storage s id condition label name true =
    asks (items.Named asking.Storage name) (gate_at s id condition label (keys.Defined name) [])
gate_storage s id condition label name false = gate_at s id condition label (keys.Defined name) [] 0

abbrev pub gate_other : Machine → Asker → ℕ → Condition → Option Term → Option Term → Eval Move
gate_other s q id condition entity None =
    entity_traced s q entity ~> (λ r. gate_at s id condition None r.0 r.1 0)
gate_other s q id condition entity (Some label) =
    entity_prog s q entity ~> (λ key. gate_at s id condition (Some label) key [] 0)

abbrev pub gate_of : Machine → Asker → ℕ → Condition → Option Term → Option Term → Eval Move
gate_of s q id condition (Some (Defined name)) label =
    gate_storage s id condition label name (reads_capacity condition)
gate_of s q id condition entity label = gate_other s q id condition entity label

abbrev pub gate_prog : Machine → Asker → ℕ → Auxiliary → Option Term → Option Term → Eval Move
gate_prog s q id (auxiliaries.Gate condition) entity label = gate_of s q id condition entity label
gate_prog s q id auxiliary entity label = ends_with (ends.Error NoNextBlock)

-- LOGIC: the switch is set, reset or inverted.
abbrev pub switched : Switching → Bool → Bool
switched switchings.Set was = true
switched switchings.Reset was = false
switched switchings.Invert was = not was

abbrev pub logic_to : ℕ → Key → Bool → Eval Move
logic_to id key set = gives (moves.Enter id (changes.Entity (key, updates.Switch set)) fates.Active)

abbrev pub logic_of : Machine → Asker → ℕ → Switching → Option Term → Eval Move
logic_of s q id switching entity =
    entity_prog s q entity ~> (λ key. logic_to id key (switched switching (switch_at s.entities key)))

abbrev pub logic_prog : Machine → Asker → ℕ → Auxiliary → Option Term → Eval Move
logic_prog s q id (auxiliaries.Logic switching) entity = logic_of s q id switching entity
logic_prog s q id auxiliary entity = ends_with (ends.Error NoNextBlock)

-- SAVEVALUE: the savevalue is set to the value, or by a sign that is added to it or taken from it; one that is absent
-- counts as 0 then.
abbrev pub savevalue_to : ℕ → Key → ℤ → Eval Move
savevalue_to id key to = gives (moves.Enter id (changes.Entity (key, updates.Savevalue to)) fates.Active)

abbrev pub savevalue_with : ℕ → Auxiliary → Key → Option ℤ → ℤ → Eval Move
savevalue_with id sign key was v = arithmetic (by_sign sign was v) ~> (λ to. savevalue_to id key to)

abbrev pub savevalue_prog : Machine → Asker → ℕ → Auxiliary → Option Term → Option Term → Eval Move
savevalue_prog s q id sign entity value = entity_prog s q entity ~> (λ key. value_there s q value ~>
    (λ v. savevalue_with id sign key (savevalue_at s.entities key) v))

-- SPLIT: copies of the transaction, as many as its value says and as may live; they go to the block with the label,
-- where there is one. No label is looked up where no copy is made.
abbrev pub split_into : ℕ → ℕ → Option ℕ → Eval Move
split_into id count to = gives (moves.Enter id (changes.Split count to) fates.Active)

abbrev pub split_to : ℕ → ℕ → Option ℕ → Eval Move
split_to id count None = ends_with (ends.Error NoNextBlock)
split_to id count (Some to) = split_into id count (Some to)

abbrev pub split_count : ℕ → Option Term → ℕ → Eval Move
split_count id label zero = split_into id 0 None
split_count id (Some (Label name)) (suc n) = asks (items.Named asking.Label name) (split_to id (suc n))
split_count id label (suc n) = split_into id (suc n) None

abbrev pub split_value : Machine → ℕ → Option Term → ℤ → Eval Move
split_value s id label copies =
    stops_if (is_negative copies) BadCount
    (stops_if (nat_lt 100000 (live s + magnitude copies)) TooManyTransactions
    (split_count id label (magnitude copies)))

abbrev pub split_prog : Machine → Asker → ℕ → Option Term → Option Term → Eval Move
split_prog s q id copies label = value_there s q copies ~> (λ n. split_value s id label n)

-- LINK: the transaction goes to the back or to the front of a user chain.
abbrev pub link_prog : Machine → Asker → ℕ → Option Term → Option Term → Eval Move
link_prog s q id entity (Some (Order discipline)) =
    entity_prog s q entity ~> (λ key. gives (moves.Enter id changes.Nothing (fates.Linked key discipline)))
link_prog s q id entity order = ends_with (ends.Error NoNextBlock)

-- UNLINK: from the front of a user chain so many go to the block with the label as the count says and as there are, or
-- all where there is no count. No label is looked up where nobody goes.
abbrev pub unlink_some : ℕ → Key → ℕ → Option ℕ → Eval Move
unlink_some id key count to = gives (moves.Enter id (changes.Unlink key count to) fates.Active)

abbrev pub unlink_to : ℕ → Key → ℕ → Option ℕ → Eval Move
unlink_to id key count None = ends_with (ends.Error NoNextBlock)
unlink_to id key count (Some to) = unlink_some id key count (Some to)

abbrev pub unlink_count : ℕ → Key → Option Term → ℕ → Eval Move
unlink_count id key label zero = unlink_some id key 0 None
unlink_count id key (Some (Label name)) (suc n) = asks (items.Named asking.Label name) (unlink_to id key (suc n))
unlink_count id key label (suc n) = ends_with (ends.Error NoNextBlock)

-- how many of so many leave a user chain
abbrev pub leaving_prog : Machine → Asker → Option Term → ℕ → Eval ℕ
leaving_prog s q None there = gives there
leaving_prog s q (Some count) there = units_prog s q (Some count) ~> (λ n. gives (min n there))

abbrev pub unlink_prog : Machine → Asker → ℕ → Option Term → Option Term → Option Term → Eval Move
unlink_prog s q id entity label count =
    entity_prog s q entity ~> (λ key. leaving_prog s q count (length (user_chain_at s.linked key).members) ~>
    (λ n. unlink_count id key label n))

-- TABULATE: the argument of the table is evaluated, and its value comes to the table's others.
abbrev pub tabulate_to : ℕ → Key → ℤ → Eval Move
tabulate_to id key v = gives (moves.Enter id (changes.Entity (key, updates.Table v)) fates.Active)

abbrev pub tabulate_with : Machine → Asker → ℕ → Key → Option Term → Eval Move
tabulate_with s q id key argument = value_there s q argument ~> (λ v. tabulate_to id key v)

abbrev pub tabulate_prog : Machine → Asker → ℕ → Option Term → Eval Move
tabulate_prog s q id (Some (Table name)) =
    asks (items.Named asking.Table name) (tabulate_with s q id (keys.Defined name))
tabulate_prog s q id table = ends_with (ends.Error Range)

-- by the block's verb
abbrev pub block_prog : Machine → Transaction → ℕ → Block → BlockVerb → Eval Move
block_prog s x id b blocks.Generate =
    generate_prog s x id (operand b A) (operand b B) (operand b D) (operand b E)
block_prog s x id b blocks.Advance = advance_prog s (for_one s x) id (operand b A) (operand b B)
block_prog s x id b blocks.Terminate = terminate_prog s (for_one s x) id (operand b A)
block_prog s x id b blocks.Queue = queue_prog s (for_one s x) id (operand b A) (operand b B)
block_prog s x id b blocks.Depart = depart_prog s (for_one s x) x id (operand b A) (operand b B)
block_prog s x id b blocks.Seize = seize_prog s (for_one s x) id (operand b A)
block_prog s x id b blocks.Release = release_prog s (for_one s x) x id (operand b A)
block_prog s x id b blocks.Enter = enter_prog s (for_one s x) id (operand b A) (operand b B)
block_prog s x id b blocks.Leave = leave_prog s (for_one s x) id (operand b A) (operand b B)
block_prog s x id b blocks.Transfer = transfer_prog id (operand b A) (operand b B) (operand b C)
block_prog s x id b blocks.Test =
    test_prog s (for_one s x) id b.auxiliary (operand b A) (operand b B) (operand b C)
block_prog s x id b blocks.Gate = gate_prog s (for_one s x) id b.auxiliary (operand b A) (operand b B)
block_prog s x id b blocks.Logic = logic_prog s (for_one s x) id b.auxiliary (operand b A)
block_prog s x id b blocks.Savevalue =
    savevalue_prog s (for_one s x) id b.auxiliary (operand b A) (operand b B)
block_prog s x id b blocks.Split = split_prog s (for_one s x) id (operand b A) (operand b B)
block_prog s x id b blocks.Link = link_prog s (for_one s x) id (operand b A) (operand b B)
block_prog s x id b blocks.Unlink = unlink_prog s (for_one s x) id (operand b A) (operand b B) (operand b C)
block_prog s x id b blocks.Tabulate = tabulate_prog s (for_one s x) id (operand b A)
block_prog s x id b blocks.Mark = mark_prog id
block_prog s x id b blocks.Priority = priority_prog s (for_one s x) id (operand b A)
block_prog s x id b blocks.Buffer = buffer_prog id
block_prog s x id b blocks.Assign = assign_prog s (for_one s x) id b.auxiliary (operand b A) (operand b B)
block_prog s x id b blocks.Loop = loop_prog s (for_one s x) id (operand b A) (operand b B)

abbrev pub meet_prog : Machine → Transaction → ℕ → Option Block → Eval Move
meet_prog s x id None = ends_with (ends.Error NoNextBlock)
meet_prog s x id (Some b) = block_prog s x id b b.verb

abbrev pub try_prog : Machine → Transaction → Option ℕ → Eval Move
try_prog s x None = ends_with (ends.Error NoNextBlock)
try_prog s x (Some id) = asks (items.Block id) (meet_prog s x id)

abbrev pub attempt_prog : Machine → Transaction → Option ℕ → Eval Move
attempt_prog s x None = asks (items.After x.current) (try_prog s x)
attempt_prog s x (Some id) = try_prog s x (Some id)

-- Clock: the least future time, where it lies within the horizon.
abbrev pub sooner : ℕ → Option ℕ → Option ℕ
sooner time None = Some time
sooner time (Some other) = Some (min time other)

abbrev pub least_time : List Event → Option ℕ
least_time [] = None
least_time (e ∷ es) = sooner e.time (least_time es)

abbrev pub within_prog : ℕ → Bool → Eval Move
within_prog time true = gives (moves.Clock time)
within_prog time false = ends_with ends.Horizon

abbrev pub clock_prog : Option ℕ → Eval Move
clock_prog None = ends_with ends.Dry
clock_prog (Some time) = asks (items.Within time) (within_prog time)

-- Pick: the first of the current chain, where there is one.
abbrev pub pick_prog : Machine → List Transaction → Eval Move
pick_prog s [] = clock_prog (least_time s.future)
pick_prog s (x ∷ xs) = gives moves.Pick

abbrev pub scan_prog : Machine → Option Transaction → Eval Move
scan_prog s None = pick_prog s s.current
scan_prog s (Some x) = attempt_prog s x x.destination

-- which move a step is
abbrev pub move_prog : Machine → ℕ → Eval Move
move_prog s zero = asks (items.Cmd (raised s.commands)) (command_prog s)
move_prog s (suc n) = scan_prog s s.active

-- the move of a step, and the streams after it
abbrev pub decide : Machine → Prog (Move × List Stream)
decide s = move_prog s s.remaining s.streams

-- the state after a step, or why there is none
abbrev pub step_prog : Machine → Prog Machine
step_prog s = decide s >>= (λ d. Gives (decided s d.0 d.1))

abbrev pub step : Listing → ℕ → Machine → Result Machine End
step t seed s = result_of t seed (step_prog s)

-- the items that a step reads; an end reads nothing
abbrev pub items_if_moved : {A : Type 0} → Result A End → List Item → List Item
items_if_moved (Ok a) is = is
items_if_moved (Err end) is = []

abbrev pub step_items : Listing → ℕ → Machine → List Item
step_items t seed s = items_if_moved (step t seed s) (items_of t seed (step_prog s))

-- the run from zero of n steps: a state, or why it ends earlier
abbrev pub run_prog : ℕ → Prog Machine
run_prog zero = Gives zero_state
run_prog (suc n) = run_prog n >>= step_prog

abbrev pub run : Listing → ℕ → ℕ → Result Machine End
run t seed n = result_of t seed (run_prog n)
