-- Small examples of waiting: they compute.
use Rattle.std.proofs.Common.{◌≡◌, refl, sym, ◌∙◌, ℕ, pos, true, List, [], ◌∷◌, Option, Some, None, Result, Ok, Err, ap, filter, not}
use Rattle.gw_names.specs.declared.key.Key.{Key}
use Rattle.gw_names.specs.declared.key.Key.TheVariants as keys
use Rattle.gw_names.specs.declared.class.Class.TheVariants as class
use Rattle.gw_names.specs.declared.verb.BlockVerb.{BlockVerb}
use Rattle.gw_names.specs.declared.verb.BlockVerb.TheVariants as blocks
use Rattle.gw_expr.specs.declared.atom.Atom.TheVariants as atoms
use Rattle.gw_expr.specs.declared.attribute.Subject.TheVariants as subjects
use Rattle.gw_expr.specs.Term.{Term}
use Rattle.gw_expr.specs.declared.expr.Expr.TheVariants.{Value, Defined, Computed}
use Rattle.gw_expr.specs.Evaluation as operands
use Rattle.gw_meaning.specs.Evaluation.{value_prog, watched_prog, attribute_prog}
use Rattle.gw_streams.specs.declared.stream.Stream.{Stream}
use Rattle.gw_meaning.specs.declared.auxiliary.Auxiliary.{Auxiliary}
use Rattle.gw_meaning.specs.declared.auxiliary.Auxiliary.TheVariants as auxiliaries
use Rattle.gw_meaning.specs.declared.auxiliary.Condition.{Condition}
use Rattle.gw_meaning.specs.declared.auxiliary.Condition.TheVariants as conditions
use Rattle.gw_meaning.specs.declared.statement.Command.TheVariants as commands
use Rattle.gw_meaning.specs.declared.statement.Body.{Body}
use Rattle.gw_meaning.specs.declared.statement.Body.TheVariants as bodies
use Rattle.gw_meaning.specs.declared.statement.Numbered.{Numbered}
use Rattle.gw_meaning.specs.declared.transaction.Transaction.{Transaction}
use Rattle.gw_meaning.specs.declared.entity_change.Update.{Update}
use Rattle.gw_meaning.specs.declared.entity_change.Update.TheVariants as updates
use Rattle.gw_expr.specs.declared.halt.End.{End}
use Rattle.gw_meaning.specs.declared.asker.Asker.{Asker}
use Rattle.gw_meaning.specs.declared.moves.Change.TheVariants as changes
use Rattle.gw_meaning.specs.declared.moves.Fate.TheVariants as fates
use Rattle.gw_meaning.specs.declared.moves.Move.{Move}
use Rattle.gw_meaning.specs.declared.moves.Move.TheVariants as moves
use Rattle.gw_meaning.specs.declared.watched.EntityKind.TheVariants as kinds
use Rattle.gw_meaning.specs.declared.watched.Watched.{Watched}
use Rattle.gw_meaning.specs.declared.watched.Watched.TheVariants as watched
use Rattle.gw_meaning.specs.Listing.{Listing}
use Rattle.gw_meaning.specs.Watching.{Waiter}
use Rattle.gw_meaning.specs.Machine.{Machine, zero_state}
use Rattle.gw_meaning.specs.Questions.{Prog, result_of, items_of}
use Rattle.gw_meaning.specs.declared.item.Item.TheVariants as items
use Rattle.gw_meaning.specs.declared.item.Asked.TheVariants as asking
use Rattle.gw_meaning.specs.declared.statement.Definition.TheVariants as definitions
use Rattle.gw_meaning.specs.declared.entity_change.FacilityUpdate.TheVariants as of_facility
use Rattle.gw_expr.specs.declared.token.Token.{Token}
use Rattle.gw_expr.specs.declared.token.Token.TheVariants as tokens
use Rattle.gw_expr.specs.declared.token.Operator.TheVariants as operators
use Rattle.gw_meaning.specs.Changes.{decided, moved, woken, woke, written, is_woken}
use Rattle.gw_meaning.specs.Step.{test_prog, gate_prog, for_one, run}

-- a transaction with a number, in a block
abbrev at_block : ℕ → ℕ → Transaction
at_block number id =
    record { number = number; mark = 0; priority = pos 0; current = id; destination = None; asked = 0 }

abbrev the_savevalue : Watched
the_savevalue = watched.Entity kinds.Savevalue (keys.Num 1)

abbrev waits_for : ℕ → List Watched → Waiter
waits_for number read = record { transaction = at_block number 7; read = read }

-- transaction 9 is active; 3 and 1 wait for savevalue 1 in this order, and 2 for the counts of block 8
abbrev some_wait : Machine
some_wait = record zero_state {
  active = Some (at_block 9 5);
  retry =
      waits_for 3 (the_savevalue ∷ []) ∷ waits_for 2 (watched.Counts 8 ∷ [])
      ∷ waits_for 1 (the_savevalue ∷ []) ∷ [];
}

-- how it stands after a move, and a move by which an entity is changed
abbrev after : Move → Machine
after m = decided some_wait m []

abbrev changed : Key → Update → Move
changed key update = moves.Enter 6 (changes.Entity (key, update)) fates.Active

abbrev numbers_of : List Transaction → List ℕ
numbers_of [] = []
numbers_of (x ∷ xs) = x.number ∷ numbers_of xs

abbrev numbers_waiting : List Waiter → List ℕ
numbers_waiting [] = []
numbers_waiting (w ∷ ws) = w.transaction.number ∷ numbers_waiting ws

-- a SAVEVALUE wakes both who read it, in order of waiting, also where the value stays; the third waits on
both_wake : numbers_of (after (changed (keys.Num 1) (updates.Savevalue (pos 0)))).current ≡ 3 ∷ 1 ∷ []
both_wake = refl

one_waits_on : numbers_waiting (after (changed (keys.Num 1) (updates.Savevalue (pos 0)))).retry ≡ 2 ∷ []
one_waits_on = refl

-- an entry of block 8 wakes who read its counts, a switch with the savevalue's number nobody, the clock nobody
entry_wakes : numbers_of (after (moves.Enter 8 changes.Nothing fates.Active)).current ≡ 2 ∷ []
entry_wakes = refl

switch_wakes_nobody : numbers_of (after (changed (keys.Num 1) (updates.Switch true))).current ≡ []
switch_wakes_nobody = refl

clock_wakes_nobody : numbers_waiting (after (moves.Clock 50)).retry ≡ 3 ∷ 2 ∷ 1 ∷ []
clock_wakes_nobody = refl

-- ---- a run: what a TEST reads, whom a SAVEVALUE wakes

abbrev savevalue_1 : Term
savevalue_1 = Value (atoms.Attribute class.X (subjects.Number 1))

abbrev constant : ℕ → Term
constant n = Value (atoms.Constant (pos n))

abbrev nothing_said : Listing
nothing_said = record { lines = []; horizon = 1000; replications = []; limit = 1000 }

-- what a TEST and a GATE without a label do
abbrev the_other : Asker
the_other = for_one some_wait (at_block 9 5)

abbrev tested : Listing → Auxiliary → Option Term → Option Term → Result (Move × List Stream) End
tested t relation first second = result_of t 1 (test_prog some_wait the_other 6 relation first second None [])

abbrev gate : Condition → Option Term → Prog (Move × List Stream)
gate condition entity = gate_prog some_wait the_other 6 (auxiliaries.Gate condition) entity None []

-- X1 is not 4: who tries waits for X1; the clock is no part of what it waits for
test_waits :
    tested nothing_said auxiliaries.Equal (Some savevalue_1) (Some (constant 4)) ≡
    Ok (moves.Watch (the_savevalue ∷ []), [])
unfolding value_prog operands.value_of operands.value_by operands.value_of_atom watched_prog attribute_prog
test_waits = refl

clock_is_not_watched :
    tested nothing_said auxiliaries.Greater (Some (Value (atoms.Attribute class.Ac1 subjects.Own))) (Some savevalue_1) ≡
    Ok (moves.Watch (the_savevalue ∷ []), [])
unfolding value_prog operands.value_of operands.value_by operands.value_of_atom watched_prog attribute_prog
clock_is_not_watched = refl

-- a GATE at a facility that is free
gate_waits :
    result_of nothing_said 1 (gate conditions.InUse (Some (Value (atoms.Constant (pos 4))))) ≡
    Ok (moves.Watch (watched.Entity kinds.Facility (keys.Num 4) ∷ []), [])
unfolding value_prog operands.value_of operands.value_by operands.value_of_atom watched_prog attribute_prog
gate_waits = refl

-- GENERATE ,,1,1 / TEST E X1,1 / TERMINATE 1 / GENERATE ,,4,1 / SAVEVALUE 1,1 / TERMINATE / START 1
abbrev block : ℕ → BlockVerb → Auxiliary → List (Option Term) → Numbered
block id verb auxiliary ops = record {
  number = id;
  statement =
      record {
        label = None;
        body = bodies.Block (record { verb = verb; auxiliary = auxiliary; operands = ops });
        operands = [];
      };
}

abbrev start_at : ℕ → Numbered
start_at id =
    record { number = id; statement = record { label = None; body = bodies.Command (commands.Start 1); operands = [] } }

abbrev model : Listing
model = record {
  lines =
      block 1 blocks.Generate auxiliaries.Absent (None ∷ None ∷ Some (constant 1) ∷ Some (constant 1) ∷ [])
      ∷ block 2 blocks.Test auxiliaries.Equal (Some savevalue_1 ∷ Some (constant 1) ∷ None ∷ [])
      ∷ block 3 blocks.Terminate auxiliaries.Absent (Some (constant 1) ∷ [])
      ∷ block 4 blocks.Generate auxiliaries.Absent (None ∷ None ∷ Some (constant 4) ∷ Some (constant 1) ∷ [])
      ∷ block 5 blocks.Savevalue auxiliaries.Absent (Some (constant 1) ∷ Some (constant 1) ∷ [])
      ∷ block 6 blocks.Terminate auxiliaries.Absent (None ∷ []) ∷ start_at 7 ∷ [];
  horizon = 1000;
  replications = [];
  limit = 1000;
}

-- how a run stands: the clock, who is on the current chain, who waits for a change, STARTs complete
abbrev stands : Result Machine End → Option (ℕ × List ℕ × List ℕ × ℕ)
stands (Ok s) = Some (s.clock, numbers_of s.current, numbers_waiting s.retry, s.complete)
stands (Err end) = None

-- START, clock, pick, GENERATE, TEST: it waits; clock, pick, GENERATE: it waits on; SAVEVALUE: it is woken; TERMINATE,
-- pick, TEST, TERMINATE: the START is complete
waits_at_5 : stands (run model 1 5) ≡ Some (1, [], 1 ∷ [], 0)
unfolding value_prog operands.value_of operands.value_by operands.value_of_atom watched_prog attribute_prog
waits_at_5 = refl

waits_on_at_8 : stands (run model 1 8) ≡ Some (4, [], 1 ∷ [], 0)
unfolding value_prog operands.value_of operands.value_by operands.value_of_atom watched_prog attribute_prog
waits_on_at_8 = refl

woken_at_9 : stands (run model 1 9) ≡ Some (4, 1 ∷ [], [], 0)
unfolding value_prog operands.value_of operands.value_by operands.value_of_atom watched_prog attribute_prog
woken_at_9 = refl

complete_at_13 : stands (run model 1 13) ≡ Some (4, [], [], 1)
unfolding value_prog operands.value_of operands.value_by operands.value_of_atom watched_prog attribute_prog
complete_at_13 = refl

-- ---- further examples

-- 4 waits for facility 2, in block 1 and bound for 3; 5 waits for the counts of block 3: a RELEASE lets 4 in, and that
-- wakes 5, who goes after
abbrev two_chains : Machine
two_chains = record zero_state {
  active = Some (at_block 9 5);
  delays = (
    keys.Num 2,
    record { number = 4; mark = 0; priority = pos 0; current = 1; destination = Some 3; asked = 1 } ∷ [],
  ) ∷ [];
  retry = waits_for 5 (watched.Counts 3 ∷ []) ∷ [];
}

handed_over_before_woken :
    numbers_of (decided two_chains (changed (keys.Num 2) (updates.Facility (of_facility.Release (Some 4)))) []).current ≡
    4 ∷ 5 ∷ []
handed_over_before_woken = refl

-- whoever is refused stands after the others
refused_stands_behind : numbers_waiting (after (moves.Watch (the_savevalue ∷ []))).retry ≡ 3 ∷ 2 ∷ 1 ∷ 9 ∷ []
refused_stands_behind = refl

-- a VARIABLE over a queue and, twice, a savevalue
abbrev some_variable : Term
some_variable = Computed (
    tokens.Value (atoms.Attribute class.Q (subjects.Number 5)) ∷ tokens.Value (atoms.Attribute class.X (subjects.Number 1))
    ∷ tokens.Applied operators.Plus ∷ tokens.Value (atoms.Attribute class.X (subjects.Number 1))
    ∷ tokens.Applied operators.Plus ∷ []
    )

-- it is VARIABLE V; storage P has 3 units
abbrev pool : List ℕ
pool = 80 ∷ []

abbrev defined_by : ℕ → List ℕ → Body → Numbered
defined_by id name body = record { number = id; statement = record { label = Some name; body = body; operands = [] } }

abbrev with_definitions : Listing
with_definitions = record {
  lines =
      defined_by 1 (86 ∷ []) (bodies.Definition (definitions.Variable some_variable))
      ∷ defined_by 2 pool (bodies.Definition (definitions.Storage 3)) ∷ [];
  horizon = 1000;
  replications = [];
  limit = 1000;
}

variable_is_traced :
    tested with_definitions auxiliaries.Equal (Some (Value (atoms.Attribute class.V (subjects.Name (86 ∷ []))))) (Some (constant 4)) ≡
    Ok (moves.Watch (watched.Entity kinds.Queue (keys.Num 5) ∷ the_savevalue ∷ []), [])
unfolding value_prog operands.value_of operands.value_by operands.value_of_atom operands.definitions_within watched_prog attribute_prog
variable_is_traced = refl

-- an empty storage is full to nobody, and a GATE SF reads the capacity, a GATE SNE does not
full_waits :
    result_of with_definitions 1 (gate conditions.Full (Some (Defined pool))) ≡
    Ok (moves.Watch (watched.Entity kinds.Storage (keys.Defined pool) ∷ []), [])
full_waits = refl

full_reads_capacity :
    items_of with_definitions 1 (gate conditions.Full (Some (Defined pool))) ≡ items.Named asking.Storage pool ∷ []
full_reads_capacity = refl

not_empty_reads_none : items_of with_definitions 1 (gate conditions.NotEmpty (Some (Defined pool))) ≡ []
not_empty_reads_none = refl

-- ---- what a step that wakes nobody is

-- where nobody waits for a change nothing is woken
nobody_wakes : (list : List Watched) (s : Machine) → s.retry ≡ [] → woken list s ≡ s
nobody_wakes list s none =
    ap (λ ws. woke (filter (is_woken list) ws) (filter (λ w. not (is_woken list w)) ws) s) none
    ∙ ap (λ ws. record s { retry = ws }) (sym none)

-- commands, refusals, picks and the clock write nothing, whoever waits
commands_write_nothing : (s : Machine) → written s moves.Command ≡ []
commands_write_nothing s = refl

refusals_write_nothing : (s : Machine) (read : List Watched) → written s (moves.Watch read) ≡ []
refusals_write_nothing s read = refl

clock_writes_nothing : (s : Machine) (time : ℕ) → written s (moves.Clock time) ≡ []
clock_writes_nothing s time = refl

-- waking changes nothing but the current chain and who waits
counts_stay : (list : List Watched) (s : Machine) → (woken list s).counts ≡ s.counts
counts_stay list s = refl

entities_stay : (list : List Watched) (s : Machine) → (woken list s).entities ≡ s.entities
entities_stay list s = refl

future_stays : (s : Machine) (m : Move) (drawn : List Stream) → (decided s m drawn).future ≡ (moved s m).future
future_stays s m drawn = refl

-- ---- an example of the papers' kind: 1 waits for X1 and X2, 2 for X2; X1 wakes 1, which is refused again and waits
-- after 2; X2 wakes 2 in front of 1. Where savevalue 3 is set in place of X1, 1 is woken first

abbrev savevalue_n : ℕ → Term
savevalue_n n = Value (atoms.Attribute class.X (subjects.Number n))

abbrev value_of_savevalue : ℕ → Token
value_of_savevalue n = tokens.Value (atoms.Attribute class.X (subjects.Number n))

abbrev sum_of_both : Term
sum_of_both = Computed (value_of_savevalue 1 ∷ value_of_savevalue 2 ∷ tokens.Applied operators.Plus ∷ [])

abbrev generate_at : ℕ → ℕ → Numbered
generate_at id time =
    block id blocks.Generate auxiliaries.Absent (None ∷ None ∷ Some (constant time) ∷ Some (constant 1) ∷ [])

abbrev behind_the_others : ℕ → Listing
behind_the_others first = record {
  lines =
      generate_at 1 1 ∷ block 2 blocks.Test auxiliaries.Equal (Some sum_of_both ∷ Some (constant 9) ∷ None ∷ [])
      ∷ block 3 blocks.Terminate auxiliaries.Absent (None ∷ []) ∷ generate_at 4 2
      ∷ block 5 blocks.Test auxiliaries.Equal (Some (savevalue_n 2) ∷ Some (constant 9) ∷ None ∷ [])
      ∷ block 6 blocks.Terminate auxiliaries.Absent (None ∷ []) ∷ generate_at 7 3
      ∷ block 8 blocks.Savevalue auxiliaries.Absent (Some (constant first) ∷ Some (constant 0) ∷ [])
      ∷ block 9 blocks.Terminate auxiliaries.Absent (None ∷ []) ∷ generate_at 10 4
      ∷ block 11 blocks.Savevalue auxiliaries.Absent (Some (constant 2) ∷ Some (constant 9) ∷ [])
      ∷ block 12 blocks.Terminate auxiliaries.Absent (Some (constant 1) ∷ [])
      ∷ start_at 13 ∷ [];
  horizon = 1000;
  replications = [];
  limit = 1000;
}

woken_behind : stands (run (behind_the_others 1) 1 21) ≡ Some (4, 2 ∷ 1 ∷ [], [], 1)
unfolding value_prog operands.value_of operands.value_by operands.value_of_atom watched_prog attribute_prog
woken_behind = refl

woken_in_front : stands (run (behind_the_others 3) 1 19) ≡ Some (4, 1 ∷ 2 ∷ [], [], 1)
unfolding value_prog operands.value_of operands.value_by operands.value_of_atom watched_prog attribute_prog
woken_in_front = refl
