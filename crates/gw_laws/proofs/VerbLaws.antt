-- A block of each verb that is read, and a state in which a transaction enters it.
use Rattle.std.proofs.Common.{◌≡◌, List, [], ◌∷◌, Option, Some, Ok, pos, refl}
use Rattle.gw_names.specs.declared.verb.BlockVerb.{BlockVerb}
use Rattle.gw_names.specs.declared.verb.BlockVerb.TheVariants as blocks
use Rattle.gw_names.specs.declared.key.Key.TheVariants as keys
use Rattle.gw_expr.specs.declared.expr.Discipline.TheVariants as disciplines
use Rattle.gw_expr.specs.Term.{Term}
use Rattle.gw_expr.specs.declared.expr.Expr.TheVariants.{Value, Named, Defined, Table, Order}
use Rattle.gw_expr.specs.Evaluation.{value_of, value_by, value_of_atom}
use Rattle.gw_expr.specs.declared.atom.Atom.TheVariants as atoms
use Rattle.gw_meaning.specs.Records.{never_owned, seized, queued, no_line, never_used, entered}
use Rattle.gw_meaning.specs.declared.auxiliary.Auxiliary.{Auxiliary}
use Rattle.gw_meaning.specs.declared.auxiliary.Auxiliary.TheVariants as auxiliaries
use Rattle.gw_meaning.specs.declared.auxiliary.Condition.TheVariants as conditions
use Rattle.gw_meaning.specs.declared.auxiliary.Switching.TheVariants as switchings
use Rattle.gw_meaning.specs.declared.statement.Definition.TheVariants as definitions
use Rattle.gw_meaning.specs.declared.statement.Body.TheVariants as bodies
use Rattle.gw_meaning.specs.declared.transaction.Transaction.{Transaction}
use Rattle.gw_meaning.specs.declared.moves.Change.{Change}
use Rattle.gw_meaning.specs.declared.moves.Fate.{Fate}
use Rattle.gw_meaning.specs.declared.moves.Move.TheVariants as moves
use Rattle.gw_meaning.specs.Listing.{Listing}
use Rattle.gw_meaning.specs.Evaluation.{value_prog}
use Rattle.gw_meaning.specs.Machine.{Machine, zero_state}
use Rattle.gw_meaning.specs.Questions.{result_of}
use Rattle.gw_meaning.specs.Step.{meet_prog}
use Rattle.gw_laws.specs.Verbs.{CanBeEntered, EachVerbIsEvaluated}

-- a transaction on its way to its GENERATE
abbrev first : Transaction
first = record { number = 1; priority = pos 0; mark = 0; current = 0; destination = Some 1; asked = 0 }

-- the name of its facility, its queue and its parameter
abbrev line : Option Term
line = Some (Named [])

-- the name of a facility that is free
abbrev free : Option Term
free = Some (Named (0 ∷ []))

-- the name of a storage and of a table, and a version in which the storage has two units and the table takes a 1
abbrev pool : Option Term
pool = Some (Defined [])

abbrev table : Option Term
table = Some (Table [])

abbrev version : Listing
version = record {
  lines =
      record { number = 1; statement = record { label = Some []; body = bodies.Definition (definitions.Storage 2); operands = [] } }
      ∷ record {
        number = 2;
        statement = record {
          label = Some [];
          body = bodies.Definition (definitions.Table (record {
            argument = Value (atoms.Constant (pos 1));
            classes = record { first = pos 0; width = 1; count = 2 };
          }));
          operands = [];
        };
      }
      ∷ [];
  horizon = 1;
  replications = [];
  limit = 1;
}

abbrev one : Option Term
one = Some (Value (atoms.Constant (pos 1)))

-- the order of a user chain
abbrev first_in : Option Term
first_in = Some (Order disciplines.Fifo)

-- a state in which it owns that facility and has that parameter, and a unit is in that queue and in that storage
abbrev busy : Machine
busy = record zero_state {
  entities = record {
    facilities = (keys.Named [], seized 1 0 never_owned) ∷ [];
    queues = (keys.Named [], queued 1 0 no_line) ∷ [];
    storages = (keys.Defined [], entered 1 0 never_used) ∷ [];
    savevalues = [];
    switches = [];
    tables = [];
    queue_arrivals = [];
  };
  parameters = (1, (keys.Named [], pos 1) ∷ []) ∷ [];
}

-- it enters a block with this operator and these operands there
entered_by : {verb : BlockVerb} {change : Change} {fate : Fate} (auxiliary : Auxiliary) (operands : List (Option Term)) →
    result_of version 1 (meet_prog busy first 1 (Some (record { verb = verb; auxiliary = auxiliary; operands = operands })) busy.streams) ≡
    Ok (moves.Enter 1 change fate, busy.streams) →
    CanBeEntered verb
entered_by auxiliary operands enters = record {
  version = version;
  block = record { verb = _; auxiliary = auxiliary; operands = operands };
  state = busy;
  transaction = first;
  change = _;
  fate = _;
  of_verb = refl;
  enters = enters;
}

-- the same of a block without an operator
entered_with : {verb : BlockVerb} {change : Change} {fate : Fate} (operands : List (Option Term)) →
    result_of version 1 (meet_prog busy first 1 (Some (record { verb = verb; auxiliary = auxiliaries.Absent; operands = operands })) busy.streams) ≡
    Ok (moves.Enter 1 change fate, busy.streams) →
    CanBeEntered verb
entered_with operands enters = entered_by auxiliaries.Absent operands enters

pub each_verb_is_evaluated : EachVerbIsEvaluated
unfolding value_prog value_of value_by value_of_atom
each_verb_is_evaluated blocks.Generate beside given forms is = entered_with [] refl
each_verb_is_evaluated blocks.Advance beside given forms is = entered_with [] refl
each_verb_is_evaluated blocks.Terminate beside given forms is = entered_with [] refl
each_verb_is_evaluated blocks.Queue beside given forms is = entered_with (line ∷ []) refl
each_verb_is_evaluated blocks.Depart beside given forms is = entered_with (line ∷ []) refl
each_verb_is_evaluated blocks.Seize beside given forms is = entered_with (free ∷ []) refl
each_verb_is_evaluated blocks.Release beside given forms is = entered_with (line ∷ []) refl
each_verb_is_evaluated blocks.Enter beside given forms is = entered_with (pool ∷ []) refl
each_verb_is_evaluated blocks.Leave beside given forms is = entered_with (pool ∷ []) refl
each_verb_is_evaluated blocks.Transfer beside given forms is = entered_with [] refl
each_verb_is_evaluated blocks.Test beside given forms is = entered_by auxiliaries.Equal (one ∷ one ∷ []) refl
each_verb_is_evaluated blocks.Gate beside given forms is = entered_by (auxiliaries.Gate conditions.InUse) (line ∷ []) refl
each_verb_is_evaluated blocks.Logic beside given forms is = entered_by (auxiliaries.Logic switchings.Set) (line ∷ []) refl
each_verb_is_evaluated blocks.Savevalue beside given forms is = entered_with (line ∷ one ∷ []) refl
each_verb_is_evaluated blocks.Split beside given forms is = entered_with (one ∷ []) refl
each_verb_is_evaluated blocks.Link beside given forms is = entered_with (line ∷ first_in ∷ []) refl
each_verb_is_evaluated blocks.Unlink beside given forms is = entered_with (line ∷ []) refl
each_verb_is_evaluated blocks.Tabulate beside given forms is = entered_with (table ∷ []) refl
each_verb_is_evaluated blocks.Mark beside given forms is = entered_with [] refl
each_verb_is_evaluated blocks.Priority beside given forms is = entered_with (one ∷ []) refl
each_verb_is_evaluated blocks.Buffer beside given forms is = entered_with [] refl
each_verb_is_evaluated blocks.Assign beside given forms is = entered_with (line ∷ one ∷ []) refl
each_verb_is_evaluated blocks.Loop beside given forms is = entered_with (line ∷ []) refl
