-- The version that an edit makes of a version, or its refusal. (Our own.)
use Rattle.std.specs.Prelude.{ℕ, ◌+◌, Bool, true, false, ◌==◌, List, [], ◌∷◌, ◌++◌, Option, Some, None, Result, Ok, Err, is_some, not, if◌then◌else◌, length, filter, map}
use Rattle.gw_meaning.specs.declared.statement.Statement.{Statement}
use Rattle.gw_meaning.specs.declared.statement.Replication.{Replication}
use Rattle.gw_meaning.specs.Listing.{Listing, seed_at}
use Rattle.gw_lines.specs.declared.fault.LineFault.{LineFault}
use Rattle.gw_lines.specs.declared.fault.LineFault.TheVariants as faults
use Rattle.gw_lines.specs.Reading.{◌>>=◌}
use Rattle.gw_lines.specs.Edits.{edit_of}
use Rattle.gw_lines.specs.Printed.{storage_of}
use Rattle.gw_model.specs.declared.fault.ModelFault.{ModelFault}
use Rattle.gw_model.specs.Faults.{fault_of, is_outside}
use Rattle.gw_model.specs.Spliced.{with_splice}
use Rattle.gw_meaning.specs.declared.edit.Edit.{Edit}
use Rattle.gw_meaning.specs.declared.edit.Edit.TheVariants as edits
use Rattle.gw_touch.specs.Touching.{storage_place}
use Rattle.gw_edit.specs.declared.fault.EditFault.{EditFault}
use Rattle.gw_edit.specs.declared.fault.EditFault.TheVariants.{NoSuchPlace, BadStatement, NoSuchReplication, ReplicationTwice, NoSuchStorage}
use Rattle.gw_edit.specs.Faults.{of_line, of_model}

-- the statement that an edit's text spells
abbrev pub or_refusal : Result Statement LineFault → Result Statement EditFault
or_refusal (Ok statement) = Ok statement
or_refusal (Err fault) = Err (of_line fault)

abbrev pub spelled_by : List ℕ → Result Statement EditFault
spelled_by text = or_refusal (edit_of text)

-- a version that has no fault
abbrev pub unless_faulty : Option ModelFault → Listing → Result Listing EditFault
unless_faulty None t = Ok t
unless_faulty (Some fault) t = Err (of_model fault)

unfoldable pub checked : Listing → Result Listing EditFault
checked t = unless_faulty (fault_of t) t

-- the replications with another seed for a number, without a number
abbrev pub with_seed : ℕ → ℕ → Replication → Replication
with_seed number seed r = if r.number == number then record { number = number; seed = seed } else r

abbrev pub reseeded : ℕ → ℕ → List Replication → List Replication
reseeded number seed rs = map (with_seed number seed) rs

abbrev pub without_number : ℕ → List Replication → List Replication
without_number number rs = filter (λ (r : Replication). not (r.number == number)) rs

-- whether a version has the replication
abbrev pub has_replication : Listing → ℕ → Bool
has_replication t number = is_some (seed_at t number)

-- what each edit makes
abbrev pub insert_made : Listing → ℕ → List ℕ → Result Listing EditFault
insert_made t place text =
    if is_outside 1 (length t.lines + 1) place then Err NoSuchPlace
    else (spelled_by text >>= (λ statement. checked (with_splice t place false (Some statement))))

abbrev pub delete_made : Listing → ℕ → Result Listing EditFault
delete_made t place =
    if is_outside 1 (length t.lines) place then Err NoSuchPlace else checked (with_splice t place true None)

abbrev pub change_made : Listing → ℕ → List ℕ → Result Listing EditFault
change_made t place text =
    if is_outside 1 (length t.lines) place then Err NoSuchPlace
    else (spelled_by text >>= (λ statement. checked (with_splice t place true (Some statement))))

abbrev pub seed_made : Listing → ℕ → ℕ → Result Listing EditFault
seed_made t number seed =
    if has_replication t number then checked (record t { replications = reseeded number seed t.replications })
    else Err NoSuchReplication

abbrev pub replicate_made : Listing → ℕ → ℕ → Result Listing EditFault
replicate_made t number seed =
    if has_replication t number then Err ReplicationTwice
    else checked (record t { replications = t.replications ++ record { number = number; seed = seed } ∷ [] })

abbrev pub drop_made : Listing → ℕ → Result Listing EditFault
drop_made t number =
    if has_replication t number then checked (record t { replications = without_number number t.replications })
    else Err NoSuchReplication

abbrev pub horizon_made : Listing → ℕ → Result Listing EditFault
horizon_made t time = checked (record t { horizon = time })

-- of a capacity, by the place of the statement that defines the storage
abbrev pub capacity_at : Listing → List ℕ → ℕ → Option ℕ → Result Listing EditFault
capacity_at t name amount None = Err NoSuchStorage
capacity_at t name amount (Some place) =
    if is_outside 1 1000000000 amount then Err (BadStatement (faults.BadOperand 1))
    else checked (with_splice t place true (Some (storage_of name amount)))

abbrev pub capacity_made : Listing → List ℕ → ℕ → Result Listing EditFault
capacity_made t name amount = capacity_at t name amount (storage_place name t)

-- the version that an edit makes, or its refusal
abbrev pub applied : Listing → Edit → Result Listing EditFault
applied t (edits.Insert place text) = insert_made t place text
applied t (edits.Delete place) = delete_made t place
applied t (edits.Change place text) = change_made t place text
applied t (edits.Capacity name amount) = capacity_made t name amount
applied t (edits.Seed replication seed) = seed_made t replication seed
applied t (edits.Replicate replication seed) = replicate_made t replication seed
applied t (edits.Drop replication) = drop_made t replication
applied t (edits.Horizon time) = horizon_made t time
