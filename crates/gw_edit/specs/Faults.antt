-- The refusals of edits: their numbers, those that stand for a fault of a line or of a model, and what it is to answer
-- with the first one. (Our own.)
use Rattle.std.specs.Prelude.{ℕ, ◌≡◌, Result, Ok, Err}
use Rattle.gw_lines.specs.declared.fault.LineFault.{LineFault}
use Rattle.gw_lines.specs.declared.fault.LineFault.TheVariants as lines
use Rattle.gw_model.specs.declared.fault.ModelFault.{ModelFault}
use Rattle.gw_model.specs.declared.fault.ModelFault.TheVariants as models
use Rattle.gw_edit.specs.declared.fault.EditFault.{EditFault}
use Rattle.gw_edit.specs.declared.fault.EditFault.TheVariants.{NoSuchPlace, BadStatement, BadModel, NoSuchReplication, ReplicationTwice, NoSuchStorage, Memory, HistoryFull}

-- the refusal's number, which a report prints after an E
abbrev pub number_of : EditFault → ℕ
number_of NoSuchPlace = 1
number_of (BadStatement fault) = 2
number_of (BadModel fault) = 3
number_of NoSuchReplication = 4
number_of ReplicationTwice = 5
number_of NoSuchStorage = 6
number_of Memory = 7
number_of HistoryFull = 8

-- the refusal for a text's fault; out of memory is the edit's own
abbrev pub of_line : LineFault → EditFault
of_line lines.Memory = Memory
of_line fault = BadStatement fault

-- the refusal for a version's fault
abbrev pub of_model : ModelFault → EditFault
of_model models.Memory = Memory
of_model fault = BadModel fault

-- the refusal is the one that is wanted, or out of memory
abbrev pub Refuses : {X : Type 0} → EditFault → Result X EditFault → Type 0
Refuses Memory wanted = Unit {0}
Refuses fault wanted = wanted ≡ Err fault

-- what was answered is what is wanted, or out of memory
abbrev pub Gives : {X : Type 0} → Result X EditFault → Result X EditFault → Type 0
Gives (Ok x) wanted = wanted ≡ Ok x
Gives (Err fault) wanted = Refuses fault wanted
