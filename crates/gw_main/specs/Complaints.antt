-- What standard error is told of a fault, and the status of the program. (Our own.)
use Rattle.std.specs.Prelude.{◌≡◌, ◌⊎◌, ℕ, List, ◌++◌, codes, decimal}
use Rattle.gw_io.specs.Failures.{one_more, WritesPart}
use Rattle.gw_lines.specs.declared.fault.FaultyLine.{FaultyLine}
use Rattle.gw_lines.specs.Faults.{code_of}
use Rattle.gw_model.specs.declared.fault.ModelFault.{ModelFault}
use Rattle.gw_model.specs.Faults as models
use Rattle.gw_script.specs.declared.fault.Fault.{Fault}
use Rattle.gw_script.specs.declared.fault.Fault.TheVariants.{Line, Model, Read, Write, ReadLimit, Memory}

-- the line for a faulty line of the model
abbrev pub line_part : FaultyLine → List ℕ
line_part faulty =
    codes "model refused: line " ++ decimal faulty.line ++ codes " " ++ code_of faulty.fault ++ codes "\n"

-- the line for a model fault
abbrev pub model_part : ModelFault → List ℕ
model_part fault = codes "model refused: M" ++ decimal (models.number_of fault) ++ codes "\n"

-- the line for a fault
abbrev pub complaint_of : Fault → List ℕ
complaint_of (Line faulty) = line_part faulty
complaint_of (Model fault) = model_part fault
complaint_of Read = codes "stopped: F3\n"
complaint_of Write = codes "stopped: F4\n"
complaint_of ReadLimit = codes "stopped: F5\n"
complaint_of Memory = codes "stopped: F6\n"

-- 1 for a refused model, 3 for what stopped a session
abbrev pub status_of : Fault → ℕ
status_of (Line faulty) = 1
status_of (Model fault) = 1
status_of Read = 3
status_of Write = 3
status_of ReadLimit = 3
status_of Memory = 3

-- the fault that is told: the one that came, save that a faulty line may be told as out of memory
abbrev pub IsToldAs : Fault → Fault → Type 0
IsToldAs (Line faulty) told = (told ≡ Line faulty) ⊎ (told ≡ Memory)
IsToldAs (Model fault) told = told ≡ Model fault
IsToldAs Read told = told ≡ Read
IsToldAs Write told = told ≡ Write
IsToldAs ReadLimit told = told ≡ ReadLimit
IsToldAs Memory told = told ≡ Memory

-- a line was told as far as the sink took it: whole, or a front of it where the sink failed
pub data Tells {E : Type 0} (wrote : E → List ℕ → E → Type 0) (failures : E → ℕ) (text : List ℕ) (old new : E) :
    Type 0 where
  whole : wrote old text new → failures new ≡ failures old → Tells wrote failures text old new
  front : WritesPart wrote old text new → failures new ≡ one_more (failures old) → Tells wrote failures text old new
