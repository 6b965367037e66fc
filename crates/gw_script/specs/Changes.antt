-- What an edit is answered. (The table of script lines.)
use Rattle.std.specs.Prelude.{◌≡◌, ℕ, List, [], ◌++◌, codes, decimal}
use Rattle.gw_lines.specs.Faults.{code_of}
use Rattle.gw_model.specs.Faults as models
use Rattle.gw_meaning.specs.declared.edit.Edit.{Edit}
use Rattle.gw_edit.specs.declared.fault.EditFault.{EditFault}
use Rattle.gw_edit.specs.declared.fault.EditFault.TheVariants.{NoSuchPlace, BadStatement, BadModel, NoSuchReplication, ReplicationTwice, NoSuchStorage, Memory, HistoryFull}
use Rattle.gw_edit.specs.Faults.{number_of}
use Rattle.gw_desk.specs.declared.play.Event.{Event}
use Rattle.gw_desk.specs.declared.play.Event.TheVariants as events
use Rattle.gw_desk.specs.declared.play.Reply.{Reply}
use Rattle.gw_desk.specs.declared.play.Reply.TheVariants as replies

-- an accepted edit: how many there are now
abbrev pub accepted : ℕ → List ℕ
accepted edits = codes "ok " ++ decimal edits ++ codes "\n"

-- the fault of the text or of the version that a refusal names
abbrev pub detail_of : EditFault → List ℕ
detail_of NoSuchPlace = []
detail_of (BadStatement fault) = codes " " ++ code_of fault
detail_of (BadModel fault) = codes " M" ++ decimal (models.number_of fault)
detail_of NoSuchReplication = []
detail_of ReplicationTwice = []
detail_of NoSuchStorage = []
detail_of Memory = []
detail_of HistoryFull = []

abbrev pub refusal_of : EditFault → List ℕ
refusal_of fault = codes "refused E" ++ decimal (number_of fault) ++ detail_of fault ++ codes "\n"

-- an edit was accepted, or it was refused
pub data Edits {D : Type 0} (does : D → Event → Reply → D → Type 0) (d : D) (e : Edit) (front : List ℕ) (d' : D) :
    Type 0 where
  accepts : (n : ℕ) → does d (events.Edit e) (replies.Edited n) d' → front ≡ accepted n → Edits does d e front d'
  refuses : (fault : EditFault) → does d (events.Edit e) (replies.Refused fault) d' → front ≡ refusal_of fault →
      Edits does d e front d'
