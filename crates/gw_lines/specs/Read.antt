-- The laws of reading: what is read of a model, or of an edit's text, is what it spells, and the fault that is answered
-- is its first. (Our own.)
use Rattle.std.specs.Prelude.{ℕ, ◌≡◌, ◌↔◌, List, Ok, Err}
use Rattle.gw_meaning.specs.declared.statement.Statement.{Statement}
use Rattle.gw_lines.specs.declared.fault.LineFault.{LineFault}
use Rattle.gw_lines.specs.declared.fault.FaultyLine.{FaultyLine}
use Rattle.gw_lines.specs.Models.{model_of}
use Rattle.gw_lines.specs.Whole.{SpellsModel, FirstFaultOf}
use Rattle.gw_lines.specs.Edits.{SpellsEdit, FirstFaultOfEdit, edit_of}

-- a model is read as statements exactly where it spells them
abbrev pub ModelsAreRead : Type 0
ModelsAreRead =
    (bytes : List ℕ) (statements : List Statement) →
    (model_of bytes ≡ Ok statements) ↔ SpellsModel bytes statements

-- a model is refused with a faulty line exactly where that is its first
abbrev pub ModelsAreRefused : Type 0
ModelsAreRefused = (bytes : List ℕ) (e : FaultyLine) → (model_of bytes ≡ Err e) ↔ FirstFaultOf bytes e

-- an edit's text is read as a statement exactly where it spells it
abbrev pub EditsAreRead : Type 0
EditsAreRead = (text : List ℕ) (s : Statement) → (edit_of text ≡ Ok s) ↔ SpellsEdit text s

-- an edit's text is refused with a fault exactly where that is its first
abbrev pub EditsAreRefused : Type 0
EditsAreRefused = (text : List ℕ) (f : LineFault) → (edit_of text ≡ Err f) ↔ FirstFaultOfEdit text f
