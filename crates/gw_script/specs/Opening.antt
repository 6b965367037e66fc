-- What a model and the options open: a version with replication 1 and nothing recorded, or the first faulty line, or
-- the first model fault. (Our own.)
use Rattle.std.specs.Prelude.{◌≡◌, ℕ, List, [], ◌∷◌, Some, None}
use Rattle.gw_lines.specs.declared.fault.FaultyLine.{FaultyLine}
use Rattle.gw_lines.specs.declared.fault.LineFault.{LineFault}
use Rattle.gw_lines.specs.declared.fault.LineFault.TheVariants as lines
use Rattle.gw_lines.specs.Whole.{SpellsModel, FirstFaultOf}
use Rattle.gw_meaning.specs.declared.statement.Statement.{Statement}
use Rattle.gw_meaning.specs.Listing.{Listing}
use Rattle.gw_model.specs.declared.fault.ModelFault.{ModelFault}
use Rattle.gw_model.specs.Listed.{listed}
use Rattle.gw_model.specs.Faults.{fault_of}
use Rattle.gw_edit.specs.Spelled.{AreSpelled}
use Rattle.gw_desk.specs.Book.{Book, blank_runs}
use Rattle.gw_script.specs.declared.opening.Options.{Options}
use Rattle.gw_script.specs.declared.fault.Fault.{Fault}
use Rattle.gw_script.specs.declared.fault.Fault.TheVariants as faults

-- the version that statements make under the options
abbrev pub opened : List Statement → Options → Listing
opened statements o = listed statements o.horizon (record { number = 1; seed = o.seed } ∷ []) o.limit

-- a version on a desk, with nothing edited and nothing recorded
abbrev pub book_of : Listing → ℕ → Book
book_of t every = record { opening = t; version = t; every = every; edits = []; runs = blank_runs every t.replications; made = 0 }

-- the model's lines spell statements, and these make the version t, which has no fault
pub record OpensVersion (model : List ℕ) (o : Options) (t : Listing) : Type 0 where
  pub statements : List Statement
  pub spelled : SpellsModel model statements
  pub is_version : t ≡ opened statements o
  pub no_fault : fault_of t ≡ None

-- so each statement of the version is spelled by some lines
abbrev pub OpenedIsSpelled : Type 0
OpenedIsSpelled = (model : List ℕ) (o : Options) (t : Listing) → OpensVersion model o t → AreSpelled t.lines

-- the model's lines spell statements, and these make a version with no fault, which lies on the desk b
pub record Opens (model : List ℕ) (o : Options) (b : Book) : Type 0 where
  pub version : Listing
  pub opens : OpensVersion model o version
  pub is_book : b ≡ book_of version o.every

-- the model's lines spell statements, and this is the first fault of what they make
pub record HasFault (model : List ℕ) (o : Options) (fault : ModelFault) : Type 0 where
  pub statements : List Statement
  pub spelled : SpellsModel model statements
  pub first : fault_of (opened statements o) ≡ Some fault

-- why a model is refused: no fault of reading or writing is among the reasons
abbrev pub Refuses : List ℕ → Options → Fault → Type 0
Refuses model o (faults.Line faulty) = FirstFaultOf model faulty
Refuses model o (faults.Model fault) = HasFault model o fault
Refuses model o faults.Read = ⊥
Refuses model o faults.Write = ⊥
Refuses model o faults.ReadLimit = ⊥
Refuses model o faults.Memory = Unit {0}

-- out of memory is one fault, wherever it came
abbrev pub kind_of : LineFault → FaultyLine → Fault
kind_of lines.Memory faulty = faults.Memory
kind_of fault faulty = faults.Line faulty

abbrev pub fault_of_line : FaultyLine → Fault
fault_of_line faulty = kind_of faulty.fault faulty
