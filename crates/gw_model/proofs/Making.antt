-- a version that is made, and one that is refused
use Rattle.std.proofs.Common.{◌≡◌, List, ℕ, None, Result, Ok, Err, subst}
use Rattle.std.specs.Prelude.{IsErr, IfErr}
use Rattle.gw_meaning.specs.Listing.{Listing}
use Rattle.gw_meaning.specs.Numbers.{AreNumbered}
use Rattle.gw_meaning.specs.declared.statement.Replication.{Replication}
use Rattle.gw_model.specs.Faults.{fault_of, label_fault_of, IsFault}
use Rattle.gw_model.specs.Listed.{listing_of}
use Rattle.gw_model.specs.Made.{Makes}
use Rattle.gw_model.specs.Tables.{AreTablesOf, IsKept}
use Rattle.gw_model.specs.Well.{Well}
use Rattle.gw_model.specs.declared.fault.ModelFault.{ModelFault}
use Rattle.gw_model.specs.declared.tables.Tables.{Tables}
use Rattle.gw_model.proofs.Wellness.{well_left, sound_from, no_fault, memory_alone}

pub made : (t v : Listing) → v ≡ t → Well v → Makes t (Ok v)
made t v same well = record {
  value = same;
  found = well;
  none = no_fault t (subst Well same well);
  fault = tt;
  only = λ w. tt;
}

pub refused : (t : Listing) (result : Result Listing ModelFault) → IsErr result → IfErr result (IsFault (fault_of t)) → Makes t result
refused t (Ok v) e h = cc
refused t (Err f) e h = record {
  value = tt;
  found = tt;
  none = tt;
  fault = h;
  only = λ well. memory_alone (fault_of t) f (no_fault t well) h;
}

-- the tables of statements whose labels were looked at last
pub kept : (t : Listing) (tables : Tables) → fault_of t ≡ label_fault_of t.lines → label_fault_of t.lines ≡ None → AreNumbered t.lines
    → AreTablesOf t.lines tables → IsKept t tables
kept t tables left sound numbered answers = record { well = well_left t left sound; numbered = numbered; answers = answers }

-- the tables of a version serve for another one with its lines
pub kept_on : (t : Listing) (tables : Tables) → IsKept t tables → (horizon : ℕ) (rs : List Replication) (limit : ℕ)
    → fault_of (listing_of t.lines horizon rs limit) ≡ label_fault_of t.lines → IsKept (listing_of t.lines horizon rs limit) tables
kept_on t tables k horizon rs limit left =
    kept (listing_of t.lines horizon rs limit) tables left (sound_from t k.well) k.numbered k.answers
