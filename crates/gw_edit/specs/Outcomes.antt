-- What each edit makes of a version, fact by fact, and where it is refused. (Our own.)
use Rattle.std.specs.Prelude.{◌≡◌, ◌≢◌, ◌⊎◌, ◌+◌, ◌-◌, ◌<◌, ◌≤◌, ◌==◌, ℕ, List, [], ◌∷◌, ◌++◌, Some, None, Result, Ok, Err, All, not, length, take, drop, map, filter}
use Rattle.gw_meaning.specs.declared.statement.Body.TheVariants as bodies
use Rattle.gw_meaning.specs.declared.statement.Definition.TheVariants as definitions
use Rattle.gw_meaning.specs.declared.statement.Replication.{Replication}
use Rattle.gw_meaning.specs.declared.statement.Statement.{Statement}
use Rattle.gw_meaning.specs.Listing.{Listing, seed_at}
use Rattle.gw_frame.specs.Renamed.{statements_of}
use Rattle.gw_lines.specs.declared.fault.LineFault.{LineFault}
use Rattle.gw_lines.specs.declared.fault.LineFault.TheVariants as faults
use Rattle.gw_lines.specs.Edits.{SpellsEdit, FirstFaultOfEdit}
use Rattle.gw_lines.specs.Printed.{storage_of}
use Rattle.gw_model.specs.declared.fault.ModelFault.{ModelFault}
use Rattle.gw_model.specs.declared.fault.ModelFault.TheVariants as models
use Rattle.gw_model.specs.Faults.{fault_of}
use Rattle.gw_meaning.specs.declared.edit.Edit.TheVariants as edits
use Rattle.gw_edit.specs.declared.fault.EditFault.{EditFault}
use Rattle.gw_edit.specs.declared.fault.EditFault.TheVariants.{NoSuchPlace, BadStatement, BadModel, NoSuchReplication, ReplicationTwice, NoSuchStorage}
use Rattle.gw_edit.specs.Applied.{applied}

-- the changed version, of which these facts hold, is the answer where it has no fault; else its first fault is (which
-- out of memory is never)
pub record ChangesTo (facts : Listing → Type 0) (answer : Result Listing EditFault) : Type 0 where
  pub version : Listing
  pub changed : facts version
  pub made : fault_of version ≡ None → answer ≡ Ok version
  pub refused : (f : ModelFault) → fault_of version ≡ Some f → f ≢ models.Memory → answer ≡ Err (BadModel f)

-- what an edit of the statements leaves, and what one of the replications leaves
pub record LeavesRuns (t u : Listing) : Type 0 where
  pub horizon : u.horizon ≡ t.horizon
  pub replications : u.replications ≡ t.replications
  pub limit : u.limit ≡ t.limit

pub record LeavesModel (t u : Listing) : Type 0 where
  pub lines : u.lines ≡ t.lines
  pub horizon : u.horizon ≡ t.horizon
  pub limit : u.limit ≡ t.limit

-- a statement stands in front of those from a place on
pub record IsInserted (t : Listing) (place : ℕ) (s : Statement) (u : Listing) : Type 0 where
  pub statements :
      statements_of u.lines ≡ take (place - 1) (statements_of t.lines) ++ s ∷ drop (place - 1) (statements_of t.lines)
  pub rest : LeavesRuns t u

-- the text spells the statement, or it has a first fault (which out of memory is never)
pub record InsertMakes (t : Listing) (place : ℕ) (text : List ℕ) : Type 0 where
  pub inserts : (s : Statement) → 1 ≤ place → place ≤ length t.lines + 1 → SpellsEdit text s →
      ChangesTo (IsInserted t place s) (applied t (edits.Insert place text))
  pub unread : (f : LineFault) → 1 ≤ place → place ≤ length t.lines + 1 → FirstFaultOfEdit text f →
      f ≢ faults.Memory → applied t (edits.Insert place text) ≡ Err (BadStatement f)
  pub below : place < 1 → applied t (edits.Insert place text) ≡ Err NoSuchPlace
  pub above : length t.lines + 1 < place → applied t (edits.Insert place text) ≡ Err NoSuchPlace
  pub spelled : (u : Listing) → applied t (edits.Insert place text) ≡ Ok u → (s : Statement) × SpellsEdit text s

-- another statement stands in the place of one
pub record IsChanged (t : Listing) (place : ℕ) (s : Statement) (u : Listing) : Type 0 where
  pub statements :
      statements_of u.lines ≡ take (place - 1) (statements_of t.lines) ++ s ∷ drop place (statements_of t.lines)
  pub rest : LeavesRuns t u

pub record ChangeMakes (t : Listing) (place : ℕ) (text : List ℕ) : Type 0 where
  pub changes : (s : Statement) → 1 ≤ place → place ≤ length t.lines → SpellsEdit text s →
      ChangesTo (IsChanged t place s) (applied t (edits.Change place text))
  pub unread : (f : LineFault) → 1 ≤ place → place ≤ length t.lines → FirstFaultOfEdit text f →
      f ≢ faults.Memory → applied t (edits.Change place text) ≡ Err (BadStatement f)
  pub below : place < 1 → applied t (edits.Change place text) ≡ Err NoSuchPlace
  pub above : length t.lines < place → applied t (edits.Change place text) ≡ Err NoSuchPlace
  pub spelled : (u : Listing) → applied t (edits.Change place text) ≡ Ok u → (s : Statement) × SpellsEdit text s

-- the statement at a place is deleted
pub record IsDeleted (t : Listing) (place : ℕ) (u : Listing) : Type 0 where
  pub statements :
      statements_of u.lines ≡ take (place - 1) (statements_of t.lines) ++ drop place (statements_of t.lines)
  pub rest : LeavesRuns t u

pub record DeleteMakes (t : Listing) (place : ℕ) : Type 0 where
  pub deletes : 1 ≤ place → place ≤ length t.lines → ChangesTo (IsDeleted t place) (applied t (edits.Delete place))
  pub below : place < 1 → applied t (edits.Delete place) ≡ Err NoSuchPlace
  pub above : length t.lines < place → applied t (edits.Delete place) ≡ Err NoSuchPlace

-- a STORAGE of a name
pub record IsStorage (name : List ℕ) (s : Statement) : Type 0 where
  pub label : s.label ≡ Some name
  pub units : ℕ
  pub body : s.body ≡ bodies.Definition (definitions.Storage units)

abbrev pub HasNoStorage : List ℕ → List Statement → Type 0
HasNoStorage name statements = All (λ s. IsStorage name s → ⊥) statements

-- the first one of some statements
pub record FirstStorage (name : List ℕ) (statements : List Statement) : Type 0 where
  pub front : List Statement
  pub storage : Statement
  pub behind : List Statement
  pub parts : statements ≡ front ++ storage ∷ behind
  pub is_storage : IsStorage name storage
  pub is_first : HasNoStorage name front

-- a statement stands in its place
pub record IsReplaced (t : Listing) (front behind : List Statement) (s : Statement) (u : Listing) : Type 0 where
  pub statements : statements_of u.lines ≡ front ++ s ∷ behind
  pub rest : LeavesRuns t u

pub record CapacityMakes (t : Listing) (name : List ℕ) (amount : ℕ) : Type 0 where
  pub replaces : (at : FirstStorage name (statements_of t.lines)) → 1 ≤ amount → amount ≤ 1000000000 →
      ChangesTo (IsReplaced t at.front at.behind (storage_of name amount)) (applied t (edits.Capacity name amount))
  pub below : FirstStorage name (statements_of t.lines) → amount < 1 →
      applied t (edits.Capacity name amount) ≡ Err (BadStatement (faults.BadOperand 1))
  pub above : FirstStorage name (statements_of t.lines) → 1000000000 < amount →
      applied t (edits.Capacity name amount) ≡ Err (BadStatement (faults.BadOperand 1))
  pub none : HasNoStorage name (statements_of t.lines) → applied t (edits.Capacity name amount) ≡ Err NoSuchStorage
  pub searched : FirstStorage name (statements_of t.lines) ⊎ HasNoStorage name (statements_of t.lines)

-- the numbers of the replications, in their order
abbrev pub numbers_of : Listing → List ℕ
numbers_of t = map (λ (r : Replication). r.number) t.replications

-- a replication has another seed
pub record IsReseeded (t : Listing) (number seed : ℕ) (u : Listing) : Type 0 where
  pub own : seed_at u number ≡ Some seed
  pub others : (other : ℕ) → other ≢ number → seed_at u other ≡ seed_at t other
  pub numbers : numbers_of u ≡ numbers_of t
  pub rest : LeavesModel t u

pub record SeedMakes (t : Listing) (number seed : ℕ) : Type 0 where
  pub reseeds : (old : ℕ) → seed_at t number ≡ Some old →
      ChangesTo (IsReseeded t number seed) (applied t (edits.Seed number seed))
  pub none : seed_at t number ≡ None → applied t (edits.Seed number seed) ≡ Err NoSuchReplication

-- a replication is added after the others
pub record IsAdded (t : Listing) (number seed : ℕ) (u : Listing) : Type 0 where
  pub replications : u.replications ≡ t.replications ++ record { number = number; seed = seed } ∷ []
  pub rest : LeavesModel t u

pub record ReplicateMakes (t : Listing) (number seed : ℕ) : Type 0 where
  pub adds : seed_at t number ≡ None → ChangesTo (IsAdded t number seed) (applied t (edits.Replicate number seed))
  pub twice : (old : ℕ) → seed_at t number ≡ Some old → applied t (edits.Replicate number seed) ≡ Err ReplicationTwice

-- a replication is dropped
pub record IsDropped (t : Listing) (number : ℕ) (u : Listing) : Type 0 where
  pub own : seed_at u number ≡ None
  pub others : (other : ℕ) → other ≢ number → seed_at u other ≡ seed_at t other
  pub numbers : numbers_of u ≡ filter (λ n. not (n == number)) (numbers_of t)
  pub rest : LeavesModel t u

pub record DropMakes (t : Listing) (number : ℕ) : Type 0 where
  pub drops : (old : ℕ) → seed_at t number ≡ Some old → ChangesTo (IsDropped t number) (applied t (edits.Drop number))
  pub none : seed_at t number ≡ None → applied t (edits.Drop number) ≡ Err NoSuchReplication

-- the horizon is another one
pub record HasHorizon (t : Listing) (time : ℕ) (u : Listing) : Type 0 where
  pub horizon : u.horizon ≡ time
  pub lines : u.lines ≡ t.lines
  pub replications : u.replications ≡ t.replications
  pub limit : u.limit ≡ t.limit

-- what each edit makes of a version
pub record EachEditMakes (t : Listing) : Type 0 where
  pub inserts : (place : ℕ) (text : List ℕ) → InsertMakes t place text
  pub deletes : (place : ℕ) → DeleteMakes t place
  pub changes : (place : ℕ) (text : List ℕ) → ChangeMakes t place text
  pub capacities : (name : List ℕ) (amount : ℕ) → CapacityMakes t name amount
  pub seeds : (number seed : ℕ) → SeedMakes t number seed
  pub replicates : (number seed : ℕ) → ReplicateMakes t number seed
  pub drops : (number : ℕ) → DropMakes t number
  pub horizons : (time : ℕ) → ChangesTo (HasHorizon t time) (applied t (edits.Horizon time))

abbrev pub EditsMake : Type 0
EditsMake = (t : Listing) → EachEditMakes t
