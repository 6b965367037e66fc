-- What a version may be, in the subject's own words. (Our own limits.)
use Rattle.std.specs.Prelude.{ℕ, ℤ, ◌≤◌, ◌<◌, ◌≡◌, ◌≢◌, true, List, Some, length, slice_get}
use Rattle.gw_expr.specs.Term.{Term, HasAtom}
use Rattle.gw_expr.specs.declared.expr.Expr.TheVariants.{Defined, Table, Label}
use Rattle.gw_expr.specs.declared.atom.Atom.TheVariants as atoms
use Rattle.gw_names.specs.declared.class.Class.{Class}
use Rattle.gw_names.specs.declared.verb.DefinitionVerb.{DefinitionVerb}
use Rattle.gw_names.specs.declared.verb.DefinitionVerb.TheVariants as definition_verbs
use Rattle.gw_names.specs.declared.verb.Verb.TheVariants as verbs
use Rattle.gw_expr.specs.declared.attribute.Subject.{Subject}
use Rattle.gw_expr.specs.declared.attribute.Subject.TheVariants as subjects
use Rattle.gw_meaning.specs.Listing.{Listing, operand_of, defined_in, definition_at, label_at}
use Rattle.gw_model.specs.Listed.{counted_label}
use Rattle.gw_model.specs.Named.{is_of_block, wanted_verb}
use Rattle.gw_meaning.specs.Statements.{verb_of_definition}
use Rattle.gw_meaning.specs.declared.statement.Definition.{Definition}
use Rattle.gw_meaning.specs.declared.statement.Definition.TheVariants as definitions
use Rattle.gw_meaning.specs.declared.statement.Numbered.{Numbered}
use Rattle.gw_meaning.specs.declared.statement.Replication.{Replication}

-- a replication with a seed and a number in range
pub record IsSeeded (r : Replication) : Type 0 where
  pub least_seed : 1 ≤ r.seed
  pub greatest_seed : r.seed ≤ 2147483646
  pub least_number : 1 ≤ r.number
  pub greatest_number : r.number ≤ 1000000000

-- a name is defined with a verb
abbrev pub IsDefined : List Numbered → List ℕ → DefinitionVerb → Type 0
IsDefined lines name verb = (definition : Definition) × (defined_in name lines ≡ Some definition) ×
    (verb_of_definition definition ≡ verbs.Definition verb)

-- a version that may be run
pub record Well (t : Listing) : Type 0 where
  pub statements : length t.lines ≤ 2000
  pub replications : length t.replications ≤ 32
  pub seeded : (i : ℕ) (r : Replication) → slice_get t.replications i ≡ Some r → IsSeeded r
  pub numbers_apart : (i j : ℕ) (r s : Replication) → i < j → slice_get t.replications i ≡ Some r →
      slice_get t.replications j ≡ Some s → r.number ≢ s.number
  pub least_horizon : 1 ≤ t.horizon
  pub greatest_horizon : t.horizon ≤ 1000000000000
  pub least_limit : 1 ≤ t.limit
  pub greatest_limit : t.limit ≤ 1000000
  pub labels_apart : (i j : ℕ) (k l : Numbered) (m n : List ℕ) → i < j → slice_get t.lines i ≡ Some k →
      slice_get t.lines j ≡ Some l → counted_label k ≡ Some m → counted_label l ≡ Some n → m ≢ n
  pub labels_there : (i place : ℕ) (line : Numbered) (name : List ℕ) → slice_get t.lines i ≡ Some line →
      operand_of line place ≡ Some (Label name) → (id : ℕ) × (label_at t name ≡ Some id)
  pub storages_there : (i place : ℕ) (line : Numbered) (name : List ℕ) →
      slice_get t.lines i ≡ Some line → operand_of line place ≡ Some (Defined name) →
      IsDefined t.lines name definition_verbs.Storage
  pub tables_there : (i place : ℕ) (line : Numbered) (name : List ℕ) →
      slice_get t.lines i ≡ Some line → operand_of line place ≡ Some (Table name) →
      IsDefined t.lines name definition_verbs.Table
  pub numbers_there : (i place : ℕ) (line : Numbered) (term : Term) (name : List ℕ) →
      slice_get t.lines i ≡ Some line → operand_of line place ≡ Some term →
      HasAtom term (atoms.Number name) → (value : ℤ) × (definition_at t name ≡ Some (definitions.Equ value))
  pub counts_there :
      (i place : ℕ) (line : Numbered) (term : Term) (class : Class) (of : Subject) →
      slice_get t.lines i ≡ Some line → operand_of line place ≡ Some term →
      HasAtom term (atoms.Attribute class of) → is_of_block class ≡ true →
      (name : List ℕ) × (of ≡ subjects.Name name) × (id : ℕ) × (label_at t name ≡ Some id)
  pub definitions_there :
      (i place : ℕ) (line : Numbered) (term : Term) (class : Class) (of : Subject) (verb : DefinitionVerb) →
      slice_get t.lines i ≡ Some line → operand_of line place ≡ Some term →
      HasAtom term (atoms.Attribute class of) → wanted_verb class ≡ Some verb →
      (name : List ℕ) × (of ≡ subjects.Name name) × IsDefined t.lines name verb
