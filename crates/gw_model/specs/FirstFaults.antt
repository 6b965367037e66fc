-- The first model fault of a version: what each fault says of it, in plain words, and that none which comes before holds.
-- (The faults, their order and the limits are the product's own.)
use Rattle.std.specs.Prelude.{ℕ, ℤ, ◌<◌, ◌≡◌, ◌≢◌, ◌⊎◌, true, List, [], ◌∷◌, Option, Some, None, length, slice_get}
use Rattle.gw_names.specs.declared.class.Class.{Class}
use Rattle.gw_names.specs.declared.verb.DefinitionVerb.{DefinitionVerb}
use Rattle.gw_names.specs.declared.verb.DefinitionVerb.TheVariants as definition_verbs
use Rattle.gw_names.specs.declared.verb.Verb.{Verb}
use Rattle.gw_names.specs.declared.verb.Verb.TheVariants as verbs
use Rattle.gw_expr.specs.declared.atom.Atom.TheVariants as atoms
use Rattle.gw_expr.specs.declared.attribute.Subject.{Subject}
use Rattle.gw_expr.specs.Term.{Term, HasAtom}
use Rattle.gw_expr.specs.declared.expr.Expr.TheVariants.{Defined, Table, Label}
use Rattle.gw_meaning.specs.Listing.{Listing, operand_of, definition_at, label_at}
use Rattle.gw_meaning.specs.Statements.{verb_of_definition}
use Rattle.gw_meaning.specs.declared.statement.Definition.{Definition}
use Rattle.gw_meaning.specs.declared.statement.Definition.TheVariants as definitions
use Rattle.gw_meaning.specs.declared.statement.Numbered.{Numbered}
use Rattle.gw_meaning.specs.declared.statement.Replication.{Replication}
use Rattle.gw_model.specs.declared.fault.ModelFault.{ModelFault}
use Rattle.gw_model.specs.declared.fault.ModelFault.TheVariants.{TooMany, BadSeed, BadHorizon, LabelTwice, NoSuchLabel, NoSuchDefinition, EquNamedDefinition}
use Rattle.gw_model.specs.Listed.{counted_label}
use Rattle.gw_model.specs.Named.{is_of_block, name_in, wanted_verb}
use Rattle.gw_model.specs.Faults.{fault_of}

-- an operand of a block, the expression of a VARIABLE, or the argument of a FUNCTION or of a TABLE
pub record HasOperand (t : Listing) (term : Term) : Type 0 where
  pub index : ℕ
  pub place : ℕ
  pub line : Numbered
  pub is_line : slice_get t.lines index ≡ Some line
  pub is_operand : operand_of line place ≡ Some term

-- out of a range
abbrev pub IsOutside : ℕ → ℕ → ℕ → Type 0
IsOutside least greatest n = (n < least) ⊎ (greatest < n)

-- an operand that is a label, or counts the block with a label: its name, where it has one
pub data NamesLabel : Term → Option (List ℕ) → Type 0 where
  goes_to : (name : List ℕ) → NamesLabel (Label name) (Some name)
  counts : (term : Term) (class : Class) (of : Subject) → HasAtom term (atoms.Attribute class of)
      → is_of_block class ≡ true → NamesLabel term (name_in of)

-- no block has the label
abbrev pub IsNoLabel : Listing → Option (List ℕ) → Type 0
IsNoLabel t None = Unit {0}
IsNoLabel t (Some name) = label_at t name ≡ None

-- an operand with a name that needs a definition with this verb: a storage, a TABLE, a number, or what an attribute is
-- of
pub data NamesDefinition : Term → Verb → Option (List ℕ) → Type 0 where
  uses : (name : List ℕ) → NamesDefinition (Defined name) (verbs.Definition definition_verbs.Storage) (Some name)
  tabulates : (name : List ℕ) → NamesDefinition (Table name) (verbs.Definition definition_verbs.Table) (Some name)
  stands_for : (term : Term) (name : List ℕ) → HasAtom term (atoms.Number name)
      → NamesDefinition term (verbs.Definition definition_verbs.Equ) (Some name)
  asks_of : (term : Term) (class : Class) (of : Subject) (verb : DefinitionVerb)
      → HasAtom term (atoms.Attribute class of) → wanted_verb class ≡ Some verb
      → NamesDefinition term (verbs.Definition verb) (name_in of)

-- a definition is none with this verb, and no EQU in the place of one
abbrev pub IsNeither : Verb → Option Definition → Type 0
IsNeither verb None = Unit {0}
IsNeither verb (Some definition) =
    (verb_of_definition definition ≢ verb) × (verb_of_definition definition ≢ verbs.Definition definition_verbs.Equ)

-- nothing with this verb, and no EQU, has the name
abbrev pub IsNoDefinition : Listing → Verb → Option (List ℕ) → Type 0
IsNoDefinition t verb None = Unit {0}
IsNoDefinition t verb (Some name) = IsNeither verb (definition_at t name)

-- a version has a fault
pub data HasFault : Listing → ModelFault → Type 0 where
  many_statements : (t : Listing) → 2000 < length t.lines → HasFault t TooMany
  many_replications : (t : Listing) → 32 < length t.replications → HasFault t TooMany
  bad_seed : (t : Listing) (i : ℕ) (r : Replication) → slice_get t.replications i ≡ Some r
      → IsOutside 1 2147483646 r.seed → HasFault t BadSeed
  bad_number : (t : Listing) (i : ℕ) (r : Replication) → slice_get t.replications i ≡ Some r
      → IsOutside 1 1000000000 r.number → HasFault t BadSeed
  number_twice : (t : Listing) (i j : ℕ) (r s : Replication) → i < j → slice_get t.replications i ≡ Some r
      → slice_get t.replications j ≡ Some s → r.number ≡ s.number → HasFault t BadSeed
  bad_horizon : (t : Listing) → IsOutside 1 1000000000000 t.horizon → HasFault t BadHorizon
  bad_limit : (t : Listing) → IsOutside 1 1000000 t.limit → HasFault t BadHorizon
  label_twice : (t : Listing) (i j : ℕ) (k l : Numbered) (name : List ℕ) → i < j → slice_get t.lines i ≡ Some k
      → slice_get t.lines j ≡ Some l → counted_label k ≡ Some name → counted_label l ≡ Some name
      → HasFault t LabelTwice
  no_label : (t : Listing) (term : Term) (name : Option (List ℕ)) → HasOperand t term → NamesLabel term name
      → IsNoLabel t name → HasFault t NoSuchLabel
  no_definition : (t : Listing) (term : Term) (verb : Verb) (name : Option (List ℕ)) → HasOperand t term
      → NamesDefinition term verb name → IsNoDefinition t verb name → HasFault t NoSuchDefinition
  equ_named : (t : Listing) (term : Term) (verb : Verb) (name : List ℕ) (value : ℤ) → HasOperand t term
      → NamesDefinition term verb (Some name) → verb ≢ verbs.Definition definition_verbs.Equ
      → definition_at t name ≡ Some (definitions.Equ value) → HasFault t EquNamedDefinition

-- the faults, in their order
abbrev pub in_order : List ModelFault
in_order =
    TooMany ∷ BadSeed ∷ BadHorizon ∷ LabelTwice ∷ NoSuchLabel ∷ NoSuchDefinition ∷ EquNamedDefinition ∷ []

-- the first of some faults that a version has
pub data FirstOf : Listing → List ModelFault → ModelFault → Type 0 where
  is_there : (t : Listing) (f : ModelFault) (fs : List ModelFault) → HasFault t f → FirstOf t (f ∷ fs) f
  is_later : (t : Listing) (e : ModelFault) (fs : List ModelFault) (f : ModelFault) → (HasFault t e → ⊥)
      → FirstOf t fs f → FirstOf t (e ∷ fs) f

abbrev pub FirstFault : Listing → ModelFault → Type 0
FirstFault t f = FirstOf t in_order f

-- the fault that is found is the first one, and the first one is found
abbrev pub FoundAreFirst : Type 0
FoundAreFirst = (t : Listing) (f : ModelFault) → fault_of t ≡ Some f → FirstFault t f

abbrev pub FirstAreFound : Type 0
FirstAreFound = (t : Listing) (f : ModelFault) → FirstFault t f → fault_of t ≡ Some f

-- where none is found, there is none
abbrev pub NoneAreLeft : Type 0
NoneAreLeft = (t : Listing) (f : ModelFault) → fault_of t ≡ None → HasFault t f → ⊥
