-- The first model fault of a version: the faults in their order, each by a scan of the version. (The codes M1 to M8 and
-- the limits are the product's own.)
use Rattle.std.specs.Prelude.{ℕ, Bool, true, false, not, ◌||◌, ◌&&◌, ◌==◌, ◌≡◌, List, [], ◌∷◌, Option, Some, None, is_some, if◌then◌else◌, length, nat_lt}
use Rattle.std.specs.List.{list_any}
use Rattle.gw_names.specs.declared.verb.DefinitionVerb.{DefinitionVerb}
use Rattle.gw_names.specs.declared.verb.DefinitionVerb.TheVariants as definition_verbs
use Rattle.gw_meaning.specs.Listing.{Listing, defined_in, has_label, labelled_in}
use Rattle.gw_model.specs.Listed.{counted_label}
use Rattle.gw_model.specs.Named.{holds_in}
use Rattle.gw_model.specs.declared.named.Needed.{Needed}
use Rattle.gw_model.specs.declared.named.Needed.TheVariants as needed
use Rattle.gw_meaning.specs.declared.statement.Definition.{Definition}
use Rattle.gw_meaning.specs.declared.statement.Definition.TheVariants as definitions
use Rattle.gw_meaning.specs.declared.statement.Numbered.{Numbered}
use Rattle.gw_meaning.specs.declared.statement.Replication.{Replication}
use Rattle.gw_model.specs.declared.fault.ModelFault.{ModelFault}
use Rattle.gw_model.specs.declared.fault.ModelFault.TheVariants.{TooMany, BadSeed, BadHorizon, LabelTwice, NoSuchLabel, NoSuchDefinition, EquNamedDefinition, Memory}

-- the fault's number, which a report prints after an M
abbrev pub number_of : ModelFault → ℕ
number_of TooMany = 5
number_of BadSeed = 6
number_of BadHorizon = 7
number_of LabelTwice = 1
number_of NoSuchLabel = 2
number_of NoSuchDefinition = 3
number_of EquNamedDefinition = 4
number_of Memory = 8

-- more statements or replications than a version may have
abbrev pub is_too_long : List Numbered → List Replication → Bool
is_too_long lines rs = nat_lt 2000 (length lines) || nat_lt 32 (length rs)

-- below the least or above the greatest
abbrev pub is_outside : ℕ → ℕ → ℕ → Bool
is_outside least greatest n = nat_lt n least || nat_lt greatest n

-- a seed or a number of a replication that no version may have
abbrev pub is_bad_replication : Replication → Bool
is_bad_replication r = is_outside 1 2147483646 r.seed || is_outside 1 1000000000 r.number

-- whether a replication with this number is there
abbrev pub has_number : ℕ → List Replication → Bool
has_number number rs = list_any (λ (r : Replication). r.number == number) rs

-- whether two replications have one number
abbrev pub has_number_twice : List Replication → Bool
has_number_twice [] = false
has_number_twice (r ∷ rs) = has_number r.number rs || has_number_twice rs

abbrev pub has_bad_replication : List Replication → Bool
has_bad_replication rs = list_any is_bad_replication rs || has_number_twice rs

-- a horizon or a step limit that no version may have
abbrev pub is_bad_horizon : ℕ → ℕ → Bool
is_bad_horizon horizon limit = is_outside 1 1000000000000 horizon || is_outside 1 1000000 limit

-- whether a block or a definition of these has the label
abbrev pub is_labelled : Option (List ℕ) → List Numbered → Bool
is_labelled None lines = false
is_labelled (Some name) lines = list_any (λ (line : Numbered). has_label name (counted_label line)) lines

-- whether two of the blocks and definitions have one label
abbrev pub has_label_twice : List Numbered → Bool
has_label_twice [] = false
has_label_twice (line ∷ lines) = is_labelled (counted_label line) lines || has_label_twice lines

-- whether a definition that is there has the verb
abbrev pub has_verb : DefinitionVerb → Option Definition → Bool
has_verb verb None = false
has_verb definition_verbs.Storage (Some (definitions.Storage capacity)) = true
has_verb definition_verbs.Equ (Some (definitions.Equ value)) = true
has_verb definition_verbs.Variable (Some (definitions.Variable expression)) = true
has_verb definition_verbs.Function (Some (definitions.Function function)) = true
has_verb definition_verbs.Table (Some (definitions.Table table)) = true
has_verb verb definition = false

-- no label, or one that is not among those that are known
unfoldable pub is_unknown_label : (List ℕ → Bool) → Needed → Option (List ℕ) → Bool
is_unknown_label known needed.Block None = true
is_unknown_label known needed.Block (Some name) = not (known name)
is_unknown_label known (needed.Definition verb) name = false

-- whether an operand has the label of no block
unfoldable pub has_unknown_label : List Numbered → Bool
has_unknown_label lines = list_any (holds_in (is_unknown_label (λ name. is_some (labelled_in name lines)))) lines

-- no name, or one with neither the definition that it needs nor an EQU in its place
unfoldable pub is_undefined : (List ℕ → Option Definition) → Needed → Option (List ℕ) → Bool
is_undefined definition needed.Block name = false
is_undefined definition (needed.Definition verb) None = true
is_undefined definition (needed.Definition verb) (Some name) =
    not (has_verb verb (definition name) || has_verb definition_verbs.Equ (definition name))

-- whether an operand has such a name
unfoldable pub has_unknown_definition : List Numbered → Bool
has_unknown_definition lines = list_any (holds_in (is_undefined (λ name. defined_in name lines))) lines

-- a name with an EQU in the place of the definition that it needs
unfoldable pub is_equ_named : (List ℕ → Option Definition) → Needed → Option (List ℕ) → Bool
is_equ_named definition needed.Block name = false
is_equ_named definition (needed.Definition verb) None = false
is_equ_named definition (needed.Definition verb) (Some name) =
    has_verb definition_verbs.Equ (definition name) && not (has_verb verb (definition name))

-- whether an operand has such a name
unfoldable pub has_equ_named : List Numbered → Bool
has_equ_named lines = list_any (holds_in (is_equ_named (λ name. defined_in name lines))) lines

-- the first fault of the definitions that operands name, if they have one
abbrev pub definition_fault_of : List Numbered → Option ModelFault
definition_fault_of lines =
    if has_unknown_definition lines
    then Some NoSuchDefinition
    else (if has_equ_named lines then Some EquNamedDefinition else None)

-- the first fault of the labels and of what operands name, if they have one
abbrev pub label_fault_of : List Numbered → Option ModelFault
label_fault_of lines =
    if has_label_twice lines
    then Some LabelTwice
    else (if has_unknown_label lines then Some NoSuchLabel else definition_fault_of lines)

-- the first fault of a version, if it has one
abbrev pub fault_of : Listing → Option ModelFault
fault_of t =
    if is_too_long t.lines t.replications
    then Some TooMany
    else (if has_bad_replication t.replications then Some BadSeed
    else (if is_bad_horizon t.horizon t.limit then Some BadHorizon else label_fault_of t.lines))

-- the fault is the first one, or out of memory
abbrev pub IsFault : Option ModelFault → ModelFault → Type 0
IsFault first Memory = Unit {0}
IsFault first fault = first ≡ Some fault
