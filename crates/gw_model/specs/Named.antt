-- What the operands of a statement name: the labels of blocks, and what must be defined with a verb. (Manual: names, and
-- what each attribute is of.)
use Rattle.std.specs.Prelude.{ℕ, Bool, true, false, List, Option, Some, None}
use Rattle.std.specs.List.{list_any}
use Rattle.gw_names.specs.declared.class.Class.{Class}
use Rattle.gw_names.specs.declared.class.Class.TheVariants as class
use Rattle.gw_names.specs.declared.verb.DefinitionVerb.{DefinitionVerb}
use Rattle.gw_names.specs.declared.verb.DefinitionVerb.TheVariants as definition_verbs
use Rattle.gw_expr.specs.declared.attribute.Subject.{Subject}
use Rattle.gw_expr.specs.declared.attribute.Subject.TheVariants as subjects
use Rattle.gw_expr.specs.declared.atom.Atom.{Atom}
use Rattle.gw_expr.specs.declared.atom.Atom.TheVariants as atoms
use Rattle.gw_expr.specs.declared.expr.Expr.TheVariants.{Defined, Table, Label}
use Rattle.gw_expr.specs.Term.{Term, holds_of_atom}
use Rattle.gw_meaning.specs.Listing.{operands_of}
use Rattle.gw_meaning.specs.declared.statement.Numbered.{Numbered}
use Rattle.gw_model.specs.declared.named.Needed.{Needed}
use Rattle.gw_model.specs.declared.named.Needed.TheVariants.{Block, Definition}

-- whether the attributes of a class are of a block
abbrev pub is_of_block : Class → Bool
is_of_block class.N = true
is_of_block class.W = true
is_of_block class = false

-- the verb of the definitions that the attributes of a class are of, if they are of definitions
abbrev pub wanted_verb : Class → Option DefinitionVerb
wanted_verb class.S = Some definition_verbs.Storage
wanted_verb class.R = Some definition_verbs.Storage
wanted_verb class.Sc = Some definition_verbs.Storage
wanted_verb class.Sm = Some definition_verbs.Storage
wanted_verb class.Tc = Some definition_verbs.Table
wanted_verb class.V = Some definition_verbs.Variable
wanted_verb class.Fn = Some definition_verbs.Function
wanted_verb class = None

-- what is needed of attributes that are of a block, or else of definitions of this verb
abbrev pub needed_with : Bool → Option DefinitionVerb → Option Needed
needed_with true verb = Some Block
needed_with false None = None
needed_with false (Some verb) = Some (Definition verb)

-- what the attributes of a class are of, where that must be there
abbrev pub needed_in : Class → Option Needed
needed_in class = needed_with (is_of_block class) (wanted_verb class)

-- the name of what an attribute is of, where it has one
abbrev pub name_in : Subject → Option (List ℕ)
name_in (subjects.Name name) = Some name
name_in of = None

-- whether a test holds of what an attribute is of
abbrev pub holds_of_needed : (Needed → Option (List ℕ) → Bool) → Option Needed → Subject → Bool
holds_of_needed test None of = false
holds_of_needed test (Some needed) of = test needed (name_in of)

-- whether it holds of what a value names
abbrev pub holds_of_value : (Needed → Option (List ℕ) → Bool) → Atom → Bool
holds_of_value test (atoms.Constant value) = false
holds_of_value test (atoms.Number name) = test (Definition definition_verbs.Equ) (Some name)
holds_of_value test (atoms.Attribute class of) = holds_of_needed test (needed_in class) of

-- whether it holds of something that an operand names
abbrev pub holds_of_term : (Needed → Option (List ℕ) → Bool) → Term → Bool
holds_of_term test (Label name) = test Block (Some name)
holds_of_term test (Defined name) = test (Definition definition_verbs.Storage) (Some name)
holds_of_term test (Table name) = test (Definition definition_verbs.Table) (Some name)
holds_of_term test term = holds_of_atom (holds_of_value test) term

abbrev pub holds_of : (Needed → Option (List ℕ) → Bool) → Option Term → Bool
holds_of test None = false
holds_of test (Some term) = holds_of_term test term

-- whether it holds of something that an operand of a block names, the expression of a VARIABLE, or the argument of a
-- FUNCTION or of a TABLE
abbrev pub holds_in : (Needed → Option (List ℕ) → Bool) → Numbered → Bool
holds_in test line = list_any (holds_of test) (operands_of line)
