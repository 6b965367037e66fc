-- Statements: their verbs, and the operands that blocks have. (Manual; the operand table of the profile.)
use Rattle.std.specs.Prelude.{ℕ, Bool, true, false, Option, None, get_or}
use Rattle.gw_names.specs.declared.verb.BlockVerb.{BlockVerb}
use Rattle.gw_names.specs.declared.verb.BlockVerb.TheVariants as blocks
use Rattle.gw_names.specs.declared.verb.DefinitionVerb.TheVariants as definition_verbs
use Rattle.gw_names.specs.declared.verb.CommandVerb.TheVariants as command_verbs
use Rattle.gw_names.specs.declared.verb.Verb.{Verb}
use Rattle.gw_names.specs.declared.verb.Verb.TheVariants as verbs
use Rattle.gw_expr.specs.Term.{Term}
use Rattle.gw_meaning.specs.declared.statement.Block.{Block}
use Rattle.gw_meaning.specs.declared.statement.Definition.{Definition}
use Rattle.gw_meaning.specs.declared.statement.Definition.TheVariants as definitions
use Rattle.gw_meaning.specs.declared.statement.Command.{Command}
use Rattle.gw_meaning.specs.declared.statement.Command.TheVariants as commands
use Rattle.gw_meaning.specs.declared.statement.Body.{Body}
use Rattle.gw_meaning.specs.declared.statement.Body.TheVariants as bodies

-- the places of a block's operands
abbrev pub A : ℕ
A = 0

abbrev pub B : ℕ
B = 1

abbrev pub C : ℕ
C = 2

abbrev pub D : ℕ
D = 3

abbrev pub E : ℕ
E = 4

-- the operand of a block at a place; those that its verb does not have are absent
abbrev pub operand : Block → ℕ → Option Term
operand block place = get_or block.operands place None

-- whether a verb makes transactions
abbrev pub is_generate_verb : BlockVerb → Bool
is_generate_verb blocks.Generate = true
is_generate_verb verb = false

-- a definition's verb
abbrev pub verb_of_definition : Definition → Verb
verb_of_definition (definitions.Storage capacity) = verbs.Definition definition_verbs.Storage
verb_of_definition (definitions.Equ value) = verbs.Definition definition_verbs.Equ
verb_of_definition (definitions.Variable expression) = verbs.Definition definition_verbs.Variable
verb_of_definition (definitions.Function function) = verbs.Definition definition_verbs.Function
verb_of_definition (definitions.Table table) = verbs.Definition definition_verbs.Table

-- a command's verb
abbrev pub verb_of_command : Command → Verb
verb_of_command (commands.Start count) = verbs.Command command_verbs.Start
verb_of_command (commands.Rmult values) = verbs.Command command_verbs.Rmult
verb_of_command commands.Reset = verbs.Command command_verbs.Reset
verb_of_command commands.Clear = verbs.Command command_verbs.Clear

-- a statement's verb
abbrev pub verb_of_body : Body → Verb
verb_of_body (bodies.Block block) = verbs.Block block.verb
verb_of_body (bodies.Definition definition) = verb_of_definition definition
verb_of_body (bodies.Command command) = verb_of_command command
