-- The table of operands: for each verb what its operands may be, and which operands a statement has. (Manual; the
-- operand table of the profile.)
use Rattle.std.specs.Prelude.{ℕ, Bool, true, false, ◌&&◌, List, [], ◌∷◌, Option, Some, None, map, option_map, slice_get, if◌then◌else◌}
use Rattle.gw_names.specs.declared.verb.BlockVerb.{BlockVerb}
use Rattle.gw_names.specs.declared.verb.BlockVerb.TheVariants as blocks
use Rattle.gw_names.specs.declared.verb.DefinitionVerb.{DefinitionVerb}
use Rattle.gw_names.specs.declared.verb.DefinitionVerb.TheVariants as definition_verbs
use Rattle.gw_names.specs.declared.verb.CommandVerb.{CommandVerb}
use Rattle.gw_names.specs.declared.verb.CommandVerb.TheVariants as command_verbs
use Rattle.gw_names.specs.declared.verb.Verb.{Verb}
use Rattle.gw_names.specs.declared.verb.Verb.TheVariants as verbs
use Rattle.gw_expr.specs.declared.atom.Atom.TheVariants as atoms
use Rattle.gw_expr.specs.Term.{Term}
use Rattle.gw_expr.specs.declared.expr.Expr.TheVariants.{Value}
use Rattle.gw_expr.specs.declared.function.Point.{Point}
use Rattle.gw_meaning.specs.declared.auxiliary.Auxiliary.{Auxiliary}
use Rattle.gw_meaning.specs.declared.auxiliary.Auxiliary.TheVariants as auxiliaries
use Rattle.gw_meaning.specs.declared.auxiliary.Condition.TheVariants as conditions
use Rattle.gw_meaning.specs.declared.statement.Definition.{Definition}
use Rattle.gw_meaning.specs.declared.statement.Definition.TheVariants as definitions
use Rattle.gw_meaning.specs.declared.statement.Command.{Command}
use Rattle.gw_meaning.specs.declared.statement.Command.TheVariants as commands
use Rattle.gw_meaning.specs.declared.statement.Body.{Body}
use Rattle.gw_meaning.specs.declared.statement.Body.TheVariants as bodies
use Rattle.gw_lines.specs.declared.form.Kind.TheVariants as kinds
use Rattle.gw_lines.specs.declared.form.Presence.{Presence}
use Rattle.gw_lines.specs.declared.form.Presence.TheVariants as presences
use Rattle.gw_lines.specs.declared.form.Form.{Form}
use Rattle.gw_lines.specs.declared.operand.Operand.{Operand}
use Rattle.gw_lines.specs.declared.operand.Operand.TheVariants as operands

-- a value, or nothing
abbrev pub a_value : Form
a_value = record { kind = kinds.Value; presence = presences.Optional }

-- a value
abbrev pub one_value : Form
one_value = record { kind = kinds.Value; presence = presences.Required }

-- a constant
abbrev pub a_constant : Form
a_constant = record { kind = kinds.Constant; presence = presences.Required }

-- an expression
abbrev pub an_expression : Form
an_expression = record { kind = kinds.Expression; presence = presences.Required }

-- a FUNCTION's type and its number of points
abbrev pub some_points : Form
some_points = record { kind = kinds.Points; presence = presences.Required }

-- how many terminations a run takes, how many units a storage has, or how wide a class of a table is
abbrev pub a_count : Form
a_count = record { kind = kinds.Whole 1000000000; presence = presences.Required }

-- how many classes a table has
abbrev pub some_classes : Form
some_classes = record { kind = kinds.Whole 1000; presence = presences.Required }

-- `NP`, or nothing
abbrev pub a_quiet : Form
a_quiet = record { kind = kinds.Quiet; presence = presences.Optional }

-- what a stream is set to, or nothing
abbrev pub a_seed : Form
a_seed = record { kind = kinds.Whole 2147483646; presence = presences.Written }

-- an entity, named or numbered
abbrev pub an_entity : Form
an_entity = record { kind = kinds.Entity; presence = presences.Required }

-- a fraction, or nothing
abbrev pub a_chance : Form
a_chance = record { kind = kinds.Fraction; presence = presences.Optional }

-- a fraction
abbrev pub a_fraction : Form
a_fraction = record { kind = kinds.Fraction; presence = presences.Required }

-- a block's label
abbrev pub a_label : Form
a_label = record { kind = kinds.Label; presence = presences.Required }

-- a block's label, or nothing
abbrev pub another_label : Form
another_label = record { kind = kinds.Label; presence = presences.Optional }

-- the name of a storage's definition
abbrev pub a_definition : Form
a_definition = record { kind = kinds.Defined; presence = presences.Required }

-- the name of a table's definition
abbrev pub a_table : Form
a_table = record { kind = kinds.Table; presence = presences.Required }

-- a queue discipline
abbrev pub an_order : Form
an_order = record { kind = kinds.Order; presence = presences.Required }

-- how many at most, or nothing
abbrev pub a_bound : Form
a_bound = record { kind = kinds.Bound; presence = presences.Optional }

-- a TRANSFER goes to a label, or, with a fraction before it, to one of two, the first of which may be absent
abbrev pub forms_of_transfer : Bool → List Form
forms_of_transfer false = a_chance ∷ a_label ∷ []
forms_of_transfer true = a_fraction ∷ another_label ∷ a_label ∷ []

-- a GATE asks a storage, or else a facility or a switch
abbrev pub asks_storage : Auxiliary → Bool
asks_storage (auxiliaries.Gate conditions.Empty) = true
asks_storage (auxiliaries.Gate conditions.NotEmpty) = true
asks_storage (auxiliaries.Gate conditions.Full) = true
asks_storage (auxiliaries.Gate conditions.NotFull) = true
asks_storage beside = false

abbrev pub forms_of_gate : Auxiliary → List Form
forms_of_gate beside = (if asks_storage beside then a_definition else an_entity) ∷ another_label ∷ []

-- the forms of each verb's operands, by what was read before: what stands beside the operands, and whether the first
-- operand is given
abbrev pub forms_of_block : BlockVerb → Auxiliary → Bool → Option (List Form)
forms_of_block blocks.Generate beside given = Some (a_value ∷ a_value ∷ a_value ∷ a_value ∷ a_value ∷ [])
forms_of_block blocks.Advance beside given = Some (a_value ∷ a_value ∷ [])
forms_of_block blocks.Terminate beside given = Some (a_value ∷ [])
forms_of_block blocks.Queue beside given = Some (an_entity ∷ a_value ∷ [])
forms_of_block blocks.Depart beside given = Some (an_entity ∷ a_value ∷ [])
forms_of_block blocks.Seize beside given = Some (an_entity ∷ [])
forms_of_block blocks.Release beside given = Some (an_entity ∷ [])
forms_of_block blocks.Enter beside given = Some (a_definition ∷ a_value ∷ [])
forms_of_block blocks.Leave beside given = Some (a_definition ∷ a_value ∷ [])
forms_of_block blocks.Transfer beside given = Some (forms_of_transfer given)
forms_of_block blocks.Test beside given = Some (one_value ∷ one_value ∷ another_label ∷ [])
forms_of_block blocks.Gate beside given = Some (forms_of_gate beside)
forms_of_block blocks.Mark beside given = Some []
forms_of_block blocks.Priority beside given = Some (one_value ∷ [])
forms_of_block blocks.Buffer beside given = Some []
forms_of_block blocks.Assign beside given = Some (an_entity ∷ one_value ∷ [])
forms_of_block blocks.Loop beside given = Some (an_entity ∷ a_label ∷ [])
forms_of_block blocks.Logic beside given = Some (an_entity ∷ [])
forms_of_block blocks.Savevalue beside given = Some (an_entity ∷ one_value ∷ [])
forms_of_block blocks.Split beside given = Some (one_value ∷ another_label ∷ [])
forms_of_block blocks.Link beside given = Some (an_entity ∷ an_order ∷ [])
forms_of_block blocks.Unlink beside given = Some (an_entity ∷ a_label ∷ a_bound ∷ [])
forms_of_block blocks.Tabulate beside given = Some (a_table ∷ [])

abbrev pub forms_of_definition : DefinitionVerb → Option (List Form)
forms_of_definition definition_verbs.Storage = Some (a_count ∷ [])
forms_of_definition definition_verbs.Equ = Some (a_constant ∷ [])
forms_of_definition definition_verbs.Variable = Some (an_expression ∷ [])
forms_of_definition definition_verbs.Function = Some (one_value ∷ some_points ∷ [])
forms_of_definition definition_verbs.Table = Some (one_value ∷ a_constant ∷ a_count ∷ some_classes ∷ [])

abbrev pub forms_of_command : CommandVerb → Option (List Form)
forms_of_command command_verbs.Start = Some (a_count ∷ a_quiet ∷ [])
forms_of_command command_verbs.Rmult = Some (a_seed ∷ a_seed ∷ a_seed ∷ a_seed ∷ a_seed ∷ a_seed ∷ a_seed ∷ [])
forms_of_command command_verbs.Reset = Some []
forms_of_command command_verbs.Clear = Some []

abbrev pub forms_of : Verb → Auxiliary → Bool → Option (List Form)
forms_of (verbs.Block verb) beside given = forms_of_block verb beside given
forms_of (verbs.Definition verb) beside given = forms_of_definition verb
forms_of (verbs.Command verb) beside given = forms_of_command verb

abbrev pub value : Option Term → Option Operand
value v = option_map (λ t. operands.Value t) v

abbrev pub whole : Option ℕ → Option Operand
whole v = option_map (λ n. operands.Whole n) v

-- the operands that a definition has: a FUNCTION's points stand after them
abbrev pub fields_of_definition : Definition → List (Option Operand)
fields_of_definition (definitions.Storage capacity) = Some (operands.Whole capacity) ∷ []
fields_of_definition (definitions.Equ z) = Some (operands.Value (Value (atoms.Constant z))) ∷ []
fields_of_definition (definitions.Variable expression) = Some (operands.Value expression) ∷ []
fields_of_definition (definitions.Function function) =
    Some (operands.Value function.argument) ∷ Some (operands.Points function.kind function.count) ∷ []
fields_of_definition (definitions.Table table) =
    Some (operands.Value table.argument) ∷ Some (operands.Value (Value (atoms.Constant table.classes.first)))
    ∷ Some (operands.Whole table.classes.width) ∷ Some (operands.Whole table.classes.count) ∷ []

-- the operands that a command has: `NP` leaves no trace
abbrev pub fields_of_command : Command → List (Option Operand)
fields_of_command (commands.Start count) = Some (operands.Whole count) ∷ None ∷ []
fields_of_command (commands.Rmult values) = map whole values
fields_of_command commands.Reset = []
fields_of_command commands.Clear = []

-- the operands that a statement has
abbrev pub fields_of : Body → List (Option Operand)
fields_of (bodies.Block block) = map value block.operands
fields_of (bodies.Definition definition) = fields_of_definition definition
fields_of (bodies.Command command) = fields_of_command command

-- the points of a FUNCTION
abbrev pub points_of : Body → List Point
points_of (bodies.Definition (definitions.Function function)) = function.points
points_of body = []

abbrev pub is_no_operand : Option (Option Operand) → Bool
is_no_operand (Some (Some operand)) = false
is_no_operand o = true

-- whether there is no operand at a place, from 0
abbrev pub is_absent : List (Option Operand) → ℕ → Bool
is_absent os n = is_no_operand (slice_get os n)

-- whether operands lack one, though none of them is required: a GENERATE has a mean or a limit
abbrev pub lacks : Verb → List (Option Operand) → Bool
lacks (verbs.Block blocks.Generate) os = is_absent os 0 && is_absent os 3
lacks verb os = false

-- whether the statement lists an operand: more says that the list goes on here
abbrev pub is_listed : Presence → Bool → Bool
is_listed presences.Written more = more
is_listed presence more = true

abbrev pub is_required : Presence → Bool
is_required presences.Required = true
is_required presence = false
