-- The body of a statement as it is made of the operands that were read. (Manual; the operand table of the profile.)
use Rattle.std.specs.Prelude.{ℕ, ℤ, Bool, List, [], ◌∷◌, Option, Some, None, Result, Ok, Err, if◌then◌else◌, map}
use Rattle.gw_names.specs.declared.verb.DefinitionVerb.{DefinitionVerb}
use Rattle.gw_names.specs.declared.verb.DefinitionVerb.TheVariants as definition_verbs
use Rattle.gw_names.specs.declared.verb.CommandVerb.{CommandVerb}
use Rattle.gw_names.specs.declared.verb.CommandVerb.TheVariants as command_verbs
use Rattle.gw_names.specs.declared.verb.Verb.{Verb}
use Rattle.gw_names.specs.declared.verb.Verb.TheVariants as verbs
use Rattle.gw_expr.specs.Term.{Term}
use Rattle.gw_expr.specs.declared.function.FunctionType.{FunctionType}
use Rattle.gw_meaning.specs.Classes.{Scale}
use Rattle.gw_meaning.specs.declared.statement.Definition.TheVariants as definitions
use Rattle.gw_meaning.specs.declared.statement.Command.TheVariants as commands
use Rattle.gw_meaning.specs.declared.auxiliary.Auxiliary.{Auxiliary}
use Rattle.gw_meaning.specs.declared.statement.Body.{Body}
use Rattle.gw_meaning.specs.declared.statement.Body.TheVariants as bodies
use Rattle.gw_lines.specs.declared.fault.LineFault.{LineFault}
use Rattle.gw_lines.specs.declared.fault.LineFault.TheVariants as faults
use Rattle.gw_lines.specs.declared.form.Form.{Form}
use Rattle.gw_lines.specs.declared.operand.Operand.{Operand}
use Rattle.gw_lines.specs.Reading.{◌>>=◌}
use Rattle.gw_lines.specs.Forms.{forms_of, lacks}
use Rattle.gw_lines.specs.Fields.{value_in, whole_in, points_in, constant_in, place, classes_in}
use Rattle.gw_lines.specs.Operands.{operands_of}
use Rattle.gw_lines.specs.Parts.{is_given, others_of}
use Rattle.gw_lines.specs.Auxiliaries.{auxiliary_of, bare_parts}

abbrev pub storage_with : Option ℕ → Option Body
storage_with None = None
storage_with (Some capacity) = Some (bodies.Definition (definitions.Storage capacity))

abbrev pub equ_with : Option ℤ → Option Body
equ_with None = None
equ_with (Some z) = Some (bodies.Definition (definitions.Equ z))

abbrev pub variable_with : Option Term → Option Body
variable_with None = None
variable_with (Some expression) = Some (bodies.Definition (definitions.Variable expression))

abbrev pub function_with : Option Term → Option (FunctionType × ℕ) → Option Body
function_with None points = None
function_with (Some argument) None = None
function_with (Some argument) (Some (kind, count)) =
    Some (bodies.Definition (definitions.Function (record {
      argument = argument;
      kind = kind;
      count = count;
      points = [];
    })))

abbrev pub table_with : Option Term → Option Scale → Option Body
table_with None classes = None
table_with (Some argument) None = None
table_with (Some argument) (Some classes) =
    Some (bodies.Definition (definitions.Table (record { argument = argument; classes = classes })))

-- the definition of a verb with these operands; no point of a FUNCTION was read
abbrev pub definition_with : DefinitionVerb → List (Option Operand) → Option Body
definition_with definition_verbs.Storage os = storage_with (whole_in (place os 0))
definition_with definition_verbs.Equ os = equ_with (constant_in (place os 0))
definition_with definition_verbs.Variable os = variable_with (value_in (place os 0))
definition_with definition_verbs.Function os = function_with (value_in (place os 0)) (points_in (place os 1))
definition_with definition_verbs.Table os = table_with (value_in (place os 0)) (classes_in (others_of os))

abbrev pub start_with : Option ℕ → Option Body
start_with None = None
start_with (Some count) = Some (bodies.Command (commands.Start count))

-- the command of a verb with these operands
abbrev pub command_with : CommandVerb → List (Option Operand) → Option Body
command_with command_verbs.Start os = start_with (whole_in (place os 0))
command_with command_verbs.Rmult os = Some (bodies.Command (commands.Rmult (map whole_in os)))
command_with command_verbs.Reset os = Some (bodies.Command commands.Reset)
command_with command_verbs.Clear os = Some (bodies.Command commands.Clear)

-- the statement of a verb with these operands, and with what stands beside them, which a block alone has
unfoldable pub body_with : Verb → Auxiliary → List (Option Operand) → Option Body
body_with (verbs.Block verb) auxiliary os =
    Some (bodies.Block (record { verb = verb; auxiliary = auxiliary; operands = map value_in os }))
body_with (verbs.Definition verb) auxiliary os = definition_with verb os
body_with (verbs.Command verb) auxiliary os = command_with verb os

abbrev pub or_unknown : Option Body → Result Body LineFault
or_unknown None = Err faults.UnknownVerb
or_unknown (Some body) = Ok body

-- what a verb's operands are to have besides their forms
abbrev pub enough : Bool → Result (Unit {0}) LineFault
enough lacks = if lacks then Err (faults.MissingOperand 1) else Ok tt

-- the body that parts of these forms are
unfoldable pub in_forms : Verb → Auxiliary → List Form → List (List ℕ) → Result Body LineFault
in_forms verb auxiliary forms parts = do
  os ← operands_of verb forms parts
  given ← enough (lacks verb os)
  or_unknown (body_with verb auxiliary os)

abbrev pub by_forms : Verb → Auxiliary → Option (List Form) → List (List ℕ) → Result Body LineFault
by_forms verb auxiliary None parts = Err faults.UnknownVerb
by_forms verb auxiliary (Some forms) parts = in_forms verb auxiliary forms parts

-- the fault of a text in which no operator of the verb stands: it is operand 0
abbrev pub operator_fault : List ℕ → LineFault
operator_fault [] = faults.MissingOperand 0
operator_fault (b ∷ bs) = faults.BadOperand 0

abbrev pub or_operator_fault : List ℕ → Option Auxiliary → Result Auxiliary LineFault
or_operator_fault text None = Err (operator_fault text)
or_operator_fault text (Some auxiliary) = Ok auxiliary

-- what stands beside the operands of a verb
abbrev pub read_auxiliary : Verb → List ℕ → Result Auxiliary LineFault
read_auxiliary verb text = or_operator_fault text (auxiliary_of verb text)

-- the body that a text is after a verb: its operator or its sign is taken off before the operands are read
unfoldable pub body_of : Verb → List ℕ → Result Body LineFault
body_of verb text = do
  auxiliary ← read_auxiliary verb text
  by_forms verb auxiliary (forms_of verb auxiliary (is_given (bare_parts verb text))) (bare_parts verb text)
