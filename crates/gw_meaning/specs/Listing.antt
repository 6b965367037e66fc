-- What a version says: its statements in order with ids of their own, the horizon, the replications and the
-- step limit; and what it answers when it is asked for a block, a command, a label or a definition. (Manual: blocks and
-- commands in order. Our own: statement ids, replications and the step limit.)
use Rattle.std.specs.Prelude.{ℕ, ℤ, zero, suc, ◌+◌, Bool, true, false, ◌==◌, ◌&&◌, List, [], ◌∷◌, Option, Some, None, is_some, if◌then◌else◌, option_and_then, option_map, filter, length, unwrap_or, slice_get, get_or}
use Rattle.std.specs.List.{filter_map}
use Rattle.std.specs.Str.{bytes_eq}
use Rattle.gw_expr.specs.Term.{Term}
use Rattle.gw_expr.specs.declared.function.Function.{Function}
use Rattle.gw_meaning.specs.declared.statement.Block.{Block}
use Rattle.gw_meaning.specs.declared.statement.Definition.{Definition}
use Rattle.gw_meaning.specs.declared.statement.Definition.TheVariants as definitions
use Rattle.gw_meaning.specs.declared.statement.Command.{Command}
use Rattle.gw_meaning.specs.declared.statement.Command.TheVariants as commands
use Rattle.gw_meaning.specs.declared.statement.Body.{Body}
use Rattle.gw_meaning.specs.declared.statement.Body.TheVariants as bodies
use Rattle.gw_meaning.specs.declared.statement.Statement.{Statement}
use Rattle.gw_meaning.specs.declared.statement.Numbered.{Numbered}
use Rattle.gw_meaning.specs.declared.statement.Replication.{Replication}
use Rattle.gw_meaning.specs.Statements.{is_generate_verb}

-- a version
pub record Listing : Type 0 where
  pub lines : List Numbered
  pub horizon : ℕ
  pub replications : List Replication
  pub limit : ℕ

-- the block that a statement is, if it is one
abbrev pub block_of_body : Body → Option Block
block_of_body (bodies.Block block) = Some block
block_of_body (bodies.Definition definition) = None
block_of_body (bodies.Command command) = None

abbrev pub block_of : Numbered → Option Block
block_of line = block_of_body line.statement.body

abbrev pub is_block : Numbered → Bool
is_block line = is_some (block_of line)

-- the definition that a statement is, if it is one
abbrev pub definition_of_body : Body → Option Definition
definition_of_body (bodies.Block block) = None
definition_of_body (bodies.Definition definition) = Some definition
definition_of_body (bodies.Command command) = None

abbrev pub definition_of : Numbered → Option Definition
definition_of line = definition_of_body line.statement.body

-- the command that a statement is, if it is one
abbrev pub command_of_body : Body → Option Command
command_of_body (bodies.Block block) = None
command_of_body (bodies.Definition definition) = None
command_of_body (bodies.Command command) = Some command

abbrev pub command_of : Numbered → Option Command
command_of line = command_of_body line.statement.body

abbrev pub is_command : Numbered → Bool
is_command line = is_some (command_of line)

-- what a definition evaluates: the expression of a VARIABLE, or the argument of a FUNCTION or of a TABLE
abbrev pub operand_of_definition : Definition → Option Term
operand_of_definition (definitions.Variable expression) = Some expression
operand_of_definition (definitions.Function function) = Some function.argument
operand_of_definition (definitions.Table table) = Some table.argument
operand_of_definition (definitions.Storage capacity) = None
operand_of_definition (definitions.Equ value) = None

-- the operands of a statement that are evaluated: those of a block, and that of a definition
abbrev pub operands_of_body : Body → List (Option Term)
operands_of_body (bodies.Block block) = block.operands
operands_of_body (bodies.Definition definition) = operand_of_definition definition ∷ []
operands_of_body (bodies.Command command) = []

abbrev pub operands_of : Numbered → List (Option Term)
operands_of line = operands_of_body line.statement.body

-- the one at a place, from 0; a place that it does not have is free
abbrev pub operand_of : Numbered → ℕ → Option Term
operand_of line place = get_or (operands_of line) place None

-- whether a statement is a GENERATE
abbrev pub is_generate_body : Body → Bool
is_generate_body (bodies.Block block) = is_generate_verb block.verb
is_generate_body (bodies.Definition definition) = false
is_generate_body (bodies.Command command) = false

abbrev pub is_generate : Numbered → Bool
is_generate line = is_generate_body line.statement.body

-- the statement with this number
abbrev pub line_in : List Numbered → ℕ → Option Numbered
line_in [] number = None
line_in (line ∷ lines) number = if line.number == number then Some line else line_in lines number

-- the number of the first block
abbrev pub first_block : List Numbered → Option ℕ
first_block [] = None
first_block (line ∷ lines) = if is_block line then Some line.number else first_block lines

-- the number of the block after the block with this number
abbrev pub after_in : List Numbered → ℕ → Option ℕ
after_in [] number = None
after_in (line ∷ lines) number =
    if line.number == number then (if is_block line then first_block lines else None) else after_in lines number

-- the position among the blocks, after `before` of them, of the block with this number
abbrev pub position_in : ℕ → List Numbered → ℕ → Option ℕ
position_in before [] number = None
position_in before (line ∷ lines) number =
    if line.number == number then (if is_block line then Some (before + 1) else None)
    else position_in (if is_block line then before + 1 else before) lines number

-- whether a statement has this label
abbrev pub has_label : List ℕ → Option (List ℕ) → Bool
has_label name None = false
has_label name (Some label) = bytes_eq label name

-- the number of the block with this label
abbrev pub labelled_in : List ℕ → List Numbered → Option ℕ
labelled_in name [] = None
labelled_in name (line ∷ lines) =
    if is_block line && has_label name line.statement.label then Some line.number else labelled_in name lines

-- the definition of a name that a statement is, if it is one
abbrev pub definition_if : Bool → Option Definition → Option Definition
definition_if named definition = if named then definition else None

abbrev pub defines : List ℕ → Numbered → Option Definition
defines name line = definition_if (has_label name line.statement.label) (definition_of line)

-- the one of two that is there, the first before the second
abbrev pub or_next : {X : Type 0} → Option X → Option X → Option X
or_next None next = next
or_next (Some x) next = Some x

-- the definition of a name
abbrev pub defined_in : List ℕ → List Numbered → Option Definition
defined_in name [] = None
defined_in name (line ∷ lines) = or_next (defines name line) (defined_in name lines)

-- how many units a definition gives a storage, and which number it gives a name
abbrev pub units_of : Option Definition → Option ℕ
units_of (Some (definitions.Storage capacity)) = Some capacity
units_of definition = None

abbrev pub number_of : Option Definition → Option ℤ
number_of (Some (definitions.Equ value)) = Some value
number_of definition = None

-- the first that statements say
abbrev pub first_said : {X : Type 0} → (Numbered → Option X) → List Numbered → Option X
first_said says [] = None
first_said says (line ∷ lines) = or_next (says line) (first_said says lines)

-- the units of the storage of a name, and the number that a name stands for
abbrev pub capacity_in : List ℕ → List Numbered → Option ℕ
capacity_in name = first_said (λ line. units_of (defines name line))

abbrev pub number_in : List ℕ → List Numbered → Option ℤ
number_in name = first_said (λ line. number_of (defines name line))

-- the numbers of the GENERATEs, in order
abbrev pub generates_in : List Numbered → List ℕ
generates_in [] = []
generates_in (line ∷ lines) = if is_generate line then line.number ∷ generates_in lines else generates_in lines

-- the i-th, from 1
abbrev pub nth : {X : Type 0} → List X → ℕ → Option X
nth xs zero = None
nth xs (suc i) = slice_get xs i

-- what a version answers: the block with a number
abbrev pub block_at : Listing → ℕ → Option Block
block_at t number = option_and_then block_of (line_in t.lines number)

-- the number of the block after the block with a number
abbrev pub after_at : Listing → ℕ → Option ℕ
after_at t number = after_in t.lines number

-- the position of the block with a number, from 1
abbrev pub position_at : Listing → ℕ → Option ℕ
position_at t number = position_in 0 t.lines number

-- the number of the block with a label
abbrev pub label_at : Listing → List ℕ → Option ℕ
label_at t name = labelled_in name t.lines

-- the definition of a name
abbrev pub definition_at : Listing → List ℕ → Option Definition
definition_at t name = defined_in name t.lines

-- how many units the storage of a name has, and none where there is no such storage
abbrev pub capacity_at : Listing → List ℕ → ℕ
capacity_at t name = unwrap_or (capacity_in name t.lines) 0

-- the number that a name stands for, where it stands for one
abbrev pub number_at : Listing → List ℕ → Option ℤ
number_at t name = number_in name t.lines

-- the expression of a VARIABLE, and that of the VARIABLE of a name, where there is one
abbrev pub expression_of : Option Definition → Option Term
expression_of (Some (definitions.Variable expression)) = Some expression
expression_of definition = None

abbrev pub variable_at : Listing → List ℕ → Option Term
variable_at t name = first_said (λ line. expression_of (defines name line)) t.lines

-- what a FUNCTION is, and the FUNCTION of a name, where there is one
abbrev pub function_of : Option Definition → Option Function
function_of (Some (definitions.Function function)) = Some function
function_of definition = None

abbrev pub function_at : Listing → List ℕ → Option Function
function_at t name = first_said (λ line. function_of (defines name line)) t.lines

-- what a TABLE evaluates for each value, and that of the TABLE of a name, where there is one
abbrev pub argument_of : Option Definition → Option Term
argument_of (Some (definitions.Table table)) = Some table.argument
argument_of definition = None

abbrev pub argument_at : Listing → List ℕ → Option Term
argument_at t name = first_said (λ line. argument_of (defines name line)) t.lines

-- the i-th statement
abbrev pub statement_at : Listing → ℕ → Option Statement
statement_at t i = option_map (λ (l : Numbered). l.statement) (nth t.lines i)

-- the i-th command
abbrev pub command_at : Listing → ℕ → Option Command
command_at t i = nth (filter_map command_of t.lines) i

-- the i-th replication, in the order of adding
abbrev pub replication_at : Listing → ℕ → Option Replication
replication_at t i = nth t.replications i

-- the seed of the replication with a number
abbrev pub seed_in : List Replication → ℕ → Option ℕ
seed_in [] number = None
seed_in (r ∷ rs) number = if r.number == number then Some r.seed else seed_in rs number

abbrev pub seed_at : Listing → ℕ → Option ℕ
seed_at t number = seed_in t.replications number

-- whether a command is a START
abbrev pub is_start : Command → Bool
is_start (commands.Start count) = true
is_start command = false

-- how many STARTs there are
abbrev pub starts : Listing → ℕ
starts t = length (filter is_start (filter_map command_of t.lines))
