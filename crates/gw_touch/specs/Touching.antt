-- What an edit touches: a list of probes, each of items that the edited version may answer in another way than the
-- version before. (Our own.)
use Rattle.std.specs.Prelude.{ℕ, ℤ, ◌+◌, ◌-◌, Bool, ◌==◌, true, false, ◌&&◌, ◌||◌, List, [], ◌∷◌, ◌++◌, Option, Some, None, not, if◌then◌else◌, length, filter, take, min}
use Rattle.std.specs.List.{list_any, filter_map}
use Rattle.gw_meaning.specs.declared.item.Item.{Item}
use Rattle.gw_meaning.specs.declared.item.Item.TheVariants.{After, Generates, Seed, Within}
use Rattle.gw_meaning.specs.declared.item.Asked.TheVariants as asking
use Rattle.gw_meaning.specs.declared.item.Item.TheVariants as items
use Rattle.std.specs.Ordering.{int_eq}
use Rattle.std.specs.Str.{bytes_eq}
use Rattle.gw_expr.specs.declared.function.Function.{Function}
use Rattle.gw_meaning.specs.declared.statement.Definition.{Definition}
use Rattle.gw_meaning.specs.declared.statement.Definition.TheVariants as definitions
use Rattle.gw_meaning.specs.declared.statement.Statement.{Statement}
use Rattle.gw_meaning.specs.declared.statement.Numbered.{Numbered}
use Rattle.gw_meaning.specs.Listing.{Listing, is_block, is_command, is_generate, defines, definition_of, seed_at, nth}
use Rattle.gw_meaning.specs.Reads.{is_use, is_command_use}
use Rattle.gw_meaning.specs.declared.edit.Edit.{Edit}
use Rattle.gw_meaning.specs.declared.edit.Edit.TheVariants as edits
use Rattle.gw_touch.specs.declared.touch.Probe.{Probe}
use Rattle.gw_touch.specs.declared.touch.Probe.TheVariants.{One, CommandsFrom, Beyond, Amounts}
use Rattle.gw_uses.specs.Asks.{is_ask}
use Rattle.gw_expr.specs.Term.{Term}
use Rattle.gw_touch.specs.Same.{same_statement, same_label, same_term, same_function, same_first}

-- whether a probe is of an item: of that one, of a command from the first one on, of a later time than the last one, of
-- an amount that two capacities answer in two ways, or the capacity itself
abbrev pub is_probed : Probe → Item → Bool
is_probed (One item) i = is_use item i
is_probed (CommandsFrom first) i = is_command_use first i
is_probed (Beyond last) i = is_use (Within last) i
is_probed (Amounts name from to) i = is_ask name from to i

-- whether an item is touched: one of the probes is of it
abbrev pub is_touched : List Probe → Item → Bool
is_touched probes i = list_any (λ probe. is_probed probe i) probes

-- the number of the last block of these lines, and of the lines in front of a place
abbrev pub last_block : Option ℕ → List Numbered → Option ℕ
last_block last [] = last
last_block last (line ∷ lines) = last_block (if is_block line then Some line.number else last) lines

abbrev pub lines_before : Listing → ℕ → List Numbered
lines_before t place = take (place - 1) t.lines

abbrev pub block_before : Listing → ℕ → Option ℕ
block_before t place = last_block None (lines_before t place)

-- which command the first one from a place on is
abbrev pub command_from : Listing → ℕ → ℕ
command_from t place = length (filter is_command (lines_before t place)) + 1

-- the place of the statement that defines the storage of a name, where the first of these has the place n
abbrev pub is_capacity : Option Definition → Bool
is_capacity (Some (definitions.Storage capacity)) = true
is_capacity definition = false

abbrev pub storage_in : List ℕ → ℕ → List Numbered → Option ℕ
storage_in name n [] = None
storage_in name n (line ∷ lines) = if is_capacity (defines name line) then Some n else storage_in name (n + 1) lines

abbrev pub storage_place : List ℕ → Listing → Option ℕ
storage_place name t = storage_in name 1 t.lines

-- the probes of a list of slots, of which some may be empty
abbrev pub given : List (Option Probe) → List Probe
given slots = filter_map (λ slot. slot) slots

-- an item, where it is wanted; what comes after a block, where there is one
abbrev pub one_if : Bool → Item → Option Probe
one_if wanted item = if wanted then Some (One item) else None

abbrev pub behind : Option ℕ → Option Probe
behind None = None
behind (Some number) = Some (One (After number))

-- the label of a statement, where it has one and it is wanted
abbrev pub label_if : Bool → Option (List ℕ) → Option Probe
label_if wanted None = None
label_if wanted (Some name) = one_if wanted (items.Named asking.Label name)

-- a block that is inserted or deleted: what comes after the block in front of it, itself and what comes after itself,
-- the list of GENERATEs where it is one, and its label. (Where it is inserted, the version before had no block with its
-- number, so that no step of a recorded run can have read the two of its own; they stand here since the versions answer
-- them in two ways.)
abbrev pub block_slots : Option ℕ → Numbered → List (Option Probe)
block_slots front line =
    behind front ∷ Some (One (items.Block line.number)) ∷ Some (One (After line.number))
    ∷ one_if (is_generate line) Generates ∷ label_if true line.statement.label ∷ []

abbrev pub block_probes : Listing → ℕ → Numbered → List Probe
block_probes t place line = given (block_slots (block_before t place) line)

-- a definition that is inserted or deleted touches what is asked of its name: of a STORAGE each amount and the
-- capacity, of an EQU the number, of a VARIABLE the expression, of a FUNCTION all of it, of a TABLE the argument
abbrev pub definition_slot : Option (List ℕ) → Option Definition → Option Probe
definition_slot (Some name) (Some (definitions.Storage capacity)) = Some (Amounts name None None)
definition_slot (Some name) (Some (definitions.Equ value)) = Some (One (items.Named asking.Number name))
definition_slot (Some name) (Some (definitions.Variable expression)) = Some (One (items.Named asking.Variable name))
definition_slot (Some name) (Some (definitions.Function function)) = Some (One (items.Named asking.Function name))
definition_slot (Some name) (Some (definitions.Table table)) = Some (One (items.Named asking.Table name))
definition_slot label definition = None

abbrev pub definition_probes : Numbered → List Probe
definition_probes line = given (definition_slot line.statement.label (definition_of line) ∷ [])

-- a command that is inserted or deleted: all commands from it on
abbrev pub rest_probes : Listing → ℕ → Numbered → List Probe
rest_probes t place line = if is_command line then CommandsFrom (command_from t place) ∷ [] else definition_probes line

-- a statement that is inserted or deleted
abbrev pub line_probes : Listing → ℕ → Numbered → List Probe
line_probes t place line =
    if is_block line then block_probes t place line else rest_probes t place line

-- a block that is another block: itself where the verb or the operands differ, and then the list of GENERATEs where one
-- of the two is one
abbrev pub change_slots : Bool → Numbered → Numbered → List (Option Probe)
change_slots other old new =
    one_if other (items.Block old.number) ∷ one_if (other && (is_generate old || is_generate new)) Generates ∷ []

-- its label, and the one before, where they differ
abbrev pub label_slots : Bool → Numbered → Numbered → List (Option Probe)
label_slots other old new = label_if other old.statement.label ∷ label_if other new.statement.label ∷ []

abbrev pub block_change : Numbered → Numbered → List Probe
block_change old new =
    given (change_slots (not (same_statement old.statement new.statement)) old new)
    ++ given (label_slots (not (same_label old.statement.label new.statement.label)) old new)

-- the name that two statements define, where it is one
abbrev pub one_name : Option (List ℕ) → Option (List ℕ) → Option (List ℕ)
one_name (Some a) (Some b) = if bytes_eq a b then Some a else None
one_name a b = None

-- whether two names stand for one number, as it is written and as it is read
abbrev pub same_number : Statement → Statement → ℤ → ℤ → Bool
same_number old new a b = bytes_eq old.operands new.operands && int_eq a b

-- whether two VARIABLEs have one expression, as it is written and as it is read
abbrev pub same_expression : Statement → Statement → Term → Term → Bool
same_expression old new a b = bytes_eq old.operands new.operands && same_term a b

-- whether two FUNCTIONs are one, as it is written and as it is read
abbrev pub same_curve : Statement → Statement → Function → Function → Bool
same_curve old new a b = bytes_eq old.operands new.operands && same_function a b

-- whether two TABLEs have one argument, as it is written and as it is read
abbrev pub same_argument : Statement → Statement → Term → Term → Bool
same_argument old new a b = same_first old.operands new.operands && same_term a b

-- a statement that is another one, of which not both are blocks: of a storage of one name the amounts that the two
-- capacities answer in two ways, of an EQU of one name the number where it is another one, of a VARIABLE of one name
-- the expression, of a FUNCTION of one name the FUNCTION and of a TABLE of one name the argument where it is another
-- one; else what the deleted one touches, and what the inserted one. The classes of a TABLE touch nothing, since no step
-- reads them.
abbrev pub other_change :
    Option (List ℕ) → Option Definition → Option Definition → Listing → ℕ → Numbered → Numbered → List Probe
other_change (Some name) (Some (definitions.Storage from)) (Some (definitions.Storage to)) t place old new =
    given (Some (Amounts name (Some from) (Some to)) ∷ [])
other_change (Some name) (Some (definitions.Equ a)) (Some (definitions.Equ b)) t place old new =
    given (one_if (not (same_number old.statement new.statement a b)) (items.Named asking.Number name) ∷ [])
other_change (Some name) (Some (definitions.Variable a)) (Some (definitions.Variable b)) t place old new =
    given (one_if (not (same_expression old.statement new.statement a b)) (items.Named asking.Variable name) ∷ [])
other_change (Some name) (Some (definitions.Function a)) (Some (definitions.Function b)) t place old new =
    given (one_if (not (same_curve old.statement new.statement a b)) (items.Named asking.Function name) ∷ [])
other_change (Some name) (Some (definitions.Table a)) (Some (definitions.Table b)) t place old new =
    given (one_if (not (same_argument old.statement new.statement a.argument b.argument)) (items.Named asking.Table name)
    ∷ [])
other_change name before behind t place old new = line_probes t place old ++ line_probes t place new

-- of a statement, where there is one
abbrev pub probes_of : Listing → ℕ → Option Numbered → List Probe
probes_of t place None = []
probes_of t place (Some line) = line_probes t place line

-- a splice at a place, by the deleted statement, if any, and the inserted one, if any
abbrev pub splice_probes : Listing → ℕ → Option Numbered → Option Numbered → List Probe
splice_probes t place (Some old) (Some new) =
    if is_block old && is_block new then block_change old new
    else other_change (one_name old.statement.label new.statement.label) (definition_of old) (definition_of new) t place
    old new
splice_probes t place deleted inserted = probes_of t place deleted ++ probes_of t place inserted

-- two seeds, of which either may be none
abbrev pub same_seed : Option ℕ → Option ℕ → Bool
same_seed None None = true
same_seed None (Some b) = false
same_seed (Some a) None = false
same_seed (Some a) (Some b) = a == b

-- what an edit touches: these probes in every replication, and the seed in one of them, if any
pub record Touching : Type 0 where
  pub probes : List Probe
  pub reseeded : Option ℕ

abbrev pub everywhere : List Probe → Touching
everywhere probes = record { probes = probes; reseeded = None }

-- a replication, where its seed differs
abbrev pub seed_touching : ℕ → Option ℕ → Option ℕ → Touching
seed_touching number old new =
    if same_seed old new then everywhere [] else record { probes = []; reseeded = Some number }

-- a capacity: as the change of the statement that defines the storage
abbrev pub capacity_probes : Listing → Option ℕ → Listing → List Probe
capacity_probes t None u = []
capacity_probes t (Some place) u = splice_probes t place (nth t.lines place) (nth u.lines place)

-- an edit of a version to another: the seed of its replication, and the clock steps beyond the lesser horizon. A
-- replication that is added or dropped does not touch another one
abbrev pub touching_of : Listing → Edit → Listing → Touching
touching_of t (edits.Insert place text) u = everywhere (splice_probes t place None (nth u.lines place))
touching_of t (edits.Delete place) u = everywhere (splice_probes t place (nth t.lines place) None)
touching_of t (edits.Change place text) u = everywhere (splice_probes t place (nth t.lines place) (nth u.lines place))
touching_of t (edits.Capacity name amount) u = everywhere (capacity_probes t (storage_place name t) u)
touching_of t (edits.Seed number seed) u = seed_touching number (seed_at t number) (seed_at u number)
touching_of t (edits.Replicate number seed) u = everywhere []
touching_of t (edits.Drop number) u = everywhere []
touching_of t (edits.Horizon time) u = everywhere (Beyond (min t.horizon u.horizon) ∷ [])

-- what is touched in a replication
abbrev pub seed_probes : Option ℕ → ℕ → List Probe
seed_probes None replication = []
seed_probes (Some number) replication = if number == replication then One Seed ∷ [] else []

abbrev pub touched_in : Touching → ℕ → List Probe
touched_in touching replication = seed_probes touching.reseeded replication ++ touching.probes

abbrev pub touch_of : Listing → Edit → Listing → ℕ → List Probe
touch_of t e u replication = touched_in (touching_of t e u) replication
