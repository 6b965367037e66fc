-- What the tables of a version hold: for each number the place of its block, and the commands, the GENERATEs, the
-- labels and the definitions. (Our own.)
use Rattle.std.specs.Prelude.{ℕ, Bool, false, ◌||◌, is_some, ◌+◌, ◌≡◌, ◌==◌, List, [], ◌∷◌, Option, Some, None, if◌then◌else◌, length, filter, get_or, option_and_then, slice_get}
use Rattle.std.specs.List.{filter_map, list_any}
use Rattle.std.specs.BTreeMap as tree
use Rattle.std.specs.Ordering.{nat_cmp}
use Rattle.std.specs.Cmp.Lexicographic.{slice_cmp}
use Rattle.gw_meaning.specs.Numbers.{AreNumbered}
use Rattle.gw_model.specs.ByName.{value_of}
use Rattle.gw_model.specs.Well.{Well}
use Rattle.gw_meaning.specs.Listing.{Listing, is_block, block_of, first_block, generates_in, labelled_in, defined_in, command_of, definition_of, number_of, is_start}
use Rattle.gw_meaning.specs.declared.statement.Block.{Block}
use Rattle.gw_meaning.specs.declared.statement.Numbered.{Numbered}
use Rattle.gw_model.specs.declared.names.Names.{Names}
use Rattle.gw_model.specs.declared.places.Place.{Place}
use Rattle.gw_model.specs.declared.tables.Tables.{Tables}

-- the place of an id that no block has
abbrev pub nowhere : Place
nowhere = record { after = None; index = 0; position = 0 }

-- the place of the first statement with this number, if that is a block, where the first of these has the index and
-- stands after `before` blocks
abbrev pub place_in : ℕ → ℕ → List Numbered → ℕ → Place
place_in index before [] number = nowhere
place_in index before (line ∷ lines) number =
    if line.number == number
    then (if is_block line then record { after = first_block lines; index = index; position = before + 1 } else nowhere)
    else place_in (index + 1) (if is_block line then before + 1 else before) lines number

-- the block at a place
abbrev pub block_found : List Numbered → Place → Option Block
block_found lines place =
    if place.position == 0 then None else option_and_then block_of (slice_get lines place.index)

-- the position that a number stands for: 0 stands for none
abbrev pub position_if : ℕ → Option ℕ
position_if position = if position == 0 then None else Some position

-- whether a label stands for a block or for a definition
abbrev pub is_told : Names → Option (List ℕ) → Bool
is_told names None = false
is_told names (Some name) =
    is_some (tree.get (slice_cmp nat_cmp) names.labels name)
    || is_some (tree.get (slice_cmp nat_cmp) names.definitions name)

-- whether a statement is an EQU
abbrev pub is_equ : Numbered → Bool
is_equ line = is_some (number_of (definition_of line))

-- the tables of these lines
pub record AreTablesOf (lines : List Numbered) (tables : Tables) : Type 0 where
  pub places : (number : ℕ) → get_or tables.places.items number nowhere ≡ place_in 0 0 lines number
  pub blocks : tables.blocks ≡ length (filter is_block lines)
  pub commands : tables.commands.items ≡ filter_map command_of lines
  pub starts : tables.starts ≡ length (filter is_start (filter_map command_of lines))
  pub generates : tables.generates.items ≡ generates_in lines
  pub has_equ : tables.has_equ ≡ list_any is_equ lines
  pub labels : (name : List ℕ) → value_of tables.labels name ≡ labelled_in name lines
  pub definitions : (name : List ℕ) → value_of tables.definitions name ≡ defined_in name lines

-- a version that is well-formed, whose statements have numbers of their own, and that has its tables
pub record IsKept (t : Listing) (tables : Tables) : Type 0 where
  pub well : Well t
  pub numbered : AreNumbered t.lines
  pub answers : AreTablesOf t.lines tables
