-- What an edit touches, case by case, told of statements, names, commands, amounts and times: where what is asked of a
-- version may be answered otherwise after the edit, or is changed in how it is written. Blocks go by their statement
-- ids. (Our own.)
use Rattle.std.specs.Prelude.{◌≡◌, ◌≢◌, ◌↔◌, ◌⊎◌, ◌-◌, ◌<◌, ◌≤◌, ℕ, ℤ, true, false, List, ◌∷◌, ◌++◌, Option, Some, None, All, filter, length, take, if◌then◌else◌, ◌==◌, []}
use Rattle.gw_expr.specs.Term.{Term}
use Rattle.gw_expr.specs.declared.function.Function.{Function}
use Rattle.gw_meaning.specs.declared.item.Asked.{Asked}
use Rattle.gw_meaning.specs.declared.item.Asked.TheVariants as asking
use Rattle.gw_meaning.specs.declared.item.Item.{Item}
use Rattle.gw_meaning.specs.declared.item.Item.TheVariants as items
use Rattle.gw_meaning.specs.declared.statement.Body.TheVariants as bodies
use Rattle.gw_meaning.specs.declared.statement.Definition.{Definition}
use Rattle.gw_meaning.specs.declared.statement.Definition.TheVariants as definitions
use Rattle.gw_meaning.specs.declared.statement.Numbered.{Numbered}
use Rattle.gw_meaning.specs.declared.statement.Statement.{Statement}
use Rattle.gw_meaning.specs.declared.table.Table.{Table}
use Rattle.gw_meaning.specs.Listing.{Listing, is_block, is_command, is_generate, nth, seed_at}
use Rattle.gw_meaning.specs.Statements.{verb_of_definition}
use Rattle.gw_meaning.specs.declared.edit.Edit.{Edit}
use Rattle.gw_meaning.specs.declared.edit.Edit.TheVariants as edits
use Rattle.gw_touch.specs.Touching.{touch_of, is_touched}

-- the statements in front of a place
abbrev pub in_front : Listing → ℕ → List Numbered
in_front t place = take (place - 1) t.lines

-- the last block of these statements: after it stands none
pub record LastBlock (lines : List Numbered) (number : ℕ) : Type 0 where
  pub front : List Numbered
  pub block : Numbered
  pub behind : List Numbered
  pub parts : lines ≡ front ++ block ∷ behind
  pub is_one : is_block block ≡ true
  pub is_last : All (λ line. is_block line ≡ false) behind
  pub number_is : block.number ≡ number

-- a definition of a name
pub record Defines (line : Numbered) (name : List ℕ) (d : Definition) : Type 0 where
  pub label : line.statement.label ≡ Some name
  pub body : line.statement.body ≡ bodies.Definition d

-- what is asked of a name that a definition answers
pub data Answers : Definition → Asked → Type 0 where
  answers_amount : (capacity units : ℕ) → Answers (definitions.Storage capacity) (asking.Fits units)
  answers_units : (capacity : ℕ) → Answers (definitions.Storage capacity) asking.Storage
  answers_value : (n : ℤ) → Answers (definitions.Equ n) asking.Number
  answers_expression : (e : Term) → Answers (definitions.Variable e) asking.Variable
  answers_curve : (f : Function) → Answers (definitions.Function f) asking.Function
  answers_argument : (table : Table) → Answers (definitions.Table table) asking.Table

-- what a statement touches that is inserted at a place or deleted there: a block what comes after the block in front
-- of it, its label, the list of GENERATEs where it is one, itself, and what comes after itself (of these two nobody
-- asked where it is inserted); a command all commands from it on; a definition what is asked of its name
pub data OfOne (t : Listing) (place : ℕ) (line : Numbered) : Item → Type 0 where
  after_front : (number : ℕ) → is_block line ≡ true → LastBlock (in_front t place) number →
      OfOne t place line (items.After number)
  itself : is_block line ≡ true → OfOne t place line (items.Block line.number)
  after_itself : is_block line ≡ true → OfOne t place line (items.After line.number)
  among_generates : is_generate line ≡ true → OfOne t place line items.Generates
  own_label : (name : List ℕ) → is_block line ≡ true → line.statement.label ≡ Some name →
      OfOne t place line (items.Named asking.Label name)
  commands_from : (i : ℕ) → is_command line ≡ true → length (filter is_command (in_front t place)) < i →
      OfOne t place line (items.Cmd i)
  what_is_defined : (name : List ℕ) (d : Definition) (asked : Asked) → Defines line name d → Answers d asked →
      OfOne t place line (items.Named asked name)

-- two statements that differ beyond their labels: in their operands as `list` prints them, or in what they are
abbrev pub Differ : Statement → Statement → Type 0
Differ old new = (old.operands ≡ new.operands) × (old.body ≡ new.body) → ⊥

-- an operand up to its comma, as it is written
abbrev pub first_operand : List ℕ → List ℕ
first_operand [] = []
first_operand (b ∷ bytes) = if b == 44 then [] else b ∷ first_operand bytes

-- just one of two capacities holds so many units
pub data HoldsInOne (from to units : ℕ) : Type 0 where
  in_the_first : units ≤ from → to < units → HoldsInOne from to units
  in_the_second : from < units → units ≤ to → HoldsInOne from to units

-- what is asked of the name of two definitions of one verb, where they differ in it. The classes of a TABLE are asked
-- by no step.
pub data OfTwo (old new : Statement) : Definition → Definition → Asked → Type 0 where
  other_amount : (from to units : ℕ) → HoldsInOne from to units →
      OfTwo old new (definitions.Storage from) (definitions.Storage to) (asking.Fits units)
  other_units : (from to : ℕ) → from ≢ to →
      OfTwo old new (definitions.Storage from) (definitions.Storage to) asking.Storage
  other_value : (m n : ℤ) → Differ old new → OfTwo old new (definitions.Equ m) (definitions.Equ n) asking.Number
  other_expression : (d e : Term) → Differ old new →
      OfTwo old new (definitions.Variable d) (definitions.Variable e) asking.Variable
  other_curve : (f g : Function) → Differ old new →
      OfTwo old new (definitions.Function f) (definitions.Function g) asking.Function
  other_argument : (f g : Table) →
      ((first_operand old.operands ≡ first_operand new.operands) × (f.argument ≡ g.argument) → ⊥) →
      OfTwo old new (definitions.Table f) (definitions.Table g) asking.Table

-- two statements that are changed into one another as one thing: two blocks, and two definitions of one name and verb
pub data OneKind (old new : Numbered) : Type 0 where
  two_blocks : is_block old ≡ true → is_block new ≡ true → OneKind old new
  two_definitions : (name : List ℕ) (d e : Definition) → Defines old name d → Defines new name e →
      verb_of_definition d ≡ verb_of_definition e → OneKind old new

-- what a statement touches that takes the place of another. A block for a block: itself where the two differ, and then
-- the list of GENERATEs where one of the two is one; both labels where they differ. A definition for one of its name
-- and verb: what is asked of the name where they differ. Any others: what the one touches that is deleted, and the one
-- that is inserted; so a command for a command touches all commands from it on, whatever its text.
pub data OfChange (t : Listing) (place : ℕ) (old new : Numbered) : Item → Type 0 where
  changed_block : is_block old ≡ true → is_block new ≡ true → Differ old.statement new.statement →
      OfChange t place old new (items.Block old.number)
  changed_generates : is_block old ≡ true → is_block new ≡ true → Differ old.statement new.statement →
      (is_generate old ≡ true) ⊎ (is_generate new ≡ true) → OfChange t place old new items.Generates
  old_label : (name : List ℕ) → is_block old ≡ true → is_block new ≡ true →
      old.statement.label ≢ new.statement.label → old.statement.label ≡ Some name →
      OfChange t place old new (items.Named asking.Label name)
  new_label : (name : List ℕ) → is_block old ≡ true → is_block new ≡ true →
      old.statement.label ≢ new.statement.label → new.statement.label ≡ Some name →
      OfChange t place old new (items.Named asking.Label name)
  changed_definition : (name : List ℕ) (d e : Definition) (asked : Asked) → Defines old name d → Defines new name e →
      OfTwo old.statement new.statement d e asked → OfChange t place old new (items.Named asked name)
  as_deleted : (i : Item) → (OneKind old new → ⊥) → OfOne t place old i → OfChange t place old new i
  as_inserted : (i : Item) → (OneKind old new → ⊥) → OfOne t place new i → OfChange t place old new i

-- at a place, the statement that is deleted, if any, and the one that is inserted, if any
pub data OfSplice (t : Listing) (place : ℕ) : Option Numbered → Option Numbered → Item → Type 0 where
  insertion : (new : Numbered) (i : Item) → OfOne t place new i → OfSplice t place None (Some new) i
  deletion : (old : Numbered) (i : Item) → OfOne t place old i → OfSplice t place (Some old) None i
  replacement : (old new : Numbered) (i : Item) → OfChange t place old new i → OfSplice t place (Some old) (Some new) i

-- the first STORAGE of a name stands at a place
abbrev pub HasNoStorage : List ℕ → List Numbered → Type 0
HasNoStorage name lines = All (λ line. (units : ℕ) → Defines line name (definitions.Storage units) → ⊥) lines

pub record FirstStorage (t : Listing) (name : List ℕ) (place : ℕ) : Type 0 where
  pub line : Numbered
  pub units : ℕ
  pub there : nth t.lines place ≡ Some line
  pub is_storage : Defines line name (definitions.Storage units)
  pub is_first : HasNoStorage name (in_front t place)

-- what an edit of t to u touches in a replication. A capacity touches as the change of the statement that defines the
-- storage; a seed the seed of its replication where it is another one; a horizon the clock steps to times beyond one of
-- the two horizons. A replication that is added or dropped touches nothing of another one.
pub data Touches (t : Listing) : Edit → Listing → ℕ → Item → Type 0 where
  by_insert : (place : ℕ) (text : List ℕ) (u : Listing) (r : ℕ) (i : Item) →
      OfSplice t place None (nth u.lines place) i → Touches t (edits.Insert place text) u r i
  by_delete : (place : ℕ) (u : Listing) (r : ℕ) (i : Item) →
      OfSplice t place (nth t.lines place) None i → Touches t (edits.Delete place) u r i
  by_change : (place : ℕ) (text : List ℕ) (u : Listing) (r : ℕ) (i : Item) →
      OfSplice t place (nth t.lines place) (nth u.lines place) i → Touches t (edits.Change place text) u r i
  by_capacity : (name : List ℕ) (amount place : ℕ) (u : Listing) (r : ℕ) (i : Item) → FirstStorage t name place →
      OfSplice t place (nth t.lines place) (nth u.lines place) i → Touches t (edits.Capacity name amount) u r i
  by_seed : (number seed : ℕ) (u : Listing) → seed_at t number ≢ seed_at u number →
      Touches t (edits.Seed number seed) u number items.Seed
  by_horizon : (limit : ℕ) (u : Listing) (r time : ℕ) → (t.horizon < time) ⊎ (u.horizon < time) →
      Touches t (edits.Horizon limit) u r (items.Within time)

-- whatever is asked, it is touched just where one of these cases says so
abbrev pub TouchesExactly : Type 0
TouchesExactly =
    (t : Listing) (e : Edit) (u : Listing) (r : ℕ) (i : Item) →
    (is_touched (touch_of t e u r) i ≡ true) ↔ Touches t e u r i
