-- What an edit touches although the version before and the edited version answer it alike: only what these cases name.
-- (Our own.)
use Rattle.std.specs.Prelude.{◌≡◌, ◌≢◌, ◌<◌, ◌≤◌, ◌+◌, ℕ, ℤ, true, false, List, Option, Some, None, length, drop}
use Rattle.gw_expr.specs.Term.{Term}
use Rattle.gw_expr.specs.declared.function.Function.{Function}
use Rattle.gw_meaning.specs.declared.item.Asked.{Asked}
use Rattle.gw_meaning.specs.declared.item.Asked.TheVariants as asking
use Rattle.gw_meaning.specs.declared.item.Item.{Item}
use Rattle.gw_meaning.specs.declared.item.Item.TheVariants as items
use Rattle.gw_meaning.specs.declared.statement.Body.TheVariants as bodies
use Rattle.gw_meaning.specs.declared.statement.Definition.{Definition}
use Rattle.gw_meaning.specs.declared.statement.Definition.TheVariants as definitions
use Rattle.gw_meaning.specs.declared.statement.Numbered.{Numbered}
use Rattle.gw_meaning.specs.declared.statement.Statement.{Statement}
use Rattle.gw_meaning.specs.declared.table.Table.{Table}
use Rattle.gw_meaning.specs.Listing.{Listing, first_block, is_generate, nth, seed_at}
use Rattle.gw_meaning.specs.Numbers.{AreNumbered}
use Rattle.gw_meaning.specs.Questions.{ask}
use Rattle.gw_model.specs.Spliced.{with_splice}
use Rattle.gw_model.specs.Well.{Well}
use Rattle.gw_meaning.specs.declared.edit.Edit.{Edit}
use Rattle.gw_meaning.specs.declared.edit.Edit.TheVariants as edits
use Rattle.gw_touch.specs.Touches.{Answers, Defines, FirstStorage}
use Rattle.gw_touch.specs.Touching.{touch_of, is_touched}

-- two definitions are read as one in what is asked, however they are written
pub data ReadAlike : Definition → Definition → Asked → Type 0 where
  one_value : (n : ℤ) → ReadAlike (definitions.Equ n) (definitions.Equ n) asking.Number
  one_expression : (e : Term) → ReadAlike (definitions.Variable e) (definitions.Variable e) asking.Variable
  one_curve : (f : Function) → ReadAlike (definitions.Function f) (definitions.Function f) asking.Function
  one_argument : (f g : Table) → f.argument ≡ g.argument →
      ReadAlike (definitions.Table f) (definitions.Table g) asking.Table

-- it is no STORAGE of the name
abbrev pub IsNoStorage : List ℕ → Option Numbered → Type 0
IsNoStorage name other =
    (line : Numbered) (units : ℕ) → other ≡ Some line → Defines line name (definitions.Storage units) → ⊥

-- where at a place one statement is deleted, if any, and one is inserted, if any
pub data AlikeAt (t u : Listing) (place : ℕ) : Option Numbered → Option Numbered → Item → Type 0 where
  -- a command from that place on: it counts as changed, whatever stands in its place
  any_command : (old new : Option Numbered) (i : ℕ) → AlikeAt t u place old new (items.Cmd i)
  -- what comes after the block itself, where none does
  last_deleted : (old : Numbered) (new : Option Numbered) → first_block (drop place t.lines) ≡ None →
      AlikeAt t u place (Some old) new (items.After old.number)
  last_inserted : (old : Option Numbered) (new : Numbered) → first_block (drop place u.lines) ≡ None →
      AlikeAt t u place old (Some new) (items.After new.number)
  -- a block that is written otherwise and read as it was, and a GENERATE that is a GENERATE still
  rewritten_block : (old new : Numbered) → old.statement.operands ≢ new.statement.operands →
      old.statement.body ≡ new.statement.body → AlikeAt t u place (Some old) (Some new) (items.Block old.number)
  still_generates : (old new : Numbered) → is_generate old ≡ true → is_generate new ≡ true →
      AlikeAt t u place (Some old) (Some new) items.Generates
  -- a definition that is written otherwise and read as it was
  rewritten_definition : (old new : Numbered) (name : List ℕ) (d e : Definition) (asked : Asked) →
      Defines old name d → Defines new name e → old.statement.operands ≢ new.statement.operands →
      ReadAlike d e asked → AlikeAt t u place (Some old) (Some new) (items.Named asked name)
  -- whatever is asked of a storage that is deleted or inserted, or has another name
  storage_deleted : (old : Numbered) (new : Option Numbered) (name : List ℕ) (units : ℕ) (asked : Asked) →
      Defines old name (definitions.Storage units) → Answers (definitions.Storage units) asked → IsNoStorage name new →
      AlikeAt t u place (Some old) new (items.Named asked name)
  storage_inserted : (old : Option Numbered) (new : Numbered) (name : List ℕ) (units : ℕ) (asked : Asked) →
      Defines new name (definitions.Storage units) → Answers (definitions.Storage units) asked → IsNoStorage name old →
      AlikeAt t u place old (Some new) (items.Named asked name)

-- of each edit: a capacity, a seed, and a replication that is added or dropped touch nothing of the kind; a horizon the
-- times beyond both, to which no clock step goes
pub data TouchedAlike (t : Listing) : Edit → Listing → Item → Type 0 where
  where_inserted : (place : ℕ) (text : List ℕ) (u : Listing) (i : Item) →
      AlikeAt t u place None (nth u.lines place) i → TouchedAlike t (edits.Insert place text) u i
  where_deleted : (place : ℕ) (u : Listing) (i : Item) →
      AlikeAt t u place (nth t.lines place) None i → TouchedAlike t (edits.Delete place) u i
  where_changed : (place : ℕ) (text : List ℕ) (u : Listing) (i : Item) →
      AlikeAt t u place (nth t.lines place) (nth u.lines place) i → TouchedAlike t (edits.Change place text) u i
  beyond_both : (limit : ℕ) (u : Listing) (time : ℕ) → t.horizon < time → u.horizon < time →
      TouchedAlike t (edits.Horizon limit) u (items.Within time)

-- what an accepted edit makes of a version, as far as it changes statements: at a place it inserts a statement, deletes
-- one or does both, where it gives a storage its units with a STORAGE of the name
abbrev pub IsMade : Listing → Edit → Listing → Type 0
IsMade t (edits.Insert place text) u =
    (s : Statement) × (1 ≤ place) × (place ≤ length t.lines + 1) × (u ≡ with_splice t place false (Some s))
IsMade t (edits.Delete place) u = (1 ≤ place) × (place ≤ length t.lines) × (u ≡ with_splice t place true None)
IsMade t (edits.Change place text) u =
    (s : Statement) × (1 ≤ place) × (place ≤ length t.lines) × (u ≡ with_splice t place true (Some s))
IsMade t (edits.Capacity name amount) u =
    (place : ℕ) × (s : Statement) × (1 ≤ place) × (place ≤ length t.lines) × (u ≡ with_splice t place true (Some s)) ×
    FirstStorage t name place × (s.label ≡ Some name) × (s.body ≡ bodies.Definition (definitions.Storage amount))
IsMade t e u = Unit {0}

-- of a version t and the version u that an edit makes of it, in each replication that both have: what the edit touches,
-- both answer in two ways, but for what is named above
abbrev pub TouchesWhatDiffers : Type 0
TouchesWhatDiffers =
    (t : Listing) (e : Edit) (u : Listing) (r a b : ℕ) → AreNumbered t.lines → Well t → Well u → IsMade t e u →
    seed_at t r ≡ Some a → seed_at u r ≡ Some b →
    (i : Item) → is_touched (touch_of t e u r) i ≡ true → ask u b i ≡ ask t a i → TouchedAlike t e u i
