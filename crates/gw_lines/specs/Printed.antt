-- What `list` prints spells again what was read: a statement as the text of an edit, and statements, with a line end
-- for each `|`, as a model. (Our own.)
use Rattle.std.specs.Prelude.{ℕ, ◌≤◌, ◌==◌, ◌≡◌, not, true, List, [], ◌∷◌, ◌++◌, Some, decimal, All, map, if◌then◌else◌}
use Rattle.std.specs.List.{list_all}
use Rattle.gw_names.specs.Names.{name_of}
use Rattle.gw_meaning.specs.declared.statement.Definition.TheVariants as definitions
use Rattle.gw_meaning.specs.declared.statement.Body.TheVariants as bodies
use Rattle.gw_meaning.specs.declared.statement.Statement.{Statement}
use Rattle.gw_meaning.specs.Texts.{text_of}
use Rattle.gw_lines.specs.Spelling.{Spells}
use Rattle.gw_lines.specs.Points.{SpellsLines}
use Rattle.gw_lines.specs.Edits.{SpellsEdit}
use Rattle.gw_lines.specs.Whole.{SpellsModel}

-- some lines spell the statement
abbrev pub IsSpelled : Statement → Type 0
IsSpelled s = (lines : List (List ℕ)) × SpellsLines lines s

-- a line end for each `|`
abbrev pub with_ends : List ℕ → List ℕ
with_ends text = map (λ b. if b == 124 then 10 else b) text

-- statements as `list` prints them, with their lines apart
abbrev pub listed_text : List Statement → List ℕ
listed_text [] = []
listed_text (s ∷ statements) = with_ends (text_of s) ++ 10 ∷ listed_text statements

-- the storage of a name with so many units, in decimal digits
abbrev pub storage_of : List ℕ → ℕ → Statement
storage_of name amount = record {
  label = Some name;
  body = bodies.Definition (definitions.Storage amount);
  operands = decimal amount;
}

-- what one line spells is spelled by what `list` prints of it, in which no `|` stands
abbrev pub PrintedSpells : Type 0
PrintedSpells =
    (line : List ℕ) (s : Statement) → Spells line s →
    Spells (text_of s) s × (list_all (λ b. not (b == 124)) (text_of s) ≡ true)

-- a statement is spelled by what `list` prints of it as the text of an edit
abbrev pub PrintedEdits : Type 0
PrintedEdits = (s : Statement) → IsSpelled s → SpellsEdit (text_of s) s

-- and statements are a model, by the lines that `list` prints of them
abbrev pub PrintedModels : Type 0
PrintedModels =
    (statements : List Statement) → All IsSpelled statements → SpellsModel (listed_text statements) statements

-- the statements of a model are spelled
abbrev pub ModelsAreSpelled : Type 0
ModelsAreSpelled =
    (bytes : List ℕ) (statements : List Statement) → SpellsModel bytes statements → All IsSpelled statements

-- a storage whose capacity is in decimal digits is spelled by what `list` prints of it
abbrev pub StoragesSpell : Type 0
StoragesSpell =
    (name : List ℕ) (amount : ℕ) → name_of name ≡ Some name → 1 ≤ amount → amount ≤ 1000000000 →
    Spells (text_of (storage_of name amount)) (storage_of name amount)
