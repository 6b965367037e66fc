-- How a section of a report is laid out: columns with one blank between them, under a heading.
-- (Manual: sections, headings and columns. Our own: widths, blanks and line feeds.)
use Rattle.std.specs.Prelude.{ℕ, ◌-◌, List, [], ◌∷◌, ◌++◌, map, length, replicate}
use Rattle.std.specs.List.{flat_map}
use Rattle.gw_report.specs.declared.column.Side.{Side}
use Rattle.gw_report.specs.declared.column.Side.TheVariants as side

-- a column: its title, how wide it is, and on which side of it a text stands
pub record Column : Type 0 where
  pub title : List ℕ
  pub width : ℕ
  pub side : Side

-- so many blanks
abbrev pub blanks : ℕ → List ℕ
blanks count = replicate count 32

-- a text in a width, on one side; one that is wider stands whole
abbrev pub fitted : Side → ℕ → List ℕ → List ℕ
fitted side.Left width text = text ++ blanks (width - length text)
fitted side.Right width text = blanks (width - length text) ++ text

-- a text in a column
abbrev pub cell_of : Column → List ℕ → List ℕ
cell_of column text = fitted column.side column.width text

-- texts in columns, each after a separator, the first after `before`, and the end of the line
abbrev pub row_behind : List ℕ → List Column → List (List ℕ) → List ℕ
row_behind before [] texts = 10 ∷ []
row_behind before (column ∷ columns) [] = 10 ∷ []
row_behind before (column ∷ columns) (text ∷ texts) =
    before ++ cell_of column text ++ row_behind (32 ∷ []) columns texts

-- a line: texts in columns, one blank between two, and the end of the line
unfoldable pub row_of : List Column → List (List ℕ) → List ℕ
row_of columns texts = row_behind [] columns texts

-- the heading: the titles, in their columns
unfoldable pub heading_of : List Column → List ℕ
heading_of columns = row_of columns (map (λ (c : Column). c.title) columns)

-- the lines of a section
abbrev pub rows_of : List Column → List (List (List ℕ)) → List ℕ
rows_of columns rows = flat_map (row_of columns) rows

-- a section that always appears: an empty line, the heading and the lines
abbrev pub table_of : List Column → List (List (List ℕ)) → List ℕ
table_of columns rows = 10 ∷ heading_of columns ++ rows_of columns rows

-- a section that appears where it has a line
abbrev pub section_of : List Column → List (List (List ℕ)) → List ℕ
section_of columns [] = []
section_of columns (row ∷ rows) = table_of columns (row ∷ rows)
