-- The lines of tables: the mean and the deviation of each one's values, and how many lie in each class. The classes are
-- those of the version, also where they were others when the values came. (Manual. Our own: the mean and the deviation
-- in thousandths, cut off, with a sign only before a digit other than 0; how a class is written.)
use Rattle.std.specs.Prelude.{ℕ, zero, suc, ℤ, pos, ◌+ℤ◌, ◌+◌, ◌-◌, ◌*◌, ◌/◌, ◌&&◌, not, ◌==◌, List, [], ◌∷◌, ◌++◌, Option, Some, None, map, length, decimal, codes, if◌then◌else◌}
use Rattle.std.specs.List.{flat_map, fold, range_with_len, sum_by}
use Rattle.gw_names.specs.declared.key.Key.{Key}
use Rattle.gw_names.specs.declared.key.Key.TheVariants.{Defined}
use Rattle.gw_nums.specs.Range.{magnitude, is_negative}
use Rattle.gw_nums.specs.Ratio.{thousandths_of}
use Rattle.gw_nums.specs.Roots.{whole_root}
use Rattle.gw_lanes.specs.Counts.{class_counts, lower, upper}
use Rattle.gw_meaning.specs.Classes.{Scale, limit_of}
use Rattle.gw_meaning.specs.declared.statement.Definition.{Definition}
use Rattle.gw_meaning.specs.declared.statement.Definition.TheVariants as definitions
use Rattle.gw_meaning.specs.declared.watched.EntityKind.TheVariants as kinds
use Rattle.gw_meaning.specs.declared.watched.Watched.TheVariants as watched
use Rattle.gw_meaning.specs.Changes.{retries}
use Rattle.gw_meaning.specs.Listing.{Listing, definition_at}
use Rattle.gw_meaning.specs.Machine.{Machine}
use Rattle.gw_report.specs.declared.column.Side.TheVariants.{Left, Right}
use Rattle.gw_report.specs.Layout.{Column, section_of}
use Rattle.gw_report.specs.Cells.{signed, decimals}
use Rattle.gw_report.specs.Entities.{key_text, average}

abbrev pub table_columns : List Column
table_columns =
    record { title = codes "TABLE"; width = 10; side = Left } ∷
    record { title = codes "MEAN"; width = 14; side = Right } ∷
    record { title = codes "STD.DEV."; width = 14; side = Right }
    ∷ record { title = codes "RANGE"; width = 25; side = Right } ∷
    record { title = codes "RETRY"; width = 5; side = Right } ∷
    record { title = codes "FREQUENCY"; width = 9; side = Right } ∷
    record { title = codes "CUM.%"; width = 7; side = Right } ∷ []

-- the sum of values, and that of their squares
abbrev pub sum_of : List ℤ → ℤ
sum_of zs = fold ◌+ℤ◌ (pos 0) zs

abbrev pub square : ℤ → ℕ
square z = magnitude z * magnitude z

abbrev pub squares_of : List ℤ → ℕ
squares_of zs = sum_by square zs

-- a sum divided by how many it goes over, with a sign where it is below 0 and a digit other than 0 is written
abbrev pub signed_decimals : ℤ → ℕ → List ℕ
signed_decimals z n = if is_negative z && not (n == 0) then 45 ∷ decimals n else decimals n

abbrev pub mean_text : ℤ → ℕ → List ℕ
mean_text sum n = signed_decimals sum (thousandths_of (magnitude sum) n)

-- a whole quotient, and 0 where there is nothing to divide by
abbrev pub quotient : ℕ → ℕ → ℕ
quotient a zero = 0
quotient a (suc b) = a / suc b

-- the standard deviation in thousandths, by how many values there are, their sum and that of their squares. One less
-- than all of them stands below, so it is 0 for fewer than two; what stands above is never below 0, and would count as 0
unfoldable pub deviation : ℕ → ℤ → ℕ → ℕ
deviation n sum squares = whole_root (quotient (1000000 * (n * squares - square sum)) (n * (n - 1)))

-- the limits of all classes but the last
abbrev pub limits_of : Scale → List ℤ
limits_of scale = map (limit_of scale) (range_with_len 0 (scale.count - 1))

-- a limit, or a line where there is none; a class: above one limit and up to another
abbrev pub limit_text : Option ℤ → List ℕ
limit_text None = codes "_"
limit_text (Some limit) = signed limit

abbrev pub range_text : Option ℤ → Option ℤ → List ℕ
range_text low high = limit_text low ++ codes " - " ++ limit_text high

-- the line of a class: its limits, how many values it has, and how many of all n values it has together with those
-- before it
abbrev pub class_line : List ℤ → ℕ → ℕ → ℕ → ℕ → List (List ℕ)
class_line limits n i count so_far =
    [] ∷ [] ∷ [] ∷ range_text (lower limits i) (upper limits i) ∷ [] ∷ decimal count ∷ average (100 * so_far) n ∷ []

-- the lines of the classes from the i-th on, by their counts and how many values the classes before them have
abbrev pub class_lines : List ℤ → ℕ → ℕ → ℕ → List ℕ → List (List (List ℕ))
class_lines limits n i before [] = []
class_lines limits n i before (count ∷ counts) =
    class_line limits n i count (before + count) ∷ class_lines limits n (i + 1) (before + count) counts

-- the classes that a version gives a table: none where it has no such TABLE
abbrev pub scale_of_definition : Option Definition → Option Scale
scale_of_definition (Some (definitions.Table table)) = Some table.classes
scale_of_definition definition = None

abbrev pub scale_at : Listing → Key → Option Scale
scale_at t (Defined name) = scale_of_definition (definition_at t name)
scale_at t key = None

abbrev pub scale_lines : Option Scale → List ℤ → List (List (List ℕ))
scale_lines None values = []
scale_lines (Some scale) values = class_lines (limits_of scale) (length values) 0 0 (class_counts (limits_of scale) values)

-- the first line of a table, by how many wait for a change of it; it ends there
abbrev pub table_row : ℕ → Key → List ℤ → List (List ℕ)
table_row retry key values =
    key_text key ∷ mean_text (sum_of values) (length values) ∷
    decimals (deviation (length values) (sum_of values) (squares_of values)) ∷ [] ∷ decimal retry ∷ []

-- the lines of a table
unfoldable pub table_lines : Listing → Machine → Key × List ℤ → List (List (List ℕ))
table_lines t s e =
    table_row (retries s (watched.Entity kinds.Table e.0)) e.0 e.1 ∷ scale_lines (scale_at t e.0) e.1

-- the tables, in order of first touch
unfoldable pub tables_text : Listing → Machine → List ℕ
tables_text t s = section_of table_columns (flat_map (table_lines t s) s.entities.tables)
