-- The columns and cells of the code, as texts of the layout. (Our own.)
use Rattle.std.specs.Prelude.{ℕ, ℤ, ◌+◌, ◌/◌, ◌%◌, List, [], ◌∷◌, ◌++◌, decimal, if◌then◌else◌}
use Rattle.gw_nums.specs.Range.{magnitude, is_negative}
use Rattle.gw_report.specs.Layout.{Column}
use Rattle.gw_report.specs.declared.column.Column as code
use Rattle.gw_report.specs.declared.column.Cell.{Cell}
use Rattle.gw_report.specs.declared.column.Cell.TheVariants.{Text, Number, Signed, Thousandths}

-- a whole number, with a sign where it is below 0
abbrev pub signed : ℤ → List ℕ
signed z = if is_negative z then 45 ∷ decimal (magnitude z) else decimal (magnitude z)

-- a number of thousandths, with three decimals
abbrev pub digit_of : ℕ → ℕ
digit_of n = 48 + n % 10

abbrev pub fraction_of : ℕ → List ℕ
fraction_of n = 46 ∷ digit_of (n / 100) ∷ digit_of (n / 10) ∷ digit_of n ∷ []

abbrev pub decimals : ℕ → List ℕ
decimals n = decimal (n / 1000) ++ fraction_of n

-- a column of the code, whose title does not show in a row
abbrev pub column_of : code.Column → Column
column_of column = record { title = []; width = column.0; side = column.1 }

-- the text of a cell
abbrev pub text_of_cell : Cell → List ℕ
text_of_cell (Text text) = text.now
text_of_cell (Number number) = decimal number
text_of_cell (Signed value) = signed value
text_of_cell (Thousandths number) = decimals number

-- an empty line, the bytes of a heading, and those of lines
abbrev pub under_heading : List ℕ → List ℕ → List ℕ
under_heading heading lines = 10 ∷ heading ++ lines

-- the same, or nothing where there are no lines
abbrev pub if_any : List ℕ → List ℕ → List ℕ
if_any heading [] = []
if_any heading (b ∷ bs) = under_heading heading (b ∷ bs)
