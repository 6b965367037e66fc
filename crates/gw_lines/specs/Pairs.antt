-- A FUNCTION's pairs as they are read, line by line. (Manual: the pairs. Our own: the greatest numbers, where a line
-- ends.)
use Rattle.std.specs.Prelude.{ℕ, ℤ, ◌-◌, ◌==◌, ◌&&◌, Bool, true, false, List, [], ◌∷◌, ◌++◌, length, Option, Some, None, Result, Ok, Err, if◌then◌else◌, nat_lt, slice_get}
use Rattle.gw_nums.specs.Range.{is_below}
use Rattle.gw_expr.specs.declared.function.Point.{Point}
use Rattle.gw_meaning.specs.declared.statement.Definition.TheVariants as definitions
use Rattle.gw_meaning.specs.declared.statement.Body.{Body}
use Rattle.gw_meaning.specs.declared.statement.Body.TheVariants as bodies
use Rattle.gw_meaning.specs.declared.statement.Statement.{Statement}
use Rattle.gw_lines.specs.declared.class.Class.TheVariants as class
use Rattle.gw_lines.specs.declared.fault.LineFault.{LineFault}
use Rattle.gw_lines.specs.declared.fault.LineFault.TheVariants as faults
use Rattle.gw_lines.specs.Reading.{◌>>=◌}
use Rattle.gw_lines.specs.Classes.{front_of, rest_of, tail_of, is_nothing, pieces_of}
use Rattle.gw_lines.specs.Numbers.{coordinate_of}
use Rattle.gw_lines.specs.Lines.{operands_of, code_of, is_remark}

-- whether a body wants pairs: it is a FUNCTION that misses points
abbrev pub wants_in : Body → Bool
wants_in (bodies.Definition (definitions.Function function)) = nat_lt (length function.points) function.count
wants_in body = false

-- whether a statement wants pairs on further lines
abbrev pub wants_pairs : Statement → Bool
wants_pairs s = wants_in s.body

abbrev pub point_with : Option ℤ → Option ℤ → Option Point
point_with (Some x) (Some y) = Some (record { x = x; y = y })
point_with x y = None

-- the point that a pair is: two numbers with a comma between
abbrev pub pair_of : List ℕ → Option Point
pair_of text =
    point_with (coordinate_of (front_of class.Operand text)) (coordinate_of (tail_of (rest_of class.Operand text)))

-- the last of points
abbrev pub last_of : List Point → Option Point
last_of points = slice_get points (length points - 1)

-- whether an x is above that of the last point, if there is one
abbrev pub is_above : Option Point → ℤ → Bool
is_above None x = true
is_above (Some last) x = is_below last.x x

-- whether a point may stand after others: they are less than count, and its x is above the last one's
abbrev pub may_follow : ℕ → List Point → Point → Bool
may_follow count points p = nat_lt (length points) count && is_above (last_of points) p.x

-- points with one after them
abbrev pub with_point : ℕ → List Point → Option Point → Result (List Point) LineFault
with_point count points None = Err faults.BadPairs
with_point count points (Some p) = if may_follow count points p then Ok (points ++ p ∷ []) else Err faults.BadPairs

-- points with those of pairs after them
abbrev pub with_pairs : ℕ → List Point → List (List ℕ) → Result (List Point) LineFault
with_pairs count points [] = Ok points
with_pairs count points (text ∷ texts) = do
  more ← with_point count points (pair_of text)
  with_pairs count more texts

-- points with those that a text spells after them: `/` ends a pair, and the last may lack it
unfoldable pub points_with : ℕ → List Point → List ℕ → Result (List Point) LineFault
points_with count points text =
    if is_nothing text then Err faults.BadPairs else with_pairs count points (pieces_of class.Pair text)

-- a body with the points of a text after its own, if it has points
abbrev pub body_with : Body → List ℕ → Result Body LineFault
body_with (bodies.Definition (definitions.Function function)) text = do
  points ← points_with function.count function.points text
  Ok (bodies.Definition (definitions.Function (record function { points = points })))
body_with body text = Err faults.BadPairs

-- a statement with the pairs of a text: its operands are listed with `|` and the text after them
unfoldable pub statement_with : Statement → List ℕ → Result Statement LineFault
statement_with s text = do
  body ← body_with s.body text
  Ok (record { label = s.label; body = body; operands = s.operands ++ 124 ∷ text })

-- what is kept of a line of pairs, as of an operand list; nothing of a blank line or a comment
unfoldable pub kept_in : List ℕ → Result (Option (List ℕ)) LineFault
kept_in code = if is_remark code then Ok None else (do
  text ← operands_of code
  Ok (Some text))

unfoldable pub kept_of : List ℕ → Result (Option (List ℕ)) LineFault
kept_of line = if nat_lt 250 (length line) then Err faults.TooLong else kept_in (code_of line)

abbrev pub kept_with : Statement → Option (List ℕ) → Result Statement LineFault
kept_with s None = Ok s
kept_with s (Some text) = statement_with s text

-- a statement that wants pairs, with those of a further line
unfoldable pub further_of : Statement → List ℕ → Result Statement LineFault
further_of s line = do
  kept ← kept_of line
  kept_with s kept

-- points with those of what is kept of a further line, where any count may be meant; the last line has pairs
abbrev pub open_with : Bool → List Point → Option (List ℕ) → Result (List Point) LineFault
open_with is_last points None = if is_last then Err faults.BadPairs else Ok points
open_with is_last points (Some text) = points_with 1000 points text

unfoldable pub open_line : Bool → List Point → List ℕ → Result (List Point) LineFault
open_line is_last points line = do
  kept ← kept_of line
  open_with is_last points kept

-- the fault of lines of pairs, where any count may be meant, if they have one
abbrev pub open_lines : List Point → List (List ℕ) → Result (Unit {0}) LineFault
open_lines points [] = Ok tt
open_lines points (line ∷ lines) = do
  more ← open_line (length lines == 0) points line
  open_lines more lines
