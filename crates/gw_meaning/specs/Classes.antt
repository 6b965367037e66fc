-- The classes of a TABLE, in which a report counts its values. (Manual: the first limit, the width and the number of
-- classes. Our own: how many classes there may be, and that each limit is a value.)
use Rattle.std.specs.Prelude.{ℕ, ℤ, pos, ◌+ℤ◌, ◌-◌, ◌*◌, Bool, ◌&&◌, nat_le, Option, Some, None, if◌then◌else◌}
use Rattle.gw_nums.specs.Range.{is_value}

-- the limit of the first class, which takes each value up to it; the width of the classes between the first and the
-- last; and how many classes there are
pub record Scale : Type 0 where
  pub first : ℤ
  pub width : ℕ
  pub count : ℕ

-- the upper limit of the class after so many others; the last class has none
abbrev pub limit_of : Scale → ℕ → ℤ
limit_of scale i = scale.first +ℤ pos (i * scale.width)

abbrev pub is_scale : Scale → Bool
is_scale scale =
    nat_le 1 scale.width && (nat_le 2 scale.count && (nat_le scale.count 1000 && is_value (limit_of scale (scale.count - 2))))

abbrev pub scale_if : Bool → Scale → Option Scale
scale_if lawful scale = if lawful then Some scale else None

-- the classes that these numbers make, if they make some
abbrev pub scale_of : ℤ → ℕ → ℕ → Option Scale
scale_of first width count =
    let scale : Scale = record { first = first; width = width; count = count } in scale_if (is_scale scale) scale
