-- A content over time, and the sum of content times the time that it stood. (Manual: what its averages are made of.)
use Rattle.std.specs.Prelude.{◌≡◌, ℕ, ◌+◌, ◌-◌, ◌*◌, ◌≤◌, List, [], ◌∷◌, if◌then◌else◌, nat_le, max}
use Rattle.std.specs.List.{sum_by, range_with_len}

pub record Course : Type 0 where
  -- what it is now
  pub content : ℕ
  -- content times the time that it stood, summed up to the last change
  pub sum : ℕ
  -- the clock at the last change
  pub at : ℕ

-- a content of 0 since clock 0
abbrev pub at_first : Course
at_first = record { content = 0; sum = 0; at = 0 }

-- the sum up to a clock: the content has stood since the last change. A clock before that counts as it.
abbrev pub sum_up_to : Course → ℕ → ℕ
sum_up_to course clock = course.sum + course.content * (clock - course.at)

-- another content from a clock on; the clock of a course does not go back
abbrev pub changed : ℕ → ℕ → Course → Course
changed content clock course =
    record { content = content; sum = sum_up_to course clock; at = max course.at clock }

-- the content as it is, and its sum from a clock on
abbrev pub restarted : ℕ → Course → Course
restarted clock course = record { content = course.content; sum = 0; at = clock }

-- Told by what it is: a change is a content, from a clock on.
pub record Change : Type 0 where
  pub content : ℕ
  pub clock : ℕ

-- the course after changes
abbrev pub behind : Course → List Change → Course
behind course [] = course
behind course (c ∷ cs) = behind (changed c.content c.clock course) cs

-- the changes go on with the clock: none lies before the one that it follows, nor before `from`, nor beyond `to`
abbrev pub GoOn : ℕ → List Change → ℕ → Type 0
GoOn from [] to = from ≤ to
GoOn from (c ∷ cs) to = (from ≤ c.clock) × GoOn c.clock cs to

-- the content in a tick: the one set last at or before it, and `before` where none is
abbrev pub content_in : ℕ → List Change → ℕ → ℕ
content_in before [] tick = before
content_in before (c ∷ cs) tick = if nat_le c.clock tick then content_in c.content cs tick else before

-- the sum of the contents in all ticks from a clock to another
abbrev pub over_ticks : (ℕ → ℕ) → ℕ → ℕ → ℕ
over_ticks content from to = sum_by content (range_with_len from (to - from))

-- whatever the changes, the sum up to a clock is that of the contents in all ticks up to it
abbrev pub SumIsOverTicks : Type 0
SumIsOverTicks =
    (course : Course) (changes : List Change) (clock : ℕ) → GoOn course.at changes clock →
    sum_up_to (behind course changes) clock
    ≡ course.sum + over_ticks (content_in course.content changes) course.at clock
