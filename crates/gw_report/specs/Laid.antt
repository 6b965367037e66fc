-- A text that is written into a line of bytes, over what stood there. (Our own.)
use Rattle.std.specs.Prelude.{ℕ, ◌≡◌, ◌-◌, List, ◌++◌, length, take, drop}
use Rattle.gw_report.specs.Layout.{blanks}

-- new is old with a text from one place up to another
pub record Laid (old new : List ℕ) (from : ℕ) (text : List ℕ) (end : ℕ) : Type 0 where
  pub bytes : take end new ≡ take from old ++ text
  pub behind : drop end new ≡ drop end old
  pub len : length new ≡ length old

-- a line is blank from a place on
abbrev pub IsBlankFrom : ℕ → List ℕ → Type 0
IsBlankFrom from line = drop from line ≡ blanks (length line - from)
