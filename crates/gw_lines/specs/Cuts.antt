-- Where a text is cut: operands at commas, the lines of a model at line feeds, and those of an edit's text at bars.
-- What is cut off is told apart from how it is gone through. (Manual: operands. Our own: line ends.)
use Rattle.std.specs.Prelude.{ℕ, ◌==◌, ◌≡◌, ◌≢◌, false, List, [], ◌∷◌, ◌++◌, All}
use Rattle.gw_lines.specs.Edits.{edit_lines}
use Rattle.gw_lines.specs.Models.{lines_of}
use Rattle.gw_lines.specs.Parts.{split}

-- a byte does not stand in a text
abbrev pub Lacks : ℕ → List ℕ → Type 0
Lacks byte text = All (λ b. (b == byte) ≡ false) text

-- a part ends at a comma, or with the list
pub record CutsAtCommas : Type 0 where
  pub last : (part : List ℕ) → Lacks 44 part → split part ≡ part ∷ []
  pub more : (part rest : List ℕ) → Lacks 44 part → split (part ++ 44 ∷ rest) ≡ part ∷ split rest

-- a line ends at a line feed, before which a carriage return may stand, or with the text
pub record CutsAtLineFeeds : Type 0 where
  pub none : lines_of [] ≡ []
  pub last : (line : List ℕ) → line ≢ [] → Lacks 10 line → lines_of line ≡ line ∷ []
  pub more : (line rest : List ℕ) → Lacks 10 line → Lacks 13 line → lines_of (line ++ 10 ∷ rest) ≡ line ∷ lines_of rest
  pub returned : (line rest : List ℕ) → Lacks 10 line → lines_of (line ++ 13 ∷ 10 ∷ rest) ≡ line ∷ lines_of rest

-- a line of an edit ends at a bar, or with the text
pub record CutsAtBars : Type 0 where
  pub none : edit_lines [] ≡ []
  pub last : (line : List ℕ) → line ≢ [] → Lacks 124 line → edit_lines line ≡ line ∷ []
  pub more : (line rest : List ℕ) → Lacks 124 line → edit_lines (line ++ 124 ∷ rest) ≡ line ∷ edit_lines rest
