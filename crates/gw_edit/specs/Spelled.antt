-- The versions whose statements are spelled by some lines each, as those of a model that was read, and of all that is
-- edited from it. (Our own.)
use Rattle.std.specs.Prelude.{◌≡◌, List, Ok, All}
use Rattle.gw_meaning.specs.declared.statement.Numbered.{Numbered}
use Rattle.gw_meaning.specs.Listing.{Listing}
use Rattle.gw_lines.specs.Printed.{IsSpelled}
use Rattle.gw_meaning.specs.declared.edit.Edit.{Edit}
use Rattle.gw_edit.specs.Applied.{applied}

-- each statement is spelled by some lines
abbrev pub AreSpelled : List Numbered → Type 0
AreSpelled lines = All (λ (l : Numbered). IsSpelled l.statement) lines

-- an edit of such a version makes such a version
abbrev pub EditsAreSpelled : Type 0
EditsAreSpelled = (t u : Listing) (e : Edit) → applied t e ≡ Ok u → AreSpelled t.lines → AreSpelled u.lines
