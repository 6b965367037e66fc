-- The numbers of a version's statements, by which states and questions name blocks. (Our own.)
use Rattle.std.specs.Prelude.{◌≡◌, ◌≤◌, List, [], ◌∷◌, None}
use Rattle.gw_meaning.specs.declared.statement.Numbered.{Numbered}
use Rattle.gw_meaning.specs.Listing.{line_in}

-- no statement has the number 0, which stands for no block, and no two have one number
abbrev pub AreNumbered : List Numbered → Type 0
AreNumbered [] = Unit {0}
AreNumbered (line ∷ lines) = (1 ≤ line.number) × (line_in lines line.number ≡ None) × AreNumbered lines
