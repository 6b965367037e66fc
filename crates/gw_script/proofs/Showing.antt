-- `list` shows after their places the lines that the headline reads.
use Rattle.std.proofs.Common.{◌≡◌, ℕ, suc, ◌+◌, List, [], ◌∷◌, ◌++◌, length, ap, refl}
use Rattle.std.specs.Prelude.{codes, decimal}
use Rattle.gw_meaning.specs.declared.statement.Numbered.{Numbered}
use Rattle.gw_lines.specs.Printed.{listed_text}
use Rattle.gw_script.specs.Printing.{lines_from, statements_in, ArePlaced, none, more, ListsShowStatements}

are_placed : (place : ℕ) (lines : List Numbered) → ArePlaced place (statements_in lines) (lines_from place lines) (listed_text (statements_in lines))
are_placed place [] = none place
are_placed place (line ∷ lines) =
    more place line.statement (statements_in lines) (lines_from (place + 1) lines) (listed_text (statements_in lines)) (are_placed (place + 1) lines)

as_many : (lines : List Numbered) → length lines ≡ length (statements_in lines)
as_many [] = refl
as_many (line ∷ lines) = ap suc (as_many lines)

pub lists_show_statements : ListsShowStatements
lists_show_statements lines = record {
  placed = lines_from 1 lines;
  is = ap (λ n. codes "list " ++ decimal n ++ codes "\n" ++ lines_from 1 lines) (as_many lines);
  shows = are_placed 1 lines;
}
