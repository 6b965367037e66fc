-- The statements of an opened version are spelled.
use Rattle.std.proofs.Common.{ℕ, ◌+◌, List, [], ◌∷◌, sym, subst}
use Rattle.std.specs.Prelude.{All}
use Rattle.std.proofs.lemmas.List.Elements.{All-cons, All-head, All-nil, All-tail}
use Rattle.gw_meaning.specs.declared.statement.Numbered.{Numbered}
use Rattle.gw_meaning.specs.declared.statement.Statement.{Statement}
use Rattle.gw_meaning.specs.Listing.{Listing}
use Rattle.gw_lines.specs.Printed.{IsSpelled}
use Rattle.gw_lines.proofs.Printed.{models_are_spelled}
use Rattle.gw_model.specs.Listed.{numbered}
use Rattle.gw_edit.specs.Spelled.{AreSpelled}
use Rattle.gw_script.specs.Opening.{OpenedIsSpelled}

numbered_are : (first : ℕ) (statements : List Statement) → All IsSpelled statements → AreSpelled (numbered first statements)
numbered_are first [] h = All-nil (λ (l : Numbered). IsSpelled l.statement)
numbered_are first (s ∷ statements) h =
    All-cons (λ (l : Numbered). IsSpelled l.statement) (record { number = first; statement = s }) (numbered (first + 1) statements)
    (All-head IsSpelled s statements h) (numbered_are (first + 1) statements (All-tail IsSpelled s statements h))

pub opened_is_spelled : OpenedIsSpelled
opened_is_spelled model o t opens =
    subst (λ (v : Listing). AreSpelled v.lines) (sym opens.is_version)
    (numbered_are 1 opens.statements (models_are_spelled model opens.statements opens.spelled))
