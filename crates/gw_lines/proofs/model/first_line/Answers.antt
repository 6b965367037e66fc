use Rattle.std.proofs.Common.{◌≡◌, true, false, sym, ◌∙◌}
use Rattle.std.proofs.lemmas.Bool.{not-true, not-false}
use Rattle.gw_lines.specs.declared.class.Class.TheVariants as class
use Rattle.gw_lines.specs.Classes.{is_nothing, rest_of}
use Rattle.gw_lines.proofs.Models.{last_line, ended_line}
use Rattle.gw_lines.proofs.model.first_line.Goals as goal
use Rattle.gw_lines.proofs.model.first_line.Goals.{then-ended, else-ended}

pub returns-clause-lines : goal.returns-clause-lines
returns-clause-lines c =
    let bytes = c.args.bytes.now in
    let is = c.piece-ended.ensures in
    λ some. elim c.if-ended.branch [
      | then-ended w ↦
          let left : is_nothing (rest_of class.Line bytes) ≡ false = not-true _ (sym is.ended ∙ w.if-ended.true) in
          rw (w.result-is, w.chomped.ensures, is.front, is.behind) (ended_line bytes left)
      | else-ended w ↦
          let none : is_nothing (rest_of class.Line bytes) ≡ true = not-false _ (sym is.ended ∙ w.if-ended.false) in
          rw (w.result-is, is.front, is.behind) (last_line bytes none some)
    ]
