use Rattle.std.proofs.Common.{◌∷◌, []}
use Rattle.std.proofs.lemmas.Bool.Decides.{Decides-eqb}
use Rattle.std.proofs.lemmas.Slice.Eq.{strip_suffix_is}
use Rattle.gw_lines.proofs.Closing.{closing_is}
use Rattle.gw_lines.proofs.expression.before_closing.Goals as goal

pub returns : goal.returns
returns c =
    let text = c.args.text.now in
    closing_is text c.strip_suffix.result
    (strip_suffix_is Decides-eqb text (41 ∷ []) c.strip_suffix.result c.strip_suffix.ensures.cases)
