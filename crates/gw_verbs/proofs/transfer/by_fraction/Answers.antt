use Rattle.std.proofs.Common.{ℕ, cond, nat_lt, Option, option_copied, subst}
use Rattle.gw_expr.specs.Term.{Term}
use Rattle.gw_meaning.specs.declared.moves.Move.{Move}
use Rattle.gw_meaning.specs.Evaluation.{Eval, draw, millionths}
use Rattle.gw_meaning.specs.Step.{lead_to}
use Rattle.gw_asking.specs.Deciding.{Decides}
use Rattle.gw_asking.proofs.Binding.{decides_then}
use Rattle.gw_verbs.proofs.transfer.by_fraction.Goals as goal

pub returns : goal.returns
returns c =
    let t = c.args.run.version.now in
    let seed = c.args.run.seed in
    let led : ℕ → Eval Move = λ x. lead_to c.args.id (cond (nat_lt (millionths x) c.args.part) (option_copied c.args.far) (option_copied c.args.near)) in
    let F : Option Term → Type 0 = λ o. Decides t seed (lead_to c.args.id o) c.lead_to.result c.draw.new.notes c.lead_to.new.notes in
    decides_then t seed (draw 1) led c.in_ok-number.number _ _ _ _ c.in_ok-number.ensures (subst F c.chosen.ensures c.lead_to.ensures)
