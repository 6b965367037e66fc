use Rattle.std.proofs.Common.{◌≡◌, false, List, Ok, sym, ◌∙◌}
use Rattle.gw_meaning.specs.declared.moves.Move.{Move}
use Rattle.gw_meaning.specs.declared.moves.Arrival.{Arrival}
use Rattle.gw_meaning.specs.declared.moves.Move.TheVariants as moves
use Rattle.gw_meaning.specs.Evaluation.{Eval, gives}
use Rattle.gw_meaning.specs.Step.{first_arrivals_prog}
use Rattle.gw_asking.proofs.Binding.{decides_left, decides_then, decides_gives}
use Rattle.gw_scan.proofs.commands.start.Goals as goal

pub returns-in_err-arrivals : goal.returns-in_err-arrivals
returns-in_err-arrivals c =
    let t = c.args.run.version.now in
    let seed = c.args.run.seed in
    let s = c.args.state.now in
    let unprimed : s.primed ≡ false = sym c.is_primed.ensures ∙ c.if-is_primed.false in
    let rest : List Arrival → Eval Move = λ first. gives (moves.Start c.args.count first) in
    rw unprimed (decides_left t seed (first_arrivals_prog s c.args.count) rest _ c.in_err-arrivals.field-0.0 _ _ c.from_residual.ensures.1 c.in_err-arrivals.ensures)

pub returns : goal.returns
returns c =
    let t = c.args.run.version.now in
    let seed = c.args.run.seed in
    let s = c.args.state.now in
    let unprimed : s.primed ≡ false = sym c.is_primed.ensures ∙ c.if-is_primed.false in
    let rest : List Arrival → Eval Move = λ first. gives (moves.Start c.args.count first) in
    let first = c.in_ok-arrivals.arrivals in
    let m = moves.Start c.args.count first in
    rw unprimed (decides_then t seed (first_arrivals_prog s c.args.count) rest first (Ok m) _ _ _ c.in_ok-arrivals.ensures (decides_gives t seed m _))
