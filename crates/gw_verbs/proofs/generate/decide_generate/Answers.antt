use Rattle.std.proofs.Common.{◌≡◌, Option, Ok, option_copied, refl, rules}
use Rattle.std.proofs.lemmas.Result.{err_from_is_err_and}
use Rattle.gw_meaning.specs.declared.moves.Move.{Move}
use Rattle.gw_meaning.specs.declared.moves.Arrival.{Arrival}
use Rattle.gw_meaning.specs.declared.moves.Change.TheVariants as changes
use Rattle.gw_meaning.specs.declared.moves.Fate.TheVariants as fates
use Rattle.gw_meaning.specs.declared.moves.Move.TheVariants as moves
use Rattle.gw_meaning.specs.Machine.{count_at}
use Rattle.gw_meaning.specs.Evaluation.{Eval, gives, ◌~>◌}
use Rattle.gw_meaning.specs.Step.{for_none, arrival_prog, generate_prog}
use Rattle.gw_asking.proofs.Binding.{decides_exit, decides_whole, decides_gives}
use Rattle.gw_verbs.proofs.generate.decide_generate.Goals as goal

pub returns-in_err-next : goal.returns-in_err-next
returns-in_err-next c =
    let t = c.args.context.run.version.now in
    let seed = c.args.context.run.seed in
    let s = c.args.context.state.now in
    let asked = arrival_prog s c.for_none.result c.args.id (count_at s.counts c.args.id).made (option_copied c.args.mean)
    (option_copied c.args.range) (option_copied c.args.limit) (option_copied c.args.priority) in
    let rest : Option Arrival → Eval Move = λ next. gives (moves.Enter c.args.id (changes.Generate next) fates.Active) in
    let remaining : for_none s.remaining ≡ c.for_none.result = search rules in
    let whole : generate_prog s c.args.x.now c.args.id (option_copied c.args.mean) (option_copied c.args.range) (option_copied c.args.limit)
    (option_copied c.args.priority) ≡ (asked ~> rest) = rw (remaining, ← c.number.ensures, c.if-number-ne0.false) refl in
    let p = err_from_is_err_and c.from_residual.result c.from_residual.ensures.1 in
    decides_exit t seed asked rest _ _ _ c.in_err-next.field-0.0 _ _ whole p.1 p.2 c.in_err-next.ensures

pub returns : goal.returns
returns c =
    let t = c.args.context.run.version.now in
    let seed = c.args.context.run.seed in
    let s = c.args.context.state.now in
    let asked = arrival_prog s c.for_none.result c.args.id (count_at s.counts c.args.id).made (option_copied c.args.mean)
    (option_copied c.args.range) (option_copied c.args.limit) (option_copied c.args.priority) in
    let rest : Option Arrival → Eval Move = λ next. gives (moves.Enter c.args.id (changes.Generate next) fates.Active) in
    let remaining : for_none s.remaining ≡ c.for_none.result = search rules in
    let whole : generate_prog s c.args.x.now c.args.id (option_copied c.args.mean) (option_copied c.args.range) (option_copied c.args.limit)
    (option_copied c.args.priority) ≡ (asked ~> rest) = rw (remaining, ← c.number.ensures, c.if-number-ne0.false) refl in
    let next = c.in_ok-next.next in
    let m = moves.Enter c.args.id (changes.Generate next) fates.Active in
    decides_whole t seed asked rest _ next (Ok m) _ _ _ whole c.in_ok-next.ensures (decides_gives t seed m _)
