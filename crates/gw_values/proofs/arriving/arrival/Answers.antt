use Rattle.std.proofs.Common.{◌≡◌, ℤ, Option, Ok, Err, option_copied, true, refl, rules, None}
use Rattle.std.proofs.lemmas.Result.{err_from_is_err_and}
use Rattle.gw_nums.specs.Range.{is_negative}
use Rattle.gw_expr.specs.declared.stop.Stop.TheVariants.{BadCount}
use Rattle.gw_expr.specs.declared.halt.End.TheVariants as ends
use Rattle.gw_meaning.specs.declared.moves.Arrival.{Arrival}
use Rattle.gw_meaning.specs.Machine.{count_at}
use Rattle.gw_meaning.specs.Evaluation.{Eval, gives, ends_with, value_prog, ◌~>◌}
use Rattle.gw_meaning.specs.Step.{arrival_prog, arrival_within}
use Rattle.gw_expr.specs.declared.halt.Halt.TheVariants as halts
use Rattle.gw_asking.proofs.Binding.{decides_exit, decides_whole, decides_comes}
use Rattle.std.proofs.Common.{◌≡◌, Option, option_copied, ℤ, rules}
use Rattle.gw_meaning.specs.Evaluation.{Eval, value_prog, ◌~>◌}
use Rattle.gw_meaning.specs.Step.{arrival_prog, arrival_within, arrival_in_time}
use Rattle.gw_asking.proofs.Binding.{decides_whole}
use Rattle.gw_values.proofs.arriving.arrival.Goals as goal
use Rattle.gw_values.proofs.arriving.arrival.Goals.{in-Some+in_ok-limit+else-is_negative+else-magnitude-count, in_default}

pub returns : goal.returns
returns c =
    let t = c.args.context.run.version.now in
    let seed = c.args.context.run.seed in
    let s = c.args.context.state.now in
    elim c.match-limit.branch [
      | in-Some+in_ok-limit+else-is_negative+else-magnitude-count w ↦
          let made = (count_at s.counts c.args.id).made in
          let mean = option_copied c.args.mean in
          let range = option_copied c.args.range in
          let priority = option_copied c.args.priority in
          let n = w.in_ok-limit.limit in
          let limit = w.in-Some.limit.now in
          let rest : ℤ → Eval (Option Arrival) = λ n. arrival_within s c.args.context.asker.now c.args.id made mean range priority n in
          let whole : arrival_prog s c.args.context.asker.now c.args.id made mean range (option_copied c.args.limit) priority ≡
          (value_prog s c.args.context.asker.now limit ~> rest) = search rules in
          let here : rest n ≡ arrival_in_time s c.args.context.asker.now c.args.id mean range priority = search rules in
          let behind = rw (w.notes-is, ← here) at c.arrival_in_time.ensures in
          decides_whole t seed (value_prog s c.args.context.asker.now limit) rest _ n c.arrival_in_time.result c.args.notes.now w.value.new.notes
          c.arrival_in_time.new.notes whole
          w.in_ok-limit.ensures behind
      | in_default w ↦ search rules
    ]

pub returns-in_err-limit : goal.returns-in_err-limit
returns-in_err-limit c =
    let p = err_from_is_err_and c.from_residual.result c.from_residual.ensures.1 in
    let t = c.args.context.run.version.now in
    let seed = c.args.context.run.seed in
    let s = c.args.context.state.now in
    let made = (count_at s.counts c.args.id).made in
    let mean = option_copied c.args.mean in
    let range = option_copied c.args.range in
    let priority = option_copied c.args.priority in
    let limit = c.in-Some.limit.now in
    let first = value_prog s c.args.context.asker.now limit in
    let rest : ℤ → Eval (Option Arrival) = λ n. arrival_within s c.args.context.asker.now c.args.id made mean range priority n in
    let whole : arrival_prog s c.args.context.asker.now c.args.id made mean range (option_copied c.args.limit) priority ≡ (first ~> rest) = search rules in
    decides_exit t seed first rest _ _ _ c.in_err-limit.field-0.0 _ _ whole p.1 p.2 c.in_err-limit.ensures

pub returns-then-is_negative : goal.returns-then-is_negative
returns-then-is_negative c =
    let t = c.args.context.run.version.now in
    let seed = c.args.context.run.seed in
    let s = c.args.context.state.now in
    let made = (count_at s.counts c.args.id).made in
    let mean = option_copied c.args.mean in
    let range = option_copied c.args.range in
    let priority = option_copied c.args.priority in
    let limit = c.in-Some.limit.now in
    let first = value_prog s c.args.context.asker.now limit in
    let rest : ℤ → Eval (Option Arrival) = λ n. arrival_within s c.args.context.asker.now c.args.id made mean range priority n in
    let whole : arrival_prog s c.args.context.asker.now c.args.id made mean range (option_copied c.args.limit) priority ≡ (first ~> rest) = search rules in
    let n = c.in_ok-limit.limit in
    let below : is_negative n ≡ true = search rules in
    let here : rest n ≡ ends_with (ends.Error BadCount) = rw below refl in
    rw c.stop.ensures
    (decides_whole t seed first rest _ n (Err (halts.End (ends.Error BadCount))) c.args.notes.now c.value.new.notes c.value.new.notes whole c.in_ok-limit.ensures
    (decides_comes t seed (rest n) (Err (halts.End (ends.Error BadCount))) c.value.new.notes here))

pub returns-then-magnitude-count : goal.returns-then-magnitude-count
returns-then-magnitude-count c =
    let t = c.args.context.run.version.now in
    let seed = c.args.context.run.seed in
    let s = c.args.context.state.now in
    let made = (count_at s.counts c.args.id).made in
    let mean = option_copied c.args.mean in
    let range = option_copied c.args.range in
    let priority = option_copied c.args.priority in
    let limit = c.in-Some.limit.now in
    let first = value_prog s c.args.context.asker.now limit in
    let rest : ℤ → Eval (Option Arrival) = λ n. arrival_within s c.args.context.asker.now c.args.id made mean range priority n in
    let whole : arrival_prog s c.args.context.asker.now c.args.id made mean range (option_copied c.args.limit) priority ≡ (first ~> rest) = search rules in
    let n = c.in_ok-limit.limit in
    let none : Option Arrival = None in
    let here : rest n ≡ gives none = search rules in
    decides_whole t seed first rest _ n (Ok none) c.args.notes.now c.value.new.notes c.value.new.notes whole c.in_ok-limit.ensures
    (decides_comes t seed (rest n) (Ok none) c.value.new.notes here)
