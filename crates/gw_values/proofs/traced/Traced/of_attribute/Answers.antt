use Rattle.std.proofs.Common.{ℤ, List, Result, Ok, ap}
use Rattle.std.specs.Option.{option_to_list}
use Rattle.std.proofs.lemmas.Result.{err_from_is_err_and}
use Rattle.gw_meaning.specs.declared.watched.Watched.{Watched}
use Rattle.gw_meaning.specs.Watching.{with_all_watched}
use Rattle.gw_meaning.specs.Evaluation.{Eval, gives, attribute_prog, watched_prog, ◌~>◌}
use Rattle.gw_expr.specs.declared.halt.Halt.{Halt}
use Rattle.gw_values.specs.Tracing.{with_read}
use Rattle.gw_asking.proofs.Binding.{decides_exit, decides_then, decides_gives}
use Rattle.std.proofs.Common.{refl}
use Rattle.gw_values.proofs.traced.Traced.of_attribute.Goals as goal

pub returns-in_err-thing-clause-decided : goal.returns-in_err-thing-clause-decided
returns-in_err-thing-clause-decided c =
    let w = c.args.self.now.seen in
    let t = w.context.run.version.now in
    let seed = w.context.run.seed in
    let class = c.args.sna.class in
    let of = c.args.sna.of.now in
    let read = c.args.self.now.read.now.items in
    let valued : List Watched → Eval (ℤ × List Watched) =
    λ more. attribute_prog w.context.state.now w.context.asker.now class of ~> (λ v. gives (v, with_all_watched read more)) in
    let p = err_from_is_err_and c.from_residual.result c.from_residual.ensures.1 in
    decides_exit t seed (watched_prog class of) valued _ _ _ c.in_err-thing.field-0.0 _ _ refl (ap (λ (r : Result ℤ Halt). with_read r read) p.1) p.2
    c.in_err-thing.ensures

pub returns-in_err-value-clause-decided : goal.returns-in_err-value-clause-decided
returns-in_err-value-clause-decided c =
    let w = c.args.self.now.seen in
    let t = w.context.run.version.now in
    let seed = w.context.run.seed in
    let class = c.args.sna.class in
    let of = c.args.sna.of.now in
    let read = c.args.self.now.read.now.items in
    let valued : List Watched → Eval (ℤ × List Watched) =
    λ more. attribute_prog w.context.state.now w.context.asker.now class of ~> (λ v. gives (v, with_all_watched read more)) in
    let more = option_to_list c.in_ok-thing.thing in
    let last : ℤ → Eval (ℤ × List Watched) = λ v. gives (v, with_all_watched read more) in
    let p = err_from_is_err_and c.from_residual-in_err-value.result c.from_residual-in_err-value.ensures.1 in
    decides_then t seed (watched_prog class of) valued more _ _ _ _ c.in_ok-thing.ensures
    (decides_exit t seed (attribute_prog w.context.state.now w.context.asker.now class of) last _ _ _ c.in_err-value.field-0.0 _ _ refl
    (ap (λ (r : Result ℤ Halt). with_read r read) p.1) p.2 c.in_err-value.ensures.0)

pub returns-clause-decided : goal.returns-clause-decided
returns-clause-decided c =
    let w = c.args.self.now.seen in
    let t = w.context.run.version.now in
    let seed = w.context.run.seed in
    let class = c.args.sna.class in
    let of = c.args.sna.of.now in
    let read = c.args.self.now.read.now.items in
    let valued : List Watched → Eval (ℤ × List Watched) =
    λ more. attribute_prog w.context.state.now w.context.asker.now class of ~> (λ v. gives (v, with_all_watched read more)) in
    let more = option_to_list c.in_ok-thing.thing in
    let last : ℤ → Eval (ℤ × List Watched) = λ v. gives (v, with_all_watched read more) in
    let v = c.in_ok-value.value in
    let both : ℤ × List Watched = (v, with_all_watched read more) in
    rw c.in_ok-keep.ensures
    (decides_then t seed (watched_prog class of) valued more (Ok both) w.notes.now c.watched.new.notes c.attribute.new.self.notes.now c.in_ok-thing.ensures
    (decides_then t seed (attribute_prog w.context.state.now w.context.asker.now class of) last v (Ok both) c.watched.new.notes c.attribute.new.self.notes.now c.attribute.new.self.notes.now
    c.in_ok-value.ensures.0
    (decides_gives t seed both c.attribute.new.self.notes.now)))
