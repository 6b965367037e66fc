use Rattle.std.proofs.Common.{ℤ, List, Result, ap, refl}
use Rattle.std.proofs.lemmas.Result.{err_from_is_err_and}
use Rattle.gw_names.specs.declared.key.Key.{Key}
use Rattle.gw_expr.specs.Evaluation.{value_of}
use Rattle.gw_meaning.specs.declared.watched.Watched.{Watched}
use Rattle.gw_meaning.specs.Evaluation.{Eval, gives, numbered, traced, ◌~>◌}
use Rattle.gw_expr.specs.declared.halt.Halt.{Halt}
use Rattle.gw_values.specs.Tracing.{with_read}
use Rattle.gw_asking.proofs.Binding.{decides_exit, decides_then}
use Rattle.gw_values.proofs.Tracing.{comes_with}
use Rattle.gw_values.proofs.operand.computed_traced.Goals as goal

pub returns-in_err-number : goal.returns-in_err-number
returns-in_err-number c =
    let t = c.args.context.run.version.now in
    let seed = c.args.context.run.seed in
    let s = c.args.context.state.now in
    let q = c.args.context.asker.now in
    let first = traced s q c.args.read.now.items (value_of c.args.operand.now) in
    let rest : ℤ × List Watched → Eval (Key × List Watched) = λ r. numbered r.0 ~> (λ key. gives (key, r.1)) in
    let p = err_from_is_err_and c.from_residual.result c.from_residual.ensures.1 in
    decides_exit t seed first rest _ _ _ c.in_err-number.field-0.0 _ _ refl (ap (λ (r : Result Key Halt). with_read r c.evaluation_traced.new.read.items) p.1) p.2 c.in_err-number.ensures

pub returns : goal.returns
returns c =
    let t = c.args.context.run.version.now in
    let seed = c.args.context.run.seed in
    let s = c.args.context.state.now in
    let q = c.args.context.asker.now in
    let first = traced s q c.args.read.now.items (value_of c.args.operand.now) in
    let rest : ℤ × List Watched → Eval (Key × List Watched) = λ r. numbered r.0 ~> (λ key. gives (key, r.1)) in
    let n = c.in_ok-number.number in
    decides_then t seed first rest (n, c.evaluation_traced.new.read.items) _ _ _ _ c.in_ok-number.ensures
    (comes_with t seed (numbered n) c.key_numbered.result _ _ c.key_numbered.ensures)
