use Rattle.std.proofs.Common.{◌≡◌, ℕ, List, [], Some, refl, sym, subst}
use Rattle.gw_names.specs.declared.key.Key.{Key}
use Rattle.gw_expr.specs.Term.{Term}
use Rattle.gw_expr.specs.declared.expr.Expr.TheVariants.{Named}
use Rattle.gw_expr.specs.Evaluation.{value_of}
use Rattle.gw_meaning.specs.declared.asker.Asker.{Asker}
use Rattle.gw_meaning.specs.declared.watched.Watched.{Watched}
use Rattle.gw_meaning.specs.Evaluation.{Eval, gives, numbered, traced, entity_traced, ◌~>◌}
use Rattle.gw_meaning.specs.Machine.{Machine}
use Rattle.gw_asking.specs.Deciding.{Decides}
use Rattle.gw_values.specs.Tracing.{with_read}
use Rattle.gw_values.proofs.operand.entity_traced.Goals as goal

abbrev computed : Machine → Asker → List Watched → Term → Eval (Key × List Watched)
computed s q read term = traced s q read (value_of term) ~> (λ r. numbered r.0 ~> (λ key. gives (key, r.1)))

-- what is no name is the entity with the number that it comes to
of_number : (s : Machine) (q : Asker) (term : Term) → ((x : List ℕ) → term ≡ Named x → ⊥) →
    entity_traced s q (Some term) ≡ computed s q [] term
of_number s q (Named name) other = absurd (other name refl)
of_number s q term other = refl

pub returns-in_default : goal.returns-in_default
returns-in_default c =
    let s = c.args.context.state.now in
    let q = c.args.context.asker.now in
    let whole = of_number s q c.args.operand.now c.in_default.not-Named in
    let read = c.computed_traced.new.read.items in
    let F : Eval (Key × List Watched) → Type 0 = λ p. Decides c.args.context.run.version.now c.args.context.run.seed p (with_read c.computed_traced.result read)
    c.args.notes.now c.computed_traced.new.notes in
    let G : List Watched → Type 0 = λ list. F (computed s q list c.args.operand.now) in
    subst F (sym whole) (subst G c.requires c.computed_traced.ensures)
