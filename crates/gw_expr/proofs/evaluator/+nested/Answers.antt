use Rattle.std.proofs.Common.{◌-◌, arith, ◌≡◌, ℕ, suc, None, rules}
use Rattle.gw_expr.specs.declared.stop.Stop.TheVariants.{Range, VariableDepth}
use Rattle.gw_expr.specs.Evaluation.{value_of_atom, value_by, argument_by, definitions_within}
use Rattle.gw_expr.specs.Worlds.{yields, stops, refused, replied, failed}
use Rattle.gw_expr.proofs.Worlds.{exit_fault, then_goes, then_fails, goes_comes, goes_asked, evaluates_as}
use Rattle.gw_expr.proofs.Parts.{value_goes, value_fails, part_fails, part_goes, parts_end}
use Rattle.gw_expr.proofs.evaluator.+nested.Goals as goal

one_less : (depth : ℕ) → (depth ≡ 0 → ⊥) → depth ≡ suc (depth - 1)
one_less depth some = omega (arith, some)

pub term-returns-in-Value : goal.term-returns-in-Value
unfolding value_by
term-returns-in-Value g n c = evaluates_as (search rules) c.alone.ensures

pub term-returns-in-Computed : goal.term-returns-in-Computed
unfolding value_by
term-returns-in-Computed g n c = evaluates_as (search rules) c.computed_long.ensures

pub term-returns-in-Computed-2 : goal.term-returns-in-Computed-2
unfolding value_by
term-returns-in-Computed-2 g n c = evaluates_as (search rules) c.computed.ensures

pub of_atom-returns-in-Constant : goal.of_atom-returns-in-Constant
unfolding value_of_atom
of_atom-returns-in-Constant g n c = rw c.in-Constant.is (yields _ _)

pub of_atom-returns-in-Number : goal.of_atom-returns-in-Number
unfolding value_of_atom
of_atom-returns-in-Number g n c = rw c.in-Number.is c.of_number.ensures

pub of_atom-returns-then-is_of_variable : goal.of_atom-returns-then-is_of_variable
unfolding value_of_atom
of_atom-returns-then-is_of_variable g n c = evaluates_as (search rules) c.of_variable.ensures

pub of_atom-returns-then-is_of_function : goal.of_atom-returns-then-is_of_function
unfolding value_of_atom
of_atom-returns-then-is_of_function g n c = evaluates_as (search rules) c.whole_of_function.ensures

pub of_atom-returns-else-is_of_function : goal.of_atom-returns-else-is_of_function
unfolding value_of_atom
of_atom-returns-else-is_of_function g n c = evaluates_as (search rules) (goes_asked _ (λ v. tt) c.attribute.ensures)

pub alone-returns : goal.alone-returns
alone-returns g n c = c.of_atom.ensures

pub of_variable-returns-then-depth-eq0 : goal.of_variable-returns-then-depth-eq0
unfolding definitions_within
of_variable-returns-then-depth-eq0 g n c =
    rw (c.in-Name.is, c.if-depth-eq0.true, c.stop-then-depth-eq0.ensures) (stops VariableDepth _)

pub of_variable-returns-in_err-note_variable : goal.of_variable-returns-in_err-note_variable
unfolding definitions_within
of_variable-returns-in_err-note_variable g n c =
    rw (c.in-Name.is, one_less c.args.depth c.if-depth-eq0.false, exit_fault c.from_residual.ensures.1)
    (failed _ _ _ _ _ (c.in_err-note_variable.ensures None))

pub of_variable-returns-in-Some : goal.of_variable-returns-in-Some
unfolding definitions_within
of_variable-returns-in-Some g n c =
    rw (c.in-Name.is, one_less c.args.depth c.if-depth-eq0.false)
    (replied _ _ _ _ _ _ _ c.in-Some.ensures (c.in_ok-note_variable.ensures _) c.term.ensures)

pub of_variable-returns-in-None : goal.of_variable-returns-in-None
unfolding definitions_within
of_variable-returns-in-None g n c =
    rw (c.in-Name.is, one_less c.args.depth c.if-depth-eq0.false, c.stop-in-None.ensures)
    (replied _ _ _ _ _ _ _ c.in-None.ensures (c.in_ok-note_variable.ensures _) (stops Range _))

pub of_function-returns-then-depth-eq0 : goal.of_function-returns-then-depth-eq0
unfolding definitions_within
of_function-returns-then-depth-eq0 g n c =
    rw (c.in-Name.is, c.if-depth-eq0.true, c.stop-then-depth-eq0.ensures) (stops VariableDepth _)

pub of_function-returns-in_err-note_function : goal.of_function-returns-in_err-note_function
unfolding definitions_within
of_function-returns-in_err-note_function g n c =
    rw (c.in-Name.is, one_less c.args.depth c.if-depth-eq0.false, exit_fault c.from_residual.ensures.1)
    (failed _ _ _ _ _ (c.in_err-note_function.ensures None))

pub of_function-returns-in-Some : goal.of_function-returns-in-Some
unfolding definitions_within
of_function-returns-in-Some g n c =
    rw (c.in-Name.is, one_less c.args.depth c.if-depth-eq0.false)
    (replied _ _ _ _ _ _ _ c.in-Some.ensures (c.in_ok-note_function.ensures _) c.at_argument.ensures)

pub of_function-returns-in-None : goal.of_function-returns-in-None
unfolding definitions_within
of_function-returns-in-None g n c =
    rw (c.in-Name.is, one_less c.args.depth c.if-depth-eq0.false, c.stop-in-None.ensures)
    (replied _ _ _ _ _ _ _ c.in-None.ensures (c.in_ok-note_function.ensures _) (stops Range _))

pub whole_of_function-returns-in_err-y : goal.whole_of_function-returns-in_err-y
whole_of_function-returns-in_err-y g n c = rw (exit_fault c.from_residual.ensures.1) (then_fails _ c.in_err-y.ensures)

pub whole_of_function-returns : goal.whole_of_function-returns
whole_of_function-returns g n c = rw c.whole.ensures (then_goes _ c.in_ok-y.ensures (yields _ _))

pub at_argument-returns-in_err-x : goal.at_argument-returns-in_err-x
at_argument-returns-in_err-x g n c = rw (exit_fault c.from_residual.ensures.1) (then_fails _ c.in_err-x.ensures)

pub at_argument-returns : goal.at_argument-returns
at_argument-returns g n c = then_goes _ c.in_ok-x.ensures (goes_comes _ (rw c.at.ensures at c.point_found.ensures))

pub argument-returns-in-Some : goal.argument-returns-in-Some
unfolding argument_by
argument-returns-in-Some g n c = evaluates_as (search rules) (goes_asked _ (λ x. tt) c.part.ensures)

pub argument-returns-in-None : goal.argument-returns-in-None
unfolding argument_by
argument-returns-in-None g n c = evaluates_as (search rules) c.whole_argument.ensures

pub whole_argument-returns-in_err-value : goal.whole_argument-returns-in_err-value
whole_argument-returns-in_err-value g n c = rw (exit_fault c.from_residual.ensures.1) (then_fails _ c.in_err-value.ensures)

pub whole_argument-returns : goal.whole_argument-returns
whole_argument-returns g n c = rw c.of_value.ensures (then_goes _ c.in_ok-value.ensures (yields _ _))

pub computed-loop-part-init : goal.computed-loop-part-init
computed-loop-part-init g n c = (record { so_far = rw c.new-values.ensures (yields _ _) }, rw c.new-values.ensures (omega arith))

pub computed-returns-in_err-part_of_few : goal.computed-returns-in_err-part_of_few
computed-returns-in_err-part_of_few g n c =
    rw (exit_fault c.from_residual.ensures.1)
    (part_fails c.loop-part.invariant.0 c.loop-part-test.true c.part-item.is c.in_err-part_of_few.ensures.evaluates)

pub computed-loop-part-preserved : goal.computed-loop-part-preserved
computed-loop-part-preserved g n c = (
  part_goes c.loop-part.invariant.0 c.loop-part-test.true c.part-item.is c.in_ok-part_of_few.ensures.evaluates,
  omega (arith, c.in_ok-part_of_few.ensures.more, c.loop-part.invariant.1),
)

pub computed-returns : goal.computed-returns
computed-returns g n c = parts_end c.loop-part.invariant.0 c.loop-part-test.false c.last.ensures

pub computed_long-loop-part-init : goal.computed_long-loop-part-init
computed_long-loop-part-init g n c = record { so_far = rw c.new-values.ensures (yields _ _) }

pub computed_long-returns-in_err-part_of_many : goal.computed_long-returns-in_err-part_of_many
computed_long-returns-in_err-part_of_many g n c =
    rw (exit_fault c.from_residual.ensures.1)
    (part_fails c.loop-part.invariant c.loop-part-test.true c.part-item.is c.in_err-part_of_many.ensures)

pub computed_long-loop-part-preserved : goal.computed_long-loop-part-preserved
computed_long-loop-part-preserved g n c = part_goes c.loop-part.invariant c.loop-part-test.true c.part-item.is c.in_ok-part_of_many.ensures

pub computed_long-returns : goal.computed_long-returns
computed_long-returns g n c = parts_end c.loop-part.invariant c.loop-part-test.false c.last.ensures

pub part_of_few-returns-in_err-value-in-Value-clause-evaluates : goal.part_of_few-returns-in_err-value-in-Value-clause-evaluates
part_of_few-returns-in_err-value-in-Value-clause-evaluates g n c =
    rw (exit_fault c.from_residual.ensures.1) (value_fails _ _ c.in-Value.is c.in_err-value-in-Value.ensures)

pub part_of_few-returns-in_ok-value-in-Value-clause-evaluates : goal.part_of_few-returns-in_ok-value-in-Value-clause-evaluates
part_of_few-returns-in_ok-value-in-Value-clause-evaluates g n c = value_goes _ _ c.in-Value.is c.push.ensures c.in_ok-value-in-Value.ensures

pub part_of_few-returns-in-Negated-clause-evaluates : goal.part_of_few-returns-in-Negated-clause-evaluates
part_of_few-returns-in-Negated-clause-evaluates g n c = rw c.in-Negated.is (goes_comes _ c.negate_last.ensures.comes)

pub part_of_few-returns-in-Applied-clause-evaluates : goal.part_of_few-returns-in-Applied-clause-evaluates
part_of_few-returns-in-Applied-clause-evaluates g n c = rw c.in-Applied.is (goes_comes _ c.apply_last.ensures.comes)

pub part_of_many-returns-in_err-found-in-Value : goal.part_of_many-returns-in_err-found-in-Value
part_of_many-returns-in_err-found-in-Value g n c = rw (exit_fault c.from_residual.ensures.1) (value_fails _ _ c.in-Value.is c.in_err-found-in-Value.ensures)

pub part_of_many-returns-in_err-push-in-Value : goal.part_of_many-returns-in_err-push-in-Value
part_of_many-returns-in_err-push-in-Value g n c =
    rw (c.in-Value.is, exit_fault c.from_residual-in_err-push-in-Value.ensures.1) (then_goes _ c.in_ok-found-in-Value.ensures (refused _ _))

pub part_of_many-returns-in_ok-push-in-Value : goal.part_of_many-returns-in_ok-push-in-Value
part_of_many-returns-in_ok-push-in-Value g n c = value_goes _ _ c.in-Value.is c.in_ok-push-in-Value.ensures.ok c.in_ok-found-in-Value.ensures

pub part_of_many-returns-in-Negated : goal.part_of_many-returns-in-Negated
part_of_many-returns-in-Negated g n c = rw c.in-Negated.is (goes_comes _ c.negate_last.ensures)

pub part_of_many-returns-in-Applied : goal.part_of_many-returns-in-Applied
part_of_many-returns-in-Applied g n c = rw c.in-Applied.is (goes_comes _ c.apply_last.ensures)
