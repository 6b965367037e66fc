use Rattle.std.proofs.Common.{length, ◌-◌, ◌∷◌, [], ◌++◌, ◌∙◌, ap, sym, subst, arith, refl}
use Rattle.std.proofs.lemmas.List.Sorted.{IsNonDecreasingBy-push}
use Rattle.gw_uses.specs.declared.clock_steps.ClockStep.{ClockStep}
use Rattle.gw_uses.specs.Steps.{first_beyond, AreRising}
use Rattle.gw_uses.proofs.ClockLaws.{first_beyond_more, first_beyond_known}
use Rattle.gw_uses.proofs.clock_steps.ClockSteps.note.Goals as goal

pub invariant_of-self : goal.invariant_of-self
invariant_of-self c =
    let below = rw (← c.self.view_is) at c.requires in
    let last = rw (← c.self.view_is) at c.if-goes_beyond.ensures.last in
    let steps = c.self.inside.steps in
    let s : ClockStep = record { step = c.args.step; time = c.args.time } in
    let pushed : AreRising (steps ++ s ∷ []) = record {
      in_run = IsNonDecreasingBy-push (λ (r : ClockStep). r.step) steps s c.self.invariant.in_run (λ d some.
          let h = below (length steps - 1) d (omega (arith, some)) in
          omega (arith, h));
      on_clock = IsNonDecreasingBy-push (λ (r : ClockStep). r.time) steps s c.self.invariant.on_clock (λ d some. last refl d some);
    } in
    subst AreRising (sym c.in_ok-push.ensures.ok) pushed

pub returns-in_ok-push-clause-ok : goal.returns-in_ok-push-clause-ok
returns-in_ok-push-clause-ok c = rw (← c.self.view_is) (λ t. ap (λ xs. first_beyond t xs) c.in_ok-push.ensures.ok ∙ first_beyond_more t _ _)

pub returns-else-goes_beyond-clause-ok : goal.returns-else-goes_beyond-clause-ok
returns-else-goes_beyond-clause-ok c = λ t. first_beyond_known t c.args.step c.args.time _ (c.if-goes_beyond.ensures.known refl)
