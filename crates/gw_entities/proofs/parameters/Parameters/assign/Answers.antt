use Rattle.std.proofs.Common.{◌≡◌, ap, sym, subst, ◌∙◌}
use Rattle.gw_entities.specs.Owned.{with_own, AreRising}
use Rattle.gw_entities.specs.Keeping.{grouped}
use Rattle.gw_entities.proofs.OwnLaws.{rising_with}
use Rattle.gw_entities.proofs.ParameterLaws.{assigned_is}
use Rattle.gw_entities.proofs.parameters.Parameters.assign.Goals as goal

pub invariant_of-self-2 : goal.invariant_of-self-2
invariant_of-self-2 c =
    let es = c.self.inside.own.entries in
    let key = c.args.key.now in
    let now : c.put.new.self.entries ≡ with_own es c.args.number key c.args.value =
    c.put.ensures.entries key c.in_ok-place.ensures.key ∙ ap (λ l. with_own l c.args.number key c.args.value) c.in_ok-place.ensures.entries in
    subst AreRising (sym now) (rising_with c.args.number key c.args.value es c.self.invariant)

pub returns-clause-ok : goal.returns-clause-ok
returns-clause-ok c =
    let es = c.self.inside.own.entries in
    let key = c.args.key.now in
    let now : c.put.new.self.entries ≡ with_own es c.args.number key c.args.value =
    c.put.ensures.entries key c.in_ok-place.ensures.key ∙ ap (λ l. with_own l c.args.number key c.args.value) c.in_ok-place.ensures.entries in
    rw (← c.self.view_is) (ap grouped now ∙ assigned_is es c.args.number key c.args.value c.self.invariant)
