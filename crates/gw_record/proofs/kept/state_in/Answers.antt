use Rattle.std.proofs.Common.{◌≤◌, ◌<◌, ◌-◌, ◌∙◌, length, ap, refl, subst, arith}
use Rattle.std.proofs.lemmas.Option.{slice_get_read}
use Rattle.gw_record.specs.Parting.{AreUntil}
use Rattle.gw_record.specs.declared.kept.Kept.{Kept}
use Rattle.gw_record.proofs.CutLaws.{none_among, not_among}
use Rattle.gw_record.proofs.kept.state_in.Goals as goal

pub returns-then-count-eq0-clause-none : goal.returns-then-count-eq0-clause-none
returns-then-count-eq0-clause-none c = λ rising.
    let count = c.count_until-count in
    let parts = subst (λ n. AreUntil c.args.kept.now c.args.moment n) c.if-count-eq0.true (count.ensures.parts rising) in
    none_among c.args.kept.now c.args.moment parts

pub returns-then-last-moment-clause-found : goal.returns-then-last-moment-clause-found
returns-then-last-moment-clause-found c =
    let kept = c.args.kept.now in
    let count = c.count_until-count in
    let within : count.result - 1 < length kept = omega (arith, c.if-count-eq0.false, count.ensures.bound) in
    let there = slice_get_read kept (length kept) (count.result - 1) _ refl within c.index-kept-count.is in
    (count.result - 1, c.index-kept-count.result, there, c.if-last-moment.true, refl)

pub returns-else-last-moment-clause-none : goal.returns-else-last-moment-clause-none
returns-else-last-moment-clause-none c = λ rising.
    let count = c.count_until-count in
    let some : 1 ≤ count.result = grind (arith, c.if-count-eq0.false) in
    not_among c.args.kept.now c.args.moment count.result c.index-kept-count.result some count.ensures.bound rising (count.ensures.parts rising)
    (λ same. c.if-last-moment.false (ap (λ (e : Kept). e.moment) c.index-kept-count.is ∙ same))
