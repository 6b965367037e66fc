use Rattle.std.proofs.Common.{⊎_elim, inl, inr, ◌+◌, ◌%◌, ◌≤◌, ◌<◌, length, ap, sym, ◌∙◌, arith}
use Rattle.std.proofs.lemmas.Bool.Decides.{nat_tests}
use Rattle.gw_record.proofs.KeepLaws.{between, at_multiple}
use Rattle.gw_record.proofs.RecordLaws.{end_is_there}
use Rattle.gw_record.proofs.recorded.Recorded.is_wanted.Goals as goal

pub returns-then-self-2-clause-yes : goal.returns-then-self-2-clause-yes
returns-then-self-2-clause-yes c = λ yes t seed h.
    let (within, next, due, streams) = c.self.invariant in
    let here = ap (λ n. (c.self.inside.moment + n) % c.self.inside.every) (sym c.if-self-2.true) ∙ next in
    rw (← c.self.view_is) (inr (inl (at_multiple c.self.inside.every c.self.inside.moment here)))

pub returns-else-self-2-clause-no : goal.returns-else-self-2-clause-no
returns-else-self-2-clause-no c = λ no t seed h want.
    let (within, next, due, streams) = c.self.invariant in
    let kept = rw (← c.self.view_is) at h in
    let from = kept.from in
    let behind : c.self.inside.start < c.self.inside.moment = grind (arith, nat_tests, from) in
    let few : c.self.inside.tip.complete ≤ length c.self.inside.ends.items = grind (arith, nat_tests) in
    let less : c.self.inside.ahead < c.self.inside.every = omega arith in
    rw (← c.self.view_is) (⊎_elim (λ at. absurd (omega (arith, at, behind)))
    (λ other. ⊎_elim (λ multiple. absurd (between c.self.inside.every c.self.inside.moment c.self.inside.ahead next within.0 less multiple))
    (λ end. end_is_there t seed end.0 _ kept behind few end.1) other)
    (rw (← c.self.view_is) at want))

pub returns-else-self-2-clause-between : goal.returns-else-self-2-clause-between
returns-else-self-2-clause-between c = λ no here.
    let (within, next, due, streams) = c.self.invariant in
    let less : c.self.inside.ahead < c.self.inside.every = omega arith in
    between c.self.inside.every c.self.inside.moment c.self.inside.ahead next within.0 less (rw (← c.self.view_is) at here)
