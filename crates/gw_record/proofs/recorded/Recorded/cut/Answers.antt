use Rattle.std.proofs.Common.{◌≡◌, sym, ◌∙◌, arith}
use Rattle.gw_record.proofs.CutLaws.{cut_back, one_is_kept}
use Rattle.gw_record.proofs.KeepLaws.{due_all}
use Rattle.gw_record.proofs.recorded.Recorded.cut.Goals as goal

pub returns-in-Some-clause-records : goal.returns-in-Some-clause-records
returns-in-Some-clause-records c = λ t seed h.
    let within = rw c.as_slice.ensures.value at c.count_until-count.ensures.bound in
    let parts = rw c.as_slice.ensures.value at c.count_until-count.ensures.parts in
    let before = rw (← c.self.view_is) at h in
    let taken = sym c.truncate.ensures.items ∙ c.in-Some.ensures.items in
    (cut_back t seed _ c.args.moment _ _ c.in-Some.last c.go_back.new.self before c.if-moment-self.true within parts taken c.go_back.ensures).0

pub returns-in-Some-clause-kept : goal.returns-in-Some-clause-kept
returns-in-Some-clause-kept c = λ t seed h.
    let within = rw c.as_slice.ensures.value at c.count_until-count.ensures.bound in
    let parts = rw c.as_slice.ensures.value at c.count_until-count.ensures.parts in
    let before = rw (← c.self.view_is) at h in
    let taken = sym c.truncate.ensures.items ∙ c.in-Some.ensures.items in
    rw (← c.self.view_is) (cut_back t seed _ c.args.moment _ _ c.in-Some.last c.go_back.new.self before c.if-moment-self.true within parts taken
    c.go_back.ensures).1

pub returns-in-None-clause-records : goal.returns-in-None-clause-records
returns-in-None-clause-records c = λ t seed h.
    let within = rw c.as_slice.ensures.value at c.count_until-count.ensures.bound in
    let parts = rw c.as_slice.ensures.value at c.count_until-count.ensures.parts in
    let none : c.count_until-count.result ≡ 0 = grind (arith, within) in
    let from = rw (← c.self.view_is) at c.requires in
    absurd (one_is_kept t seed _ c.args.moment _ (rw (← c.self.view_is) at h) from c.if-moment-self.true parts none)

pub returns-in-None-clause-kept : goal.returns-in-None-clause-kept
returns-in-None-clause-kept c = λ t seed h.
    let within = rw c.as_slice.ensures.value at c.count_until-count.ensures.bound in
    let parts = rw c.as_slice.ensures.value at c.count_until-count.ensures.parts in
    let none : c.count_until-count.result ≡ 0 = grind (arith, within) in
    let from = rw (← c.self.view_is) at c.requires in
    absurd (one_is_kept t seed _ c.args.moment _ (rw (← c.self.view_is) at h) from c.if-moment-self.true parts none)

pub invariant_of-self : goal.invariant_of-self
invariant_of-self c =
    let (within, multiple, due, streams) = c.self.invariant in
    (within, multiple, due_all _ _ _ _ _, streams)
