use Rattle.std.proofs.Common.{◌≡◌, ◌+◌, ◌-◌, subst, sym, refl, rules, ltb-true, ℕ}
use Rattle.std.proofs.lemmas.Option.{slice_get_read}
use Rattle.gw_record.specs.Tape.{IsStartEnd}
use Rattle.gw_record.proofs.recorded.Recorded.start_end.Goals as goal

pub returns-in-Some : goal.returns-in-Some
returns-in-Some c = λ t seed h.
    let kept = rw (← c.self.view_is) at h in
    let found = rw c.deref.ensures.value at c.in-Some.ensures.lookup in
    let at = c.args.k - 1 in
    let moment = c.in-Some.moment.now in
    let o = kept.ends at moment (slice_get_read c.self.inside.ends.items _ at moment refl (ltb-true _ _ (sym found.0)) found.1) in
    let e : c.args.k - 1 + 1 ≡ c.args.k = search rules in
    rw (← c.self.view_is) (o.below, subst (λ (k : ℕ). IsStartEnd t seed k c.in-Some.moment.now) e o.end)
