use Rattle.std.proofs.Common.{◌≡◌, ◌%◌, ◌≤◌, length, refl, rules, subst, sym}
use Rattle.gw_record.specs.Tape.{Tape, Records, IsThere}
use Rattle.gw_record.proofs.KeepLaws.{due_next}
use Rattle.gw_record.proofs.recorded.Recorded.keep_due.Goals.{then-is_wanted+in_ok-keep_state+in_ok-keep_end, else-is_wanted}
use Rattle.gw_record.proofs.recorded.Recorded.keep_due.Goals as goal

-- the tip is not before the start, and kept at the start and at a multiple of the spacing
abbrev IsBegun : Tape → Type 0
IsBegun r =
    (r.start ≤ r.moment) × (r.moment ≡ r.start → IsThere r.kept r.moment) × (r.moment % r.every ≡ 0 → IsThere r.kept r.moment)

pub invariant_of-self : goal.invariant_of-self
invariant_of-self c =
    let (within, multiple, due, streams) = c.self-2.invariant in
    let begun : IsBegun c.if-is_wanted.self =
    elim c.if-is_wanted.branch [
      | then-is_wanted+in_ok-keep_state+in_ok-keep_end w ↦
          let kept = w.in_ok-keep_state.ensures.same in
          let noted = w.in_ok-keep_end.ensures.same in
          let there = w.in_ok-keep_state.ensures.ok in
          rw (w.self-is, noted.0, noted.1, noted.2, noted.4) (rw (kept.0, kept.2) c.requires, λ at. there, λ at. there)
      | else-is_wanted w ↦
          let not = w.if-is_wanted.ensures in
          rw w.self-is (c.requires, λ at. absurd (not.behind refl at), λ at. absurd (not.between refl at))
    ] in
    let now = subst IsBegun (sym c.self-2.view_is) begun in
    let noted : c.len.result ≡ length c.self-2.inside.ends.items = search rules in
    (within, multiple, rw noted (due_next _ _ _ _ _ now.0 now.1 now.2), streams)

pub returns-clause-records : goal.returns-clause-records
returns-clause-records c = λ t seed h.
    let records : Records t seed c.if-is_wanted.self =
    elim c.if-is_wanted.branch [
      | then-is_wanted+in_ok-keep_state+in_ok-keep_end w ↦
          rw w.self-is (w.in_ok-keep_end.ensures.records t seed (w.in_ok-keep_state.ensures.records t seed h))
      | else-is_wanted w ↦ rw w.self-is h
    ] in
    rw (← c.self-2.view_is) at records
