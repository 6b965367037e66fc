use Rattle.std.proofs.Common.{◌≡◌, ◌+◌, ◌<◌, None, Some, length, refl, ap, subst, ◌∙◌, arith, rules}
use Rattle.std.specs.Prelude.{slice_get}
use Rattle.gw_meaning.specs.Changes.{count_anew}
use Rattle.gw_table.specs.Pairs.{with_value}
use Rattle.gw_chains.proofs.AnewLaws.{has_value, set_next, next_there, one_is_left}
use Rattle.gw_chains.proofs.counts.Counts.count_anew.Goals.{in-Some, in_default}
use Rattle.gw_chains.proofs.counts.Counts.count_anew.Goals as goal

pub set-requires : goal.set-requires
set-requires c = λ none.
    let there : slice_get c.loop-place.self-inside.table.entries c.loop-place.place ≡ Some (c.in-Some.id, c.in-Some.count) = search rules in
    absurd (has_value c.loop-place.self-inside.table.entries c.loop-place.place c.in-Some.id c.in-Some.count there none)

pub loop-place-preserved : goal.loop-place-preserved
loop-place-preserved c =
    let es = c.self.inside.table.entries in
    let i = c.loop-place.place in
    elim c.match-pair.branch [
      | in-Some w ↦
          let there : slice_get c.loop-place.self-inside.table.entries i ≡ Some (w.in-Some.id, w.in-Some.count) = search rules in
          let old = next_there count_anew es i (w.in-Some.id, w.in-Some.count) (subst (λ l. slice_get l i ≡ Some (w.in-Some.id, w.in-Some.count)) c.loop-place.invariant there) in
          let value = count_anew w.in-Some.count in
          ap (λ v. v.table.entries) w.self-inside-is ∙
          (w.set.ensures.entries ∙
          (ap (λ l. with_value l w.in-Some.id value) c.loop-place.invariant ∙
          set_next count_anew es i (i + 1) w.in-Some.id w.in-Some.count value (omega arith) c.len-place-end.ensures.distinct old refl))
      | in_default w ↦
          let none : slice_get c.loop-place.self-inside.table.entries i ≡ None = search rules in
          let within : i < length es = search rules in
          absurd (one_is_left count_anew es i within (subst (λ l. slice_get l i ≡ None) c.loop-place.invariant none))
    ]
