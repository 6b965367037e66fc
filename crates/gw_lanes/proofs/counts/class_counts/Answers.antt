use Rattle.std.proofs.Common.{◌≡◌, ℤ, ap, ◌∙◌, sym, arith, rules, pos, get_or, w32, FitsSigned, length-set, ℕ}
use Rattle.std.specs.Prelude.{sum}
use Rattle.std.proofs.lemmas.Int.{to_z-of_z}
use Rattle.gw_lanes.specs.Counts.{count_at_most}
use Rattle.gw_lanes.proofs.Classes.{class_at, next_set, before_next, all_set, all_counted}
use Rattle.gw_lanes.proofs.counts.class_counts.Goals as goal

pub overflow_sub-counts : goal.overflow_sub-counts
overflow_sub-counts c =
    let limits = c.args.limits.now in
    let zs = c.args.values.now in
    let i = c.loop-i.i in
    let fits : FitsSigned w32 (get_or limits i (pos 0)) = search rules in
    let found : c.count_at_most-up_to.result ≡ count_at_most (get_or limits i (pos 0)) zs =
    c.count_at_most-up_to.ensures.value ∙ ap (λ (m : ℤ). count_at_most m zs) (to_z-of_z w32 (get_or limits i (pos 0)) fits) in
    omega (arith, class_at limits zs c.requires.rising i c.loop-i-test.true, found, c.loop-i.invariant.before_is)

pub loop-i-preserved : goal.loop-i-preserved
loop-i-preserved c =
    let limits = c.args.limits.now in
    let zs = c.args.values.now in
    let i = c.loop-i.i in
    let fits : FitsSigned w32 (get_or limits i (pos 0)) = search rules in
    let found : c.count_at_most-up_to.result ≡ count_at_most (get_or limits i (pos 0)) zs =
    c.count_at_most-up_to.ensures.value ∙ ap (λ (m : ℤ). count_at_most m zs) (to_z-of_z w32 (get_or limits i (pos 0)) fits) in
    record {
      slots = omega (arith, length-set {A = ℕ}, c.loop-i.invariant.slots);
      before_is = found ∙ sym (before_next limits zs i);
      set = next_set limits zs c.loop-i.counts i c.count_at_most-up_to.result c.loop-i.before c.requires.rising c.loop-i-test.true
          c.loop-i.invariant.slots c.loop-i.invariant.set c.loop-i.invariant.before_is found;
    }

pub returns-clause-classes : goal.returns-clause-classes
returns-clause-classes c =
    all_set c.args.limits.now c.args.values.now c.loop-i.counts c.loop-i.i c.loop-i.before (omega arith) c.loop-i.invariant.slots
    c.loop-i.invariant.set c.loop-i.invariant.before_is

pub returns-clause-each_once : goal.returns-clause-each_once
returns-clause-each_once c =
    ap sum (returns-clause-classes c) ∙ all_counted c.args.limits.now c.args.values.now c.requires.rising
