use Rattle.std.proofs.Common.{◌≡◌, ◌-◌, ◌++◌, ◌∷◌, [], length, map, ap, sym, subst, ◌∙◌, arith, rules}
use Rattle.std.specs.List.{range_with_len}
use Rattle.std.proofs.lemmas.List.FromFn.{map-range_with_len_more}
use Rattle.gw_lanes.specs.Counts.{AreRising}
use Rattle.gw_meaning.specs.Classes.{limit_of}
use Rattle.gw_report.proofs.Limits.{limits_length, limits_rising}
use Rattle.gw_report.proofs.classes.limits_of.Goals as goal

pub loop-i-preserved : goal.loop-i-preserved
loop-i-preserved c =
    let scale = c.args.classes in
    let put : c.push.new.self.items ≡ c.loop-i.limits.items ++ limit_of scale c.loop-i.i ∷ [] = search rules in
    put ∙ ap (λ zs. zs ++ limit_of scale c.loop-i.i ∷ []) c.loop-i.invariant
    ∙ sym (map-range_with_len_more (limit_of scale) 0 c.loop-i.i c.loop-i.i (omega arith))

pub returns-clause-limits : goal.returns-clause-limits
returns-clause-limits c =
    let all : c.loop-i.i ≡ c.args.classes.count - 1 = search rules in
    c.loop-i.invariant ∙ ap (λ n. map (limit_of c.args.classes) (range_with_len 0 n)) all

pub returns-clause-rising : goal.returns-clause-rising
returns-clause-rising c = subst AreRising (sym (returns-clause-limits c)) (limits_rising c.args.classes)

pub returns-clause-few : goal.returns-clause-few
returns-clause-few c =
    let n = limits_length c.args.classes in
    omega (arith, ap length (returns-clause-limits c), n, c.count-i-end.ensures.most, c.count-i-end.ensures.least, c.count-i-end.ensures.value)
