use Rattle.std.proofs.Common.{◌≡◌, ◌^◌, ◌<◌, IsTrue, subst, arith, rules}
use Rattle.std.proofs.lemmas.Int.{ints}
use Rattle.gw_nums.specs.Range.{is_value}
use Rattle.gw_meaning.specs.Classes.{Scale, is_scale}
use Rattle.gw_meaning.proofs.Limits.{limit_within, limit_found}
use Rattle.gw_meaning.proofs.table.Classes.limit.Goals as goal

pub overflow_cast-result : goal.overflow_cast-result
overflow_cast-result c =
    let inside = c.self.inside in
    let scale : Scale = record { first = inside.first; width = inside.width; count = inside.count } in
    let same : scale ≡ c.args.self = cc in
    let fits = subst (λ (s : Scale). IsTrue (is_scale s)) same c.self.invariant in
    let first = subst (λ (s : Scale). IsTrue (is_value s.first)) same c.get.ensures.in_range in
    let narrow = subst (λ (s : Scale). s.width < 2 ^ 32) same (search rules) in
    let is = limit_found c.get.result c.from.result c.from-2.result c.args.self c.args.i (cc) c.from.ensures (cc) c.ranges.i.fits narrow fits first c.requires in
    let within = limit_within c.args.self c.args.i fits first c.requires in
    rw is (omega (arith, ints))

pub returns : goal.returns
returns c =
    let inside = c.self.inside in
    let scale : Scale = record { first = inside.first; width = inside.width; count = inside.count } in
    let same : scale ≡ c.args.self = cc in
    let fits = subst (λ (s : Scale). IsTrue (is_scale s)) same c.self.invariant in
    let first = subst (λ (s : Scale). IsTrue (is_value s.first)) same c.get.ensures.in_range in
    let narrow = subst (λ (s : Scale). s.width < 2 ^ 32) same (search rules) in
    let is = limit_found c.get.result c.from.result c.from-2.result c.args.self c.args.i (cc) c.from.ensures (cc) c.ranges.i.fits narrow fits first c.requires in
    let within = limit_within c.args.self c.args.i fits first c.requires in
    rw is (omega (arith, ints))
