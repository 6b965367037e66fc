use Rattle.std.proofs.Common.{rules, ◌≡◌, ◌*ℤ◌, FitsSigned, to_z, of_z, w64, arith, IsTrue, ◌∙◌, ap, subst, sym}
use mir.Syntax.{w128}
use Rattle.std.proofs.lemmas.Int.{ints}
use Rattle.gw_nums.specs.Millionths.{quotient_down, times, is_millionths}
use Rattle.gw_nums.proofs.Quotients.{value_if, product_is, quotient_is, times_fits}
use Rattle.gw_nums.proofs.millionths.times.Goals as goal

pub returns : goal.returns
returns c =
    let p : c.product.result ≡ c.get.result *ℤ c.by.inside.value =
    product_is c.get.result c.by.inside.value c.product.result (search rules) (search rules) c.product.ensures in
    let q : c.quotient_down.result ≡ times c.args.value c.args.by =
    quotient_is c.product.result c.quotient_down.result 1000000 (search rules) c.quotient_down.ensures ∙
    ap (λ z. quotient_down z 1000000) (p ∙ ap (λ z. z *ℤ c.by.inside.value) c.get.ensures.value ∙ ap (λ z. c.args.value *ℤ z) c.by.view_is) in
    let in_range : IsTrue (is_millionths c.args.by) = subst (λ z. IsTrue (is_millionths z)) c.by.view_is c.by.invariant in
    let fits : FitsSigned w64 c.quotient_down.result =
    subst (λ z. FitsSigned w64 z) (sym q) (times_fits c.args.value c.args.by c.get.ensures.in_range in_range) in
    value_if (to_z w64 (of_z w64 (to_z w128 (of_z w128 c.quotient_down.result)))) (times c.args.value c.args.by) c.new.result
    c.new.ensures.in_range c.new.ensures.value
    (let same : to_z w64 (of_z w64 (to_z w128 (of_z w128 c.quotient_down.result))) ≡ c.quotient_down.result = omega (arith, ints) in same ∙ q)
