use Rattle.std.proofs.Common.{rules, ◌≡◌, pos, ◌+ℤ◌, ◌-ℤ◌, ◌*ℤ◌, to_z, of_z, w64, arith, IsTrue, ◌∙◌, ap, subst}
use mir.Syntax.{w128}
use Rattle.std.proofs.lemmas.Int.{ints}
use Rattle.gw_nums.specs.Millionths.{quotient_down, toward, is_millionths}
use Rattle.gw_nums.proofs.Quotients.{bounds_of, within_bounds, way_is, comes_within}
use Rattle.gw_nums.proofs.millionths.Millionths.toward.Goals as goal

pub overflow_cast-result : goal.overflow_cast-result
overflow_cast-result c =
    let a = c.self.inside.value in let b = c.other.inside.value in let q = c.quotient_down-way.result in
    let e : q ≡ quotient_down ((b -ℤ a) *ℤ pos c.args.part) c.args.all = way_is a b c.product.result q c.args.part c.args.all c.self.invariant c.other.invariant
    c.requires.within c.requires.few (search rules) c.product.ensures c.quotient_down-way.ensures in
    let from = bounds_of a c.self.invariant in
    let to = comes_within a b q c.args.part c.args.all c.self.invariant c.other.invariant c.requires.within c.requires.some e in
    omega (arith, ints)

pub overflow_add-result : goal.overflow_add-result
overflow_add-result c =
    let a = c.self.inside.value in let b = c.other.inside.value in let q = c.quotient_down-way.result in
    let e : q ≡ quotient_down ((b -ℤ a) *ℤ pos c.args.part) c.args.all = way_is a b c.product.result q c.args.part c.args.all c.self.invariant c.other.invariant
    c.requires.within c.requires.few (search rules) c.product.ensures c.quotient_down-way.ensures in
    let from = bounds_of a c.self.invariant in
    let to = comes_within a b q c.args.part c.args.all c.self.invariant c.other.invariant c.requires.within c.requires.some e in
    omega (arith, ints)

pub invariant_of-result : goal.invariant_of-result
invariant_of-result c =
    let a = c.self.inside.value in let b = c.other.inside.value in let q = c.quotient_down-way.result in
    let e : q ≡ quotient_down ((b -ℤ a) *ℤ pos c.args.part) c.args.all = way_is a b c.product.result q c.args.part c.args.all c.self.invariant c.other.invariant
    c.requires.within c.requires.few (search rules) c.product.ensures c.quotient_down-way.ensures in
    let from = bounds_of a c.self.invariant in
    let to = comes_within a b q c.args.part c.args.all c.self.invariant c.other.invariant c.requires.within c.requires.some e in
    let same : a +ℤ q ≡ to_z w64 (of_z w64 (to_z w64 (of_z w64 a) +ℤ to_z w64 (of_z w64 (to_z w128 (of_z w128 q))))) = omega (arith, ints) in
    subst (λ z. IsTrue (is_millionths z)) same (within_bounds (a +ℤ q) to.0 to.1)

pub returns : goal.returns
returns c =
    let a = c.self.inside.value in let b = c.other.inside.value in let q = c.quotient_down-way.result in
    let e : q ≡ quotient_down ((b -ℤ a) *ℤ pos c.args.part) c.args.all = way_is a b c.product.result q c.args.part c.args.all c.self.invariant c.other.invariant
    c.requires.within c.requires.few (search rules) c.product.ensures c.quotient_down-way.ensures in
    let from = bounds_of a c.self.invariant in
    let to = comes_within a b q c.args.part c.args.all c.self.invariant c.other.invariant c.requires.within c.requires.some e in
    let same : to_z w64 (of_z w64 (to_z w64 (of_z w64 a) +ℤ to_z w64 (of_z w64 (to_z w128 (of_z w128 q))))) ≡ a +ℤ q = omega (arith, ints) in
    same ∙ ap (λ z. a +ℤ z) e ∙ ap (λ z. z +ℤ quotient_down ((b -ℤ z) *ℤ pos c.args.part) c.args.all) c.self.view_is ∙
    ap (λ z. toward c.args.self z c.args.part c.args.all) c.other.view_is
