use Rattle.std.proofs.Common.{◌≡◌, ℕ, ◌-◌, ◌*◌, ◌/◌, ◌^◌, ◌≤◌, ap, ap₂, sym, ◌∙◌, arith, rules}
use Rattle.std.proofs.lemmas.Nat.{mul-le, div-add-mod'}
use Rattle.gw_nums.specs.Roots.{whole_root, root_up_to}
use Rattle.gw_report.specs.Tables.{square, quotient, deviation}
use Rattle.gw_report.proofs.Averages.{in_parts, quotient_within, rest_within}
use Rattle.gw_report.proofs.moments.deviation.Goals as goal

pub returns-then-over-eq0 : goal.returns-then-over-eq0
unfolding deviation whole_root root_up_to
returns-then-over-eq0 c =
    let n = c.args.count in
    let over : n * (n - 1) ≡ 0 = search rules in
    sym (ap (λ (o : ℕ). whole_root (quotient (1000000 * (n * c.args.squares - square c.args.sum)) o)) over)

pub overflow_add-spread : goal.overflow_add-spread
overflow_add-spread c =
    let n = c.args.count in
    let v = c.saturating_sub-spread.result in
    let o = c.from-over.result in
    let over : o ≡ n * (n - 1) = search rules in
    let most : v ≤ n * (n * 1000000000000000000) =
    (let times = mul-le n c.args.squares n (n * 1000000000000000000) (omega arith) c.requires.squares in
    let spread : v ≤ n * c.args.squares = search rules in omega (arith, times, spread)) in
    let whole = div-add-mod' v o in
    let few = quotient_within n (v / o) v o (omega arith) over most (omega (arith, whole)) in
    let product = mul-le n (n - 1) (2 ^ 32) (2 ^ 32) (omega arith) (omega arith) in
    let rest = rest_within v o (2 ^ 64) (omega arith) (omega (arith, over, product)) in
    record { fits = omega (arith, few, rest) }

pub returns : goal.returns
unfolding deviation
returns c =
    let n = c.args.count in
    let v = c.saturating_sub-spread.result in
    let o = c.from-over.result in
    let over : o ≡ n * (n - 1) = search rules in
    let spread : v ≡ n * c.args.squares - square c.args.sum = search rules in
    c.whole_root.ensures.value ∙ ap whole_root (sym (in_parts v o (omega arith)) ∙ ap₂ (λ (a b : ℕ). quotient (1000000 * a) b) spread over)
