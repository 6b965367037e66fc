-- A FUNCTION comes to the value of each of its points there.
use Rattle.std.proofs.Common.{◌≡◌, ℕ, zero, suc, ◌+◌, ◌*◌, ◌/◌, ◌<◌, ◌≤◌, ℤ, pos, negsuc, neg_ℤ, ◌-ℤ◌, ◌*ℤ◌, true, false, List, [], ◌∷◌, Option, Some, None, IfSome, slice_get, refl, ap, arith}
use Rattle.std.proofs.Math.Nat.{div-lt_iff_lt-mul, le-div_iff_mul-le, mul-div_cancel}
use Rattle.std.proofs.lemmas.Int.{ints}
use Rattle.gw_nums.specs.Range.{is_below}
use Rattle.gw_nums.specs.Millionths.{quotient_down, distance}
use Rattle.gw_expr.specs.declared.function.FunctionType.{FunctionType}
use Rattle.gw_expr.specs.declared.function.FunctionType.TheVariants.{Continuous, Discrete}
use Rattle.gw_expr.specs.declared.function.Point.{Point}
use Rattle.gw_expr.specs.Functions.{sides, by_type, between}
use Rattle.gw_expr.specs.Laws.{PointsHaveTheirValues}
use Rattle.gw_expr.proofs.Distances.{distance_some}

not_itself : (z : ℤ) → is_below z z ≡ false
not_itself (pos n) = grind arith
not_itself (negsuc n) = grind arith

-- the point before an argument, if there is one, is below it
abbrev IsBelow : ℤ → Option Point → Type 0
IsBelow x before = IfSome before (λ q. is_below q.x x ≡ true)

-- the points on the two sides of a point's own argument: itself, and one before it
own_side : (ps : List Point) (before : Option Point) (i : ℕ) (p : Point) → slice_get ps i ≡ Some p →
    ((j : ℕ) (q : Point) → j < i → slice_get ps j ≡ Some q → is_below q.x p.x ≡ true) → IsBelow p.x before →
    (b : Option Point) × (sides before ps p.x ≡ record { before = b; next = Some p }) × IsBelow p.x b
own_side [] before i p at rise below = absurd cc
own_side (q ∷ ps) before zero p at rise below = let same : q ≡ p = cc in (before, rw (same, not_itself p.x), below)
own_side (q ∷ ps) before (suc i) p at rise below =
    let under : is_below q.x p.x ≡ true = rise 0 q (omega arith) refl in
    let rest = own_side ps (Some q) i p at (λ j r less there. rise (suc j) r (omega arith) there) under in
    (rest.0, rw under rest.1, rest.2)

-- all of the way
all_down : (a d k : ℕ) → 0 < d → k ≡ suc a * d → quotient_down (neg_ℤ (pos k)) d ≡ negsuc a
all_down a d zero some e = absurd (let whole : suc a * d ≡ a * d + d = omega arith in omega arith)
all_down a d (suc j) some e =
    let more : j < suc a * d = omega arith in
    let less : j / d < suc a = (div-lt_iff_lt-mul {x = j} {y = suc a} some).1 more in
    let whole : suc a * d ≡ a * d + d = omega arith in
    let least : a ≤ j / d = (le-div_iff_mul-le {x = a} {y = j} some).1 (omega arith) in
    ap (λ n. negsuc n) (omega arith)

all_of : (z : ℤ) (d : ℕ) → 0 < d → quotient_down (z *ℤ pos d) d ≡ z
all_of (pos a) d some = ap (λ n. pos n) (mul-div_cancel a some)
all_of (negsuc a) d some = all_down a d (suc a * d) some refl

between_whole : (p q : Point) → is_below p.x q.x ≡ true → between p q q.x ≡ q.y
between_whole p q below = rw (all_of (q.y -ℤ p.y) (distance q.x p.x) (distance_some p.x q.x q.x below (not_itself q.x))) (omega (arith, ints))

-- what a FUNCTION of either type comes to at a point
type_there : (kind : FunctionType) (b : Option Point) (p : Point) → IsBelow p.x b →
    by_type kind (record { before = b; next = Some p }) p.x ≡ Some p.y
type_there Continuous None p below = refl
type_there Continuous (Some q) p below = rw (between_whole q p below)
type_there Discrete None p below = refl
type_there Discrete (Some q) p below = refl

pub points_valued : PointsHaveTheirValues
points_valued f i p rising at =
    let found = own_side f.points None i p at (λ j q less there. rising j i q p less there at) tt in
    rw found.1 (type_there f.kind found.0 p found.2)
