-- The limits of classes rise.
use Rattle.std.proofs.Common.{◌≡◌, ℕ, ℤ, pos, ◌+◌, ◌-◌, ◌*◌, ◌<◌, ◌≤◌, length, get_or, sym, subst, arith}
use Rattle.std.specs.Prelude.{◌+ℤ◌, ◌≤ℤ◌}
use Rattle.std.proofs.lemmas.List.FromFn.{get_or-map-range_with_len, length-map-range_with_len}
use Rattle.std.proofs.lemmas.Int.{ints}
use Rattle.gw_meaning.specs.Classes.{Scale, limit_of}
use Rattle.gw_lanes.specs.Counts.{AreRising}
use Rattle.gw_report.specs.Tables.{limits_of}

rises : (z : ℤ) (a b : ℕ) → a ≤ b → (z +ℤ pos a) ≤ℤ (z +ℤ pos b)
rises z a b le = grind (arith, ints)

-- how many there are
pub limits_length : (scale : Scale) → length (limits_of scale) ≡ scale.count - 1
limits_length scale = length-map-range_with_len (limit_of scale) 0 (scale.count - 1)

pub limits_rising : (scale : Scale) → AreRising (limits_of scale)
limits_rising scale i lt =
    let n = scale.count - 1 in
    let within : i + 1 < n = omega (arith, lt, limits_length scale) in
    let here : get_or (limits_of scale) i (pos 0) ≡ limit_of scale i = get_or-map-range_with_len (limit_of scale) 0 n i i (pos 0) (omega arith) (omega arith) in
    let next : get_or (limits_of scale) (i + 1) (pos 0) ≡ limit_of scale (i + 1) =
    get_or-map-range_with_len (limit_of scale) 0 n (i + 1) (i + 1) (pos 0) (omega arith) (omega arith) in
    subst (λ (y : ℤ). y ≤ℤ get_or (limits_of scale) (i + 1) (pos 0)) (sym here)
    (subst (λ (y : ℤ). limit_of scale i ≤ℤ y) (sym next) (rises scale.first (i * scale.width) ((i + 1) * scale.width) (omega arith)))
