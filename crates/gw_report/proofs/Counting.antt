-- A value lies in the class whose limits are printed.
use Rattle.std.proofs.Common.{◌≡◌, ℤ, Bool, true, false, not, ◌&&◌, Option, Some, None, refl, sym, true≢false, arith}
use Rattle.std.specs.Prelude.{◌<ℤ◌, ◌≤ℤ◌, int_le}
use Rattle.std.proofs.lemmas.Int.{ints}
use Rattle.gw_lanes.specs.Counts.{is_up_to, is_above, lower, upper}
use Rattle.gw_lanes.proofs.Classes.{all_counted}
use Rattle.gw_report.specs.Tables.{limits_of}
use Rattle.gw_report.specs.Counted.{CountsEachOnce, LiesWithin, LiesAsPrinted}
use Rattle.gw_report.proofs.Limits.{limits_rising}

pub counts_each_once : CountsEachOnce
counts_each_once scale values = all_counted (limits_of scale) values (limits_rising scale)

both : (a b : Bool) → (a && b) ≡ true → (a ≡ true) × (b ≡ true)
both true true h = (refl, refl)
both true false h = absurd (true≢false (sym h))
both false b h = absurd (true≢false (sym h))

at_most : (z high : ℤ) → int_le z high ≡ true → z ≤ℤ high
at_most z high h = grind (arith, ints)

told_at_most : (z high : ℤ) → z ≤ℤ high → int_le z high ≡ true
told_at_most z high h = grind (arith, ints)

above : (low z : ℤ) → not (int_le z low) ≡ true → low <ℤ z
above low z h = grind (arith, ints)

told_above : (low z : ℤ) → low <ℤ z → not (int_le z low) ≡ true
told_above low z h = grind (arith, ints)

lies : (low high : Option ℤ) (z : ℤ) → (is_above low z && is_up_to high z) ≡ true → LiesWithin low high z
lies None None z h = tt
lies None (Some high) z h = at_most z high h
lies (Some low) None z h = above low z (both (not (int_le z low)) true h).0
lies (Some low) (Some high) z h =
    let parts = both (not (int_le z low)) (int_le z high) h in (above low z parts.0, at_most z high parts.1)

lies_told : (low high : Option ℤ) (z : ℤ) → LiesWithin low high z → (is_above low z && is_up_to high z) ≡ true
lies_told None None z h = refl
lies_told None (Some high) z h = told_at_most z high h
lies_told (Some low) None z h = rw (told_above low z h) refl
lies_told (Some low) (Some high) z h = rw (told_above low z h.0, told_at_most z high h.1) refl

pub lies_as_printed : LiesAsPrinted
lies_as_printed scale i z =
    (lies (lower (limits_of scale) i) (upper (limits_of scale) i) z, lies_told (lower (limits_of scale) i) (upper (limits_of scale) i) z)
