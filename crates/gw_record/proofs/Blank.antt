-- The run of no steps is recorded of every version and seed.
use Rattle.std.proofs.Common.{◌≡◌, ℕ, None, refl, arith}
use Rattle.gw_meaning.specs.declared.item.Item.{Item}
use Rattle.gw_meaning.specs.declared.item.Item.TheVariants as items
use Rattle.gw_meaning.specs.Listing.{Listing}
use Rattle.gw_uses.specs.Uses.{nothing_used, first_in, AreFirstUses}
use Rattle.gw_record.specs.Tape.{blank, Records}

-- nothing is used yet
nothing_yet : (item : Item) → first_in nothing_used item ≡ None
nothing_yet (items.Block id) = refl
nothing_yet item = refl

pub blank_firsts : (t : Listing) (seed : ℕ) → AreFirstUses t seed 0 nothing_used
blank_firsts t seed = record { each = nothing_yet; clock = λ i d less. absurd (omega (arith, less)) }

-- the run of no steps
pub blank_records : (t : Listing) (seed every : ℕ) → Records t seed (blank every)
blank_records t seed every = record {
  tip = refl;
  from = omega arith;
  within = omega arith;
  kept = λ i e is. absurd cc;
  rising = λ i j d before within. absurd (omega (arith, within));
  all_kept = λ m from less want. absurd (omega (arith, less));
  ends = λ i m is. absurd cc;
  ends_rise = λ i j d before within. absurd (omega (arith, within));
  all_ends = λ m u less is. absurd (omega (arith, less));
  tip_end = omega arith;
  firsts = blank_firsts t seed;
}
