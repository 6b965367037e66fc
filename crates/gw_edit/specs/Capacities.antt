-- A capacity touches only what it would change: whatever an edit of a capacity touches, the version before and the
-- edited version answer in two ways. (Our own.)
use Rattle.std.specs.Prelude.{◌≡◌, ℕ, true, List, Ok}
use Rattle.gw_meaning.specs.declared.item.Item.{Item}
use Rattle.gw_meaning.specs.Listing.{Listing}
use Rattle.gw_frame.specs.Alike.{SameAnswer}
use Rattle.gw_meaning.specs.declared.edit.Edit.TheVariants as edits
use Rattle.gw_touch.specs.Touching.{touch_of, is_touched}
use Rattle.gw_edit.specs.Applied.{applied}

-- in each replication, with any seeds
abbrev pub CapacityTouchesWhatDiffers : Type 0
CapacityTouchesWhatDiffers =
    (t : Listing) (name : List ℕ) (amount : ℕ) (u : Listing) (r a b : ℕ) →
    applied t (edits.Capacity name amount) ≡ Ok u →
    (i : Item) → is_touched (touch_of t (edits.Capacity name amount) u r) i ≡ true → SameAnswer t a u b i → ⊥
