-- The laws of touching: what an edit does not touch, the version before and the edited version answer alike; and what it
-- touches, they answer in two ways, but for what is named. (Our own.)
use Rattle.std.specs.Prelude.{◌≡◌, ℕ, true, false, Some, None, Ok}
use Rattle.gw_meaning.specs.declared.item.Item.{Item}
use Rattle.gw_meaning.specs.Listing.{Listing, seed_at}
use Rattle.gw_meaning.specs.Numbers.{AreNumbered}
use Rattle.gw_model.specs.Faults.{fault_of}
use Rattle.gw_frame.specs.Alike.{SameAnswer}
use Rattle.gw_meaning.specs.declared.edit.Edit.{Edit}
use Rattle.gw_touch.specs.TouchedAlike.{TouchedAlike}
use Rattle.gw_touch.specs.Touching.{touch_of, is_touched}
use Rattle.gw_edit.specs.Applied.{applied}

-- where each statement has a number of its own, as in every version: in each replication that both have, with its
-- seeds, each question that is not touched is answered alike
abbrev pub UntouchedAlike : Type 0
UntouchedAlike =
    (t : Listing) (e : Edit) (u : Listing) (r a b : ℕ) → AreNumbered t.lines → applied t e ≡ Ok u →
    seed_at t r ≡ Some a → seed_at u r ≡ Some b →
    (i : Item) → is_touched (touch_of t e u r) i ≡ false → SameAnswer t a u b i

-- where the version has no fault either: in such a replication, each question that is touched and is answered alike all
-- the same is one of those that are named
abbrev pub TouchedDiffers : Type 0
TouchedDiffers =
    (t : Listing) (e : Edit) (u : Listing) (r a b : ℕ) → AreNumbered t.lines → fault_of t ≡ None → applied t e ≡ Ok u →
    seed_at t r ≡ Some a → seed_at u r ≡ Some b →
    (i : Item) → is_touched (touch_of t e u r) i ≡ true → SameAnswer t a u b i → TouchedAlike t e u i
