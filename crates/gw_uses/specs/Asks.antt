-- What is asked of a storage: whether an amount fits, and how many units it has; and the first step that asks what two
-- capacities answer in two ways. (Our own.)
use Rattle.std.specs.Prelude.{ℕ, Bool, true, false, not, ◌==◌, ◌&&◌, List, [], ◌∷◌, Option, Some, None, if◌then◌else◌, nat_le, min}
use Rattle.std.specs.Str.{bytes_eq}
use Rattle.gw_meaning.specs.declared.item.Item.{Item}
use Rattle.gw_meaning.specs.declared.item.Asked.{Asked}
use Rattle.gw_meaning.specs.declared.item.Asked.TheVariants as asking
use Rattle.gw_meaning.specs.declared.item.Item.TheVariants as items

-- whether two capacities answer an amount in two ways; where there is no storage before or after, every amount counts
abbrev pub differs : Option ℕ → Option ℕ → ℕ → Bool
differs (Some from) (Some to) amount = if nat_le amount from then not (nat_le amount to) else nat_le amount to
differs from to amount = true

-- whether two capacities are two numbers; where there is no storage before or after, they count as two
abbrev pub is_other : Option ℕ → Option ℕ → Bool
is_other (Some from) (Some to) = not (from == to)
is_other from to = true

-- whether two capacities answer this in two ways, where it is asked of their storage
abbrev pub answers_differ : Option ℕ → Option ℕ → Asked → Bool
answers_differ from to (asking.Fits amount) = differs from to amount
answers_differ from to asking.Storage = is_other from to
answers_differ from to asked = false

-- whether such a thing is asked of the storage of this name
abbrev pub is_ask : List ℕ → Option ℕ → Option ℕ → Item → Bool
is_ask name from to (items.Named asked other) = bytes_eq name other && answers_differ from to asked
is_ask name from to item = false

-- the earlier of two steps, of which either may be none
abbrev pub earlier : Option ℕ → Option ℕ → Option ℕ
earlier None other = other
earlier (Some m) None = Some m
earlier (Some m) (Some n) = Some (min m n)

-- the least of the steps that are noted for items with a property
abbrev pub least_in : (Item → Bool) → List (Item × ℕ) → Option ℕ
least_in p [] = None
least_in p (e ∷ es) = earlier (if p e.0 then Some e.1 else None) (least_in p es)
