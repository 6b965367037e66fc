-- The values of names: each in the slot of its name, and in a map where another name lies there. (Our own.)
use Rattle.std.specs.Prelude.{ℕ, List, Option, Some, None, get_or, bit_and, if◌then◌else◌}
use Rattle.std.specs.BTreeMap as tree
use Rattle.std.specs.Ordering.{nat_cmp}
use Rattle.std.specs.Cmp.Lexicographic.{slice_cmp}
use Rattle.std.specs.Str.{bytes_eq}
use Rattle.gw_names.specs.Heads.{mark_of}
use Rattle.gw_meaning.specs.Listing.{or_next}
use Rattle.gw_model.specs.declared.by_name.ByName.{ByName}
use Rattle.gw_model.specs.declared.by_name.Named.{Named}

-- the slot of a name, which bits of its mark tell
abbrev pub slot_of : List ℕ → ℕ → ℕ
slot_of name mask = bit_and (mark_of name) mask

-- the value of a name in a slot, if that name lies there
abbrev pub value_in : {X : Type 0} → Option (Named X) → List ℕ → Option X
value_in None name = None
value_in (Some named) name = if bytes_eq named.name name then Some named.value else None

-- the value of a name: in its slot, or next in the map
abbrev pub value_of : {X : Type 0} → ByName X → List ℕ → Option X
value_of values name =
    or_next (value_in (get_or values.slots.items (slot_of name values.mask) None) name)
    (tree.get (slice_cmp nat_cmp) values.many name)
