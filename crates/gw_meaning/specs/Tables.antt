-- Keys and values, in order of first touch. (Our own: the order.)
use Rattle.std.specs.Prelude.{◌≡◌, ℕ, List, [], ◌∷◌, Option, Some, None, if◌then◌else◌, slice_get}
use Rattle.std.specs.List.{IsDistinct}
use Rattle.std.specs.Map.{lookup, keys_of}
use Rattle.gw_names.specs.declared.key.Key.{Key}
use Rattle.gw_names.specs.Keys.{key_eq}

module _ {V : Type 0} where
  -- the value of a key
  abbrev pub value_of : List (Key × V) → Key → Option V
  value_of entries key = lookup (key_eq key) entries

  -- the entries with the value of a key set: in place where it has one, else after the others
  abbrev pub with_value : List (Key × V) → Key → V → List (Key × V)
  with_value [] key value = (key, value) ∷ []
  with_value (e ∷ es) key value = if key_eq key e.0 then (e.0, value) ∷ es else e ∷ with_value es key value

  -- no key stands twice
  abbrev pub AreApart : List (Key × V) → Type 0
  AreApart entries = IsDistinct key_eq (keys_of entries)

  -- where the value of a key lies, if it has one
  abbrev pub IsPlace : List (Key × V) → Key → Option ℕ → Type 0
  IsPlace entries key None = value_of entries key ≡ None
  IsPlace entries key (Some i) =
      (value : V) × (slice_get entries i ≡ Some (key, value)) × (value_of entries key ≡ Some value)
