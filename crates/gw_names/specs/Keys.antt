-- When two keys are one, and what is hashed of a key. (Our own.)
use Rattle.std.specs.Prelude.{ℕ, zero, suc, Bool, List, [], ◌∷◌, nat_eq, slice_index}
use Rattle.std.specs.Ordering.{on}
use Rattle.std.specs.Cmp.Lexicographic.{pointwise}
use Rattle.std.specs.Hash as fed
use Rattle.std.specs.Hash.{HashWrites}
use Rattle.gw_names.specs.declared.key.Key.{Key}
use Rattle.gw_names.specs.declared.key.Key.TheVariants.{Num, Named, Defined}
use Rattle.gw_names.specs.Heads.{mark_of}

-- what tells a key from the others: a number, or a name's bytes, with what kind of key it is
abbrev pub told_by : Key → List ℕ
told_by (Num number) = 0 ∷ number ∷ []
told_by (Named name) = 1 ∷ name
told_by (Defined name) = 2 ∷ name

-- the name in a key, where it has one
abbrev pub name_in : Key → List ℕ
name_in (Num number) = []
name_in (Named name) = name
name_in (Defined name) = name

-- whether two keys are one
abbrev pub key_eq : Key → Key → Bool
key_eq = on told_by (pointwise nat_eq)

-- what is hashed of what tells a key: the number, or the bytes
abbrev pub hashed_of : List ℕ → HashWrites
hashed_of [] = []
hashed_of (zero ∷ ns) = fed.u32 (slice_index ns 0)
hashed_of (suc n ∷ bytes) = bytes ∷ []

abbrev pub key_input : Key → HashWrites
key_input key = hashed_of (told_by key)

-- a number by which keys are spread
abbrev pub key_mark : Key → ℕ
key_mark (Num number) = number
key_mark (Named name) = mark_of name
key_mark (Defined name) = mark_of name
