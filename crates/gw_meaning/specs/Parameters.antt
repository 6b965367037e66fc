-- The parameters of transactions: for each transaction that has some, in order of their numbers, its values by key in
-- order of first assignment. (Manual. Our own: the order of the transactions.)
use Rattle.std.specs.Prelude.{ℕ, zero, suc, ◌+◌, ◌-◌, ◌^◌, min, ℤ, not, nat_eq, nat_lt, List, [], ◌∷◌, Option, filter, if◌then◌else◌, unwrap_or}
use Rattle.std.specs.Map.{lookup}
use Rattle.gw_names.specs.declared.key.Key.{Key}
use Rattle.gw_meaning.specs.Tables.{value_of, with_value}

abbrev pub Held : Type 0
Held = List (ℕ × List (Key × ℤ))

-- the values of a transaction
abbrev pub values_at : Held → ℕ → List (Key × ℤ)
values_at held number = unwrap_or (lookup (nat_eq number) held) []

-- the value of a parameter of a transaction, if it has one
abbrev pub parameter_at : Held → ℕ → Key → Option ℤ
parameter_at held number key = value_of (values_at held number) key

-- with the values of a transaction set: in place where it has some, else in front of those with greater numbers
abbrev pub with_values : Held → ℕ → List (Key × ℤ) → Held
with_values [] number values = (number, values) ∷ []
with_values (h ∷ hs) number values =
    if nat_eq number h.0 then (h.0, values) ∷ hs
    else if nat_lt number h.0 then (number, values) ∷ h ∷ hs else h ∷ with_values hs number values

-- with a parameter of a transaction set
abbrev pub assigned : Held → ℕ → Key → ℤ → Held
assigned held number key value = with_values held number (with_value (values_at held number) key value)

-- without the parameters of a transaction
abbrev pub without : Held → ℕ → Held
without held number = filter (λ h. not (nat_eq number h.0)) held

-- with these values of another transaction assigned to one, one by one
abbrev pub inherited : List (Key × ℤ) → ℕ → Held → Held
inherited [] number held = held
inherited (v ∷ vs) number held = inherited vs number (assigned held number v.0 v.1)

-- the same for so many transactions, from one number on
abbrev pub all_inherited : ℕ → List (Key × ℤ) → ℕ → Held → Held
all_inherited zero values number held = held
all_inherited (suc n) values number held =
    all_inherited n values (min (number + 1) (2 ^ 64 - 1)) (inherited values number held)
