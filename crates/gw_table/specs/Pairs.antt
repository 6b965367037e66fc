-- What a contract sees of a `Table`: pairs of numbers and values, in the order of first insertion, and its room.
-- (Our own.)
use Rattle.std.specs.Prelude.{◌≡◌, ℕ, ◌<◌, nat_eq, List, [], ◌∷◌, Option, None, if◌then◌else◌, refl}
use Rattle.std.specs.Coded.{Coded, code_by, coded×, coded_list, coded_ℕ}
use Rattle.std.specs.Map.{lookup}

pub record Pairs (V : Type 0) : Type 0 where
  pub entries : List (ℕ × V)
  -- there is room for each number below it
  pub limit : ℕ

abbrev pub pairs_code : {V : Type 0} → Coded V → Coded (Pairs V)
pairs_code {V} code =
    code_by (List (ℕ × V) × ℕ) (coded× (coded_list (coded× coded_ℕ code)) coded_ℕ)
    (λ t. (t.entries, t.limit)) (λ p. record { entries = p.0; limit = p.1 }) (λ _. refl)

module _ {V : Type 0} where
  -- the value of the first pair with this number
  abbrev pub value_in : List (ℕ × V) → ℕ → Option V
  value_in entries number = lookup (nat_eq number) entries

  -- the pairs with the value at a number set: in place where it has a pair, else at the end
  abbrev pub with_value : List (ℕ × V) → ℕ → V → List (ℕ × V)
  with_value [] number value = (number, value) ∷ []
  with_value (p ∷ ps) number value =
      if nat_eq number p.0 then (p.0, value) ∷ ps else p ∷ with_value ps number value

  -- if it has no pair, there is room for one
  abbrev pub HasRoom : Pairs V → ℕ → Type 0
  HasRoom t number = value_in t.entries number ≡ None → number < t.limit
