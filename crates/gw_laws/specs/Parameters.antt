-- The parameters of transactions over every run from zero. (Manual: a parameter is a transaction's own.)
use Rattle.std.specs.Prelude.{◌≡◌, ℕ, suc, ◌≤◌, ◌<◌, ℤ, ◌==◌, ◌⊎◌, Bool, true, List, Ok}
use Rattle.std.specs.List.{list_any}
use Rattle.gw_names.specs.declared.key.Key.{Key}
use Rattle.gw_meaning.specs.Tables.{with_value}
use Rattle.gw_meaning.specs.Parameters.{values_at}
use Rattle.gw_meaning.specs.Listing.{Listing}
use Rattle.gw_meaning.specs.Machine.{Machine}
use Rattle.gw_meaning.specs.Step.{run}
use Rattle.gw_model.specs.Well.{Well}
use Rattle.gw_laws.specs.Living.{IsActive}
use Rattle.gw_laws.specs.Numbering.{lives}
use Rattle.gw_laws.specs.Anew.{IsNoClear}

-- whether a transaction with this number has parameters
abbrev pub has_parameters : Machine → ℕ → Bool
has_parameters s number = list_any (λ (h : ℕ × List (Key × ℤ)). number == h.0) s.parameters

-- parameters are kept of living transactions alone
abbrev pub ParametersAreOfTheLiving : Type 0
ParametersAreOfTheLiving =
    (t : Listing) (seed n : ℕ) (s : Machine) → run t seed n ≡ Ok s →
    (number : ℕ) → has_parameters s number ≡ true → lives s number ≡ true

-- in a step no parameters change but those of the active transaction, unless a CLEAR forgets all (a RESET leaves them):
-- those that are kept under any other number that was given before it are the same, none more, none fewer and none with
-- another value (a copy that the step makes has those of the active transaction: Copies)
abbrev pub ParametersAreOnesOwn : Type 0
ParametersAreOnesOwn =
    (t : Listing) (seed n : ℕ) (s v : Machine) → run t seed n ≡ Ok s → run t seed (suc n) ≡ Ok v → IsNoClear t s →
    (number : ℕ) → number < s.next → (values_at v.parameters number ≡ values_at s.parameters number) ⊎ IsActive s number

-- the parameters of one transaction: all stay, or one of them is set, and the others stay
abbrev pub SetsAtMostOne : List (Key × ℤ) → List (Key × ℤ) → Type 0
SetsAtMostOne before after = (after ≡ before) ⊎ ((key : Key) × (value : ℤ) × (after ≡ with_value before key value))

-- in a step one parameter is set at most, of whoever was there before and lives after it. (Within the step limit, since
-- numbers tell transactions apart there.)
abbrev pub OneParameterIsSet : Type 0
OneParameterIsSet =
    (t : Listing) (seed n : ℕ) (s v : Machine) → Well t → n ≤ t.limit →
    run t seed n ≡ Ok s → run t seed (suc n) ≡ Ok v →
    (number : ℕ) → number < s.next → lives v number ≡ true →
    SetsAtMostOne (values_at s.parameters number) (values_at v.parameters number)
