-- Where the text of a model ends in the input: at the first line that is exactly `end`, or with the input.
use Rattle.std.specs.Prelude.{◌≡◌, ◌≢◌, ℕ, ◌+◌, Bool, true, false, List, [], ◌∷◌, ◌++◌, length, All, codes, if◌then◌else◌}
use Rattle.std.specs.List.{flat_map}
use Rattle.gw_io.specs.Line.{IsUnended, without_cr_of}

-- a line with its line feed
abbrev pub with_feed : List ℕ → List ℕ
with_feed line = line ++ 10 ∷ []

-- a line that ends the model, where a line feed stands after it
abbrev pub IsEnd : List ℕ → Type 0
IsEnd line = without_cr_of line ≡ codes "end"

-- a text of whole lines, none of which ends the model
pub record IsOtherLines (text : List ℕ) : Type 0 where
  pub lines : List (List ℕ)
  pub joined : text ≡ flat_map with_feed lines
  pub unended : All IsUnended lines
  pub others : All (λ line. IsEnd line → ⊥) lines

-- `model` is the model of an input: what stands before its first line `end`, or all of it where it has none.
-- `is_all` says whether the whole input was needed to know that
pub data IsModelOf (input model : List ℕ) (is_all : Bool) : Type 0 where
  before_end : (line : List ℕ) → IsOtherLines model → IsUnended line → IsEnd line → input ≡ model ++ with_feed line →
      is_all ≡ false → IsModelOf input model is_all
  before_last_end : IsOtherLines model → input ≡ model ++ codes "end" → is_all ≡ true → IsModelOf input model is_all
  without_end : (text rest : List ℕ) → IsOtherLines text → IsUnended rest → rest ≢ codes "end" → model ≡ text ++ rest →
      input ≡ model → is_all ≡ true → IsModelOf input model is_all

-- a front part of an input: whole lines, none of which ends the model, and a part of the next line
pub record IsModelPart (part : List ℕ) : Type 0 where
  pub text : List ℕ
  pub rest : List ℕ
  pub others : IsOtherLines text
  pub unended : IsUnended rest
  pub parts : part ≡ text ++ rest

-- reading a model took an input of which it is the model, by one call for each byte, and one that found
-- the end of the input where all of it was needed
pub record TakesModel {S : Type 0} (took : S → List ℕ → S → Type 0) (ended : S → Type 0) (old new : S)
    (calls calls' : ℕ) (model : List ℕ) : Type 0 where
  pub input : List ℕ
  pub is_all : Bool
  pub taken : took old input new
  pub is_model : IsModelOf input model is_all
  pub at_end : is_all ≡ true → ended new
  pub spent : calls ≡ calls' + (length input + (if is_all then 1 else 0))
