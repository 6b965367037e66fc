-- What reading an input whole takes. (Our own.)
use Rattle.std.specs.Prelude.{◌≡◌, ℕ, ◌+◌, List, length}

-- all the bytes up to the end of the input were taken, by one call for each byte, and one that found the end
pub record TakesAll {S : Type 0} (took : S → List ℕ → S → Type 0) (ended : S → Type 0) (old new : S) (calls calls' : ℕ)
    (bytes : List ℕ) : Type 0 where
  pub taken : took old bytes new
  pub at_end : ended new
  pub spent : calls ≡ calls' + (length bytes + 1)
