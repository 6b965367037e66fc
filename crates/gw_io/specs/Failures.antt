-- How the failures of a reader or a writer are counted.
use Rattle.std.specs.Prelude.{◌≡◌, ℕ, ◌+◌, ◌-◌, ◌^◌, ◌<◌, min, List, ◌++◌, length}

-- a count with one more failure: it stays at the greatest u64
abbrev pub one_more : ℕ → ℕ
one_more n = min (n + 1) (2 ^ 64 - 1)

-- a front part of the bytes was written, and the rest of them, of which there is one at least, was left
pub record WritesPart {K : Type 0} (wrote : K → List ℕ → K → Type 0) (old : K) (bytes : List ℕ) (new : K) : Type 0 where
  pub front : List ℕ
  pub left : List ℕ
  pub written : wrote old front new
  pub parts : bytes ≡ front ++ left
  pub is_left : 0 < length left
