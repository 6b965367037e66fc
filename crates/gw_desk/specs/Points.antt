-- What the search for a point finds, by what a point is. (Our own.)
use Rattle.std.specs.Prelude.{◌≡◌, ℕ, ◌+◌, ◌≤◌, ◌⊎◌, None, Ok, Err}
use Rattle.gw_expr.specs.declared.halt.End.{End}
use Rattle.gw_meaning.specs.Listing.{Listing}
use Rattle.gw_meaning.specs.Machine.{Machine}
use Rattle.gw_meaning.specs.Step.{step, run}
use Rattle.gw_meaning.specs.Point.{IsPoint, IsFirst, outcome_of}
use Rattle.gw_desk.specs.Finding.{Verdict, Point, NoStart, TooLong, verdict}

-- the run ends within the limit, and not during START k: fewer STARTs were complete, or no command is left
pub record EndsBefore (t : Listing) (seed k : ℕ) : Type 0 where
  pub n : ℕ
  pub s : Machine
  pub end : End
  pub within : n ≤ t.limit
  pub there : run t seed n ≡ Ok s
  pub ends : step t seed s ≡ Err end
  pub incomplete : s.complete ≡ k → ⊥
  pub before : (s.complete + 1 ≡ k → ⊥) ⊎ (outcome_of end ≡ None)
  pub first : IsFirst t seed k n

-- all steps of the limit are made, the run goes on, and k STARTs were never complete
pub record PassesLimit (t : Listing) (seed k : ℕ) : Type 0 where
  pub s : Machine
  pub u : Machine
  pub there : run t seed t.limit ≡ Ok s
  pub goes : step t seed s ≡ Ok u
  pub incomplete : s.complete ≡ k → ⊥
  pub first : IsFirst t seed k t.limit

-- what a verdict says
abbrev pub Means : Listing → ℕ → ℕ → Verdict → Type 0
Means t seed k (Point s o) = (n : ℕ) × IsPoint t seed k n o s
Means t seed k NoStart = EndsBefore t seed k
Means t seed k TooLong = PassesLimit t seed k

-- every search for the point of a START, of which the first is 1, finds what a point is
abbrev pub FindsPoints : Type 0
FindsPoints = (t : Listing) (seed k : ℕ) → 1 ≤ k → Means t seed k (verdict t seed k)
