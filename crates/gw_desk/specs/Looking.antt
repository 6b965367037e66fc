-- What the recorded steps of a run tell of START k: the point of its report, that it has none, or nothing as yet. (Our
-- own.)
use Rattle.std.specs.Prelude.{◌≡◌, ℕ, ◌<◌, ◌≤◌, Ok}
use Rattle.gw_meaning.specs.Listing.{Listing}
use Rattle.gw_meaning.specs.Machine.{Machine}
use Rattle.gw_meaning.specs.Step.{step, run}
use Rattle.gw_record.specs.declared.reach.Reach.{Reach}
use Rattle.gw_record.specs.Reaching.{Reaches}
use Rattle.gw_record.specs.Tape.{Tape, Records, IsKept}
use Rattle.gw_desk.specs.declared.look.Look.{Look}
use Rattle.gw_desk.specs.declared.look.Look.TheVariants as looks
use Rattle.gw_desk.specs.Finding.{Point, NoStart, TooLong, verdict}

-- n steps decide nothing: they are fewer than the step limit, the run goes on after them, and at none of their moments
-- are k STARTs complete
pub record IsOpen (t : Listing) (seed k n : ℕ) : Type 0 where
  pub below : n < t.limit
  pub state : Machine
  pub next : Machine
  pub there : run t seed n ≡ Ok state
  pub goes : step t seed state ≡ Ok next
  pub none : (m : ℕ) (s : Machine) → m ≤ n → run t seed m ≡ Ok s → s.complete ≡ k → ⊥

-- what is seen is what the search from zero finds
abbrev pub Sees : Listing → ℕ → ℕ → Tape → Look → Type 0
Sees t seed k r (looks.Point moment outcome) =
    IsKept t seed r moment × ((s : Machine) × (run t seed moment ≡ Ok s) × (verdict t seed k ≡ Point s outcome)) ×
    (IsOpen t seed k r.moment → ⊥)
Sees t seed k r looks.NoStart = (verdict t seed k ≡ NoStart) × (IsOpen t seed k r.moment → ⊥)
Sees t seed k r looks.TooLong = (verdict t seed k ≡ TooLong) × (IsOpen t seed k r.moment → ⊥)
Sees t seed k r looks.Open = IsOpen t seed k r.moment

-- the steps of a run were stopped by this on the way to the end of START k
abbrev pub IsStopped : ℕ → Tape → Reach → Type 0
IsStopped k r reach = (t : Listing) × (seed : ℕ) × Records t seed r × Reaches t seed k r reach
