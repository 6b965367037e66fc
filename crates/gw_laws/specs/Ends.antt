-- When a run ends, and when it does not. No step follows from its last state: so the laws speak of the step from any
-- state. (Manual. Our own: the horizon, and that a run is done where no command is left.)
use Rattle.std.specs.Prelude.{◌≡◌, ◌≢◌, ℕ, ◌≤◌, ◌<◌, ◌⊎◌, ◌↔◌, false, [], Some, None, Ok, Err, All}
use Rattle.gw_expr.specs.declared.stop.Stop.{Stop}
use Rattle.gw_expr.specs.declared.halt.End.{End}
use Rattle.gw_expr.specs.declared.halt.End.TheVariants as ends
use Rattle.gw_meaning.specs.declared.statement.Command.TheVariants as commands
use Rattle.gw_meaning.specs.declared.transaction.Transaction.{Transaction}
use Rattle.gw_meaning.specs.declared.transaction.Event.{Event}
use Rattle.gw_meaning.specs.Listing.{Listing, command_at}
use Rattle.gw_meaning.specs.Machine.{Machine, raised}
use Rattle.gw_meaning.specs.Step.{step, run}

-- a run that ended has a last state, from which no step follows
abbrev pub EndsBehindALastState : Type 0
EndsBehindALastState =
    (t : Listing) (seed n : ℕ) (end : End) → run t seed n ≡ Err end →
    (m : ℕ) × (s : Machine) × (m < n) × (run t seed m ≡ Ok s) × (step t seed s ≡ Err end)

-- and it stays ended
abbrev pub EndsForGood : Type 0
EndsForGood =
    (t : Listing) (seed m n : ℕ) (end : End) → m ≤ n → run t seed m ≡ Err end → run t seed n ≡ Err end

-- no START is under way, and there is no further command
pub record IsDone (t : Listing) (s : Machine) : Type 0 where
  pub idle : s.remaining ≡ 0
  pub last : command_at t (raised s.commands) ≡ None

-- a START is under way, and there is no transaction to move: none is active, nor on the current or the future chain
-- (those on delay chains wait for others to move)
pub record IsDry (s : Machine) : Type 0 where
  pub started : 1 ≤ s.remaining
  pub active : s.active ≡ None
  pub current : s.current ≡ []
  pub future : s.future ≡ []

-- a START is under way, and the transactions to move are on the future chain alone, each at a time above the horizon
pub record IsBeyond (t : Listing) (s : Machine) : Type 0 where
  pub started : 1 ≤ s.remaining
  pub active : s.active ≡ None
  pub current : s.current ≡ []
  pub some : s.future ≢ []
  pub above : All (λ (e : Event). t.horizon < e.time) s.future

-- these three ends come then, and only then
abbrev pub EndsDone : Type 0
EndsDone = (t : Listing) (seed : ℕ) (s : Machine) → (step t seed s ≡ Err ends.CommandsDone) ↔ IsDone t s

abbrev pub EndsDry : Type 0
EndsDry = (t : Listing) (seed : ℕ) (s : Machine) → (step t seed s ≡ Err ends.Dry) ↔ IsDry s

abbrev pub EndsAtHorizon : Type 0
EndsAtHorizon = (t : Listing) (seed : ℕ) (s : Machine) → (step t seed s ≡ Err ends.Horizon) ↔ IsBeyond t s

-- a START is under way, and a transaction is active
pub record IsMoving (s : Machine) : Type 0 where
  pub started : 1 ≤ s.remaining
  pub who : Transaction
  pub active : s.active ≡ Some who

-- no START is under way, and the next command is the START that makes the first transactions
pub record IsPriming (t : Listing) (s : Machine) : Type 0 where
  pub idle : s.remaining ≡ 0
  pub unprimed : s.primed ≡ false
  pub count : ℕ
  pub next : command_at t (raised s.commands) ≡ Some (commands.Start count)

-- a run ends by an error only in the attempt of the active transaction, or in priming
abbrev pub ErrorsAreOfAttempts : Type 0
ErrorsAreOfAttempts =
    (t : Listing) (seed : ℕ) (s : Machine) (stop : Stop) → step t seed s ≡ Err (ends.Error stop) →
    IsMoving s ⊎ IsPriming t s
