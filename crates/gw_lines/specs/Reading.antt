-- Reading step by step, with the first fault that is met. (Our own.)
use Rattle.std.specs.Prelude.{ℕ, ◌≡◌, Result, Ok, Err}
use Rattle.gw_lines.specs.declared.fault.LineFault.{LineFault}
use Rattle.gw_lines.specs.declared.fault.LineFault.TheVariants as faults
use Rattle.gw_lines.specs.declared.fault.FaultyLine.{FaultyLine}

infixl 10 ◌>>=◌
-- the next step, where the one before had no fault
abbrev pub ◌>>=◌ : {A B E : Type 0} → Result A E → (A → Result B E) → Result B E
(Ok x) >>= f = f x
(Err e) >>= f = Err e

-- the fault is out of memory, or the fact holds of it
abbrev pub OrMemory : LineFault → Type 0 → Type 0
OrMemory faults.Memory P = Unit {0}
OrMemory f P = P

-- the fault f is what reading gives, unless it is out of memory
abbrev pub Fails : {Y : Type 0} → LineFault → Result Y LineFault → Type 0
Fails f read = OrMemory f (read ≡ Err f)

-- what a function returned, seen by view, is what reading gives, unless it is out of memory
abbrev pub Gives : {X Y : Type 0} → (X → Y) → Result X LineFault → Result Y LineFault → Type 0
Gives view (Ok x) read = read ≡ Ok (view x)
Gives view (Err f) read = Fails f read

-- a fault found alone is this one, unless it is out of memory
abbrev pub IsFault : LineFault → LineFault → Type 0
IsFault e f = OrMemory e (f ≡ e)

-- the same of a model, whose faults have the number of their line
abbrev pub FailsAt : {Y : Type 0} → ℕ → LineFault → Result Y FaultyLine → Type 0
FailsAt line f read = OrMemory f (read ≡ Err (record { line = line; fault = f }))

abbrev pub GivesModel : {X Y : Type 0} → (X → Y) → Result X FaultyLine → Result Y FaultyLine → Type 0
GivesModel view (Ok x) read = read ≡ Ok (view x)
GivesModel view (Err e) read = FailsAt e.line e.fault read
