-- What a reading that ends in a fault leaves.
use Rattle.std.specs.Prelude.{◌≡◌, ℕ, ◌+◌, ◌≤◌, List, length}
use Rattle.gw_io.specs.Failures.{one_more}
use Rattle.gw_io.specs.declared.budget.ReadFault.{ReadFault}
use Rattle.gw_io.specs.declared.budget.ReadFault.TheVariants.{Read, Limit, Memory}

-- how many calls of read gave no byte before a fault: the one that failed, at Limit none, and at Memory
-- at most one, which found the end of the input
abbrev pub AreIdleCalls : ReadFault → ℕ → Type 0
AreIdleCalls Read idle = idle ≡ 1
AreIdleCalls Limit idle = idle ≡ 0
AreIdleCalls Memory idle = idle ≤ 1

-- the failures of the source after a fault: one more at Read
abbrev pub failures_at : ReadFault → ℕ → ℕ
failures_at Read n = one_more n
failures_at Limit n = n
failures_at Memory n = n

-- what must hold of the calls that are left at a fault: none is left at Limit
abbrev pub IsSpentAt : ReadFault → ℕ → Type 0
IsSpentAt Read left = Unit {0}
IsSpentAt Limit left = left ≡ 0
IsSpentAt Memory left = Unit {0}

-- any bytes at all
abbrev pub AnyBytes : List ℕ → Type 0
AnyBytes bytes = Unit {0}

-- a reading ended in a fault: bytes with the property P were taken, by one call each, and the calls and
-- the failures are counted
pub record Breaks {S : Type 0} (took : S → List ℕ → S → Type 0) (failures : S → ℕ) (P : List ℕ → Type 0) (old new : S)
    (calls calls' : ℕ) (fault : ReadFault) : Type 0 where
  pub bytes : List ℕ
  pub part : P bytes
  pub taken : took old bytes new
  pub idle : ℕ
  pub spent : calls ≡ calls' + (length bytes + idle)
  pub idle_calls : AreIdleCalls fault idle
  pub counted : failures new ≡ failures_at fault (failures old)
  pub limit : IsSpentAt fault calls'
