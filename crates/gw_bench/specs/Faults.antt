-- What a fault of a bench says of the front that its caller has seen: that the row is full, that the version after that
-- front refuses the edit, or that memory was refused. (Our own.)
use Rattle.std.specs.Prelude.{◌≡◌, ◌<◌, ℕ, List, [], ◌∷◌, ◌++◌, Ok, Err, length}
use Rattle.gw_meaning.specs.Listing.{Listing}
use Rattle.gw_meaning.specs.declared.edit.Edit.{Edit}
use Rattle.gw_edit.specs.declared.fault.EditFault.{EditFault}
use Rattle.gw_edit.specs.declared.fault.EditFault.TheVariants as edits
use Rattle.gw_edit.specs.Applied.{applied}
use Rattle.gw_edit.specs.Leading.{version_of}
use Rattle.gw_bench.specs.declared.fault.BenchFault.{BenchFault}
use Rattle.gw_bench.specs.declared.fault.BenchFault.TheVariants.{HistoryFull, Refused, Memory}

-- what a fault says of the front seen: a row that is full comes before what the version refuses
abbrev pub Says : BenchFault → Listing → List Edit → Edit → Type 0
Says HistoryFull opening front e = length front ≡ 4096
Says (Refused fault n) opening front e =
    (n ≡ length front) × (length front < 4096) × (applied (version_of opening front) e ≡ Err fault)
Says Memory opening front e = Unit {0}

-- the edit is the last of the front, and was accepted of the version of those before
abbrev pub Puts : Listing → List Edit → List Edit → Edit → Type 0
Puts opening before front e =
    (front ≡ before ++ e ∷ []) × ((version : Listing) × (applied (version_of opening before) e ≡ Ok version))

-- the fault that a refusal of an edit is, of a front of so many edits; out of memory is the bench's own
abbrev pub refusal_of : EditFault → ℕ → BenchFault
refusal_of edits.Memory n = Memory
refusal_of fault n = Refused fault n
