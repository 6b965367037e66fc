-- The numbers of statements do not show in a report. (Our own.)
use Rattle.std.specs.Prelude.{ℕ, ◌≡◌}
use Rattle.gw_meaning.specs.declared.item.Outcome.{Outcome}
use Rattle.gw_meaning.specs.Listing.{Listing}
use Rattle.gw_meaning.specs.Machine.{Machine}
use Rattle.gw_frame.specs.Moved.{moved_machine}
use Rattle.gw_frame.specs.Renamed.{IsRenamed}
use Rattle.gw_report.specs.Report.{text_of}

-- the report of a renamed version in the renamed state is the report
abbrev pub RenamedText : Type 0
RenamedText =
    (move : ℕ → ℕ) (t u : Listing) (rep k : ℕ) (s : Machine) (outcome : Outcome) → IsRenamed move t u →
    text_of u rep k (moved_machine move s) outcome ≡ text_of t rep k s outcome
