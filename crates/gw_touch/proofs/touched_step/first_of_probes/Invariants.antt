use Rattle.std.proofs.Common.{◌≡◌, ℕ, take}
use Rattle.gw_meaning.specs.Listing.{Listing}
use Rattle.gw_record.specs.Tape.{Records}
use Rattle.gw_touch.specs.Touching.{given}
use Rattle.gw_touch.specs.Touched.{touched_step}
use Rattle.gw_touch.proofs.touched_step.first_of_probes.Given as goal

abbrev pub invariant-loop-probe : goal.invariant-loop-probe
invariant-loop-probe l = (t : Listing) (seed : ℕ) → Records t seed l.run → l.first ≡ touched_step (given (take l.probe-index l.probes)) t seed l.run
