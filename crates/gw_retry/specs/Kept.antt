-- Who holds what was read. (Our own.)
use Rattle.gw_retry.specs.Readings.{Readings}
use Rattle.gw_retry.specs.declared.readings.Kept.{Kept}
use Rattle.gw_retry.specs.declared.readings.Kept.TheVariants.{Own, Shared}

abbrev pub readings_in : Kept → Readings
readings_in (Own lists) = lists
readings_in (Shared shared) = shared.value
