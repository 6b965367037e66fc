use Rattle.gw_laws.proofs.GateLaws.{nobody_waits_at_an_open_gate}
use Rattle.gw_laws.proofs.WaitingTests.{nobody_waits_at_a_test_that_holds}
use Rattle.gw_laws.proofs.laws.nobody_waits_for_what_holds.Goals as goal

pub returns : goal.returns
returns c = record { gate = nobody_waits_at_an_open_gate; test = nobody_waits_at_a_test_that_holds }
