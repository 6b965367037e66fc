use Rattle.std.proofs.Common.{◌≡◌, ◌≤◌, ◌++◌, length, length-append, ap, arith}
use Rattle.gw_bench.proofs.GrowLaws.{front_grows, grown_on}
use Rattle.gw_bench.proofs.held.Held.take_in.Goals as goal

pub hand_out-requires-clause-less : goal.hand_out-requires-clause-less
hand_out-requires-clause-less g c =
    let grown = c.read_on.ensures in
    let front = front_grows c.take_over.new.self c.read_on.new.self grown.edits grown.grows in
    let long : length c.read_on.new.self.front ≡ length (c.take_over.new.self.front ++ grown.edits) = ap length front in
    omega (arith, c.in_ok-take_over.ensures.ok, long, length-append c.take_over.new.self.front grown.edits)

pub returns-in_err-read_on-clause-grown : goal.returns-in_err-read_on-clause-grown
returns-in_err-read_on-clause-grown g c = grown_on c.args.self.now c.take_over.new.self c.read_on.new.self c.take_over.ensures.grown c.read_on.ensures

pub returns-clause-grown : goal.returns-clause-grown
returns-clause-grown g c =
    rw c.hand_out.ensures.same (grown_on c.args.self.now c.take_over.new.self c.read_on.new.self c.take_over.ensures.grown c.read_on.ensures)
