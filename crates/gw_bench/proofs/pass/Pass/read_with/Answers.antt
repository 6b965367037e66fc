use Rattle.std.proofs.Common.{ap, arith, length}
use Rattle.gw_bench.proofs.pass.Pass.read_with.Goals as goal

pub read-requires-clause-number : goal.read-requires-clause-number
read-requires-clause-number g c = omega (arith, ap length c.requires.row)

pub push-requires : goal.push-requires
push-requires g c = record {
  boxed = c.requires.room.0;
  room = c.requires.room.1;
  cell = cc (c.in-Some.ensures.cell, c.requires.note);
  known = (c.in-Some.edit.now, c.in-Some.ensures.value.0, c.in_ok-version.ensures);
}
