use Rattle.std.proofs.Common.{arith}
use Rattle.gw_bench.proofs.Fronts.{stands-length}
use Rattle.gw_bench.proofs.pass.Pass.len.Goals as goal

pub returns-clause-length : goal.returns-clause-length
returns-clause-length g c = rw (← c.self.view_is) (omega (arith, c.len.ensures, stands-length g.N.RowName.boxes c.self.inside.notes.items c.self.invariant.stands))
