use Rattle.gw_bench.proofs.GrowLaws.{grown_none, grown_one}
use Rattle.gw_bench.proofs.held.Held.take_over.Goals as goal

pub notes-init : goal.notes-init
notes-init g c = record { grown = grown_none c.args.self.now; row = c.requires }

pub notes-preserved : goal.notes-preserved
notes-preserved g c =
    let taken = rw c.if-not-branch.false at c.in_ok-take_one.ensures.ok in
    record {
      grown = grown_one c.args.self.now c.notes.self c.take_one.new.self taken.0 c.notes.invariant.grown taken.1;
      row = c.notes.invariant.row;
    }
