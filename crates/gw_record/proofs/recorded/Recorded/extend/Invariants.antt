use Rattle.std.proofs.Common.{◌≡◌, ◌+◌}
use Rattle.gw_record.specs.Tape.{Records}
use Rattle.gw_record.specs.Extending.{tallied}
use Rattle.gw_record.proofs.recorded.Recorded.extend.Given as goal

abbrev pub invariant-loop-made : goal.invariant-loop-made
invariant-loop-made l = record {
  records : Records l.version l.seed l.self;
  every : l.self.every ≡ l.fn.self.every;
  start : l.self.start ≡ l.fn.self.start;
  moment : l.self.moment ≡ l.fn.self.moment + l.made;
  tally : l.tally ≡ tallied l.fn.tally l.made;
}
