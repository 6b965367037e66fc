use Rattle.std.proofs.Common.{◌≡◌, ◌-◌, ◌≤◌}
use Rattle.gw_record.specs.Tape.{Records}
use Rattle.gw_record.specs.Extending.{tallied}
use Rattle.gw_record.specs.Reaching.{AreWanted}
use Rattle.gw_record.proofs.recorded.Recorded.reach.Given as goal

abbrev pub invariant-loop-moment : goal.invariant-loop-moment
invariant-loop-moment l = record {
  records : Records l.version l.seed l.self;
  every : l.self.every ≡ l.fn.self.every;
  start : l.self.start ≡ l.fn.self.start;
  moment : l.self.moment ≡ l._moment;
  grows : l.fn.self.moment ≤ l.self.moment;
  wanted : AreWanted l.version l.seed l.k l.fn.self.moment l.self.moment;
  tally : l.tally ≡ tallied l.fn.tally (l.self.moment - l.fn.self.moment);
}
