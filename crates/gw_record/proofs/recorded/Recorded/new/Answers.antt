use Rattle.std.proofs.Common.{◌≡◌, subst, rules}
use Rattle.gw_record.specs.Tape.{Tape, blank, Records}
use Rattle.gw_record.proofs.Blank.{blank_records}
use Rattle.gw_record.proofs.recorded.Recorded.new.Goals as goal

pub returns-clause-records : goal.returns-clause-records
returns-clause-records c = λ t seed.
    let r : Tape = record {
      every = c.args.every;
      start = 0;
      moment = 0;
      tip = c.zero-tip.result;
      kept = c.new.result.items;
      ends = c.new-2.result.items;
      firsts = c.new-notes.result.firsts;
    } in
    let same : blank c.args.every ≡ r = search rules in
    subst (λ (x : Tape). Records t seed x) same (blank_records t seed c.args.every)
