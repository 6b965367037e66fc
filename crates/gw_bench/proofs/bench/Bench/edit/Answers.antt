use Rattle.std.proofs.Common.{◌≡◌, ◌<◌, ℕ, length, sym, subst}
use Rattle.gw_bench.proofs.Fronts.{longer}
use Rattle.gw_bench.proofs.bench.Bench.edit.Goals as goal

pub returns-in-Ok-true-clause-ok : goal.returns-in-Ok-true-clause-ok
returns-in-Ok-true-clause-ok g c =
    let won = rw c.in-Ok-true.field-0-test at c.in-Ok-true.ensures.ok in
    let puts = rw c.rounds.invariant.1 at won in
    record {
      number = c.len-in-Ok-true.ensures.length;
      before = c.read_on.new.self;
      parts = puts.0;
      version = puts.1.0;
      made = puts.1.1;
    }

pub returns-in-Ok-true-clause-new : goal.returns-in-Ok-true-clause-new
returns-in-Ok-true-clause-new g c =
    let old = c.args.pass.now in
    let won = rw c.in-Ok-true.field-0-test at c.in-Ok-true.ensures.ok in
    let puts = rw c.rounds.invariant.1 at won in
    let more : length old < length c.put_next.new.self =
    longer old c.rounds.pass c.read_on.new.self c.put_next.new.self c.args.edit c.rounds.invariant.0 c.read_on.ensures puts.0 in
    subst (λ (n : ℕ). length old < n) (sym c.len-in-Ok-true.ensures.length) more

pub returns-in-Err-clause-err : goal.returns-in-Err-clause-err
returns-in-Err-clause-err g c = rw c.rounds.invariant.1 at c.in-Err.ensures.err.1
