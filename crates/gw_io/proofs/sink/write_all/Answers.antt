use Rattle.std.proofs.Common.{take, drop, sym, take-append-drop, length-drop}
use Rattle.std.proofs.Common.{arith}
use Rattle.std.proofs.lemmas.Grind.{common_steps}
use Rattle.std.proofs.lemmas.Result.{err_from_is_err_and}
use Rattle.gw_io.proofs.History.{still, further, within}
use Rattle.gw_io.proofs.sink.write_all.Goals as goal

pub returns-in_err-written-clause-err : goal.returns-in_err-written-clause-err
returns-in_err-written-clause-err g c =
    let p = err_from_is_err_and c.from_residual.result c.from_residual.ensures.1 in
    rw p.1 (record {
      front = take c.loop-written.written c.args.bytes.now;
      left = drop c.loop-written.written c.args.bytes.now;
      written = still g.K.Sink.wrote g.met.K.Sink.onward _ _ _ _ c.loop-written.invariant.wrote c.in_err-written.ensures.err;
      parts = sym (take-append-drop c.loop-written.written c.args.bytes.now);
      is_left = omega (arith, length-drop c.loop-written.written c.args.bytes.now);
    })

pub loop-written-preserved : goal.loop-written-preserved
loop-written-preserved g c = record {
  within = within c.args.bytes.now _ _ c.loop-written.invariant.within c.in_ok-written.ensures.count;
  wrote = further g.K.Sink.wrote g.met.K.Sink.onward _ _ _ c.args.bytes.now c.loop-written.written c.in_ok-written.field-0 c.loop-written.invariant.wrote
      c.in_ok-written.ensures.ok;
  uncounted = grind (arith, common_steps);
}
