use Rattle.std.proofs.Common.{◌≡◌, ◌+◌, length, ◌∷◌, [], ◌++◌, arith, length-append, ◌∙◌}
use Rattle.std.proofs.lemmas.Result.{err_from_is_err_and}
use Rattle.gw_io.specs.Reading.{AnyBytes}
use Rattle.gw_io.proofs.Faults.{behind, out_of_memory}
use Rattle.gw_io.proofs.History.{still}
use Rattle.gw_io.proofs.whole.read_all.Goals as goal

pub returns-in_err-byte-clause-fault : goal.returns-in_err-byte-clause-fault
returns-in_err-byte-clause-fault g c =
    let p = err_from_is_err_and c.from_residual.result c.from_residual.ensures.1 in
    let known = c.loop-bytes.invariant in
    rw (p.1, p.2) (behind g.S.Source.took g.S.Source.failures g.met.S.Source.onward AnyBytes (λ v. v ≡ []) _ _ _ c.loop-bytes.bytes.items _ _ _ _
    known.taken known.spent known.uncounted (λ y e. tt) c.in_err-byte.ensures.fault)

pub returns-in_err-push-clause-fault : goal.returns-in_err-push-clause-fault
returns-in_err-push-clause-fault g c =
    let p = err_from_is_err_and c.from_residual-in_err-push.result c.from_residual-in_err-push.ensures.1 in
    let known = c.loop-bytes.invariant in
    let read = c.in_ok-byte.ensures in
    let some = rw c.in-Some.is at read.ok in
    let spent : c.args.budget.now ≡ c.read_byte.new.budget + (length (c.loop-bytes.bytes.items ++ c.in-Some.byte ∷ []) + 0) =
    omega (arith, length-append c.loop-bytes.bytes.items (c.in-Some.byte ∷ [])) in
    rw (p.1, p.2) (out_of_memory g.S.Source.took g.S.Source.failures AnyBytes _ _ (c.loop-bytes.bytes.items ++ c.in-Some.byte ∷ [])
    _ _ 0 _ c.in_err-push.ensures.err (omega arith)
    (g.met.S.Source.onward _ _ _ _ _ known.taken some) spent (read.uncounted ∙ known.uncounted) tt)

pub returns-clause-all : goal.returns-clause-all
returns-clause-all g c =
    let known = c.loop-bytes.invariant in
    let none = rw c.in_default.is at c.in_ok-byte.ensures.ok in
    record {
      taken = still g.S.Source.took g.met.S.Source.onward _ _ _ _ known.taken none;
      at_end = c.in_ok-byte.ensures.end c.in_default.is;
      spent = omega (arith, known.spent, c.in_ok-byte.ensures.spent);
    }
