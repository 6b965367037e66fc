use Rattle.std.proofs.Common.{◌≡◌, ◌≢◌, ◌+◌, ℕ, length, List, [], ◌∷◌, ◌++◌, arith, length-append, ◌∙◌}
use Rattle.std.proofs.lemmas.Grind.{common_steps, elements}
use Rattle.std.proofs.lemmas.List.{append-nil}
use Rattle.std.proofs.lemmas.Result.{err_from_is_err_and}
use Rattle.gw_io.specs.Line.{IsUnended}
use Rattle.gw_io.proofs.Faults.{behind, out_of_memory}
use Rattle.gw_io.proofs.History.{still}
use Rattle.gw_io.proofs.line.read_line.Goals as goal

-- nothing after a part of a line is a part of it
with_nothing : (x : List ℕ) → IsUnended x → (y : List ℕ) → y ≡ [] → IsUnended (x ++ y)
with_nothing x h y e = rw (e, append-nil) h

-- a byte that is no line feed after a part of a line
with_byte : (x : List ℕ) (b : ℕ) → IsUnended x → b ≢ 10 → IsUnended (x ++ b ∷ [])
with_byte x b h e = grind (arith, elements)

pub returns-in_err-byte-clause-fault : goal.returns-in_err-byte-clause-fault
returns-in_err-byte-clause-fault g c =
    let p = err_from_is_err_and c.from_residual.result c.from_residual.ensures.1 in
    let known = c.loop-bytes.invariant in
    rw (p.1, p.2) (behind g.S.Source.took g.S.Source.failures g.met.S.Source.onward IsUnended (λ v. v ≡ []) _ _ _ c.loop-bytes.bytes.items _ _ _ _
    known.taken known.spent known.uncounted (with_nothing _ known.unended) c.in_err-byte.ensures.fault)

pub returns-in_err-push-clause-fault : goal.returns-in_err-push-clause-fault
returns-in_err-push-clause-fault g c =
    let p = err_from_is_err_and c.from_residual-in_err-push.result c.from_residual-in_err-push.ensures.1 in
    let known = c.loop-bytes.invariant in
    let read = c.in_ok-byte.ensures in
    let some = rw c.in-Some.is at read.ok in
    let spent : c.args.budget.now ≡ c.read_byte.new.budget + (length (c.loop-bytes.bytes.items ++ c.in-Some.byte ∷ []) + 0) =
    omega (arith, length-append c.loop-bytes.bytes.items (c.in-Some.byte ∷ [])) in
    rw (p.1, p.2) (out_of_memory g.S.Source.took g.S.Source.failures IsUnended _ _ (c.loop-bytes.bytes.items ++ c.in-Some.byte ∷ [])
    _ _ 0 _ c.in_err-push.ensures.err (omega arith)
    (g.met.S.Source.onward _ _ _ _ _ known.taken some) spent (read.uncounted ∙ known.uncounted) (with_byte _ _ known.unended c.if-byte-eq10.false))

pub returns-then-is_empty-clause-taken : goal.returns-then-is_empty-clause-taken
returns-then-is_empty-clause-taken g c =
    let none = rw c.in_default.is at c.in_ok-byte.ensures.ok in
    let e : c.loop-bytes.bytes.items ≡ [] = grind (arith, common_steps) in
    rw e at (still g.S.Source.took g.met.S.Source.onward _ _ _ _ c.loop-bytes.invariant.taken none)

pub returns-else-is_empty-clause-taken : goal.returns-else-is_empty-clause-taken
returns-else-is_empty-clause-taken g c =
    let none = rw c.in_default.is at c.in_ok-byte.ensures.ok in
    still g.S.Source.took g.met.S.Source.onward _ _ _ _ c.loop-bytes.invariant.taken none
