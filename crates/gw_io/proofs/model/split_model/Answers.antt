use Rattle.std.proofs.Common.{◌≡◌, ◌≢◌, codes, ℕ, ◌+◌, length, List, [], ◌∷◌, ◌++◌, arith, ◌∙◌, length-append}
use Rattle.std.proofs.lemmas.Grind.{common_steps}
use Rattle.std.proofs.lemmas.Result.{err_from_is_err_and}
use Rattle.gw_io.specs.Line.{IsUnended}
use Rattle.gw_io.specs.Model.{IsModelPart, IsEnd, with_feed}
use Rattle.gw_io.proofs.Faults.{behind, out_of_memory}
use Rattle.gw_io.proofs.Faults.{calls}
use Rattle.gw_io.proofs.Models.{with_line, part_of, whole_part, at_end, at_last_end, at_last, at_nothing}
use Rattle.gw_io.proofs.model.split_model.Goals as goal

pub returns-in_err-line-clause-fault : goal.returns-in_err-line-clause-fault
returns-in_err-line-clause-fault g c =
    let p = err_from_is_err_and c.from_residual.result c.from_residual.ensures.1 in
    let known = c.loop-model.invariant in
    rw (p.1, p.2) (behind g.S.Source.took g.S.Source.failures g.met.S.Source.onward IsModelPart IsUnended _ _ _ c.loop-model.model.items _ _ _ _
    known.taken known.spent known.uncounted (λ y u. part_of c.loop-model.model.items y known.others u) c.in_err-line.ensures.fault)

pub returns-then-is_end-clause-model : goal.returns-then-is_end-clause-model
returns-then-is_end-clause-model g c =
    let known = c.loop-model.invariant in
    let read = rw c.in-Whole.is at c.in_ok-line.ensures in
    let e : IsEnd c.in-Whole.line.items = grind (arith, common_steps) in
    let spent : c.loop-model.budget ≡ c.read_line.new.budget + length (with_feed c.in-Whole.line.items) =
    omega (arith, read.spent, length-append c.in-Whole.line.items (10 ∷ [])) in
    at_end g.S.Source.took g.S.Source.ended g.met.S.Source.onward _ _ _ _ _ _ _ known.taken known.spent known.others c.in-Whole.line.items read.line e
    read.taken spent

pub returns-in_err-append_line-in-Whole-clause-fault : goal.returns-in_err-append_line-in-Whole-clause-fault
returns-in_err-append_line-in-Whole-clause-fault g c =
    let p = err_from_is_err_and c.from_residual-in_err-append_line-in-Whole.result c.from_residual-in_err-append_line-in-Whole.ensures.1 in
    let known = c.loop-model.invariant in
    let read = rw c.in-Whole.is at c.in_ok-line.ensures in
    let e : IsEnd c.in-Whole.line.items → ⊥ = λ (h : IsEnd c.in-Whole.line.items). grind (arith, common_steps) in
    let line : List ℕ = with_feed c.in-Whole.line.items in
    let spent : c.loop-model.budget ≡ c.read_line.new.budget + (length (with_feed c.in-Whole.line.items) + 0) =
    omega (arith, read.spent, length-append c.in-Whole.line.items (10 ∷ [])) in
    rw (p.1, p.2) (out_of_memory g.S.Source.took g.S.Source.failures IsModelPart _ _ (c.loop-model.model.items ++ with_feed c.in-Whole.line.items)
    _ _ 0 _ c.in_err-append_line-in-Whole.ensures.err (omega arith)
    (g.met.S.Source.onward _ _ _ _ _ known.taken read.taken) (calls c.loop-model.model.items line _ _ _ 0 known.spent spent) (read.uncounted ∙ known.uncounted)
    (whole_part _ (with_line c.loop-model.model.items c.in-Whole.line.items known.others read.line e)))

pub loop-model-preserved : goal.loop-model-preserved
loop-model-preserved g c =
    let known = c.loop-model.invariant in
    let read = rw c.in-Whole.is at c.in_ok-line.ensures in
    let e : IsEnd c.in-Whole.line.items → ⊥ = λ (h : IsEnd c.in-Whole.line.items). grind (arith, common_steps) in
    let more : c.append_line.new.bytes.items ≡ c.loop-model.model.items ++ with_feed c.in-Whole.line.items = grind (arith, common_steps) in
    let spent : c.args.budget.now ≡ c.read_line.new.budget + length (c.loop-model.model.items ++ with_feed c.in-Whole.line.items) =
    omega (arith, read.spent, length-append c.loop-model.model.items (with_feed c.in-Whole.line.items), length-append c.in-Whole.line.items (10 ∷ [])) in
    record {
      others = rw more (with_line c.loop-model.model.items c.in-Whole.line.items known.others read.line e);
      taken = rw more (g.met.S.Source.onward _ _ _ _ _ known.taken read.taken);
      spent = rw more spent;
      uncounted = read.uncounted ∙ known.uncounted;
    }

pub returns-then-is_end-2-clause-model : goal.returns-then-is_end-2-clause-model
returns-then-is_end-2-clause-model g c =
    let known = c.loop-model.invariant in
    let read = rw c.in-Last.is at c.in_ok-line.ensures in
    let e : c.in-Last.line.items ≡ codes "end" = grind (arith, common_steps) in
    at_last_end g.S.Source.took g.S.Source.ended g.met.S.Source.onward _ _ _ _ _ _ _ known.taken known.spent known.others c.in-Last.line.items e read.taken
    read.spent read.line.2

pub returns-in_err-append-in-Last-clause-fault : goal.returns-in_err-append-in-Last-clause-fault
returns-in_err-append-in-Last-clause-fault g c =
    let p = err_from_is_err_and c.from_residual-in_err-append-in-Last.result c.from_residual-in_err-append-in-Last.ensures.1 in
    let known = c.loop-model.invariant in
    let read = rw c.in-Last.is at c.in_ok-line.ensures in
    rw (p.1, p.2) (out_of_memory g.S.Source.took g.S.Source.failures IsModelPart _ _ (c.loop-model.model.items ++ c.in-Last.line.items)
    _ _ 1 _ c.in_err-append-in-Last.ensures.err (omega arith)
    (g.met.S.Source.onward _ _ _ _ _ known.taken read.taken) (calls c.loop-model.model.items c.in-Last.line.items _ _ _ 1 known.spent read.spent)
    (read.uncounted ∙ known.uncounted)
    (part_of _ _ known.others read.line.0))

pub returns-in-Last-clause-model : goal.returns-in-Last-clause-model
returns-in-Last-clause-model g c =
    let known = c.loop-model.invariant in
    let read = rw c.in-Last.is at c.in_ok-line.ensures in
    let e : c.in-Last.line.items ≢ codes "end" = λ (h : c.in-Last.line.items ≡ codes "end"). grind (arith, common_steps) in
    let more : c.append.new.bytes.items ≡ c.loop-model.model.items ++ c.in-Last.line.items = grind (arith, common_steps) in
    rw more (at_last g.S.Source.took g.S.Source.ended g.met.S.Source.onward _ _ _ _ _ _ _ known.taken known.spent known.others c.in-Last.line.items read.line.0
    e read.taken read.spent read.line.2)

pub returns-in-End-clause-model : goal.returns-in-End-clause-model
returns-in-End-clause-model g c =
    let known = c.loop-model.invariant in
    let line = rw c.in-End.is at c.in_ok-line.ensures.line in
    let taken = rw c.in-End.is at c.in_ok-line.ensures.taken in
    let spent = rw c.in-End.is at c.in_ok-line.ensures.spent in
    at_nothing g.S.Source.took g.S.Source.ended g.met.S.Source.onward _ _ _ _ _ _ _ known.taken known.spent known.others taken spent line
