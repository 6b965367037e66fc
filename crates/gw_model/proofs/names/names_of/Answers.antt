use Rattle.std.proofs.Common.{◌≡◌, false, true, ◌-◌, ◌∷◌, drop, sym, ◌∙◌, arith}
use Rattle.gw_model.specs.Faults.{has_label_twice, is_labelled}
use Rattle.gw_model.specs.Listed.{counted_label}
use Rattle.gw_model.proofs.Twice.{twice_behind, twice_here, once_here, told_is, drop_back}
use Rattle.gw_model.proofs.names.names_of.Goals as goal

pub returns-then-told-clause-err : goal.returns-then-told-clause-err
returns-then-told-clause-err c =
    let lines = c.args.lines.now in
    let i = c.loop-index.index in
    let line = c.index-lines-index.result in
    let front : drop (i - 1) lines ≡ line ∷ drop i lines = drop_back lines i line (omega arith) (omega arith) c.index-lines-index.is in
    let there : is_labelled (counted_label line) (drop i lines) ≡ true =
    sym (told_is c.loop-index.names (drop i lines) c.loop-index.invariant.labels c.loop-index.invariant.definitions (counted_label line))
    ∙ sym c.in_ok-told.ensures.told ∙ c.if-told.true in
    let twice : has_label_twice lines ≡ true = twice_behind (i - 1) lines (rw front (twice_here line (drop i lines) there)) in
    rw twice

pub loop-index-preserved : goal.loop-index-preserved
loop-index-preserved c =
    let lines = c.args.lines.now in
    let i = c.loop-index.index in
    let line = c.index-lines-index.result in
    let front : drop (i - 1) lines ≡ line ∷ drop i lines = drop_back lines i line (omega arith) (omega arith) c.index-lines-index.is in
    let there : is_labelled (counted_label line) (drop i lines) ≡ false =
    sym (told_is c.loop-index.names (drop i lines) c.loop-index.invariant.labels c.loop-index.invariant.definitions (counted_label line))
    ∙ sym c.in_ok-told.ensures.told ∙ c.if-told.false in
    record {
      within = omega arith;
      labels = λ name. rw (front, ← c.loop-index.invariant.labels name) (c.in_ok-told.ensures.labels name);
      definitions = λ name. rw (front, ← c.loop-index.invariant.definitions name) (c.in_ok-told.ensures.definitions name);
      once = rw front (once_here line (drop i lines) there c.loop-index.invariant.once);
    }
