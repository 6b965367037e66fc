use Rattle.std.proofs.Common.{◌≡◌, false, take, get_or, refl, sym, ap, ◌∙◌}
use Rattle.std.proofs.lemmas.List.{take_all}
use Rattle.std.proofs.lemmas.List.Folds.{list_any_more}
use Rattle.gw_meaning.specs.Watching.{same_watched, is_watched}
use Rattle.gw_retry.specs.Readings.{all_items}
use Rattle.gw_retry.proofs.Sifted.{neither_true}
use Rattle.gw_retry.proofs.Things.{thing_turned}
use Rattle.gw_retry.proofs.lists.ReadLists.unmark.Goals as goal

pub loop-index-init : goal.loop-index-init
loop-index-init c = record { lists = refl; marks = λ w marked apart. marked }

pub loop-index-preserved : goal.loop-index-preserved
loop-index-preserved c =
    let written = c.args.written.now in
    let i = c.loop-index.index in
    let v = c.index-written-index.result in
    record {
      lists = c.loop-index.invariant.lists;
      marks = λ w marked apart.
          let more = sym (list_any_more (same_watched w) written i v c.loop-index-test.true) ∙ apart in
          let parts = neither_true (is_watched (take i written) w) (same_watched w (get_or written i v)) more in
          let other : same_watched v w ≡ false = thing_turned v w ∙ (ap (same_watched w) c.index-written-index.is ∙ parts.1) in
          c.swap_remove.ensures.updates.2 w other ∙ c.loop-index.invariant.marks w marked parts.0;
    }

pub returns-clause-lists : goal.returns-clause-lists
returns-clause-lists c = ap all_items c.loop-index.invariant.lists ∙ ap (λ r. r.lists) c.self.view_is

pub returns-clause-marks : goal.returns-clause-marks
returns-clause-marks c = λ w marked apart.
    let all = take_all c.loop-index.index c.args.written.now c.loop-index-test.false in
    c.loop-index.invariant.marks w (ap (λ r. is_watched r.marks w) c.self.view_is ∙ marked) (ap (λ l. is_watched l w) all ∙ apart)
