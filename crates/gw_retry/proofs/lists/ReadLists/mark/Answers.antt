use Rattle.std.proofs.Common.{[], take, refl, sym, ap, ◌∙◌}
use Rattle.std.specs.List.{list_all}
use Rattle.std.proofs.lemmas.List.{take_all}
use Rattle.std.proofs.lemmas.List.Folds.{list_all_more}
use Rattle.gw_meaning.specs.Watching.{is_watched}
use Rattle.gw_retry.proofs.Sifted.{true_both}
use Rattle.gw_retry.proofs.Waiters.{still_marked, nothing_written}
use Rattle.gw_retry.proofs.lists.ReadLists.mark.Goals as goal

pub loop-index-init : goal.loop-index-init
loop-index-init c = record { lists = refl; marked = refl; marks = λ w marked apart. marked }

pub returns-in_err-mark_one-clause-lists : goal.returns-in_err-mark_one-clause-lists
returns-in_err-mark_one-clause-lists c = c.mark_one.ensures.lists ∙ c.loop-index.invariant.lists

pub returns-in_err-mark_one-clause-marks : goal.returns-in_err-mark_one-clause-marks
returns-in_err-mark_one-clause-marks c = λ w marked apart. c.mark_one.ensures.marks w (c.loop-index.invariant.marks w marked apart) apart

pub loop-index-preserved : goal.loop-index-preserved
loop-index-preserved c =
    let read = c.args.read.now in
    let i = c.loop-index.index in
    let v = c.index-read-index.result in
    let old = c.loop-index.self.marks in
    let new = c.mark_one.new.self.marks in
    let was = c.loop-index.invariant in
    record {
      lists = c.mark_one.ensures.lists ∙ was.lists;
      marked = list_all_more (is_watched new) read i v c.loop-index-test.true ∙ true_both _ _
          (still_marked old [] new (take i read) c.mark_one.ensures.marks was.marked (nothing_written (take i read)))
          (ap (is_watched new) (sym c.index-read-index.is) ∙ c.in_ok-mark_one.ensures.ok);
      marks = λ w marked apart. c.mark_one.ensures.marks w (was.marks w marked apart) apart;
    }

pub returns-clause-lists : goal.returns-clause-lists
returns-clause-lists c = c.loop-index.invariant.lists

pub returns-clause-ok : goal.returns-clause-ok
returns-clause-ok c =
    sym (ap (list_all (is_watched c.loop-index.self.marks)) (take_all c.loop-index.index c.args.read.now c.loop-index-test.false)) ∙
    c.loop-index.invariant.marked

pub returns-clause-marks : goal.returns-clause-marks
returns-clause-marks c = c.loop-index.invariant.marks
