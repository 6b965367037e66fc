-- Each report handed out is that of the version made anew, and of the model that `list` prints, run from zero.
use Rattle.std.proofs.Common.{◌≡◌, ℕ, ◌+◌, [], ◌∷◌, length, ⊎_elim, refl, ap, sym, subst, ◌∙◌, length-append}
use Rattle.std.specs.Prelude.{Ok, List, Some, None}
use Rattle.std.proofs.lemmas.List.Elements.{All-map}
use Rattle.gw_meaning.specs.declared.statement.Numbered.{Numbered}
use Rattle.gw_meaning.specs.Listing.{Listing}
use Rattle.gw_lines.specs.Printed.{IsSpelled}
use Rattle.gw_lines.proofs.Printed.{printed_models}
use Rattle.gw_frame.specs.Renamed.{statements_of}
use Rattle.gw_meaning.specs.declared.edit.Edit.{Edit}
use Rattle.gw_edit.specs.Applied.{applied}
use Rattle.gw_edit.specs.Spelled.{AreSpelled}
use Rattle.gw_edit.proofs.SpelledLaws.{edits_are_spelled}
use Rattle.gw_desk.specs.declared.answer.Answer.{Answer}
use Rattle.gw_desk.specs.declared.answer.Answer.TheVariants as answers
use Rattle.gw_desk.specs.declared.play.Event.{Event}
use Rattle.gw_desk.specs.declared.play.Reply.{Reply}
use Rattle.gw_desk.specs.Book.{Book, IsBook}
use Rattle.gw_desk.specs.Replies.{answer_of}
use Rattle.gw_desk.specs.Peeking.{Peeks, IsAnswer}
use Rattle.gw_desk.specs.Ledger.{Ledger, begun}
use Rattle.gw_desk.specs.Playing.{Tells, Goes, Follows}
use Rattle.gw_desk.specs.Anew.{anew}
use Rattle.gw_desk.proofs.AnewLaws.{answered_anew}
use Rattle.gw_desk.specs.Headline.{IsAnew, IsPrinted, IsRight, IsRightPeek, IsOfWorker, AreRight, ReportsAreRight, ReportsAreOfPrinted}

-- A version that is so of another answers as that does; an edit keeps what makes it so.
module _ (so : Listing → Listing → Type 0) (Holds : Listing → Type 0) (has : (t : Listing) → Holds t → so t (anew t))
    (stays : (t u : Listing) (e : Edit) → applied t e ≡ Ok u → Holds t → Holds u) where
  -- what the definition answers of a version, it answers of the version made anew
  module _ (b : Book) (is : IsBook b) (holds : Holds b.version) (rep k : ℕ) where
    made_anew : (answer : Answer) → answer ≡ answer_of b.version (length b.edits) rep k →
        (u : Listing) × so b.version u × (answer ≡ answer_of u (length b.edits) rep k)
    made_anew answer h =
        (anew b.version, has b.version holds, h ∙ sym (answered_anew b.version is.numbered (length b.edits) rep k))

    peek_right : (answer : Answer) → Peeks b rep k answer → IsRightPeek so b.version (length b.edits) rep k answer
    peek_right (answers.Ready report) h = made_anew (answers.Ready report) h.0
    peek_right (answers.Unfinished n) h = tt
    peek_right answers.NoStart h = made_anew answers.NoStart h.0
    peek_right answers.TooLong h = made_anew answers.TooLong h.0
    peek_right answers.NoReplication h = made_anew answers.NoReplication h.0
    peek_right answers.Memory h = tt

    decided : (answer : Answer) → (answer ≡ answers.Memory → ⊥) → IsAnswer (answer_of b.version (length b.edits) rep k) answer →
        (u : Listing) × so b.version u × (answer ≡ answer_of u (length b.edits) rep k)
    decided answer other h = ⊎_elim (λ is. made_anew answer is) (λ memory. absurd (other memory)) h

    finish_right : (answer : Answer) → IsAnswer (answer_of b.version (length b.edits) rep k) answer →
        IsRight so b.version (length b.edits) rep k answer
    finish_right (answers.Ready report) h = decided (answers.Ready report) (λ memory. cc) h
    finish_right (answers.Unfinished n) h = decided (answers.Unfinished n) (λ memory. cc) h
    finish_right answers.NoStart h = decided answers.NoStart (λ memory. cc) h
    finish_right answers.TooLong h = decided answers.TooLong (λ memory. cc) h
    finish_right answers.NoReplication h = decided answers.NoReplication (λ memory. cc) h
    finish_right answers.Memory h = tt

  -- what comes after an event is right of the book that it leaves
  abbrev After : Book → List Event → List Reply → Type 0
  After c more others = AreRight so c.version (length c.edits) more others

  desk_right : (b c : Book) (event : Event) (reply : Reply) (more : List Event) (others : List Reply) → IsBook b → Holds b.version →
      Tells b event reply c → (Holds c.version → After c more others) → After b (event ∷ more) (reply ∷ others)
  desk_right b c event reply more others is holds (Tells.accepted e n d acc) rest =
      let one : n ≡ length b.edits + 1 = acc.number ∙ (ap length acc.edits ∙ length-append b.edits (e ∷ [])) in
      let after = rest (stays b.version d.version e acc.version holds) in
      AreRight.accepted b.version d.version (length b.edits) n e more others acc.version one
      (subst (λ m. AreRight so d.version m more others) (sym acc.number) after)
  desk_right b c event reply more others is holds (Tells.refused e fault refuses) rest =
      AreRight.refused b.version (length b.edits) e fault more others (rest holds)
  desk_right b c event reply more others is holds (Tells.peeked rep k answer peeks) rest =
      AreRight.peeked b.version (length b.edits) rep k answer more others (peek_right b is holds rep k answer peeks) (rest holds)
  desk_right b c event reply more others is holds (Tells.finished rep k answer d answered steps decided idle) rest =
      let after = rest (subst Holds (sym steps.version) holds) in
      let here : AreRight so b.version (length b.edits) more others =
      subst (λ t. AreRight so t (length b.edits) more others) steps.version (subst (λ es. AreRight so d.version (length es) more others) steps.edits after) in
      AreRight.finished b.version (length b.edits) rep k answer more others (finish_right b is holds rep k answer answered) here

  worker_right : (a : Ledger) (event : Event) (reply : Reply) (more : List Event) (others : List Reply) → IsOfWorker event reply →
      After a.book more others → After a.book (event ∷ more) (reply ∷ others)
  worker_right a event reply more others of rest = AreRight.by_worker a.book.version (length a.book.edits) event reply more others of rest

  one_right : (a c : Ledger) (event : Event) (reply : Reply) (more : List Event) (others : List Reply) → IsBook a.book → Holds a.book.version →
      Goes a event reply c → (Holds c.book.version → After c.book more others) → After a.book (event ∷ more) (reply ∷ others)
  one_right a c event reply more others is holds (Goes.of_desk e r d tells) rest = desk_right a.book d e r more others is holds tells rest
  one_right a c event reply more others is holds (Goes.took w rep l ok taken) rest =
      worker_right a _ _ more others (IsOfWorker.taking w rep (Some l.run.start)) (rest holds)
  one_right a c event reply more others is holds (Goes.none_to_take w rep ok over) rest =
      worker_right a _ _ more others (IsOfWorker.taking w rep None) (rest holds)
  one_right a c event reply more others is holds (Goes.take_refused w rep ok) rest =
      worker_right a _ _ more others (IsOfWorker.take_refused w rep) (rest holds)
  one_right a c event reply more others is holds (Goes.worked w steps made l m ok had works) rest =
      worker_right a _ _ more others (IsOfWorker.working w steps made) (rest holds)
  one_right a c event reply more others is holds (Goes.posted w l d had posts) rest =
      let after = rest (subst Holds (sym posts.version) holds) in
      let here : AreRight so a.book.version (length a.book.edits) more others =
      subst (λ t. AreRight so t (length a.book.edits) more others) posts.version
      (subst (λ es. AreRight so d.version (length es) more others) posts.edits after) in
      worker_right a _ _ more others (IsOfWorker.posted w) here
  one_right a c event reply more others is holds (Goes.dropped w l had posts) rest =
      worker_right a _ _ more others (IsOfWorker.dropped w) (rest holds)
  one_right a c event reply more others is holds (Goes.post_refused w l had) rest =
      worker_right a _ _ more others (IsOfWorker.post_refused w) (rest holds)
  one_right a c event reply more others is holds (Goes.no_worker w rep bad) rest =
      worker_right a _ _ more others (IsOfWorker.no_worker w rep) (rest holds)
  one_right a c event reply more others is holds (Goes.no_work w steps none) rest =
      worker_right a _ _ more others (IsOfWorker.no_work w steps) (rest holds)
  one_right a c event reply more others is holds (Goes.no_post w none) rest =
      worker_right a _ _ more others (IsOfWorker.no_post w) (rest holds)

  pub are_right : (a d : Ledger) (more : List Event) (others : List Reply) → IsBook a.book → Holds a.book.version → Follows a more others d →
      AreRight so a.book.version (length a.book.edits) more others
  are_right a d more others is holds (Follows.nothing x) = AreRight.nothing a.book.version (length a.book.edits)
  are_right a d more others is holds (Follows.event x c y event reply rest replies moves follows) =
      one_right a c event reply rest replies is holds moves.1 (λ after. are_right c d rest replies (moves.0 is) after follows)

pub reports_are_right : ReportsAreRight
reports_are_right b c more others is h =
    are_right IsAnew (λ t. Unit {0}) (λ t any. refl) (λ t u e made any. tt) (begun b) h.last more others is tt h.follows

-- statements that are spelled are read again from what `list` prints of them
printed_is : (t : Listing) → AreSpelled t.lines → IsPrinted t (anew t)
printed_is t h =
    let statements = statements_of t.lines in
    let spelled = All-map IsSpelled (λ (l : Numbered). l.statement) t.lines h in
    record {
      statements = statements;
      spelled = printed_models statements spelled;
      opens = refl;
    }

pub reports_are_of_printed : ReportsAreOfPrinted
reports_are_of_printed b c more others is spelled h =
    are_right IsPrinted (λ (t : Listing). AreSpelled t.lines) printed_is edits_are_spelled (begun b) h.last more others is spelled h.follows
