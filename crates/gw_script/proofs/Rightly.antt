-- A session over a desk is told by events that are done rightly: each report is that of the model that `list` prints, run from zero.
use Rattle.std.proofs.Common.{◌≡◌, ℕ, List, [], ◌∷◌, ◌++◌, Option, Some, None, ◌⊎◌, ⊎_elim, inl, inr, refl, sym, subst, ap}
use Rattle.gw_meaning.specs.Listing.{Listing}
use Rattle.gw_edit.specs.Spelled.{AreSpelled}
use Rattle.gw_edit.proofs.SpelledLaws.{edits_are_spelled}
use Rattle.gw_meaning.specs.declared.edit.Edit.{Edit}
use Rattle.gw_desk.specs.declared.play.Event.{Event}
use Rattle.gw_desk.specs.declared.play.Event.TheVariants as events
use Rattle.gw_desk.specs.declared.play.Reply.{Reply}
use Rattle.gw_desk.specs.declared.play.Reply.TheVariants as replies
use Rattle.gw_desk.specs.Book.{Book, IsBook}
use Rattle.gw_desk.specs.Ledger.{begun}
use Rattle.gw_desk.specs.Playing.{Does, Tells, Goes, Follows}
use Rattle.gw_desk.specs.Working.{WorksOn}
use Rattle.gw_desk.proofs.HeadlineLaws.{reports_are_of_printed}
use Rattle.gw_request.specs.declared.request.Request.{Request}
use Rattle.gw_request.specs.declared.request.Request.TheVariants as requests
use Rattle.gw_script.specs.declared.fault.Over.{Over}
use Rattle.gw_script.specs.declared.fault.Fault.{Fault}
use Rattle.gw_script.specs.declared.opening.Options.{Options}
use Rattle.gw_script.specs.Answers.{Queries, ReportEach, ReportsAll, whole, refused}
use Rattle.gw_script.specs.Changes.{Edits, accepts, refuses}
use Rattle.gw_script.specs.Opening.{Opens}
use Rattle.gw_script.specs.Replying.{Replies, Answers, read, unread, DoesRight, DeskAnswers}
use Rattle.gw_script.specs.Sessions.{Says, nothing, line, last, quit, last_quit, Serves, Stops, IsUnanswered}
use Rattle.gw_script.proofs.Opened.{opened_is_spelled}
use Rattle.gw_script.proofs.WorkLaws.{worked_leaves}

-- What is told by what a keeper does is told by what it does rightly, where each of its events is right as long as it holds what its
-- events keep.
module _ {D : Type 0} (version : D → Listing) (does right : D → Event → Reply → D → Type 0)
    (works : D → ℕ → ℕ → Option (Option ℕ) → D → Type 0) (Holds : D → Type 0)
    (is_right : (d d' : D) (event : Event) (reply : Reply) → Holds d → does d event reply d' → right d event reply d')
    (stays : (d d' : D) (event : Event) (reply : Reply) → Holds d → does d event reply d' → Holds d')
    (works_on : (d d' : D) (rep steps : ℕ) (answer : Option (Option ℕ)) → Holds d → works d rep steps answer d' → Holds d') where
  queries_right : (d d' : D) (event : Event) (front : List ℕ) → Holds d → Queries does d event front d' → Queries right d event front d'
  queries_right d d' event front holds h =
      record { answer = h.answer; answers_so = is_right d d' event (replies.Answered h.answer) holds h.answers_so; told = h.told }

  queries_stay : (d d' : D) (event : Event) (front : List ℕ) → Holds d → Queries does d event front d' → Holds d'
  queries_stay d d' event front holds h = stays d d' event (replies.Answered h.answer) holds h.answers_so

  edits_right : (d d' : D) (e : Edit) (front : List ℕ) → Holds d → Edits does d e front d' → Edits right d e front d'
  edits_right d d' e front holds (accepts n h told) = accepts n (is_right d d' (events.Edit e) (replies.Edited n) holds h) told
  edits_right d d' e front holds (refuses fault h told) = refuses fault (is_right d d' (events.Edit e) (replies.Refused fault) holds h) told

  edits_stay : (d d' : D) (e : Edit) (front : List ℕ) → Holds d → Edits does d e front d' → Holds d'
  edits_stay d d' e front holds (accepts n h told) = stays d d' (events.Edit e) (replies.Edited n) holds h
  edits_stay d d' e front holds (refuses fault h told) = stays d d' (events.Edit e) (replies.Refused fault) holds h

  each_right : (k : ℕ) (d d' : D) (reps out : List ℕ) → Holds d → ReportEach does k d reps out d' → ReportEach right k d reps out d'
  each_right k d d' [] out holds h = h
  each_right k d d' (rep ∷ reps) out holds (front, rest, next, first, others, parts) =
      let after = queries_stay d next (events.Finish rep k) front holds first in
      (front, rest, next, queries_right d next (events.Finish rep k) front holds first, each_right k next d' reps rest after others, parts)

  each_stays : (k : ℕ) (d d' : D) (reps out : List ℕ) → Holds d → ReportEach does k d reps out d' → Holds d'
  each_stays k d d' [] out holds h = subst Holds (sym h.1) holds
  each_stays k d d' (rep ∷ reps) out holds (front, rest, next, first, others, parts) =
      each_stays k next d' reps rest (queries_stay d next (events.Finish rep k) front holds first) others

  all_right : (d d' : D) (k : ℕ) (front : List ℕ) → Holds d → ReportsAll version does d k front d' → ReportsAll version right d k front d'
  all_right d d' k front holds (whole out each told) = whole out (each_right k d d' _ out holds each) told
  all_right d d' k front holds (refused done left out parts each told) = refused done left out parts (each_right k d d' done out holds each) told

  all_stays : (d d' : D) (k : ℕ) (front : List ℕ) → Holds d → ReportsAll version does d k front d' → Holds d'
  all_stays d d' k front holds (whole out each told) = each_stays k d d' _ out holds each
  all_stays d d' k front holds (refused done left out parts each told) = each_stays k d d' done out holds each

  replies_right : (d d' : D) (n : ℕ) (request : Request) (front : List ℕ) → Holds d → Replies version does works d n request front d' →
      Replies version right works d n request front d'
  replies_right d d' n requests.Nothing front holds h = h
  replies_right d d' n (requests.Edit e) front holds h = edits_right d d' e front holds h
  replies_right d d' n (requests.Report rep k) front holds h = queries_right d d' (events.Finish rep k) front holds h
  replies_right d d' n (requests.Peek rep k) front holds h = queries_right d d' (events.Peek rep k) front holds h
  replies_right d d' n (requests.All k) front holds h = all_right d d' k front holds h
  replies_right d d' n (requests.Work rep steps) front holds h = h
  replies_right d d' n requests.List front holds h = h
  replies_right d d' n requests.Quit front holds h = h
  replies_right d d' n (requests.Bad reason) front holds h = h

  replies_stay : (d d' : D) (n : ℕ) (request : Request) (front : List ℕ) → Holds d → Replies version does works d n request front d' → Holds d'
  replies_stay d d' n requests.Nothing front holds h = subst Holds (sym h.1) holds
  replies_stay d d' n (requests.Edit e) front holds h = edits_stay d d' e front holds h
  replies_stay d d' n (requests.Report rep k) front holds h = queries_stay d d' (events.Finish rep k) front holds h
  replies_stay d d' n (requests.Peek rep k) front holds h = queries_stay d d' (events.Peek rep k) front holds h
  replies_stay d d' n (requests.All k) front holds h = all_stays d d' k front holds h
  replies_stay d d' n (requests.Work rep steps) front holds h = works_on d d' rep steps h.answer holds h.works_so
  replies_stay d d' n requests.List front holds h = subst Holds (sym h.1) holds
  replies_stay d d' n requests.Quit front holds h = subst Holds (sym h.1) holds
  replies_stay d d' n (requests.Bad reason) front holds h = subst Holds (sym h.1) holds

  answers_right : (d d' : D) (n : ℕ) (text front : List ℕ) → Holds d → Answers version does works d n text front d' → Answers version right works d n text front d'
  answers_right d d' n text front holds (read h) = read (replies_right d d' n _ front holds h)
  answers_right d d' n text front holds (unread wants told same) = unread wants told same

  answers_stay : (d d' : D) (n : ℕ) (text front : List ℕ) → Holds d → Answers version does works d n text front d' → Holds d'
  answers_stay d d' n text front holds (read h) = replies_stay d d' n _ front holds h
  answers_stay d d' n text front holds (unread wants told same) = subst Holds (sym same) holds

  says_right : {d d' : D} {n : ℕ} {input output : List ℕ} {over : Over} → Says (Answers version does works) d n input output over d' → Holds d →
      Says (Answers version right works) d n input output over d'
  says_right (nothing d n) holds = nothing d n
  says_right (line d d' d'' n text rest front out over unended goes told says) holds =
      line d d' d'' n text rest front out over unended goes (answers_right d d' n _ front holds told) (says_right says (answers_stay d d' n _ front holds told))
  says_right (last d d' n text front unended goes told) holds = last d d' n text front unended goes (answers_right d d' n text front holds told)
  says_right (quit d d' n text front unended ends told) holds = quit d d' n text front unended ends (answers_right d d' n _ front holds told)
  says_right (last_quit d d' n text front unended ends told) holds = last_quit d d' n text front unended ends (answers_right d d' n text front holds told)

  unanswered_right : (d d' : D) (input output : List ℕ) → Holds d → IsUnanswered (Answers version does works) d input output d' →
      IsUnanswered (Answers version right works) d input output d'
  unanswered_right d d' input output holds h =
      record { earlier = h.earlier; line = h.line; last = h.last; whole = h.whole; fallback = h.fallback; says = says_right h.says holds }

  module _ {S K : Type 0} (took : S → List ℕ → S → Type 0) (ended : S → Type 0) (reads : S → ℕ) (wrote : K → List ℕ → K → Type 0) (writes : K → ℕ)
      (d d' : D) (source source' : S) (sink sink' : K) (holds : Holds d) where
    serves_right : (over : Over) → Serves (Answers version does works) took ended reads wrote writes d source source' sink sink' d' over →
        Serves (Answers version right works) took ended reads wrote writes d source source' sink sink' d' over
    serves_right over h = record {
      input = h.input;
      output = h.output;
      taken = h.taken;
      written = h.written;
      says = says_right h.says holds;
      idle = h.idle;
      ends = h.ends;
      calls = h.calls;
      read_well = h.read_well;
      wrote_well = h.wrote_well;
    }

    stops_right : (fault : Fault) → Stops (Answers version does works) took ended reads wrote writes d source source' sink sink' d' fault →
        Stops (Answers version right works) took ended reads wrote writes d source source' sink sink' d' fault
    stops_right fault h = record {
      input = h.input;
      broken = h.broken;
      output = h.output;
      left = h.left;
      over = h.over;
      taken = h.taken;
      written = h.written;
      says = says_right h.says holds;
      place = h.place;
      cause = h.cause;
      silent = λ memory. ⊎_elim (λ none. inl none) (λ rest. inr (unanswered_right d d' h.input h.output holds rest)) (h.silent memory);
    }

-- what each event of a desk keeps: it is a desk, and its statements are spelled
record IsRead (b : Book) : Type 0 where
  desk : IsBook b
  spelled : AreSpelled b.version.lines

does_right : (b c : Book) (event : Event) (reply : Reply) → IsRead b → Does b event reply c → DoesRight b event reply c
does_right b c event reply is does = (
  does,
  reports_are_of_printed b c (event ∷ []) (reply ∷ []) is.desk is.spelled (record {
    last = begun c;
    follows = Follows.event (begun b) (begun c) (begun c) event reply [] [] (does.0, Goes.of_desk event reply c does.1) (Follows.nothing (begun c));
    book = refl;
  }),
)

still_spelled : (b c : Book) (event : Event) (reply : Reply) → AreSpelled b.version.lines → Tells b event reply c → AreSpelled c.version.lines
still_spelled b c event reply h (Tells.accepted e n d acc) = edits_are_spelled b.version d.version e acc.version h
still_spelled b c event reply h (Tells.refused e fault why) = h
still_spelled b c event reply h (Tells.peeked rep k answer peeks) = h
still_spelled b c event reply h (Tells.finished rep k answer d answered steps decided idle) =
    subst (λ (t : Listing). AreSpelled t.lines) (sym steps.version) h

stays_read : (b c : Book) (event : Event) (reply : Reply) → IsRead b → Does b event reply c → IsRead c
stays_read b c event reply is does = record { desk = does.0 is.desk; spelled = still_spelled b c event reply is.spelled does.1 }

worked_read : (b c : Book) (rep steps : ℕ) (answer : Option (Option ℕ)) → IsRead b → WorksOn b rep steps answer c → IsRead c
worked_read b c rep steps None is same = subst IsRead (sym same) is
worked_read b c rep steps (Some count) is works = record {
  desk = works.desk is.desk;
  spelled = subst (λ (t : Listing). AreSpelled t.lines) (sym (worked_leaves b c rep steps works.worked).version) is.spelled;
}

-- a model opens on a desk whose statements are spelled
opens_read : (model : List ℕ) (o : Options) (b : Book) → IsBook b → Opens model o b → IsRead b
opens_read model o b desk opens = record {
  desk = desk;
  spelled = subst (λ (a : Book). AreSpelled a.version.lines) (sym opens.is_book) (opened_is_spelled model o opens.version opens.opens);
}

-- a session over the desk that a model opens
module _ {S K : Type 0} (took : S → List ℕ → S → Type 0) (ended : S → Type 0) (reads : S → ℕ) (wrote : K → List ℕ → K → Type 0) (writes : K → ℕ)
    (model : List ℕ) (o : Options) (b b' : Book) (source source' : S) (sink sink' : K) (desk : IsBook b) (opens : Opens model o b) where
  abbrev DeskDoes : Book → ℕ → List ℕ → List ℕ → Book → Type 0
  DeskDoes = Answers (λ (a : Book). a.version) Does WorksOn

  pub desk_serves : (over : Over) → Serves DeskDoes took ended reads wrote writes b source source' sink sink' b' over →
      Serves DeskAnswers took ended reads wrote writes b source source' sink sink' b' over
  desk_serves over h =
      serves_right (λ (a : Book). a.version) Does DoesRight WorksOn IsRead does_right stays_read worked_read took ended reads wrote writes b b' source source' sink sink'
      (opens_read model o b desk opens) over h

  pub desk_stops : (fault : Fault) → Stops DeskDoes took ended reads wrote writes b source source' sink sink' b' fault →
      Stops DeskAnswers took ended reads wrote writes b source source' sink sink' b' fault
  desk_stops fault h =
      stops_right (λ (a : Book). a.version) Does DoesRight WorksOn IsRead does_right stays_read worked_read took ended reads wrote writes b b' source source' sink sink'
      (opens_read model o b desk opens) fault h
