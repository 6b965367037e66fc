-- What is said over a seat is said over the front that its caller has seen.
use Rattle.std.proofs.Common.{⊎_elim, inl, inr, ℕ, List, [], ◌∷◌, Option, ap}
use Rattle.gw_meaning.specs.Listing.{Listing}
use Rattle.gw_meaning.specs.declared.edit.Edit.{Edit}
use Rattle.gw_desk.specs.declared.play.Event.{Event}
use Rattle.gw_desk.specs.declared.play.Event.TheVariants as events
use Rattle.gw_desk.specs.declared.play.Reply.{Reply}
use Rattle.gw_request.specs.declared.request.Request.{Request}
use Rattle.gw_request.specs.declared.request.Request.TheVariants as requests
use Rattle.gw_script.specs.declared.fault.Over.{Over}
use Rattle.gw_script.specs.declared.fault.Fault.{Fault}
use Rattle.gw_script.specs.Answers.{Queries, ReportEach, ReportsAll, whole, refused}
use Rattle.gw_script.specs.Changes.{Edits, accepts, refuses}
use Rattle.gw_script.specs.Replying.{Replies, Answers, read, unread}
use Rattle.gw_script.specs.Sessions.{Says, nothing, line, last, quit, last_quit, Serves, Stops, IsUnanswered}

-- what is told of the values of one kind is told of what a view shows of them
module _ {D C : Type 0} (view : D → C) (version : C → Listing) (does : C → Event → Reply → C → Type 0)
    (works : C → ℕ → ℕ → Option (Option ℕ) → C → Type 0) where
  abbrev VersionOf : D → Listing
  VersionOf d = version (view d)

  abbrev DoesOf : D → Event → Reply → D → Type 0
  DoesOf d event reply d' = does (view d) event reply (view d')

  abbrev WorksOf : D → ℕ → ℕ → Option (Option ℕ) → D → Type 0
  WorksOf d rep steps answer d' = works (view d) rep steps answer (view d')

  edits_seen : (d d' : D) (e : Edit) (front : List ℕ) → Edits DoesOf d e front d' → Edits does (view d) e front (view d')
  edits_seen d d' e front (accepts n h told) = accepts n h told
  edits_seen d d' e front (refuses fault h told) = refuses fault h told

  queries_seen : (d d' : D) (event : Event) (front : List ℕ) → Queries DoesOf d event front d' → Queries does (view d) event front (view d')
  queries_seen d d' event front h = record { answer = h.answer; answers_so = h.answers_so; told = h.told }

  each_seen : (k : ℕ) (d d' : D) (reps out : List ℕ) → ReportEach DoesOf k d reps out d' → ReportEach does k (view d) reps out (view d')
  each_seen k d d' [] out h = (h.0, ap view h.1)
  each_seen k d d' (rep ∷ reps) out (front, rest, next, first, others, parts) =
      (front, rest, view next, queries_seen d next (events.Finish rep k) front first, each_seen k next d' reps rest others, parts)

  all_seen : (d d' : D) (k : ℕ) (front : List ℕ) → ReportsAll VersionOf DoesOf d k front d' → ReportsAll version does (view d) k front (view d')
  all_seen d d' k front (whole out each told) = whole out (each_seen k d d' _ out each) told
  all_seen d d' k front (refused done left out parts each told) = refused done left out parts (each_seen k d d' done out each) told

  replies_seen : (d d' : D) (n : ℕ) (request : Request) (front : List ℕ) → Replies VersionOf DoesOf WorksOf d n request front d' →
      Replies version does works (view d) n request front (view d')
  replies_seen d d' n requests.Nothing front h = (h.0, ap view h.1)
  replies_seen d d' n (requests.Edit e) front h = edits_seen d d' e front h
  replies_seen d d' n (requests.Report rep k) front h = queries_seen d d' (events.Finish rep k) front h
  replies_seen d d' n (requests.Peek rep k) front h = queries_seen d d' (events.Peek rep k) front h
  replies_seen d d' n (requests.All k) front h = all_seen d d' k front h
  replies_seen d d' n (requests.Work rep steps) front h = record { answer = h.answer; works_so = h.works_so; told = h.told }
  replies_seen d d' n requests.List front h = (h.0, ap view h.1)
  replies_seen d d' n requests.Quit front h = (h.0, ap view h.1)
  replies_seen d d' n (requests.Bad reason) front h = (h.0, ap view h.1)

  answers_seen : (d d' : D) (n : ℕ) (text front : List ℕ) → Answers VersionOf DoesOf WorksOf d n text front d' →
      Answers version does works (view d) n text front (view d')
  answers_seen d d' n text front (read h) = read (replies_seen d d' n _ front h)
  answers_seen d d' n text front (unread wants told same) = unread wants told (ap view same)

  says_seen : {d d' : D} {n : ℕ} {input output : List ℕ} {over : Over} → Says (Answers VersionOf DoesOf WorksOf) d n input output over d' →
      Says (Answers version does works) (view d) n input output over (view d')
  says_seen (nothing d n) = nothing (view d) n
  says_seen (line d d' d'' n text rest front out over unended goes told says) =
      line (view d) (view d') (view d'') n text rest front out over unended goes (answers_seen d d' n _ front told) (says_seen says)
  says_seen (last d d' n text front unended goes told) = last (view d) (view d') n text front unended goes (answers_seen d d' n text front told)
  says_seen (quit d d' n text front unended ends told) = quit (view d) (view d') n text front unended ends (answers_seen d d' n _ front told)
  says_seen (last_quit d d' n text front unended ends told) =
      last_quit (view d) (view d') n text front unended ends (answers_seen d d' n text front told)

  unanswered_seen : (d d' : D) (input output : List ℕ) → IsUnanswered (Answers VersionOf DoesOf WorksOf) d input output d' →
      IsUnanswered (Answers version does works) (view d) input output (view d')
  unanswered_seen d d' input output h =
      record { earlier = h.earlier; line = h.line; last = h.last; whole = h.whole; fallback = h.fallback; says = says_seen h.says }

  module _ {S K : Type 0} (took : S → List ℕ → S → Type 0) (ended : S → Type 0) (reads : S → ℕ) (wrote : K → List ℕ → K → Type 0) (writes : K → ℕ)
      (d d' : D) (source source' : S) (sink sink' : K) where
    pub serves_seen : (over : Over) → Serves (Answers VersionOf DoesOf WorksOf) took ended reads wrote writes d source source' sink sink' d' over →
        Serves (Answers version does works) took ended reads wrote writes (view d) source source' sink sink' (view d') over
    serves_seen over h = record {
      input = h.input;
      output = h.output;
      taken = h.taken;
      written = h.written;
      says = says_seen h.says;
      idle = h.idle;
      ends = h.ends;
      calls = h.calls;
      read_well = h.read_well;
      wrote_well = h.wrote_well;
    }

    pub stops_seen : (fault : Fault) → Stops (Answers VersionOf DoesOf WorksOf) took ended reads wrote writes d source source' sink sink' d' fault →
        Stops (Answers version does works) took ended reads wrote writes (view d) source source' sink sink' (view d') fault
    stops_seen fault h = record {
      input = h.input;
      broken = h.broken;
      output = h.output;
      left = h.left;
      over = h.over;
      taken = h.taken;
      written = h.written;
      says = says_seen h.says;
      place = h.place;
      cause = h.cause;
      silent = λ memory. ⊎_elim (λ none. inl none) (λ rest. inr (unanswered_seen d d' h.input h.output rest)) (h.silent memory);
    }
