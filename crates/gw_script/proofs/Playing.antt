-- A session over a desk plays one list of events, and is told by their replies.
use Rattle.std.proofs.Common.{◌≡◌, ◌↔◌, ℕ, ◌+◌, Bool, true, false, Option, Some, None, List, [], ◌∷◌, ◌++◌, length, refl, sym, subst, ap, ap₂, ◌∙◌, append_assoc, append-nil, length-append}
use Rattle.std.specs.Prelude.{Ok, codes, decimal}
use mathlib.Core.Bool.{true≢false}
use Rattle.gw_meaning.specs.Listing.{Listing, seed_at}
use Rattle.gw_meaning.specs.declared.edit.Edit.{Edit}
use Rattle.gw_edit.specs.Applied.{applied}
use Rattle.gw_desk.specs.declared.play.Event.{Event}
use Rattle.gw_desk.specs.declared.play.Event.TheVariants as events
use Rattle.gw_desk.specs.declared.play.Reply.{Reply}
use Rattle.gw_desk.specs.declared.play.Reply.TheVariants as replies
use Rattle.gw_desk.specs.Book.{Book}
use Rattle.gw_desk.specs.declared.answer.Answer.{Answer}
use Rattle.gw_desk.specs.Headline.{AreRight, IsPrinted, IsRight, IsRightPeek, IsOfWorker}
use Rattle.gw_desk.specs.Ledger.{Ledger, begun}
use Rattle.gw_desk.specs.Playing.{Plays, Tells, Goes, Follows}
use Rattle.gw_desk.specs.Working.{WorksOn, IsCounted}
use Rattle.gw_request.specs.declared.request.Request.{Request}
use Rattle.gw_request.specs.declared.request.Request.TheVariants as requests
use Rattle.gw_script.specs.declared.fault.Over.{Over}
use Rattle.gw_script.specs.Answers.{Queries, ReportEach, ReportsAll, whole, refused, numbers_of}
use Rattle.gw_script.specs.Changes.{Edits, accepts, refuses}
use Rattle.gw_script.specs.Replying.{Replies, Answers, read, unread, DoesRight, DeskAnswers}
use Rattle.gw_script.specs.Sessions.{Says, nothing, line, last, quit, last_quit}
use Rattle.gw_script.specs.Works.{Worked, counted}
use Rattle.gw_script.specs.Played.{Agenda, IsBehind, IsNext, AreNext, PlaysOut, SessionsPlay}
use Rattle.gw_script.proofs.WorkLaws.{is_played, worked_leaves, worker_is_right, follows_on}

abbrev agenda : Book → List Event → List Reply → Agenda
agenda b more others = record { version = b.version; events = more; replies = others }

-- no report is handed out to a worker
abbrev is_answered : Reply → Bool
is_answered (replies.Answered answer) = true
is_answered reply = false

unanswered : {event : Event} {reply : Reply} → IsOfWorker event reply → is_answered reply ≡ false
unanswered (IsOfWorker.taking w rep start) = refl
unanswered (IsOfWorker.take_refused w rep) = refl
unanswered (IsOfWorker.working w steps made) = refl
unanswered (IsOfWorker.posted w) = refl
unanswered (IsOfWorker.dropped w) = refl
unanswered (IsOfWorker.post_refused w) = refl
unanswered (IsOfWorker.no_worker w rep) = refl
unanswered (IsOfWorker.no_work w steps) = refl
unanswered (IsOfWorker.no_post w) = refl

not_of_worker : {event : Event} {answer : Answer} → IsOfWorker event (replies.Answered answer) → ⊥
not_of_worker of = true≢false (unanswered of)

-- what the one reply to a query is
peek_is : {t : Listing} {n rep k : ℕ} {answer : Answer} → AreRight IsPrinted t n (events.Peek rep k ∷ []) (replies.Answered answer ∷ []) →
    IsRightPeek IsPrinted t n rep k answer
peek_is (AreRight.peeked t n rep k answer more others is rest) = is
peek_is (AreRight.by_worker t n event reply more others of rest) = absurd (not_of_worker of)

finish_is : {t : Listing} {n rep k : ℕ} {answer : Answer} → AreRight IsPrinted t n (events.Finish rep k ∷ []) (replies.Answered answer ∷ []) →
    IsRight IsPrinted t n rep k answer
finish_is (AreRight.finished t n rep k answer more others is rest) = is
finish_is (AreRight.by_worker t n event reply more others of rest) = absurd (not_of_worker of)

-- The desk goes from b to c by some events, whatever comes after them; T is what is told by their replies.
record Part (T : Agenda → Agenda → Type 0) (b c : Book) : Type 0 where
  events : List Event
  replies : List Reply
  plays : (last : Ledger) (more : List Event) (others : List Reply) → Follows (begun c) more others last →
      Follows (begun b) (events ++ more) (replies ++ others) last
  right : (more : List Event) (others : List Reply) → AreRight IsPrinted c.version (length c.edits) more others →
      AreRight IsPrinted b.version (length b.edits) (events ++ more) (replies ++ others)
  told : (more : List Event) (others : List Reply) → T (agenda b (events ++ more) (replies ++ others)) (agenda c more others)

-- no event
none_is : (T : Agenda → Agenda → Type 0) (b c : Book) → c ≡ b → ((a : Agenda) → T a a) → Part T b c
none_is T b c same still = record {
  events = [];
  replies = [];
  plays = λ last more others h. subst (λ (a : Book). Follows (begun a) more others last) same h;
  right = λ more others h. subst (λ (a : Book). AreRight IsPrinted a.version (length a.edits) more others) same h;
  told = λ more others. subst (λ (a : Book). T (agenda b more others) (agenda a more others)) (sym same) (still (agenda b more others));
}

-- one event is right, and so are those after it
right_on : (b c : Book) (event : Event) (reply : Reply) (more : List Event) (others : List Reply) → Tells b event reply c →
    AreRight IsPrinted b.version (length b.edits) (event ∷ []) (reply ∷ []) → AreRight IsPrinted c.version (length c.edits) more others →
    AreRight IsPrinted b.version (length b.edits) (event ∷ more) (reply ∷ others)
right_on b c event reply more others (Tells.accepted e n d acc) right h =
    let one_more : n ≡ length b.edits + 1 = acc.number ∙ (ap length acc.edits ∙ length-append b.edits (e ∷ [])) in
    AreRight.accepted b.version d.version (length b.edits) n e more others acc.version one_more
    (subst (λ m. AreRight IsPrinted d.version m more others) (sym acc.number) h)
right_on b c event reply more others (Tells.refused e fault why) right h =
    AreRight.refused b.version (length b.edits) e fault more others h
right_on b c event reply more others (Tells.peeked rep k answer peeks) right h =
    AreRight.peeked b.version (length b.edits) rep k answer more others (peek_is right) h
right_on b c event reply more others (Tells.finished rep k answer d answered steps decided idle) right h =
    AreRight.finished b.version (length b.edits) rep k answer more others (finish_is right)
    (subst (λ t. AreRight IsPrinted t (length b.edits) more others) steps.version
    (subst (λ es. AreRight IsPrinted d.version (length es) more others) steps.edits h))

behind : (b c : Book) (event : Event) (reply : Reply) → Tells b event reply c → IsBehind b.version event reply c.version
behind b c event reply (Tells.accepted e n d acc) = acc.version
behind b c event reply (Tells.refused e fault why) = refl
behind b c event reply (Tells.peeked rep k answer peeks) = refl
behind b c event reply (Tells.finished rep k answer d answered steps decided idle) = steps.version

-- one event
one_is : (T : Agenda → Agenda → Type 0) (b c : Book) (event : Event) (reply : Reply) → DoesRight b event reply c →
    ((x y : Agenda) → IsNext x event reply y → T x y) → Part T b c
one_is T b c event reply does told = record {
  events = event ∷ [];
  replies = reply ∷ [];
  plays = λ last more others h. Follows.event (begun b) (begun c) last event reply more others (does.0.0, Goes.of_desk event reply c does.0.1) h;
  right = λ more others h. right_on b c event reply more others does.0.1 does.1 h;
  told = λ more others. told (agenda b (event ∷ more) (reply ∷ others)) (agenda c more others)
      (record { event_is = refl; reply_is = refl; version = behind b c event reply does.0.1 });
}

-- one part after another
both_are : (T U V : Agenda → Agenda → Type 0) (b c d : Book) → Part T b c → Part U c d → ((x y z : Agenda) → T x y → U y z → V x z) → Part V b d
both_are T U V b c d first next told =
    let es : List Event → List Event = λ more. first.events ++ (next.events ++ more) in
    let rs : List Reply → List Reply = λ others. first.replies ++ (next.replies ++ others) in
    record {
      events = first.events ++ next.events;
      replies = first.replies ++ next.replies;
      plays = λ a more others h. rw (append_assoc first.events next.events more, append_assoc first.replies next.replies others)
          (first.plays a (next.events ++ more) (next.replies ++ others) (next.plays a more others h));
      right = λ more others h. rw (append_assoc first.events next.events more, append_assoc first.replies next.replies others)
          (first.right (next.events ++ more) (next.replies ++ others) (next.right more others h));
      told = λ more others. rw (append_assoc first.events next.events more, append_assoc first.replies next.replies others)
          (told (agenda b (es more) (rs others)) (agenda c (next.events ++ more) (next.replies ++ others)) (agenda d more others)
          (first.told (next.events ++ more) (next.replies ++ others)) (next.told more others));
    }

-- what is told of a part, told otherwise
told_as : (T U : Agenda → Agenda → Type 0) (b c : Book) → Part T b c → ((x y : Agenda) → x.version ≡ b.version → T x y → U x y) → Part U b c
told_as T U b c part told = record {
  events = part.events;
  replies = part.replies;
  plays = part.plays;
  right = part.right;
  told = λ more others. told (agenda b (part.events ++ more) (part.replies ++ others)) (agenda c more others) refl (part.told more others);
}

-- that there is no such replication is counted just where there is none
is_missing : (c : Book) (rep : ℕ) (count : Option ℕ) → IsCounted c rep count → (count ≡ None) ↔ (seed_at c.version rep ≡ None)
is_missing c rep None none = ((λ same. none), (λ same. refl))
is_missing c rep (Some n) is = ((λ same. absurd cc), (λ none. absurd (let both : None ≡ Some is.seed = sym none ∙ is.with_seed in cc)))

abbrev version_of : Agenda → Listing
version_of a = a.version

query_part : (b c : Book) (event : Event) (front : List ℕ) → Queries DoesRight b event front c → Part (λ x y. Queries IsNext x event front y) b c
query_part b c event front h = one_is (λ x y. Queries IsNext x event front y) b c event (replies.Answered h.answer) h.answers_so
    (λ x y next. record { answer = h.answer; answers_so = next; told = h.told })

edit_part : (b c : Book) (e : Edit) (front : List ℕ) → Edits DoesRight b e front c → Part (λ x y. Edits IsNext x e front y) b c
edit_part b c e front (accepts n does told) =
    one_is (λ x y. Edits IsNext x e front y) b c (events.Edit e) (replies.Edited n) does (λ x y next. accepts n next told)
edit_part b c e front (refuses fault does told) =
    one_is (λ x y. Edits IsNext x e front y) b c (events.Edit e) (replies.Refused fault) does (λ x y next. refuses fault next told)

each_part : (k : ℕ) (b c : Book) (reps out : List ℕ) → ReportEach DoesRight k b reps out c → Part (λ x y. ReportEach IsNext k x reps out y) b c
each_part k b c [] out h = none_is (λ x y. ReportEach IsNext k x [] out y) b c h.1 (λ a. (h.0, refl))
each_part k b c (rep ∷ reps) out (front, rest, next, first, others, parts) =
    both_are (λ x y. Queries IsNext x (events.Finish rep k) front y) (λ x y. ReportEach IsNext k x reps rest y)
    (λ x y. ReportEach IsNext k x (rep ∷ reps) out y) b next c (query_part b next (events.Finish rep k) front first) (each_part k next c reps rest others)
    (λ x y z told more. (front, rest, y, told, more, parts))

all_part : (b c : Book) (k : ℕ) (front : List ℕ) → ReportsAll (λ (a : Book). a.version) DoesRight b k front c →
    Part (λ x y. ReportsAll version_of IsNext x k front y) b c
all_part b c k front (whole out each told) =
    told_as (λ x y. ReportEach IsNext k x (numbers_of b.version.replications) out y) (λ x y. ReportsAll version_of IsNext x k front y) b c
    (each_part k b c (numbers_of b.version.replications) out each)
    (λ x y same h. whole out (subst (λ (t : Listing). ReportEach IsNext k x (numbers_of t.replications) out y) (sym same) h)
    (subst (λ (t : Listing). front ≡ codes "all " ++ decimal (length t.replications) ++ codes "\n" ++ out) (sym same) told))
all_part b c k front (refused done left out parts each told) =
    told_as (λ x y. ReportEach IsNext k x done out y) (λ x y. ReportsAll version_of IsNext x k front y) b c (each_part k b c done out each)
    (λ x y same h. refused done left out (subst (λ (t : Listing). numbers_of t.replications ≡ done ++ left) (sym same) parts) h told)

work_part : (b c : Book) (rep steps : ℕ) (front : List ℕ) (answer : Option (Option ℕ)) → WorksOn b rep steps answer c → front ≡ counted answer →
    Part (λ x y. Worked AreNext x rep steps front y) b c
work_part b c rep steps front None same told =
    none_is (λ x y. Worked AreNext x rep steps front y) b c same (λ a. record { answer = None; works_so = AreNext.refused; told = told })
work_part b c rep steps front (Some count) works told =
    let played = is_played b c rep steps works.desk works.worked in
    let leaves = worked_leaves b c rep steps works.worked in
    record {
      events = played.events;
      replies = played.replies;
      plays = λ last more others h. follows_on (begun b) (begun c) last played.events more played.replies others played.follows h;
      right = λ more others h. worker_is_right IsPrinted b.version (length b.edits) rep steps played.events more played.replies others played.one
          (subst (λ t. AreRight IsPrinted t (length b.edits) more others) leaves.version
          (subst (λ es. AreRight IsPrinted c.version (length es) more others) leaves.edits h));
      told = λ more others. record {
        answer = Some count;
        works_so = AreNext.worked count played.events played.replies (agenda c more others) played.one refl refl leaves.version
            (subst (λ (t : Listing). (count ≡ None) ↔ (seed_at t rep ≡ None)) leaves.version (is_missing c rep count works.counted));
        told = told;
      };
    }

replies_part : (b c : Book) (n : ℕ) (request : Request) (front : List ℕ) → Replies (λ (a : Book). a.version) DoesRight WorksOn b n request front c →
    Part (λ x y. Replies version_of IsNext AreNext x n request front y) b c
replies_part b c n requests.Nothing front h = none_is (λ x y. Replies version_of IsNext AreNext x n requests.Nothing front y) b c h.1 (λ a. (h.0, refl))
replies_part b c n (requests.Edit e) front h = edit_part b c e front h
replies_part b c n (requests.Report rep k) front h = query_part b c (events.Finish rep k) front h
replies_part b c n (requests.Peek rep k) front h = query_part b c (events.Peek rep k) front h
replies_part b c n (requests.All k) front h = all_part b c k front h
replies_part b c n (requests.Work rep steps) front h = work_part b c rep steps front h.answer h.works_so h.told
replies_part b c n requests.List front h =
    told_as (λ x y. y ≡ x) (λ x y. Replies version_of IsNext AreNext x n requests.List front y) b c (none_is (λ x y. y ≡ x) b c h.1 (λ a. refl))
    (λ x y same still. (rw same h.0, still))
replies_part b c n requests.Quit front h = none_is (λ x y. Replies version_of IsNext AreNext x n requests.Quit front y) b c h.1 (λ a. (h.0, refl))
replies_part b c n (requests.Bad reason) front h =
    none_is (λ x y. Replies version_of IsNext AreNext x n (requests.Bad reason) front y) b c h.1 (λ a. (h.0, refl))

answers_part : (b c : Book) (n : ℕ) (text front : List ℕ) → DeskAnswers b n text front c → Part (λ x y. Answers version_of IsNext AreNext x n text front y) b c
answers_part b c n text front (read h) =
    told_as (λ x y. Replies version_of IsNext AreNext x n _ front y) (λ x y. Answers version_of IsNext AreNext x n text front y) b c (replies_part b c n _ front h)
    (λ x y same told. read told)
answers_part b c n text front (unread wants told same) =
    none_is (λ x y. Answers version_of IsNext AreNext x n text front y) b c same (λ a. unread wants told refl)

says_part : {b c : Book} {n : ℕ} {input output : List ℕ} {over : Over} → Says DeskAnswers b n input output over c →
    Part (λ x y. Says (Answers version_of IsNext AreNext) x n input output over y) b c
says_part (nothing b n) = none_is (λ x y. Says (Answers version_of IsNext AreNext) x n [] [] _ y) b b refl (λ a. nothing a n)
says_part (line b c d n text rest front out over unended goes told says) =
    both_are (λ x y. Answers version_of IsNext AreNext x n _ front y) (λ x y. Says (Answers version_of IsNext AreNext) x (n + 1) rest out over y)
    (λ x y. Says (Answers version_of IsNext AreNext) x n ((text ++ 10 ∷ []) ++ rest) (front ++ out) over y) b c d (answers_part b c n _ front told)
    (says_part says) (λ x y z first others. line x y z n text rest front out over unended goes first others)
says_part (last b c n text front unended goes told) =
    told_as (λ x y. Answers version_of IsNext AreNext x n text front y) (λ x y. Says (Answers version_of IsNext AreNext) x n text front _ y) b c
    (answers_part b c n text front told) (λ x y same first. last x y n text front unended goes first)
says_part (quit b c n text front unended ends told) =
    told_as (λ x y. Answers version_of IsNext AreNext x n _ front y) (λ x y. Says (Answers version_of IsNext AreNext) x n (text ++ 10 ∷ []) front _ y) b c
    (answers_part b c n _ front told) (λ x y same first. quit x y n text front unended ends first)
says_part (last_quit b c n text front unended ends told) =
    told_as (λ x y. Answers version_of IsNext AreNext x n text front y) (λ x y. Says (Answers version_of IsNext AreNext) x n text front _ y) b c
    (answers_part b c n text front told) (λ x y same first. last_quit x y n text front unended ends first)

pub sessions_play : SessionsPlay
sessions_play b b' n input output over says =
    let part = says_part says in
    record {
      events = part.events ++ [];
      replies = part.replies ++ [];
      plays = record { last = begun b'; follows = part.plays (begun b') [] [] (Follows.nothing (begun b')); book = refl };
      right = part.right [] [] (AreRight.nothing b'.version (length b'.edits));
      says = part.told [] [];
    }
