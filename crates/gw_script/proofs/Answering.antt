-- One line, answered: something may be answered to any line, and an answer that broke off is the front of one.
use Rattle.std.proofs.Common.{◌≡◌, inr, ℕ, ◌<◌, List, [], ◌++◌, Option, Some, None, true, refl, sym, subst, ◌∙◌, ap, Result, Ok, Err, IfErr, OnErr, arith}
use Rattle.std.specs.Prelude.{codes}
use Rattle.std.proofs.lemmas.Fmt.{decimal_digit}
use Rattle.gw_meaning.specs.Listing.{Listing}
use Rattle.gw_io.specs.Failures.{one_more, WritesPart}
use Rattle.gw_edit.specs.declared.fault.EditFault.TheVariants as refusals
use Rattle.gw_desk.specs.declared.answer.Answer.TheVariants as answers
use Rattle.gw_desk.specs.declared.play.Event.{Event}
use Rattle.gw_desk.specs.declared.play.Event.TheVariants as events
use Rattle.gw_desk.specs.declared.play.Reply.{Reply}
use Rattle.gw_desk.specs.Keeping.{is_of_desk, wants_memory}
use Rattle.gw_request.specs.declared.request.Request.{Request}
use Rattle.gw_request.specs.declared.request.Request.TheVariants as requests
use Rattle.gw_script.specs.declared.fault.Fault.{Fault}
use Rattle.gw_script.specs.declared.fault.Fault.TheVariants as faults
use Rattle.gw_script.specs.Answers.{ReportsAll, refused, numbers_of}
use Rattle.gw_script.specs.Changes.{refuses, refusal_of}
use Rattle.gw_script.specs.Replying.{Replies, Fallback, fallback_of}
use Rattle.gw_script.specs.Turns.{BreaksOff, BreaksBy, BreaksRefused, not_begun, begun}

-- how an edit is told to be out of memory
pub memory_told : codes "refused E7\n" ≡ refusal_of refusals.Memory
memory_told = let seven : 7 < 10 = omega arith in rw (decimal_digit 7 seven) refl

-- a growth was refused for all reports before any was made
pub reports_all_none : {D : Type 0} (version : D → Listing) (does : D → Event → Reply → D → Type 0) (d : D) (k : ℕ) →
    ReportsAll version does d k (codes "memory\n") d
reports_all_none version does d k = refused [] (numbers_of (version d).replications) [] refl (refl, refl) refl

-- something may be replied to any request, and leave the keeper as it is
replies_some : {D : Type 0} (version : D → Listing) (does : D → Event → Reply → D → Type 0) (works : D → ℕ → ℕ → Option (Option ℕ) → D → Type 0)
    (in_vain : (d : D) (event : Event) → is_of_desk event ≡ true → does d event (wants_memory event) d)
    (worked_in_vain : (d : D) (rep steps : ℕ) → works d rep steps None d) (d : D) (n : ℕ) (request : Request) → (front : List ℕ) ×
    Replies version does works d n request front d
replies_some version does works in_vain worked_in_vain d n requests.Nothing = (_, (refl, refl))
replies_some version does works in_vain worked_in_vain d n (requests.Edit e) = (_, refuses refusals.Memory (in_vain d (events.Edit e) refl) refl)
replies_some version does works in_vain worked_in_vain d n (requests.Report rep k) =
    (_, record { answer = answers.Memory; answers_so = in_vain d (events.Finish rep k) refl; told = refl })
replies_some version does works in_vain worked_in_vain d n (requests.Peek rep k) = (_, record { answer = answers.Memory; answers_so = in_vain d (events.Peek rep k) refl; told = refl })
replies_some version does works in_vain worked_in_vain d n (requests.All k) = (_, reports_all_none version does d k)
replies_some version does works in_vain worked_in_vain d n (requests.Work rep steps) =
    (_, record { answer = None; works_so = worked_in_vain d rep steps; told = refl })
replies_some version does works in_vain worked_in_vain d n requests.List = (_, (inr refl, refl))
replies_some version does works in_vain worked_in_vain d n requests.Quit = (_, (refl, refl))
replies_some version does works in_vain worked_in_vain d n (requests.Bad reason) = (_, (refl, refl))

-- a fact of the fault that a result is
pub if_err_at : {A : Type 0} (r : Result A Fault) (P : Fault → Type 0) (e f : Fault) → r ≡ Err e → e ≡ f → P f → IfErr r P
if_err_at {A} r P e f is same h =
    let F : Result A Fault → Type 0 = λ q. IfErr q P in
    subst F (sym (is ∙ ap (λ x. Err x) same)) h

write_is_not_memory : (fault : Fault) → fault ≡ faults.Write → fault ≡ faults.Memory → ⊥
write_is_not_memory fault failed memory = absurd (let both : faults.Write ≡ faults.Memory = sym failed ∙ memory in cc)

-- writing an answer broke off
pub broken_sending : {D K : Type 0} (wrote : K → List ℕ → K → Type 0) (writes_of : K → ℕ) (A : List ℕ → D → Type 0) (fallback : Option (List ℕ)) (before : D)
    (old new : K) (text : List ℕ) (after : D) (fault : Fault) → A text after → WritesPart wrote old text new → fault ≡ faults.Write →
    writes_of new ≡ one_more (writes_of old) → BreaksOff wrote writes_of A fallback before old new after fault
broken_sending wrote writes_of A fallback before old new text after fault is part failed counted =
    let T : List ℕ → Type 0 = λ x. A x after in
    let C : Fault → Type 0 = λ f. BreaksBy f (writes_of old) (writes_of new) in
    record {
      front = part.front;
      left = part.left;
      answers = subst T part.parts is;
      written = part.written;
      cause = subst C (sym failed) counted;
      silent = λ memory. absurd (write_is_not_memory fault failed memory);
    }

-- what was answered where a growth was refused is an answer
pub fallback_replies : {D : Type 0} (version : D → Listing) (does : D → Event → Reply → D → Type 0)
    (works : D → ℕ → ℕ → Option (Option ℕ) → D → Type 0) (d after : D) (n : ℕ) (request : Request) (text : List ℕ) →
    fallback_of request ≡ Some text → Fallback version does works d n request after → Replies version does works d n request text after
fallback_replies version does works d after n request text is fallback = rw is at fallback

-- an answer broke off where a growth was refused for telling it
pub broken_refused : {D K : Type 0} (wrote : K → List ℕ → K → Type 0) (writes_of : K → ℕ) (wrote_none : (a : K) → wrote a [] a) (version : D → Listing)
    (does : D → Event → Reply → D → Type 0) (works : D → ℕ → ℕ → Option (Option ℕ) → D → Type 0)
    (in_vain : (d : D) (event : Event) → is_of_desk event ≡ true → does d event (wants_memory event) d)
    (worked_in_vain : (d : D) (rep steps : ℕ) → works d rep steps None d) (d after : D) (n : ℕ) (request : Request)
    (old new : K) (fault : Fault) → Fallback version does works d n request after → BreaksRefused wrote writes_of (fallback_of request) old new fault →
    BreaksOff wrote writes_of (Replies version does works d n request) (fallback_of request) d old new after fault
broken_refused {D} {K} wrote writes_of wrote_none version does works in_vain worked_in_vain d after n request old new fault fallback (not_begun other memory same) =
    let W : K → Type 0 = λ k. wrote old [] k in
    let C : Fault → Type 0 = λ f. BreaksBy f (writes_of old) (writes_of new) in
    let still : after ≡ d = rw other at fallback in
    let some = replies_some version does works in_vain worked_in_vain d n request in
    let R : D → Type 0 = λ x. Replies version does works d n request some.0 x in
    record {
      front = [];
      left = some.0;
      answers = subst R (sym still) some.1;
      written = subst W (sym same) (wrote_none old);
      cause = subst C (sym memory) (ap writes_of same);
      silent = λ again. record { unanswered = other; unwritten = refl; unchanged = still };
    }
broken_refused {D} {K} wrote writes_of wrote_none version does works in_vain worked_in_vain d after n request old new fault fallback (begun front left asks written failed counted) =
    let C : Fault → Type 0 = λ f. BreaksBy f (writes_of old) (writes_of new) in
    record {
      front = front;
      left = left;
      answers = fallback_replies version does works d after n request (front ++ left) asks fallback;
      written = written;
      cause = subst C (sym failed) counted;
      silent = λ memory. absurd (write_is_not_memory fault failed memory);
    }

-- likewise, where the text was the whole answer
pub broken_if : {A D K : Type 0} (r : Result A Fault) (wrote : K → List ℕ → K → Type 0) (writes_of : K → ℕ) (Says : List ℕ → D → Type 0)
    (fallback : Option (List ℕ)) (before : D) (old new : K) (text : List ℕ) (after : D) → Says text after → IfErr r (λ f. f ≡ faults.Write) →
    OnErr r (WritesPart wrote old text new) → OnErr r (writes_of new ≡ one_more (writes_of old)) →
    IfErr r (λ f. BreaksOff wrote writes_of Says fallback before old new after f)
broken_if (Ok x) wrote writes_of Says fallback before old new text after is failed part counted = failed
broken_if (Err f) wrote writes_of Says fallback before old new text after is failed part counted =
    broken_sending wrote writes_of Says fallback before old new text after f is part failed counted

-- saying that a growth was refused broke off, where that may be said
pub refused_if : {A K : Type 0} (r : Result A Fault) (wrote : K → List ℕ → K → Type 0) (writes_of : K → ℕ) (fallback : Option (List ℕ)) (old new : K)
    (text : List ℕ) → fallback ≡ Some text → IfErr r (λ f. f ≡ faults.Write) → OnErr r (WritesPart wrote old text new) →
    OnErr r (writes_of new ≡ one_more (writes_of old)) → IfErr r (λ f. BreaksRefused wrote writes_of fallback old new f)
refused_if (Ok x) wrote writes_of fallback old new text is failed part counted = failed
refused_if (Err f) wrote writes_of fallback old new text is failed part counted =
    begun part.front part.left (is ∙ ap (λ t. Some t) part.parts) part.written failed counted
