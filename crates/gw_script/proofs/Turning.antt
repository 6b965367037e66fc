-- A session, turn by turn: whatever is still to come, the output so far and what is said to the rest are what is said to all.
use Rattle.std.proofs.Common.{◌≡◌, ℕ, ◌+◌, ◌≤◌, Bool, true, false, List, [], ◌∷◌, ◌++◌, ◌⊎◌, inl, inr, length, refl, ap, sym, subst, ◌∙◌, append_assoc, append-nil, length-append, arith}
use Rattle.gw_io.specs.declared.budget.ReadFault.{ReadFault}
use Rattle.gw_io.specs.declared.budget.ReadFault.TheVariants as reads
use Rattle.gw_io.specs.Failures.{one_more}
use Rattle.gw_io.specs.Reading.{Breaks, AreIdleCalls, IsSpentAt, failures_at}
use Rattle.gw_io.specs.Line.{IsUnended, without_cr_of}
use Rattle.gw_request.specs.Requests.{request_of}
use Rattle.gw_script.specs.declared.fault.Over.{Over}
use Rattle.gw_script.specs.declared.fault.Over.TheVariants as overs
use Rattle.gw_script.specs.declared.fault.Fault.{Fault}
use Rattle.gw_script.specs.declared.fault.Fault.TheVariants as faults
use Rattle.gw_script.specs.Replying.{is_quit, fallback_of}
use Rattle.gw_script.specs.Sessions.{Says, nothing, line, last, quit, last_quit, IsReadWhole, with_its_line_feed, at_the_end, IsOverAt, Serves, Stops, StopsBy, AreFed, IsLastLine, IsUnanswered, in_reading, in_answering}
use Rattle.gw_script.specs.Turns.{Writes, BreaksOff, BreaksBy, IsSilent, stopped_by, over_if}

-- after some lines over the keeper b, before line n over the keeper d
pub record Turned {D S K : Type 0} (answers : D → ℕ → List ℕ → List ℕ → D → Type 0) (took : S → List ℕ → S → Type 0) (wrote : K → List ℕ → K → Type 0) (b d : D)
    (n left : ℕ) (source source' : S) (sink sink' : K) : Type 0 where
  pub input : List ℕ
  pub output : List ℕ
  pub taken : took source input source'
  pub written : wrote sink output sink'
  pub onward : (rest out : List ℕ) (over : Over) (final : D) → Says answers d n rest out over final →
      Says answers b 1 (input ++ rest) (output ++ out) over final
  pub fed : (input ≡ []) ⊎ AreFed input
  pub spent : left + length input ≡ 16777216
  pub few : n + left ≤ 16777217

pub turned_none : {D S K : Type 0} (answers : D → ℕ → List ℕ → List ℕ → D → Type 0) (took : S → List ℕ → S → Type 0) (wrote : K → List ℕ → K → Type 0) (b : D)
    (source : S) (sink : K) → took source [] source → wrote sink [] sink → Turned answers took wrote b b 1 16777216 source source sink sink
turned_none answers took wrote b source sink x y =
    record { input = []; output = []; taken = x; written = y; onward = λ rest out over final says. says; fed = inl refl; spent = refl; few = omega arith }

-- whole lines after others
fed_behind : (front lines : List ℕ) → AreFed lines → AreFed (front ++ lines)
fed_behind front lines h = (front ++ h.0, ap (λ l. front ++ l) h.1 ∙ sym (append_assoc front h.0 (10 ∷ [])))

-- a line that was read whole, after others
whole_behind : (front lines : List ℕ) (ended : Type 0) (idle : ℕ) → IsReadWhole ended lines idle → IsReadWhole ended (front ++ lines) idle
whole_behind front lines ended idle (with_its_line_feed fed none) = with_its_line_feed (fed_behind front lines fed) none
whole_behind front lines ended idle (at_the_end end one) = at_the_end end one

over_behind : (front lines : List ℕ) (ended : Type 0) (over : Over) (idle : ℕ) → IsOverAt ended lines over idle → IsOverAt ended (front ++ lines) over idle
over_behind front lines ended overs.Quit idle whole = whole_behind front lines ended idle whole
over_behind front lines ended overs.InputEnd idle ends = ends

-- answering breaks off where the writer failed or a growth was refused
answer_fault : (fault : Fault) (writes writes' : ℕ) → BreaksBy fault writes writes' → (fault ≡ faults.Write) ⊎ (fault ≡ faults.Memory)
answer_fault (faults.Line faulty) writes writes' h = absurd h
answer_fault (faults.Model fault) writes writes' h = absurd h
answer_fault faults.Read writes writes' h = absurd h
answer_fault faults.Write writes writes' h = inl refl
answer_fault faults.ReadLimit writes writes' h = absurd h
answer_fault faults.Memory writes writes' h = inr refl

-- regrouped input and output
says_regrouped : {D : Type 0} (answers : D → ℕ → List ℕ → List ℕ → D → Type 0) (b d : D) (over : Over) (i j k x y z : List ℕ) →
    Says answers b 1 (i ++ (j ++ k)) (x ++ (y ++ z)) over d → Says answers b 1 ((i ++ j) ++ k) ((x ++ y) ++ z) over d
says_regrouped answers b d over i j k x y z says =
    let P : List ℕ → Type 0 = λ l. Says answers b 1 l ((x ++ y) ++ z) over d in
    let Q : List ℕ → Type 0 = λ o. Says answers b 1 (i ++ (j ++ k)) o over d in
    subst P (sym (append_assoc i j k)) (subst Q (sym (append_assoc x y z)) says)

-- answering broke off for a cause that stops the session, where reading did not fail
pub stop_cause : (fault : Fault) (reads reads' writes writes' taken : ℕ) → reads' ≡ reads → taken ≤ 16777216 → BreaksBy fault writes writes' →
    StopsBy fault reads reads' writes writes' taken
stop_cause (faults.Line faulty) reads reads' writes writes' taken same few h = h
stop_cause (faults.Model fault) reads reads' writes writes' taken same few h = h
stop_cause faults.Read reads reads' writes writes' taken same few h = absurd h
stop_cause faults.Write reads reads' writes writes' taken same few h = (same, h, few)
stop_cause faults.ReadLimit reads reads' writes writes' taken same few h = absurd h
stop_cause faults.Memory reads reads' writes writes' taken same few h = (same, h, few)

-- reading broke off for a cause that stops the session
pub read_cause : (fault : ReadFault) (reads reads' reads'' writes writes' left idle taken : ℕ) → reads' ≡ reads → writes' ≡ writes →
    taken + (left + idle) ≡ 16777216 → AreIdleCalls fault idle → reads'' ≡ failures_at fault reads' → IsSpentAt fault left →
    StopsBy (stopped_by fault) reads reads'' writes writes' taken
read_cause reads.Read n m o writes writes' left idle taken same written total calls counted spent =
    (counted ∙ ap one_more same, written, omega (arith, total, calls))
read_cause reads.Limit n m o writes writes' left idle taken same written total calls counted spent =
    (counted ∙ same, written, omega (arith, total, calls, spent))
read_cause reads.Memory n m o writes writes' left idle taken same written total calls counted spent = (counted ∙ same, written, omega (arith, total))

-- what is said to a whole line with nothing after it
pub says_whole : {D : Type 0} (answers : D → ℕ → List ℕ → List ℕ → D → Type 0) (d d' : D) (n : ℕ) (text front : List ℕ) → IsUnended text →
    answers d n (without_cr_of text) front d' → (over : Over) × Says answers d n (text ++ 10 ∷ []) front over d'
says_whole answers d d' n text front unended told = go (is_quit (request_of (without_cr_of text))) refl where
  go : (q : Bool) → is_quit (request_of (without_cr_of text)) ≡ q → (over : Over) × Says answers d n (text ++ 10 ∷ []) front over d'
  go true is = (overs.Quit, quit d d' n text front unended is told)
  go false is =
      let P : List ℕ → Type 0 = λ i. Says answers d n i front overs.InputEnd d' in
      let Q : List ℕ → Type 0 = λ o. Says answers d n ((text ++ 10 ∷ []) ++ []) o overs.InputEnd d' in (
        overs.InputEnd,
        subst P (append-nil (text ++ 10 ∷ []))
            (subst Q (append-nil front) (line d d' d' n text [] front [] overs.InputEnd unended is told (nothing d' (n + 1)))),
      )

-- what is said to a last line
pub says_last : {D : Type 0} (answers : D → ℕ → List ℕ → List ℕ → D → Type 0) (d d' : D) (n : ℕ) (text front : List ℕ) → IsUnended text →
    answers d n text front d' → Says answers d n text front (over_if (is_quit (request_of text))) d'
says_last answers d d' n text front unended told = go (is_quit (request_of text)) refl where
  go : (q : Bool) → is_quit (request_of text) ≡ q → Says answers d n text front (over_if q) d'
  go true is = last_quit d d' n text front unended is told
  go false is = last d d' n text front unended is told

-- the relations that a session is told by: what may be answered, what is taken off the source and written to the sink, and how
-- each goes on
module _ {D S K : Type 0} (answers : D → ℕ → List ℕ → List ℕ → D → Type 0) (took : S → List ℕ → S → Type 0) (wrote : K → List ℕ → K → Type 0)
    (took_on : (a b c : S) (x y : List ℕ) → took a x b → took b y c → took a (x ++ y) c)
    (wrote_on : (a b c : K) (x y : List ℕ) → wrote a x b → wrote b y c → wrote a (x ++ y) c) where
  -- a whole line, answered
  pub turned_line : {b d d' : D} {n left left' : ℕ} {source s s' : S} {sink k k' : K} (text : List ℕ) → Turned answers took wrote b d n left source s sink k →
      IsUnended text → took s (text ++ 10 ∷ []) s' → left ≡ left' + (length text + 1) → is_quit (request_of (without_cr_of text)) ≡ false →
      Writes wrote (answers d n (without_cr_of text)) k k' d' → Turned answers took wrote b d' (n + 1) left' source s' sink k'
  turned_line {b} {d} {d'} {n} {left} {left'} {source} {s} {s'} {sink} {k} {k'} text before unended taken spent goes r = record {
    input = before.input ++ (text ++ 10 ∷ []);
    output = before.output ++ r.front;
    taken = took_on source s s' before.input (text ++ 10 ∷ []) before.taken taken;
    written = wrote_on sink k k' before.output r.front before.written r.written;
    onward = λ rest out over final says. says_regrouped answers b final over before.input (text ++ 10 ∷ []) rest before.output r.front out
        (before.onward ((text ++ 10 ∷ []) ++ rest) (r.front ++ out) over final (line d d' final n text rest r.front out over unended goes r.answers says));
    fed = inr (fed_behind before.input (text ++ 10 ∷ []) (text, refl));
    spent = omega (arith, before.spent, spent, length-append before.input (text ++ 10 ∷ []), length-append text (10 ∷ []));
    few = omega (arith, before.few, spent);
  }

  -- a line to which no answer says that it is out of memory
  unanswered_at : {b d after : D} {n left : ℕ} {source s : S} {sink k : K} (before : Turned answers took wrote b d n left source s sink k)
      (bytes text : List ℕ) → ((earlier : List ℕ) → IsLastLine earlier text (earlier ++ bytes)) → (front : List ℕ) →
      IsSilent (fallback_of (request_of text)) front d after → IsUnanswered answers b (before.input ++ bytes) (before.output ++ front) after
  unanswered_at {b} {d} {after} {n} before bytes text last_line front silent =
      let I : List ℕ → Type 0 = λ i. Says answers b 1 i (before.output ++ []) overs.InputEnd d in
      let O : List ℕ → Type 0 = λ o. Says answers b 1 before.input (before.output ++ o) overs.InputEnd d in
      let A : D → Type 0 = λ e. Says answers b 1 before.input (before.output ++ front) overs.InputEnd e in
      let before_it = subst I (append-nil before.input) (before.onward [] [] overs.InputEnd d (nothing d n)) in
      record {
        earlier = before.input;
        line = text;
        last = last_line before.input;
        whole = before.fed;
        fallback = silent.unanswered;
        says = subst A (sym silent.unchanged) (subst O (sym silent.unwritten) before_it);
      }

  module _ (reads_of : S → ℕ) (writes_of : K → ℕ) {b d : D} {n left : ℕ} {source s s' : S} {sink k : K}
      (before : Turned answers took wrote b d n left source s sink k) where
    -- the last turn: something is said to what it reads, and it is written
    pub serves_last : {final : D} {k' : K} (ended : S → Type 0) (bytes front : List ℕ) (over : Over) (idle : ℕ) → took s bytes s' → wrote k front k' →
        Says answers d n bytes front over final → IsOverAt (ended s') bytes over idle →
        length bytes + idle ≤ left → reads_of s' ≡ reads_of source → writes_of k' ≡ writes_of sink →
        Serves answers took ended reads_of wrote writes_of b source s' sink k' final over
    serves_last {final} {k'} ended bytes front over idle taken written says ends few read_well wrote_well = record {
      input = before.input ++ bytes;
      output = before.output ++ front;
      taken = took_on source s s' before.input bytes before.taken taken;
      written = wrote_on sink k k' before.output front before.written written;
      says = before.onward bytes front over final says;
      idle = idle;
      ends = over_behind before.input bytes (ended s') over idle ends;
      calls = omega (arith, before.spent, few, length-append before.input bytes);
      read_well = read_well;
      wrote_well = wrote_well;
    }

    -- reading a line broke off: all that is said to the lines before it is written
    pub stops_reading : (ended : S → Type 0) {left' : ℕ} (fault : ReadFault) → reads_of s ≡ reads_of source → writes_of k ≡ writes_of sink →
        Breaks took reads_of IsUnended s s' left left' fault →
        Stops answers took ended reads_of wrote writes_of b source s' sink k d (stopped_by fault)
    stops_reading ended {left'} fault same written broken =
        let P : List ℕ → Type 0 = λ i. Says answers b 1 i (before.output ++ []) overs.InputEnd d in
        let total : length (before.input ++ broken.bytes) + (left' + broken.idle) ≡ 16777216 =
        omega (arith, before.spent, broken.spent, length-append before.input broken.bytes) in
        record {
          input = before.input;
          broken = broken.bytes;
          output = before.output;
          left = [];
          over = overs.InputEnd;
          taken = took_on source s s' before.input broken.bytes before.taken broken.taken;
          written = before.written;
          says = subst P (append-nil before.input) (before.onward [] [] overs.InputEnd d (nothing d n));
          place = in_reading fault refl before.fed broken.part refl refl;
          cause = read_cause fault (reads_of source) (reads_of s) (reads_of s') (writes_of sink) (writes_of k) left' broken.idle
              (length (before.input ++ broken.bytes)) same written total broken.idle_calls broken.counted broken.limit;
          silent = λ memory. inl (record { fed = before.fed; written = refl; goes_on = refl });
        }

    -- answering a line that was read whole broke off
    pub stops_answering : (ended : S → Type 0) {k' : K} {after : D} (bytes text : List ℕ) (idle : ℕ) → IsReadWhole (ended s') bytes idle →
        ((earlier : List ℕ) → IsLastLine earlier text (earlier ++ bytes)) → (over : Over) (fault : Fault) →
        reads_of s' ≡ reads_of source → writes_of k ≡ writes_of sink → length bytes + idle ≤ left → took s bytes s' →
        (broken : BreaksOff wrote writes_of (answers d n text) (fallback_of (request_of text)) d k k' after fault) →
        Says answers d n bytes (broken.front ++ broken.left) over after →
        Stops answers took ended reads_of wrote writes_of b source s' sink k' after fault
    stops_answering ended {k'} {after} bytes text idle whole last_line over fault read_well same fits taken broken says =
        let input : List ℕ = before.input ++ bytes in
        let C : ℕ → Type 0 = λ w. BreaksBy fault w (writes_of k') in
        let O : List ℕ → Type 0 = λ o. Says answers b 1 input o over after in
        let T : List ℕ → Type 0 = λ i. took source i s' in
        let L : List ℕ → Type 0 = λ i. StopsBy fault (reads_of source) (reads_of s') (writes_of sink) (writes_of k') (length i) in
        let calls : length input + idle ≤ 16777216 = omega (arith, before.spent, fits, length-append before.input bytes) in
        let few : length input ≤ 16777216 = omega (arith, calls) in
        record {
          input = input;
          broken = [];
          output = before.output ++ broken.front;
          left = broken.left;
          over = over;
          taken = subst T (sym (append-nil input)) (took_on source s s' before.input bytes before.taken taken);
          written = wrote_on sink k k' before.output broken.front before.written broken.written;
          says = subst O (sym (append_assoc before.output broken.front broken.left))
              (before.onward bytes (broken.front ++ broken.left) over after says);
          place = in_answering (answer_fault fault (writes_of k) (writes_of k') broken.cause) idle
              (whole_behind before.input bytes (ended s') idle whole) calls refl;
          cause = subst L (sym (append-nil input))
              (stop_cause fault (reads_of source) (reads_of s') (writes_of sink) (writes_of k') (length input) read_well few (subst C same broken.cause));
          silent = λ memory. inr (unanswered_at before bytes text last_line broken.front (broken.silent memory));
        }

-- the end of the input was found by one call, however the session ends after it
pub ended_if : (q : Bool) (ended : Type 0) (input : List ℕ) → ended → IsOverAt ended input (over_if q) 1
ended_if true ended input end = at_the_end end refl
ended_if false ended input end = (end, refl)
