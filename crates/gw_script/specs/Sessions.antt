-- What a session writes to a script: one answer for each line, in order, up to `quit` or the end of the input. (Our
-- own.)
use Rattle.std.specs.Prelude.{◌≡◌, ℕ, ◌+◌, ◌<◌, ◌≤◌, ◌⊎◌, true, false, None, List, [], ◌∷◌, ◌++◌, length}
use Rattle.gw_io.specs.declared.budget.ReadFault.{ReadFault}
use Rattle.gw_io.specs.Failures.{one_more}
use Rattle.gw_io.specs.Line.{IsUnended, without_cr_of}
use Rattle.gw_request.specs.Requests.{request_of}
use Rattle.gw_script.specs.declared.fault.Over.{Over}
use Rattle.gw_script.specs.declared.fault.Over.TheVariants as overs
use Rattle.gw_script.specs.declared.fault.Fault.{Fault}
use Rattle.gw_script.specs.declared.fault.Fault.TheVariants as faults
use Rattle.gw_script.specs.Replying.{is_quit, fallback_of}
use Rattle.gw_script.specs.Turns.{stopped_by}

-- To this input from line n on, this is written, so the session ends, and this it leaves of the keeper. Each line is
-- answered as it may be over the keeper that the lines before it left. A carriage return before a line feed is dropped,
-- the last line may lack its line feed, and after `quit` nothing more is read.
pub data Says {D : Type 0} (answers : D → ℕ → List ℕ → List ℕ → D → Type 0) : D → ℕ → List ℕ → List ℕ → Over → D →
    Type 0 where
  nothing : (d : D) (n : ℕ) → Says answers d n [] [] overs.InputEnd d
  line : (d d' d'' : D) (n : ℕ) (line rest front out : List ℕ) (over : Over) → IsUnended line →
      is_quit (request_of (without_cr_of line)) ≡ false → answers d n (without_cr_of line) front d' →
      Says answers d' (n + 1) rest out over d'' → Says answers d n ((line ++ 10 ∷ []) ++ rest) (front ++ out) over d''
  last : (d d' : D) (n : ℕ) (line front : List ℕ) → IsUnended line → is_quit (request_of line) ≡ false →
      answers d n line front d' → Says answers d n line front overs.InputEnd d'
  quit : (d d' : D) (n : ℕ) (line front : List ℕ) → IsUnended line → is_quit (request_of (without_cr_of line)) ≡ true →
      answers d n (without_cr_of line) front d' → Says answers d n (line ++ 10 ∷ []) front overs.Quit d'
  last_quit : (d d' : D) (n : ℕ) (line front : List ℕ) → IsUnended line → is_quit (request_of line) ≡ true →
      answers d n line front d' → Says answers d n line front overs.Quit d'

-- whole lines, one at least, with a line feed after the last
abbrev pub AreFed : List ℕ → Type 0
AreFed lines = (front : List ℕ) × (lines ≡ front ++ 10 ∷ [])

-- the last line of an input was read whole, and so many calls of read gave no byte: a line feed stands after it, and
-- no call came after that; or the input ended after it, as one call found
pub data IsReadWhole (ended : Type 0) (input : List ℕ) (idle : ℕ) : Type 0 where
  with_its_line_feed : AreFed input → idle ≡ 0 → IsReadWhole ended input idle
  at_the_end : ended → idle ≡ 1 → IsReadWhole ended input idle

-- how a session comes to its end: by `quit`, a line that was read whole, or by the end of the input
abbrev pub IsOverAt : Type 0 → List ℕ → Over → ℕ → Type 0
IsOverAt ended input overs.Quit idle = IsReadWhole ended input idle
IsOverAt ended input overs.InputEnd idle = ended × (idle ≡ 1)

-- a session read an input, wrote what is said to it, and left the keeper as that leaves it; neither reader nor writer
-- failed, and at most 16,777,216 calls of read were made, one for each byte and `idle` that gave none
pub record Serves {D S K : Type 0} (answers : D → ℕ → List ℕ → List ℕ → D → Type 0)
    (took : S → List ℕ → S → Type 0) (ended : S → Type 0) (reads : S → ℕ) (wrote : K → List ℕ → K → Type 0)
    (writes : K → ℕ)
    (d : D) (source source' : S) (sink sink' : K) (d' : D) (over : Over) : Type 0 where
  pub input : List ℕ
  pub output : List ℕ
  pub taken : took source input source'
  pub written : wrote sink output sink'
  pub says : Says answers d 1 input output over d'
  pub idle : ℕ
  pub ends : IsOverAt (ended source') input over idle
  pub calls : length input + idle ≤ 16777216
  pub read_well : reads source' ≡ reads source
  pub wrote_well : writes sink' ≡ writes sink

-- why a session may stop after so many bytes, and what is counted then. The reader failed, or the writer: just that is
-- counted, once; all calls of read were made, or a growth was refused: nothing is
abbrev pub StopsBy : Fault → ℕ → ℕ → ℕ → ℕ → ℕ → Type 0
StopsBy (faults.Line faulty) reads reads' writes writes' taken = ⊥
StopsBy (faults.Model fault) reads reads' writes writes' taken = ⊥
StopsBy faults.Read reads reads' writes writes' taken =
    (reads' ≡ one_more reads) × (writes' ≡ writes) × (taken < 16777216)
StopsBy faults.Write reads reads' writes writes' taken =
    (reads' ≡ reads) × (writes' ≡ one_more writes) × (taken ≤ 16777216)
StopsBy faults.ReadLimit reads reads' writes writes' taken = (reads' ≡ reads) × (writes' ≡ writes) × (taken ≡ 16777216)
StopsBy faults.Memory reads reads' writes writes' taken = (reads' ≡ reads) × (writes' ≡ writes) × (taken ≤ 16777216)

-- where a session stopped. While it read a line: what was read of it, `broken`, is no line, and all that is said to the
-- lines before it was written. Or while it answered one that was read whole, by calls that were left
pub data StopsAt (ended : Type 0) (input broken left : List ℕ) (over : Over) (fault : Fault) : Type 0 where
  in_reading : (cause : ReadFault) → fault ≡ stopped_by cause → (input ≡ []) ⊎ AreFed input → IsUnended broken →
      left ≡ [] → over ≡ overs.InputEnd → StopsAt ended input broken left over fault
  in_answering : (fault ≡ faults.Write) ⊎ (fault ≡ faults.Memory) → (idle : ℕ) → IsReadWhole ended input idle →
      length input + idle ≤ 16777216 → broken ≡ [] → StopsAt ended input broken left over fault

-- the last line of an input, and what stands in front of it
pub data IsLastLine : List ℕ → List ℕ → List ℕ → Type 0 where
  with_line_feed : (earlier line : List ℕ) → IsUnended line →
      IsLastLine earlier (without_cr_of line) (earlier ++ (line ++ 10 ∷ []))
  without_line_feed : (earlier line : List ℕ) → IsUnended line → IsLastLine earlier line (earlier ++ line)

-- the last line of an input got no answer: it is neither a query nor an edit, nothing of an answer to it was written,
-- and the keeper is as the lines in front of it left it
pub record IsUnanswered {D : Type 0} (answers : D → ℕ → List ℕ → List ℕ → D → Type 0) (d : D) (input output : List ℕ)
    (d' : D) : Type 0 where
  pub earlier : List ℕ
  pub line : List ℕ
  pub last : IsLastLine earlier line input
  pub whole : (earlier ≡ []) ⊎ AreFed earlier
  pub fallback : fallback_of (request_of line) ≡ None
  pub says : Says answers d 1 earlier output overs.InputEnd d'

-- all that is said to the whole lines was written, each line had its line feed, and none ended the session: it went on
-- to read the next one
pub record GoesOn (input left : List ℕ) (over : Over) : Type 0 where
  pub fed : (input ≡ []) ⊎ AreFed input
  pub written : left ≡ []
  pub goes_on : over ≡ overs.InputEnd

-- a session stopped: it read whole lines, `input`, and of the next one a part, `broken`, or nothing. What it wrote is
-- the front of what is said to the whole lines, and it left the keeper as they leave it: a part of a line is never
-- answered, and changes nothing. Out of memory stops it while it reads, or at a line that is neither a query nor an
-- edit
pub record Stops {D S K : Type 0} (answers : D → ℕ → List ℕ → List ℕ → D → Type 0)
    (took : S → List ℕ → S → Type 0) (ended : S → Type 0) (reads : S → ℕ) (wrote : K → List ℕ → K → Type 0)
    (writes : K → ℕ)
    (d : D) (source source' : S) (sink sink' : K) (d' : D) (fault : Fault) : Type 0 where
  pub input : List ℕ
  pub broken : List ℕ
  pub output : List ℕ
  pub left : List ℕ
  pub over : Over
  pub taken : took source (input ++ broken) source'
  pub written : wrote sink output sink'
  pub says : Says answers d 1 input (output ++ left) over d'
  pub place : StopsAt (ended source') input broken left over fault
  pub cause : StopsBy fault (reads source) (reads source') (writes sink) (writes sink') (length (input ++ broken))
  pub silent : fault ≡ faults.Memory → GoesOn input left over ⊎ IsUnanswered answers d input output d'
