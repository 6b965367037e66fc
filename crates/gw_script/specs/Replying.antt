-- What a script line is answered, and what it leaves of the keeper of the version. (The table of script lines.)
use Rattle.std.specs.Prelude.{◌≡◌, ◌⊎◌, ℕ, Bool, true, false, IsTrue, List, [], ◌∷◌, ◌++◌, Option, Some, None, MatchOption, length, codes, decimal}
use Rattle.gw_request.specs.declared.request.Request.{Request}
use Rattle.gw_request.specs.declared.request.Request.TheVariants as requests
use Rattle.gw_request.specs.declared.request.Reason.{Reason}
use Rattle.gw_request.specs.declared.request.Reason.TheVariants as reasons
use Rattle.gw_request.specs.Requests.{request_of, may_want_memory}
use Rattle.gw_meaning.specs.Listing.{Listing}
use Rattle.gw_desk.specs.declared.play.Event.{Event}
use Rattle.gw_desk.specs.declared.play.Event.TheVariants as events
use Rattle.gw_desk.specs.declared.play.Reply.{Reply}
use Rattle.gw_desk.specs.Book.{Book}
use Rattle.gw_desk.specs.Headline.{AreRight, IsPrinted}
use Rattle.gw_desk.specs.Playing.{Does}
use Rattle.gw_script.specs.Answers.{Queries, ReportsAll}
use Rattle.gw_script.specs.Changes.{Edits}
use Rattle.gw_script.specs.Printing.{list_answer}
use Rattle.gw_script.specs.Works.{Worked}
use Rattle.gw_desk.specs.Working.{WorksOn}

-- the word for what is wrong with a line
abbrev pub word_of : Reason → List ℕ
word_of reasons.Long = codes "long"
word_of reasons.Command = codes "command"
word_of reasons.Arguments = codes "arguments"

-- these bytes, and the keeper is as it was
abbrev pub TellsOnly : {D : Type 0} → List ℕ → D → List ℕ → D → Type 0
TellsOnly text d front d' = (front ≡ text) × (d' ≡ d)

-- what the n-th line is answered, by what it asks for
abbrev pub Replies : {D : Type 0} → (D → Listing) → (D → Event → Reply → D → Type 0) →
    (D → ℕ → ℕ → Option (Option ℕ) → D → Type 0) → D → ℕ → Request → List ℕ → D → Type 0
Replies version does works d n requests.Nothing front d' = TellsOnly [] d front d'
Replies version does works d n (requests.Edit e) front d' = Edits does d e front d'
Replies version does works d n (requests.Report rep k) front d' = Queries does d (events.Finish rep k) front d'
Replies version does works d n (requests.Peek rep k) front d' = Queries does d (events.Peek rep k) front d'
Replies version does works d n (requests.All k) front d' = ReportsAll version does d k front d'
Replies version does works d n (requests.Work rep steps) front d' = Worked works d rep steps front d'
Replies version does works d n requests.List front d' =
    ((front ≡ list_answer (version d).lines) ⊎ (front ≡ codes "memory\n")) × (d' ≡ d)
Replies version does works d n requests.Quit front d' = TellsOnly (codes "bye\n") d front d'
Replies version does works d n (requests.Bad reason) front d' =
    TellsOnly (codes "? " ++ decimal n ++ codes " " ++ word_of reason ++ codes "\n") d front d'

-- whether a line ends the session
abbrev pub is_quit : Request → Bool
is_quit requests.Nothing = false
is_quit (requests.Edit e) = false
is_quit (requests.Report rep k) = false
is_quit (requests.Peek rep k) = false
is_quit (requests.All k) = false
is_quit (requests.Work rep steps) = false
is_quit requests.List = false
is_quit requests.Quit = true
is_quit (requests.Bad reason) = false

-- what a line may be answered where a growth is refused for telling its answer: a query and an edit may, the rest may
-- not
abbrev pub fallback_of : Request → Option (List ℕ)
fallback_of requests.Nothing = None
fallback_of (requests.Edit e) = Some (codes "refused E7\n")
fallback_of (requests.Report rep k) = Some (codes "memory\n")
fallback_of (requests.Peek rep k) = Some (codes "memory\n")
fallback_of (requests.All k) = Some (codes "memory\n")
fallback_of (requests.Work rep steps) = Some (codes "memory\n")
fallback_of requests.List = Some (codes "memory\n")
fallback_of requests.Quit = None
fallback_of (requests.Bad reason) = None

-- a growth was refused for telling an answer: that may be answered, or the keeper is as it was
abbrev pub Fallback : {D : Type 0} → (D → Listing) → (D → Event → Reply → D → Type 0) →
    (D → ℕ → ℕ → Option (Option ℕ) → D → Type 0) → D → ℕ → Request → D → Type 0
Fallback version does works d n request d' =
    MatchOption (fallback_of request) (d' ≡ d) (λ text. Replies version does works d n request text d')

-- what may be answered to the n-th line, and what it leaves: an edit for whose reading a growth was refused is refused
pub data Answers {D : Type 0} (version : D → Listing) (does : D → Event → Reply → D → Type 0)
    (works : D → ℕ → ℕ → Option (Option ℕ) → D → Type 0) (d : D) (n : ℕ) (line front : List ℕ) (d' : D) : Type 0 where
  read : Replies version does works d n (request_of line) front d' → Answers version does works d n line front d'
  unread : IsTrue (may_want_memory line) → front ≡ codes "refused E7\n" → d' ≡ d →
      Answers version does works d n line front d'

-- one event over a desk, which does what its calls do; and its reply is right, as the headline says: a report is that
-- of the model that `list` prints, read anew and run from zero
abbrev pub DoesRight : Book → Event → Reply → Book → Type 0
DoesRight b event reply c =
    Does b event reply c × AreRight IsPrinted b.version (length b.edits) (event ∷ []) (reply ∷ [])

-- what may be answered over a desk
abbrev pub DeskAnswers : Book → ℕ → List ℕ → List ℕ → Book → Type 0
DeskAnswers = Answers (λ (b : Book). b.version) DoesRight WorksOn
