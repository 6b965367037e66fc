-- The numbers of a version's statements do not matter to what is answered. (Our own.)
use Rattle.std.specs.Prelude.{ℕ, ◌≡◌}
use Rattle.gw_meaning.specs.Listing.{Listing}
use Rattle.gw_meaning.specs.Numbers.{AreNumbered}
use Rattle.gw_model.specs.Faults.{fault_of}
use Rattle.gw_model.specs.Listed.{listed}
use Rattle.gw_frame.specs.Renamed.{statements_of, IsSameModel}
use Rattle.gw_desk.specs.Replies.{answer_of}

-- the version made anew from the statements that `list` shows, with the same horizon, replications and step limit
abbrev pub anew : Listing → Listing
anew t = listed (statements_of t.lines) t.horizon t.replications t.limit

-- two versions with the same statements in order, whatever their numbers, give the same answers
abbrev pub SameAnswers : Type 0
SameAnswers =
    (t u : Listing) → IsSameModel t u → AreNumbered t.lines → AreNumbered u.lines →
    (edits rep k : ℕ) → answer_of u edits rep k ≡ answer_of t edits rep k

-- so an edited version answers as the version made anew, which has a fault only where it has one itself
abbrev pub AnsweredAnew : Type 0
AnsweredAnew =
    (t : Listing) → AreNumbered t.lines → (edits rep k : ℕ) → answer_of (anew t) edits rep k ≡ answer_of t edits rep k

abbrev pub FaultyAnew : Type 0
FaultyAnew = (t : Listing) → AreNumbered t.lines → fault_of (anew t) ≡ fault_of t
