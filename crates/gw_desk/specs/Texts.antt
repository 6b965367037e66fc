-- The texts that a desk keeps: each is of a version after so many accepted edits. (Our own.)
use Rattle.std.specs.Prelude.{◌≡◌, ℕ, ◌≤◌, List, Contains}
use Rattle.gw_meaning.specs.Listing.{Listing}
use Rattle.gw_desk.specs.declared.answer.Answer.{Answer}
use Rattle.gw_desk.specs.declared.answer.Answer.TheVariants as answers
use Rattle.gw_desk.specs.declared.texts.Place.{Place}
use Rattle.gw_desk.specs.Replies.{answer_of}

-- a text handed out at a place, which is told by the number of accepted edits, the replication and the START
abbrev pub ready : Place → List ℕ → Answer
ready p text =
    answers.Ready (record { edits = p.edits; replication = p.replication; start = p.start; text = text })

-- what a query of a version is answered there
abbrev pub answer_at : Listing → Place → Answer
answer_at t p = answer_of t p.edits p.replication p.start

-- a text of the version after n accepted edits is what a query is answered; one of an earlier version is never looked
-- for again
pub record IsText (t : Listing) (n : ℕ) (e : Place × List ℕ) : Type 0 where
  pub past : e.0.edits ≤ n
  pub present : e.0.edits ≡ n → answer_at t e.0 ≡ ready e.0 e.1

abbrev pub AreTexts : Listing → ℕ → List (Place × List ℕ) → Type 0
AreTexts t n entries = (e : Place × List ℕ) → Contains entries e → IsText t n e
