-- The numbers of statements do not matter: two versions with the same statements in order, whatever their numbers, have
-- one run, but for the names of its ids. (Our own.)
use Rattle.std.specs.Prelude.{ℕ, ◌≡◌, List, [], ◌∷◌, map}
use Rattle.gw_meaning.specs.declared.item.Item.{Item}
use Rattle.gw_meaning.specs.declared.statement.Statement.{Statement}
use Rattle.gw_meaning.specs.declared.statement.Numbered.{Numbered}
use Rattle.gw_meaning.specs.Listing.{Listing}
use Rattle.gw_meaning.specs.Numbers.{AreNumbered}
use Rattle.gw_meaning.specs.Machine.{Machine}
use Rattle.gw_meaning.specs.Step.{step, run}
use Rattle.gw_frame.specs.Moved.{IsMove, MovedAnswer, moved_machine, moved_result}

-- the statements, without their numbers
abbrev pub statements_of : List Numbered → List Statement
statements_of lines = map (λ (l : Numbered). l.statement) lines

-- two versions that differ in the numbers of their statements alone
pub record IsSameModel (t u : Listing) : Type 0 where
  pub statements : statements_of u.lines ≡ statements_of t.lines
  pub horizon : u.horizon ≡ t.horizon
  pub replications : u.replications ≡ t.replications
  pub limit : u.limit ≡ t.limit

-- the second list has the statements of the first, each under the new name of its number
abbrev pub AreRenamed : (ℕ → ℕ) → List Numbered → List Numbered → Type 0
AreRenamed move [] [] = Unit {0}
AreRenamed move (l ∷ ls) (m ∷ ms) = (m.number ≡ move l.number) × (m.statement ≡ l.statement) × AreRenamed move ls ms
AreRenamed move ls ms = ⊥

-- the second version is the first with its ids renamed
pub record IsRenamed (move : ℕ → ℕ) (t u : Listing) : Type 0 where
  pub is_move : IsMove move
  pub lines : AreRenamed move t.lines u.lines
  pub horizon : u.horizon ≡ t.horizon
  pub replications : u.replications ≡ t.replications
  pub limit : u.limit ≡ t.limit

-- where versions differ in their numbers alone, there is a renaming that leads from one to the other
abbrev pub HasRenaming : Type 0
HasRenaming =
    (t u : Listing) → IsSameModel t u → AreNumbered t.lines → AreNumbered u.lines → (move : ℕ → ℕ) × IsRenamed move t u

-- a renamed version answers every question so
abbrev pub RenamedAnswers : Type 0
RenamedAnswers =
    (move : ℕ → ℕ) (t u : Listing) (seed : ℕ) → IsRenamed move t u → (i : Item) → MovedAnswer move t seed u seed i

-- its steps, from renamed states, and its runs are the renamed ones
abbrev pub RenamedStep : Type 0
RenamedStep =
    (move : ℕ → ℕ) (t u : Listing) (seed : ℕ) (s : Machine) → IsRenamed move t u →
    step u seed (moved_machine move s) ≡ moved_result move (step t seed s)

abbrev pub RenamedRun : Type 0
RenamedRun =
    (move : ℕ → ℕ) (t u : Listing) (seed n : ℕ) → IsRenamed move t u → run u seed n ≡ moved_result move (run t seed n)
