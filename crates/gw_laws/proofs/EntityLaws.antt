-- A law of the entities at the clock: what each update, a later clock and a RESET keep, each run from zero has. So a law
-- of one kind of entity says nothing of moves, and has one line for the updates of all other kinds.
use Rattle.std.proofs.Common.{◌≡◌, ℕ, suc, ◌≤◌, ◌++◌, Ok, arith}
use Rattle.gw_names.specs.declared.key.Key.{Key}
use Rattle.gw_meaning.specs.declared.entity_change.Update.{Update}
use Rattle.gw_meaning.specs.declared.moves.Change.{Change}
use Rattle.gw_meaning.specs.declared.moves.Change.TheVariants as changes
use Rattle.gw_meaning.specs.declared.moves.Move.{Move}
use Rattle.gw_meaning.specs.declared.moves.Move.TheVariants as moves
use Rattle.gw_meaning.specs.Listing.{Listing}
use Rattle.gw_meaning.specs.Entities.{Entities, done, touched, later, entities_anew}
use Rattle.gw_meaning.specs.Machine.{Machine, zero_state}
use Rattle.gw_meaning.specs.Changes.{refused, watching, moved}
use Rattle.gw_meaning.specs.Step.{run}
use Rattle.gw_frame.proofs.Known.{IsDecidedUpdate, IsDecidedChange, IsDecided}
use Rattle.gw_frame.proofs.Moves.{settled_is, with_active_has, entered_has, picked_has}
use Rattle.gw_frame.proofs.Running.{over_run}
use Rattle.gw_laws.proofs.Waiting.{let_in_is}
use Rattle.gw_laws.proofs.ClockLaws.{IsInTime, moved_goes_on, moved_in_time}

-- P is of how many steps were made, of the clock and of the entities
pub record KeepsEntities (t : Listing) (P : ℕ → ℕ → Entities → Type 0) : Type 0 where
  pub none : (n : ℕ) → P n 0 zero_state.entities
  pub further : (n clock : ℕ) (e : Entities) → P n clock e → P (suc n) clock e
  pub does : (n : ℕ) (s : Machine) (key : Key) (update : Update) (number : ℕ) → IsDecidedUpdate t s key update → P n s.clock s.entities →
      P (suc n) s.clock (done key update s.clock number s.entities)
  pub goes_on : (n before now : ℕ) (e : Entities) → before ≤ now → P n before e → P (suc n) now (later before now e)
  pub anew : (n clock : ℕ) (e : Entities) → P n clock e → P (suc n) clock (entities_anew clock e)

module _ (t : Listing) (P : ℕ → ℕ → Entities → Type 0) (keeps : KeepsEntities t P) where
  abbrev Has : ℕ → Machine → Type 0
  Has n s = P n s.clock s.entities

  touched_has : (n : ℕ) (s : Machine) (change : Change) (number : ℕ) → IsDecidedChange t s change → Has n s →
      P (suc n) s.clock (touched change s.clock number s.entities)
  touched_has n s (changes.Entity change) number decided h = keeps.does n s change.0 change.1 number decided h
  touched_has n s change number decided h = keeps.further n s.clock s.entities h

  moved_has : (n : ℕ) (s : Machine) (m : Move) → IsDecided t s m → IsInTime t s → Has n s → Has (suc n) (moved s m)
  moved_has n s moves.Reset decided time h = keeps.anew n s.clock s.entities h
  moved_has n s moves.Clear decided time h = keeps.none (suc n)
  moved_has n s (moves.Enter id change fate) decided time h =
      entered_has (Has (suc n)) (Has (suc n)) t s id change fate decided.1 (keeps.further n s.clock s.entities h)
      (λ x is. (let same = settled_is s x id change fate in rw (same.clock, same.entities) (touched_has n s change x.number decided.1 h)))
      (λ v. record {
        nothing = λ k. k;
        one = λ a coming k. k;
        lets = λ w key x passed xs is k. (let same = let_in_is key x (passed ++ xs) w in rw (same.clock, same.entities) k);
        copies = λ w to x values copying k. k;
        unlinks = λ w key to x xs named is k. k;
      })
  moved_has n s (moves.Clock now) decided time h =
      keeps.goes_on n s.clock now s.entities (moved_goes_on t s (moves.Clock now) decided (λ c. c) time).0 h
  moved_has n s (moves.Refuse id key units) decided time h =
      let k = keeps.further n s.clock s.entities h in with_active_has (Has (suc n)) s.active (λ x. refused s x id key units) s k (λ x is. k)
  moved_has n s (moves.Watch read) decided time h =
      let k = keeps.further n s.clock s.entities h in with_active_has (Has (suc n)) s.active (λ x. watching s x read) s k (λ x is. k)
  moved_has n s moves.Pick decided time h =
      let k = keeps.further n s.clock s.entities h in picked_has (Has (suc n)) s s.current k (λ x xs is. k)
  moved_has n s (moves.Start count arrivals) decided time h = keeps.further n s.clock s.entities h
  moved_has n s moves.Command decided time h = keeps.further n s.clock s.entities h

  pub over_entities : (seed n : ℕ) (s : Machine) → run t seed n ≡ Ok s → P n s.clock s.entities
  over_entities seed n s is =
      (over_run t seed (λ n v. IsInTime t v × Has n v) ((omega arith, tt), keeps.none 0)
      (λ n v m streams there decided h. (moved_in_time t v m decided h.0, moved_has n v m decided h.0 h.1)) n s is).1
