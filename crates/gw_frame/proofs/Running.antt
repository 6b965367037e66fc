-- What the start has and each decided move keeps, each run from zero has.
use Rattle.std.proofs.Common.{◌≡◌, ℕ, zero, suc, ◌≤◌, List, length, Ok, refl, ap, sym, ◌∙◌, subst, arith, inl, inr}
use Rattle.std.proofs.lemmas.Bool.{cases_lt}
use Rattle.gw_streams.specs.declared.stream.Stream.{Stream}
use Rattle.gw_meaning.specs.declared.moves.Move.{Move}
use Rattle.gw_meaning.specs.Listing.{Listing}
use Rattle.gw_meaning.specs.Machine.{Machine, zero_state}
use Rattle.gw_meaning.specs.Changes.{decided}
use Rattle.gw_meaning.specs.Questions.{items_of, result_of}
use Rattle.gw_meaning.specs.Step.{step, step_prog, decide, run}
use Rattle.gw_meaning.specs.Reads.{reads}
use Rattle.gw_meaning.proofs.Programs.{run_on}
use Rattle.gw_frame.proofs.ReadLaws.{run_before, step_reads, reads_there}
use Rattle.gw_frame.specs.Seeds.{SeedIsReadAtFirstDraws}
use Rattle.gw_frame.proofs.Seeds.{uses_seed}
use Rattle.gw_frame.proofs.Known.{IsDecided, IsAfter}
use Rattle.gw_frame.proofs.Decided.{step_decides, is_decided}

-- a run of one step more came to a state before, from which the step goes to this one
pub record IsLast (t : Listing) (seed n : ℕ) (v : Machine) : Type 0 where
  pub before : Machine
  pub there : run t seed n ≡ Ok before
  pub goes : step t seed before ≡ Ok v
  pub after : IsAfter t seed before v

module _ (t : Listing) (seed : ℕ) where
  pub last_step : (n : ℕ) (v : Machine) → run t seed (suc n) ≡ Ok v → IsLast t seed n v
  last_step n v is =
      let before = run_before t seed n v is in
      let goes : step t seed before.0 ≡ Ok v = sym (run_on t seed n before.0 before.1) ∙ is in
      record { before = before.0; there = before.1; goes = goes; after = (step_decides t seed before.0 v goes).0 }

  one_state : (m n : ℕ) (s v : Machine) → m ≡ n → run t seed m ≡ Ok s → run t seed n ≡ Ok v → s ≡ v
  one_state m n s v same there is = let both : Ok s ≡ Ok v = sym there ∙ (ap (run t seed) same ∙ is) in cc

  -- what a state of a run has and each step after it keeps, each later state has
  pub over_steps : (P : ℕ → Machine → Type 0) (m : ℕ) (s : Machine) → run t seed m ≡ Ok s → P m s →
      ((n : ℕ) (u : Machine) (move : Move) (streams : List Stream) → m ≤ n → run t seed n ≡ Ok u →
      result_of t seed (decide u) ≡ Ok (move, streams) → P n u → P (suc n) (decided u move streams)) →
      (n : ℕ) (v : Machine) → m ≤ n → run t seed n ≡ Ok v → P n v
  over_steps P m s there start keeps zero v before is =
      let last : m ≡ zero = omega arith in
      subst (λ k. P k v) last (subst (P m) (one_state m zero s v last there is) start)
  over_steps P m s there start keeps (suc n) v before is =
      elim (cases_lt n m) [
        | inl late ↦ let last : m ≡ suc n = omega arith in subst (λ k. P k v) last (subst (P m) (one_state m (suc n) s v last there is) start)
        | inr earlier ↦
            let last = last_step n v is in
            let after = last.after in
            subst (P (suc n)) (sym after.is)
            (keeps n last.before after.move after.streams earlier last.there after.goes
            (over_steps P m s there start keeps n last.before earlier last.there))
      ]

  -- the same where it is kept by each decided move, after a state and from the start
  pub over_rest : (P : ℕ → Machine → Type 0) (m : ℕ) (s : Machine) → run t seed m ≡ Ok s → P m s →
      ((n : ℕ) (u : Machine) (move : Move) (streams : List Stream) → run t seed n ≡ Ok u → IsDecided t u move → P n u → P (suc n) (decided u move streams)) →
      (n : ℕ) (v : Machine) → m ≤ n → run t seed n ≡ Ok v → P n v
  over_rest P m s there start keeps =
      over_steps P m s there start (λ n u move streams from at goes h. keeps n u move streams at (is_decided t seed u (move, streams) goes) h)

  pub over_run : (P : ℕ → Machine → Type 0) → P 0 zero_state →
      ((n : ℕ) (s : Machine) (m : Move) (streams : List Stream) → run t seed n ≡ Ok s → IsDecided t s m → P n s → P (suc n) (decided s m streams)) →
      (n : ℕ) (s : Machine) → run t seed n ≡ Ok s → P n s
  over_run P start keeps n s is = over_rest P 0 zero_state refl start keeps n s (omega arith) is

  -- the seven streams, and where the seed is read
  seven_streams : (n : ℕ) (s : Machine) → run t seed n ≡ Ok s → length s.streams ≡ 7
  seven_streams zero s is = let same : zero_state ≡ s = cc in ap (λ (v : Machine). length v.streams) (sym same)
  seven_streams (suc n) v is =
      let last = last_step n v is in
      ((step_decides t seed last.before v last.goes).2 (seven_streams n last.before last.there)).0

pub seed_is_read : SeedIsReadAtFirstDraws
seed_is_read t seed n s v there is =
    let goes : step t seed s ≡ Ok v = sym (run_on t seed n s there) ∙ is in
    let read : reads t seed n ≡ items_of t seed (step_prog s) = reads_there t seed n s there ∙ step_reads t seed s v goes in
    ap uses_seed read ∙ ((step_decides t seed s v goes).2 (seven_streams t seed n s there)).1
