-- A step is the move that is decided, made.
use Rattle.std.specs.Prelude.{IfOk}
use Rattle.std.proofs.Common.{◌≡◌, ℕ, List, None, Some, Result, Ok, Err, refl, ap, sym, subst, ◌∙◌, append-nil}
use Rattle.gw_streams.specs.declared.stream.Stream.{Stream}
use Rattle.gw_expr.specs.declared.halt.End.{End}
use Rattle.gw_meaning.specs.declared.moves.Move.{Move}
use Rattle.gw_meaning.specs.Listing.{Listing}
use Rattle.gw_meaning.specs.Machine.{Machine}
use Rattle.gw_meaning.specs.Questions.{Prog, Gives, result_of, items_of}
use Rattle.gw_meaning.specs.Changes.{decided}
use Rattle.gw_meaning.specs.Evaluation.{Eval}
use Rattle.gw_meaning.specs.Step.{decide, move_prog, step, step_prog, step_items, items_if_moved}
use Rattle.gw_expr.specs.declared.halt.Halt.{Halt}
use Rattle.gw_expr.specs.declared.halt.Halt.TheVariants as halts
use Rattle.gw_asking.specs.Noted.{Noted, Reads, Keeps}
use Rattle.gw_asking.specs.Deciding.{Decides}
use Rattle.gw_scan.specs.Stepping.{EndsAs, Acts, Halts, Steps}
use Rattle.gw_scan.specs.declared.steps.Turn.{Turn}
use Rattle.gw_asking.proofs.Binding.{reads_keep}
use Rattle.gw_meaning.proofs.Programs.{bind_gives, bind_ends}

-- what comes next is the step of the definition, with these streams after its draws, or its end; a refused growth leaves
-- it open
abbrev pub Foretells : Listing → ℕ → Machine → List Stream → Result Move Halt → Type 0
Foretells t seed s streams (Ok m) = step t seed s ≡ Ok (decided s m streams)
Foretells t seed s streams (Err (halts.End end)) = step t seed s ≡ Err end
Foretells t seed s streams (Err halts.Memory) = Unit

-- what was noted of earlier steps stays
pub decides_keeps : {A : Type 0} (t : Listing) (seed : ℕ) (p : Eval A) (r : Result A Halt) (old new : Noted) → Decides t seed p r old new → Keeps old new
decides_keeps t seed p (Ok a) old new h = reads_keep old new (items_of t seed (p old.streams)) h.1
decides_keeps t seed p (Err (halts.End end)) old new h = reads_keep old new (items_of t seed (p old.streams)) h.1
decides_keeps t seed p (Err halts.Memory) old new h = h

module _ (t : Listing) (seed : ℕ) (s : Machine) where
  abbrev made : Move × List Stream → Prog Machine
  made d = Gives (decided s d.0 d.1)

  pub step_goes : (d : Move × List Stream) → result_of t seed (decide s) ≡ Ok d → step t seed s ≡ Ok (decided s d.0 d.1)
  step_goes d is = (bind_gives t seed (decide s) made d is).0

  pub step_goes_items : (d : Move × List Stream) → result_of t seed (decide s) ≡ Ok d → step_items t seed s ≡ items_of t seed (decide s)
  step_goes_items d is =
      let both = bind_gives t seed (decide s) made d is in
      ap (λ r. items_if_moved r (items_of t seed (step_prog s))) both.0 ∙ (both.1 ∙ append-nil (items_of t seed (decide s)))

  pub step_ends : (end : End) → result_of t seed (decide s) ≡ Err end → step t seed s ≡ Err end
  step_ends end is = (bind_ends t seed (decide s) made end is).0

  -- what was decided, and what comes next
  pub foretold :
      (r : Result Move Halt) (old new : Noted) → old.streams ≡ s.streams → Decides t seed (move_prog s s.remaining) r old new →
      Foretells t seed s new.streams r
  foretold (Ok m) old new same h = let told = rw same at h.0 in step_goes (m, new.streams) told
  foretold (Err (halts.End end)) old new same h = step_ends end (rw same at h.0)
  foretold (Err halts.Memory) old new same h = tt

  -- a step that was made leads where the step of the definition does
  pub acted :
      (after : Machine) (old new : Noted) → old.streams ≡ s.streams →
      Acts t seed (move_prog s s.remaining) (Ok tt) s after old new → step t seed s ≡ Ok after
  acted after old new same h = foretold (Ok h.0) old new same h.1 ∙ ap (λ x. Ok x) (sym h.2)

  -- and notes what that one reads
  pub acted_reads :
      (after : Machine) (old new : Noted) → old.streams ≡ s.streams →
      Acts t seed (move_prog s s.remaining) (Ok tt) s after old new → Reads old (step_items t seed s) new
  acted_reads after old new same h =
      let told = rw same at h.1.0 in
      let read = subst (λ (is : List Stream). Reads old (items_of t seed (move_prog s s.remaining is)) new) same h.1.1 in
      subst (λ is. Reads old is new) (sym (step_goes_items (h.0, new.streams) told)) read

  -- where none was made, it is told why, and nothing changed
  pub halted_told :
      {E : Type 0} (halt : Halt) (result : Result Turn E) (after : Machine) (old new : Noted) → old.streams ≡ s.streams →
      Acts t seed (move_prog s s.remaining) (Err halt) s after old new → Halts halt result →
      IfOk result (λ turn. Steps (step t seed s) turn s after)
  halted_told (halts.End end) (Ok turn) after old new same h told =
      let F : Turn → Type 0 = λ u. Steps (step t seed s) u s after in
      subst F (sym told) (foretold (Err (halts.End end)) old new same h.0, h.1)
  halted_told (halts.End end) (Err error) after old new same h told = absurd told
  halted_told halts.Memory (Ok turn) after old new same h told = absurd told
  halted_told halts.Memory (Err error) after old new same h told = tt

pub goes_on : (r : Result Machine End) (s : Machine) → r ≡ Ok s → EndsAs r None
goes_on (Ok u) s is = refl
goes_on (Err end) s is = absurd cc

pub ends_as : (r : Result Machine End) (end : End) → r ≡ Err end → EndsAs r (Some end)
ends_as (Ok u) end is = absurd cc
ends_as (Err e) end is = let same : end ≡ e = cc in ap (λ x. Some x) same
