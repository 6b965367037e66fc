-- A step by what there is to do; and so when a run ends.
use Rattle.std.proofs.Common.{◌≡◌, ℕ, zero, suc, ◌≤◌, ◌<◌, min, ◌⊎◌, nat_le, false, List, [], ◌∷◌, Option, Some, None, Result, Ok, Err, refl, ap, sym, subst, ◌∙◌, arith, inl, inr}
use Rattle.std.specs.Prelude.{All, Any}
use Rattle.std.specs.List.{AllByRecursion}
use Rattle.std.proofs.lemmas.Bool.{cases_lt}
use Rattle.std.proofs.lemmas.Bool.Decides.{nat_tests}
use Rattle.std.proofs.lemmas.List.Elements.{All-from_recursion}
use Rattle.gw_streams.specs.declared.stream.Stream.{Stream}
use Rattle.gw_expr.specs.declared.halt.End.{End}
use Rattle.gw_expr.specs.declared.halt.End.TheVariants as ends
use Rattle.gw_meaning.specs.declared.moves.Move.{Move}
use Rattle.gw_meaning.specs.declared.transaction.Event.{Event}
use Rattle.gw_meaning.specs.Listing.{Listing}
use Rattle.gw_meaning.specs.Machine.{Machine}
use Rattle.gw_meaning.specs.Changes.{decided}
use Rattle.gw_meaning.specs.Questions.{Prog, Gives, result_of}
use Rattle.gw_meaning.specs.Step.{command_prog, sooner, least_time, within_prog, clock_prog, pick_prog, scan_prog, move_prog, decide, step, step_prog, run, run_prog}
use Rattle.gw_meaning.proofs.Programs.{bind_gives, bind_ends, run_on}
use Rattle.gw_laws.specs.Ends.{IsDone, IsDry, IsBeyond, EndsDone, EndsDry, EndsAtHorizon, IsMoving, IsPriming, ErrorsAreOfAttempts, EndsBehindALastState, EndsForGood}
use Rattle.gw_laws.proofs.ClockLaws.{AreAhead, never_none, least_is_least}
use Rattle.gw_frame.proofs.Known.{IsEnd}
use Rattle.gw_frame.proofs.Decided.{step_decides, step_ends}

-- ---- least times

pub none_there : (es : List Event) → least_time es ≡ None → es ≡ []
none_there [] is = refl
none_there (e ∷ es) is = absurd (never_none e.time (least_time es) is)

-- the least time is that of some
pub least_is_there : (es : List Event) (time : ℕ) → least_time es ≡ Some time → Any (λ (e : Event). e.time ≡ time) es
least_is_there [] time is = absurd cc
least_is_there (e ∷ es) time is = go (least_time es) refl is (least_is_there es) where
  first : e.time ≡ time → Any (λ (e : Event). e.time ≡ time) (e ∷ es)
  first same = (0, e, omega arith, refl, same)

  go : (o : Option ℕ) → least_time es ≡ o → sooner e.time o ≡ Some time →
      ((other : ℕ) → least_time es ≡ Some other → Any (λ (e : Event). e.time ≡ other) es) → Any (λ (e : Event). e.time ≡ time) (e ∷ es)
  go None rest is later = first cc
  go (Some other) rest is later =
      let same : min e.time other ≡ time = cc in
      elim (cases_lt other e.time) [
        | inl less ↦
            let a = later other rest in
            let last : other ≡ time = omega (arith, less, same) in
            (suc a.0, a.1, omega (arith, a.2), a.3, a.4 ∙ last)
        | inr more ↦ first (omega (arith, more, same))
      ]

-- of two properties, one of each and one of some, some have both
pub both_of : {X : Type 0} (P Q : X → Type 0) (xs : List X) → All P xs → Any Q xs → (x : X) × P x × Q x
both_of P Q xs all any = (any.1, subst P any.3 (all any.0 any.1 any.2), any.4)

all_above : (horizon time : ℕ) (es : List Event) → horizon < time → AreAhead time es → AllByRecursion (λ (e : Event). horizon < e.time) es
all_above horizon time [] less h = tt
all_above horizon time (e ∷ es) less h = (omega (arith, less, h.0), all_above horizon time es less h.1)

beyond : (time horizon : ℕ) → nat_le time horizon ≡ false → horizon < time
beyond time horizon h = grind (arith, nat_tests)

not_within : (time horizon : ℕ) → horizon < time → nat_le time horizon ≡ false
not_within time horizon h = grind (arith, nat_tests)

-- ---- a step by what there is to do

module _ (t : Listing) (seed : ℕ) (s : Machine) where
  abbrev made : Move × List Stream → Prog Machine
  made d = Gives (decided s d.0 d.1)

  -- a step goes, or ends, as its decision does
  pub goes_on : (d : Move × List Stream) → result_of t seed (decide s) ≡ Ok d → step t seed s ≡ Ok (decided s d.0 d.1)
  goes_on d is = (bind_gives t seed (decide s) made d is).0

  comes_to_end : (end : End) → result_of t seed (decide s) ≡ Err end → step t seed s ≡ Err end
  comes_to_end end is = (bind_ends t seed (decide s) made end is).0

  pub went_on : (v : Machine) → step t seed s ≡ Ok v → (d : Move × List Stream) × (result_of t seed (decide s) ≡ Ok d) × (v ≡ decided s d.0 d.1)
  went_on v is = let after = (step_decides t seed s v is).0 in ((after.move, after.streams), after.goes, after.is)

  -- where no START is under way, it is a command; else the scan, which picks where none is active
  at_command : s.remaining ≡ 0 → decide s ≡ move_prog s 0 s.streams
  at_command idle = ap (λ n. move_prog s n s.streams) idle

  at_scan : 1 ≤ s.remaining → decide s ≡ scan_prog s s.active s.streams
  at_scan started = go s.remaining started where
    go : (n : ℕ) → 1 ≤ n → move_prog s n s.streams ≡ scan_prog s s.active s.streams
    go zero less = absurd (omega (arith, less))
    go (suc n) less = refl

  pub at_pick : 1 ≤ s.remaining → s.active ≡ None → decide s ≡ pick_prog s s.current s.streams
  at_pick started none = at_scan started ∙ ap (λ a. scan_prog s a s.streams) none

  pub at_clock : 1 ≤ s.remaining → s.active ≡ None → s.current ≡ [] → decide s ≡ clock_prog (least_time s.future) s.streams
  at_clock started none empty = at_pick started none ∙ ap (λ chain. pick_prog s chain s.streams) empty

  -- ---- why it ends

  abbrev Why : End → Type 0
  Why ends.CommandsDone = IsDone t s
  Why ends.Dry = IsDry s
  Why ends.Horizon = IsBeyond t s
  Why (ends.Error stop) = IsMoving s ⊎ IsPriming t s

  by_end : (end : End) → IsEnd t s end → Why end
  by_end ends.CommandsDone h = record { idle = h.0; last = h.1 }
  by_end ends.Dry h =
      record { started = h.0.started; active = h.0.active; current = h.0.current; future = none_there s.future h.1 }
  by_end ends.Horizon h = record {
    started = h.0.started;
    active = h.0.active;
    current = h.0.current;
    some = λ no. (let gone : Some h.1 ≡ None = sym h.2 ∙ ap least_time no in absurd cc);
    above = All-from_recursion (λ (e : Event). t.horizon < e.time) s.future
        (all_above t.horizon h.1 s.future (beyond h.1 t.horizon h.3) (least_is_least s.future h.1 h.2));
  }
  by_end (ends.Error stop) (inl h) = inl (record { started = h.0; who = h.1; active = h.2 })
  by_end (ends.Error stop) (inr h) = inr (record { idle = h.2.idle; unprimed = h.1; count = h.0; next = h.2.next })

  why : (end : End) → step t seed s ≡ Err end → Why end
  why end is = by_end end (step_ends t seed s end is)

  -- ---- and that it does

  result_at : (p : Prog (Move × List Stream)) → decide s ≡ p → (end : End) → result_of t seed p ≡ Err end → step t seed s ≡ Err end
  result_at p is end there = comes_to_end end (ap (λ q. result_of t seed q) is ∙ there)

  done_ends : IsDone t s → step t seed s ≡ Err ends.CommandsDone
  done_ends h =
      result_at (move_prog s 0 s.streams) (at_command h.idle) ends.CommandsDone (ap (λ c. result_of t seed (command_prog s c s.streams)) h.last)

  dry_ends : IsDry s → step t seed s ≡ Err ends.Dry
  dry_ends h =
      result_at (clock_prog (least_time s.future) s.streams) (at_clock h.started h.active h.current) ends.Dry
      (ap (λ es. result_of t seed (clock_prog (least_time es) s.streams)) h.future)

  beyond_ends : IsBeyond t s → step t seed s ≡ Err ends.Horizon
  beyond_ends h =
      result_at (clock_prog (least_time s.future) s.streams) (at_clock h.started h.active h.current) ends.Horizon (go (least_time s.future) refl)
    where
      go : (time : Option ℕ) → least_time s.future ≡ time → result_of t seed (clock_prog time s.streams) ≡ Err ends.Horizon
      go None least = absurd (h.some (none_there s.future least))
      go (Some time) least =
          let one = both_of (λ (e : Event). t.horizon < e.time) (λ (e : Event). e.time ≡ time) s.future h.above (least_is_there s.future time least) in
          let above = one.1 in
          let same = one.2 in
          ap (λ b. result_of t seed (within_prog time b s.streams)) (not_within time t.horizon (omega (arith, above, same)))

-- ---- of a run

pub ends_behind_a_last_state : EndsBehindALastState
ends_behind_a_last_state t seed zero end is = absurd cc
ends_behind_a_last_state t seed (suc n) end is = go (run t seed n) refl (λ e there. ends_behind_a_last_state t seed n e there) where
  go : (r : Result Machine End) → run t seed n ≡ r →
      ((e : End) → run t seed n ≡ Err e → (m : ℕ) × (s : Machine) × (m < n) × (run t seed m ≡ Ok s) × (step t seed s ≡ Err e)) →
      (m : ℕ) × (s : Machine) × (m < suc n) × (run t seed m ≡ Ok s) × (step t seed s ≡ Err end)
  go (Ok s) there before = (n, s, omega arith, there, sym (run_on t seed n s there) ∙ is)
  go (Err e) there before =
      let on : run t seed (suc n) ≡ Err e = (bind_ends t seed (run_prog n) step_prog e there).0 in
      let both : Err e ≡ Err end = sym on ∙ is in
      let same : e ≡ end = cc in
      let h = before end (there ∙ ap (λ x. Err x) same) in
      (h.0, h.1, omega (arith, h.2), h.3, h.4)

pub ends_for_good : EndsForGood
ends_for_good t seed m zero end less is =
    let same : m ≡ zero = omega arith in ap (run t seed) (sym same) ∙ is
ends_for_good t seed m (suc n) end less is =
    elim (cases_lt n m) [
      | inl late ↦ let same : suc n ≡ m = omega arith in ap (run t seed) same ∙ is
      | inr before ↦ (bind_ends t seed (run_prog n) step_prog end (ends_for_good t seed m n end before is)).0
    ]

pub ends_done : EndsDone
ends_done t seed s = (why t seed s ends.CommandsDone, done_ends t seed s)

pub ends_dry : EndsDry
ends_dry t seed s = (why t seed s ends.Dry, dry_ends t seed s)

pub ends_at_horizon : EndsAtHorizon
ends_at_horizon t seed s = (why t seed s ends.Horizon, beyond_ends t seed s)

pub errors_are_of_attempts : ErrorsAreOfAttempts
errors_are_of_attempts t seed s stop is = why t seed s (ends.Error stop) is
