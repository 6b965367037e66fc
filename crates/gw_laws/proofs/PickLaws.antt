-- Where a START is under way, the first of the current chain is picked, and where there is none, the clock moves on.
use Rattle.std.proofs.Common.{◌≡◌, ℕ, ◌≤◌, ◌<◌, nat_le, true, List, [], ◌∷◌, ◌++◌, Option, Some, None, Ok, refl, ap, sym, subst, ◌∙◌, arith}
use Rattle.std.specs.Prelude.{Any}
use Rattle.std.proofs.lemmas.Bool.{le-leb}
use Rattle.std.proofs.lemmas.List.Elements.{All-from_recursion}
use Rattle.gw_meaning.specs.declared.moves.Change.{Change}
use Rattle.gw_meaning.specs.declared.moves.Fate.{Fate}
use Rattle.gw_meaning.specs.declared.moves.Move.{Move}
use Rattle.gw_meaning.specs.declared.moves.Move.TheVariants as moves
use Rattle.gw_meaning.specs.declared.transaction.Transaction.{Transaction}
use Rattle.gw_meaning.specs.declared.transaction.Event.{Event}
use Rattle.gw_meaning.specs.Listing.{Listing}
use Rattle.gw_meaning.specs.Machine.{Machine}
use Rattle.gw_meaning.specs.Changes.{entering, refused, picked, moved, decided, watching}
use Rattle.gw_meaning.specs.Questions.{result_of}
use Rattle.gw_meaning.specs.Step.{least_time, within_prog, clock_prog, pick_prog, step}
use Rattle.gw_meaning.proofs.Programs.{run_on}
use Rattle.gw_frame.proofs.Moves.{settled, settled_is, with_active_has}
use Rattle.gw_laws.specs.Chain.{TheFirstIsPicked}
use Rattle.gw_laws.specs.Clock.{IsLeast, ClockMovesOnlyWhenItMust, ClockMovesWhenItMust}
use Rattle.gw_laws.proofs.Waiting.{let_in_is}
use Rattle.gw_laws.proofs.Tried.{changed_keeps}
use Rattle.gw_laws.proofs.ClockLaws.{least_is_least}
use Rattle.gw_frame.proofs.Known.{IsStep}
use Rattle.gw_frame.proofs.Decided.{step_decides}
use Rattle.gw_laws.proofs.EndLaws.{none_there, least_is_there, both_of, goes_on, at_pick, at_clock}
use Rattle.gw_laws.proofs.Waking.{nobody_wakes}

-- ---- the clock stands, but in its own move

entering_clock : (s : Machine) (x : Transaction) (id : ℕ) (change : Change) (fate : Fate) → (entering s x id change fate).clock ≡ s.clock
entering_clock s x id change fate =
    changed_keeps (λ v. v.clock ≡ s.clock) change (settled s x id change fate)
    (record {
      makes = λ a w k. k;
      lets = λ w key y passed ys is k. (let_in_is key y (passed ++ ys) w).clock ∙ k;
      copies = λ w to y values k. k;
      unlinks = λ w key to y ys is k. k;
    })
    (settled_is s x id change fate).clock

abbrev Stands : Machine → Machine → Type 0
Stands s v = v.clock ≡ s.clock

picked_stands : (s : Machine) (chain : List Transaction) → Stands s (picked s chain)
picked_stands s [] = refl
picked_stands s (x ∷ xs) = refl

-- ---- when the clock moves on

module _ (t : Listing) (seed : ℕ) (s : Machine) where
  -- where it moves on, it had to
  abbrev HadTo : Move → Type 0
  HadTo m = let v = moved s m in s.clock < v.clock → (1 ≤ s.remaining) × (s.active ≡ None) × (s.current ≡ []) × IsLeast v.clock s.future

  stood : (m : Move) → Stands s (moved s m) → HadTo m
  stood m same = λ less. absurd (omega (arith, less, same))

  moved_had : (m : Move) → IsStep t seed s m → HadTo m
  moved_had (moves.Start count arrivals) step = stood (moves.Start count arrivals) refl
  moved_had moves.Command step = stood moves.Command refl
  moved_had moves.Reset step = stood moves.Reset refl
  moved_had moves.Clear step = λ less. absurd (omega (arith, less))
  moved_had (moves.Enter id change fate) step =
      stood (moves.Enter id change fate)
      (with_active_has (Stands s) s.active (λ x. entering s x id change fate) s refl (λ x is. entering_clock s x id change fate))
  moved_had (moves.Refuse id key units) step =
      stood (moves.Refuse id key units) (with_active_has (Stands s) s.active (λ x. refused s x id key units) s refl (λ x is. refl))
  moved_had (moves.Watch read) step =
      stood (moves.Watch read) (with_active_has (Stands s) s.active (λ x. watching s x read) s refl (λ x is. refl))
  moved_had moves.Pick step = stood moves.Pick (picked_stands s s.current)
  moved_had (moves.Clock time) step = λ less. (
    step.0.started,
    step.0.active,
    step.0.current,
    (All-from_recursion (λ (e : Event). time ≤ e.time) s.future (least_is_least s.future time step.1), least_is_there s.future time step.1),
  )

  had_to : (v : Machine) → step t seed s ≡ Ok v → s.clock < v.clock → (1 ≤ s.remaining) × (s.active ≡ None) × (s.current ≡ []) × IsLeast v.clock s.future
  had_to v is =
      let after = (step_decides t seed s v is).0 in
      let P : Machine → Type 0 = λ w. s.clock < w.clock → (1 ≤ s.remaining) × (s.active ≡ None) × (s.current ≡ []) × IsLeast w.clock s.future in
      subst P (sym after.is) (moved_had after.move after.is_step)

  -- ---- where it has to, it moves on, or one is picked

  -- a time that is the least is the one that is found
  least_found : (time : ℕ) → IsLeast time s.future → least_time s.future ≡ Some time
  least_found time least = go (least_time s.future) refl where
    go : (o : Option ℕ) → least_time s.future ≡ o → o ≡ Some time
    go None is = absurd (let none = none_there s.future is in no_any s.future none least.1) where
      no_any : (es : List Event) → es ≡ [] → Any (λ (e : Event). e.time ≡ time) es → ⊥
      no_any [] is any = absurd (omega (arith, any.2))
      no_any (e ∷ es) is any = absurd cc
    go (Some other) is =
        let ahead = All-from_recursion (λ (e : Event). other ≤ e.time) s.future (least_is_least s.future other is) in
        let low = both_of (λ (e : Event). other ≤ e.time) (λ (e : Event). e.time ≡ time) s.future ahead least.1 in
        let high = both_of (λ (e : Event). time ≤ e.time) (λ (e : Event). e.time ≡ other) s.future least.0 (least_is_there s.future other is) in
        let a = low.1 in
        let b = low.2 in
        let c = high.1 in
        let d = high.2 in
        let same : other ≡ time = omega (arith, a, b, c, d) in
        ap (λ n. Some n) same

  moves_to : (time : ℕ) → 1 ≤ s.remaining → s.active ≡ None → s.current ≡ [] → IsLeast time s.future → time ≤ t.horizon →
      step t seed s ≡ Ok (decided s (moves.Clock time) s.streams)
  moves_to time started none empty least within =
      let found : clock_prog (least_time s.future) s.streams ≡ clock_prog (Some time) s.streams =
      ap (λ o. clock_prog o s.streams) (least_found time least) in
      let test : nat_le time t.horizon ≡ true = le-leb time t.horizon within in
      goes_on t seed s (moves.Clock time, s.streams)
      (ap (λ p. result_of t seed p) (at_clock t seed s started none empty ∙ found)
      ∙ ap (λ b. result_of t seed (within_prog time b s.streams)) test)

  picks : (x : Transaction) (xs : List Transaction) → 1 ≤ s.remaining → s.active ≡ None → s.current ≡ x ∷ xs →
      step t seed s ≡ Ok (record s { active = Some x; current = xs })
  picks x xs started none chain =
      let found : pick_prog s s.current s.streams ≡ pick_prog s (x ∷ xs) s.streams = ap (λ ys. pick_prog s ys s.streams) chain in
      let picks : step t seed s ≡ Ok (decided s moves.Pick s.streams) =
      goes_on t seed s (moves.Pick, s.streams) (ap (λ p. result_of t seed p) (at_pick t seed s started none ∙ found)) in
      picks
      ∙ (ap (λ (v : Machine). let w : Machine = record v { streams = s.streams } in Ok w) (nobody_wakes (picked s s.current))
      ∙ ap (λ ys. Ok (record (picked s ys) { streams = s.streams })) chain)

pub clock_moves_only_when_it_must : ClockMovesOnlyWhenItMust
clock_moves_only_when_it_must t seed n s v there is = had_to t seed s v (sym (run_on t seed n s there) ∙ is)

pub clock_moves_when_it_must : ClockMovesWhenItMust
clock_moves_when_it_must t seed s time started none empty least within =
    (decided s (moves.Clock time) s.streams, moves_to t seed s time started none empty least within, refl)

pub the_first_is_picked : TheFirstIsPicked
the_first_is_picked t seed s x xs started none chain = picks t seed s x xs started none chain
