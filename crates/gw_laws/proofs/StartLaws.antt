-- The STARTs that are complete and the one under way, move by move and over a run.
use Rattle.std.proofs.Common.{◌≡◌, ℕ, zero, suc, ◌+◌, ◌-◌, ◌≤◌, nat_lt, false, List, [], ◌∷◌, ◌++◌, Option, Some, None, Ok, refl, ap, sym, subst, ◌∙◌, arith, inl, inr, take, filter, filter_map, length, slice_get, get_or}
use Rattle.std.specs.List.{cons_option}
use Rattle.std.proofs.lemmas.Bool.{cases_Bool}
use Rattle.std.proofs.lemmas.Bool.Decides.{nat_tests}
use Rattle.std.proofs.lemmas.List.Filters.{length-filter_more}
use Rattle.std.proofs.lemmas.Option.{slice_get_within, get_or_from_slice_get}
use Rattle.gw_meaning.specs.declared.transaction.Transaction.{Transaction}
use Rattle.gw_meaning.specs.declared.statement.Command.{Command}
use Rattle.gw_meaning.specs.declared.statement.Command.TheVariants as commands
use Rattle.gw_meaning.specs.declared.statement.Numbered.{Numbered}
use Rattle.gw_meaning.specs.declared.moves.Change.{Change}
use Rattle.gw_meaning.specs.declared.moves.Fate.{Fate}
use Rattle.gw_meaning.specs.declared.moves.Fate.TheVariants as fates
use Rattle.gw_meaning.specs.declared.moves.Move.{Move}
use Rattle.gw_meaning.specs.declared.moves.Move.TheVariants as moves
use Rattle.gw_meaning.specs.Listing.{Listing, command_of, command_at, is_start}
use Rattle.gw_meaning.specs.Machine.{Machine, raised}
use Rattle.gw_meaning.specs.Changes.{placed, marked, fated, let_in, entering, refused, moved, watching}
use Rattle.gw_meaning.specs.Step.{run}
use Rattle.gw_model.specs.Well.{Well}
use Rattle.gw_frame.proofs.Moves.{settled, LetsIn, with_active_has, picked_has}
use Rattle.gw_laws.specs.Starts.{starts_among, under_way, StartsHaveCounts, StartsAreDoneInOrder, NoMoreStartsThanThereAre}
use Rattle.gw_laws.proofs.Crowd.{one}
use Rattle.gw_laws.proofs.Tried.{changed_keeps, over_moves}
use Rattle.gw_frame.proofs.Known.{IsStep}
use Rattle.gw_laws.proofs.Waiting.{leaving}

-- the first so many of a list, and one more
few_commands : (lines : List Numbered) → length (filter_map command_of lines) ≤ length lines
few_commands [] = omega arith
few_commands (line ∷ lines) = go (command_of line) (few_commands lines) where
  go : (o : Option Command) → length (filter_map command_of lines) ≤ length lines →
      length (cons_option o (filter_map command_of lines)) ≤ length (line ∷ lines)
  go None rest = omega arith
  go (Some c) rest = omega arith

few_among : (cs : List Command) (n : ℕ) → length (filter is_start (take n cs)) ≤ length (filter is_start cs)
few_among cs zero = omega arith
few_among [] (suc n) = omega arith
few_among (c ∷ cs) (suc n) =
    let rest = few_among cs n in
    elim (cases_Bool (is_start c)) [ inl is ↦ rw is (omega arith) | inr other ↦ rw other rest ]

few_in : (cs : List Command) → length (filter is_start cs) ≤ length cs
few_in [] = omega arith
few_in (c ∷ cs) =
    let rest = few_in cs in
    elim (cases_Bool (is_start c)) [ inl is ↦ rw is (omega arith) | inr other ↦ rw other (omega arith) ]

abbrev commands_of : Listing → List Command
commands_of t = filter_map command_of t.lines

-- so many commands are done, so many STARTs complete, and so much remains; those with no count are skipped
record AreDone (t : Listing) (done complete remaining : ℕ) : Type 0 where
  few : done ≤ length (commands_of t)
  skipped : ℕ
  sum : complete + under_way remaining + skipped ≡ starts_among t done
  none : StartsHaveCounts t → skipped ≡ 0

module _ (t : Listing) (well : Well t) where
  abbrev Done : Machine → Type 0
  Done s = AreDone t s.commands s.complete s.remaining

  few_lines : length (commands_of t) ≤ 2000
  few_lines = let few = few_commands t.lines in let most = well.statements in omega arith

  -- the next command
  record IsThere (done : ℕ) (c : Command) : Type 0 where
    next : raised done ≡ suc done
    few : suc done ≤ length (commands_of t)
    starts : starts_among t (suc done) ≡ starts_among t done + one (is_start c)

  next_there : (done : ℕ) (c : Command) → done ≤ length (commands_of t) → command_at t (raised done) ≡ Some c → IsThere done c
  next_there done c few is =
      let most = few_lines in
      let next : raised done ≡ suc done = omega arith in
      let at' : slice_get (commands_of t) done ≡ Some c = sym (ap (λ i. command_at t i) next) ∙ is in
      let within = slice_get_within (commands_of t) done c at' in
      let more = length-filter_more is_start (commands_of t) done c within in
      let same = get_or_from_slice_get (commands_of t) done c c at' in
      let is_same : one (is_start (get_or (commands_of t) done c)) ≡ one (is_start c) = ap (λ d. one (is_start d)) same in
      let plus : suc done ≡ done + 1 = omega arith in
      let length' : starts_among t (suc done) ≡ starts_among t (done + 1) = ap (λ i. starts_among t i) plus in
      record { next = next; few = omega arith; starts = length' ∙ (more ∙ ap (λ n. starts_among t done + n) is_same) }

  -- a START
  start_done : (s : Machine) (count : ℕ) → s.remaining ≡ 0 → command_at t (raised s.commands) ≡ Some (commands.Start count) → Done s →
      AreDone t (raised s.commands) s.complete count
  start_done s count idle is h = go count refl where
    there : IsThere s.commands (commands.Start count)
    there = next_there s.commands (commands.Start count) h.few is

    before : s.complete + h.skipped ≡ starts_among t s.commands
    before = let sum = h.sum in let none : under_way s.remaining ≡ 0 = ap under_way idle in omega arith

    go : (n : ℕ) → count ≡ n → AreDone t (raised s.commands) s.complete n
    go zero same = rw there.next (record {
      few = there.few;
      skipped = h.skipped + 1;
      sum = let sum = before in let more = there.starts in omega arith;
      none = λ all. absurd (let some = all (raised s.commands) count is in omega arith);
    })
    go (suc n) same = rw there.next (record {
      few = there.few;
      skipped = h.skipped;
      sum = let sum = before in let more = there.starts in omega arith;
      none = h.none;
    })

  -- a command that is no START
  other_done : (s : Machine) (c : Command) → command_at t (raised s.commands) ≡ Some c → is_start c ≡ false → Done s →
      AreDone t (raised s.commands) s.complete s.remaining
  other_done s c is other h =
      let there = next_there s.commands c h.few is in
      let no_more : one (is_start c) ≡ 0 = ap one other in
      rw there.next (record {
        few = there.few;
        skipped = h.skipped;
        sum = let sum = h.sum in let more = there.starts in omega (arith, sum, more, no_more);
        none = h.none;
      })

  -- a CLEAR, after which no START is under way, as before it
  cleared_done : (s : Machine) → s.remaining ≡ 0 → command_at t (raised s.commands) ≡ Some commands.Clear → Done s →
      AreDone t (raised s.commands) s.complete 0
  cleared_done s idle is h = subst (AreDone t (raised s.commands) s.complete) idle (other_done s commands.Clear is refl h)

  -- one more is complete where nothing remains
  some_under_way : (n : ℕ) → 1 ≤ n → under_way n ≡ 1
  some_under_way zero some = absurd (omega (arith, some))
  some_under_way (suc n) some = refl

  fated_done : (fate : Fate) (x : Transaction) (v : Machine) → under_way v.remaining ≡ 1 → Done v → Done (fated fate x v)
  fated_done (fates.Destroyed count) x v some h =
      elim (cases_Bool (nat_lt count v.remaining)) [
        | inl less ↦ rw less (record {
          few = h.few;
          skipped = h.skipped;
          sum = let sum = h.sum in let still = some_under_way (v.remaining - count) (grind (arith, nat_tests)) in omega arith;
          none = h.none;
        })
        | inr not' ↦ rw not' (record {
          few = h.few;
          skipped = h.skipped;
          sum =
              let sum = h.sum in
              let gone : v.remaining - count ≡ 0 = grind (arith, nat_tests) in
              let none : under_way (v.remaining - count) ≡ 0 = ap under_way gone in
              let among = few_among (commands_of t) v.commands in
              let few = few_in (commands_of t) in
              let most = few_lines in
              let next : raised v.complete ≡ suc v.complete = omega arith in
              omega arith;
          none = h.none;
        })
      ]
  fated_done fate x v some h = h

  lets_done : LetsIn Done
  lets_done w key x passed xs is h = go x.destination where
    go : (to : Option ℕ) → Done (let_in x to (leaving w key (passed ++ xs)))
    go None = h
    go (Some id) = h

  entered_done : (s : Machine) (id : ℕ) (change : Change) (fate : Fate) → under_way s.remaining ≡ 1 → Done s → Done (moved s (moves.Enter id change fate))
  entered_done s id change fate some h =
      with_active_has Done s.active (λ x. entering s x id change fate) s h
      (λ x is. changed_keeps Done change (settled s x id change fate)
      (record { makes = λ a w k. k; lets = lets_done; copies = λ w to y values k. k; unlinks = λ w key to y ys there k. k })
      (fated_done fate (marked change s.clock (placed x id)) _ some h))

  moved_done : (seed : ℕ) (s : Machine) (m : Move) → IsStep t seed s m → Done s → Done (moved s m)
  moved_done seed s (moves.Start count arrivals) step h = start_done s count step.0.idle step.0.next h
  moved_done seed s moves.Command step h = other_done s (commands.Rmult step.0) step.1.next refl h
  moved_done seed s moves.Reset step h = other_done s commands.Reset step.next refl h
  moved_done seed s moves.Clear step h = cleared_done s step.idle step.next h
  moved_done seed s (moves.Enter id change fate) step h = entered_done s id change fate (some_under_way s.remaining step.0) h
  moved_done seed s (moves.Refuse id key units) step h =
      with_active_has Done s.active (λ x. refused s x id key units) s h (λ x is. h)
  moved_done seed s (moves.Watch read) step h = with_active_has Done s.active (λ x. watching s x read) s h (λ x is. h)
  moved_done seed s moves.Pick step h = picked_has Done s s.current h (λ x xs is. h)
  moved_done seed s (moves.Clock time) step h = h

-- over a run
all_done : (t : Listing) (seed : ℕ) (well : Well t) (n : ℕ) (s : Machine) → run t seed n ≡ Ok s → AreDone t s.commands s.complete s.remaining
all_done t seed well =
    over_moves t seed (λ s. AreDone t s.commands s.complete s.remaining)
    (record { few = omega arith; skipped = 0; sum = refl; none = λ all. refl })
    (λ s m streams step h. moved_done t well seed s m step h)

pub starts_are_done_in_order : StartsAreDoneInOrder
starts_are_done_in_order t seed n s well counts is =
    let h = all_done t seed well n s is in
    let sum = h.sum in
    let none = h.none counts in
    omega arith

pub no_more_starts_than_there_are : NoMoreStartsThanThereAre
no_more_starts_than_there_are t seed n s well is =
    let h = all_done t seed well n s is in
    let sum = h.sum in
    let among = few_among (commands_of t) s.commands in
    omega arith
