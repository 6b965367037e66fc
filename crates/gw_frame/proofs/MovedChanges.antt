-- What a moved move does to a moved state is what the move does to the state, moved.
use Rattle.std.proofs.Common.{◌≡◌, ℕ, zero, suc, ℤ, List, [], ◌∷◌, ◌++◌, map, Option, Some, None, option_map, refl, ap, ap₂, sym, ◌∙◌}
use Rattle.std.proofs.lemmas.List.{map-append}
use Rattle.gw_meaning.specs.declared.transaction.Transaction.{Transaction}
use Rattle.gw_names.specs.declared.key.Key.{Key}
use Rattle.gw_meaning.specs.Tables.{with_value}
use Rattle.gw_meaning.specs.Parameters.{Held, values_at}
use Rattle.gw_meaning.specs.declared.entity_change.Update.{Update}
use Rattle.gw_meaning.specs.declared.moves.Arrival.{Arrival}
use Rattle.gw_meaning.specs.declared.transaction.Count.{Count}
use Rattle.gw_streams.specs.declared.stream.Stream.{Stream}
use Rattle.gw_meaning.specs.declared.moves.Change.{Change}
use Rattle.gw_meaning.specs.declared.moves.Change.TheVariants as changes
use Rattle.gw_meaning.specs.declared.transaction_change.TransactionChange.{TransactionChange}
use Rattle.gw_meaning.specs.declared.transaction_change.TransactionChange.TheVariants as own
use Rattle.gw_meaning.specs.declared.moves.Fate.{Fate}
use Rattle.gw_meaning.specs.declared.moves.Fate.TheVariants as fates
use Rattle.gw_meaning.specs.declared.moves.Move.{Move}
use Rattle.gw_meaning.specs.declared.moves.Move.TheVariants as moves
use Rattle.gw_meaning.specs.declared.watched.Watched.{Watched}
use Rattle.gw_meaning.specs.declared.watched.Watched.TheVariants as watched
use Rattle.gw_meaning.specs.Watching.{kind_of}
use Rattle.gw_meaning.specs.Entities.{Entities, touched}
use Rattle.gw_meaning.specs.Machine.{Machine, UserChain, raised, delay_at, user_chain_at}
use Rattle.gw_meaning.specs.Changes.{crossed, due, Making, making, made, maybe_made, all_made, making_of, with_making, newcomer, placed, started, arrived, lined_up, own_marked, marked, own_held, held_by, linked_to, fated, let_in, one_let_in, some_let_in, update_grants, admitted, copied, one_copied, all_copied, sent, one_unlinked, some_unlinked, changed, entering, bound, refused, watching, picked, advanced, count_anew, user_chain_anew, reset, with_active, moved, crossings, written_by, written_in, written_where, written, woken, decided}
use Rattle.gw_frame.specs.Moved.{IsMove, moved_transaction, moved_event, moved_count, moved_watched, moved_waiter, moved_linked, moved_machine}
use Rattle.gw_frame.proofs.MovedLists.{made_one_moved, stood_moved, crossed_moved, lined_up_moved, all_lined_up_moved, due_moved, later_moved}
use Rattle.gw_frame.proofs.Delays.{delay_at_moved, with_delay_moved}
use Rattle.gw_frame.proofs.UserChains.{user_chain_moved, linked_to_moved, with_chain_moved, with_members_moved}
use Rattle.gw_frame.proofs.MovedWaiters.{crossings_moved, woken_moved}

module _ (move : ℕ → ℕ) where
  -- what is to be made, what a block changes, and a move, with their ids moved
  abbrev pub moved_arrival : Arrival → Arrival
  moved_arrival a = record a { id = move a.id }

  abbrev pub moved_own : TransactionChange → TransactionChange
  moved_own (own.Transfer to) = own.Transfer (move to)
  moved_own (own.Loop key left to) = own.Loop key left (move to)
  moved_own change = change

  abbrev pub moved_change : Change → Change
  moved_change (changes.Generate next) = changes.Generate (option_map moved_arrival next)
  moved_change (changes.Transaction change) = changes.Transaction (moved_own change)
  moved_change (changes.Split count to) = changes.Split count (option_map move to)
  moved_change (changes.Unlink key count to) = changes.Unlink key count (option_map move to)
  moved_change change = change

  abbrev pub moved_move : Move → Move
  moved_move (moves.Start count arrivals) = moves.Start count (map moved_arrival arrivals)
  moved_move moves.Command = moves.Command
  moved_move moves.Reset = moves.Reset
  moved_move moves.Clear = moves.Clear
  moved_move (moves.Enter id change fate) = moves.Enter (move id) (moved_change change) fate
  moved_move (moves.Refuse id key units) = moves.Refuse (move id) key units
  moved_move (moves.Watch read) = moves.Watch (map (moved_watched move) read)
  moved_move moves.Pick = moves.Pick
  moved_move (moves.Clock time) = moves.Clock time

  abbrev moved_making : Making → Making
  moved_making w = making w.next (map (moved_event move) w.future) (map (moved_count move) w.counts)

module _ (move : ℕ → ℕ) (is : IsMove move) where
  newcomer_moved : (number : ℕ) (a : Arrival) → newcomer number (moved_arrival move a) ≡ moved_event move (newcomer number a)
  newcomer_moved number a = rw is.none refl

  made_moved : (a : Arrival) (w : Making) → made (moved_arrival move a) (moved_making move w) ≡ moved_making move (made a w)
  made_moved a w =
      ap₂ (making (raised w.next))
      (ap (λ e. map (moved_event move) w.future ++ e ∷ []) (newcomer_moved w.next a) ∙ sym (map-append (moved_event move) w.future (newcomer w.next a ∷ [])))
      (made_one_moved move is w.counts a.id)

  maybe_made_moved : (next : Option Arrival) (w : Making) →
      maybe_made (option_map (moved_arrival move) next) (moved_making move w) ≡ moved_making move (maybe_made next w)
  maybe_made_moved None w = refl
  maybe_made_moved (Some a) w = made_moved a w

  all_made_moved : (arrivals : List Arrival) (w : Making) →
      all_made (map (moved_arrival move) arrivals) (moved_making move w) ≡ moved_making move (all_made arrivals w)
  all_made_moved [] w = refl
  all_made_moved (a ∷ rest) w = ap (all_made (map (moved_arrival move) rest)) (made_moved a w) ∙ all_made_moved rest (made a w)

  started_moved : (s : Machine) (count : ℕ) (arrivals : List Arrival) →
      moved (moved_machine move s) (moved_move move (moves.Start count arrivals)) ≡ moved_machine move (moved s (moves.Start count arrivals))
  started_moved s count arrivals = ap (λ w. with_making w (started count (moved_machine move s))) (all_made_moved arrivals (making_of s))

  arrived_moved : (next : Option Arrival) (s : Machine) →
      arrived (option_map (moved_arrival move) next) (moved_machine move s) ≡ moved_machine move (arrived next s)
  arrived_moved next s = ap (λ w. with_making w (moved_machine move s)) (maybe_made_moved next (making_of s))

  -- entering a block
  own_moved : (change : TransactionChange) (clock : ℕ) (x : Transaction) →
      own_marked (moved_own move change) clock (moved_transaction move x) ≡ moved_transaction move (own_marked change clock x)
  own_moved own.Mark clock x = refl
  own_moved change clock x = refl

  marked_moved : (change : Change) (clock : ℕ) (x : Transaction) →
      marked (moved_change move change) clock (moved_transaction move x) ≡ moved_transaction move (marked change clock x)
  marked_moved (changes.Generate next) clock x = refl
  marked_moved (changes.Transaction change) clock x = own_moved change clock x
  marked_moved change clock x = refl

  own_held_moved : (change : TransactionChange) (number : ℕ) (held : Held) → own_held (moved_own move change) number held ≡ own_held change number held
  own_held_moved own.Mark number held = refl
  own_held_moved change number held = refl

  held_moved : (change : Change) (number : ℕ) (held : Held) → held_by (moved_change move change) number held ≡ held_by change number held
  held_moved (changes.Generate next) number held = refl
  held_moved (changes.Transaction change) number held = own_held_moved change number held
  held_moved change number held = refl

  fated_moved : (fate : Fate) (x : Transaction) (s : Machine) →
      fated fate (moved_transaction move x) (moved_machine move s) ≡ moved_machine move (fated fate x s)
  fated_moved fates.Active x s = refl
  fated_moved fates.Current x s = rw (lined_up_moved move x s.current) refl
  fated_moved (fates.Delayed until) x s = rw (map-append (moved_event move) s.future) refl
  fated_moved (fates.Linked key discipline) x s =
      rw (
        user_chain_moved move s.linked key,
        linked_to_moved move discipline x (user_chain_at s.linked key),
        with_chain_moved move s.linked key (linked_to discipline x (user_chain_at s.linked key)),
      )
      refl
  fated_moved (fates.Destroyed count) x s = refl

  let_in_moved : (x : Transaction) (destination : Option ℕ) (s : Machine) →
      let_in (moved_transaction move x) (option_map move destination) (moved_machine move s) ≡ moved_machine move (let_in x destination s)
  let_in_moved x None s = rw (lined_up_moved move x s.current) refl
  let_in_moved x (Some id) s = rw (lined_up_moved move (placed x id) s.current, crossed_moved move is fates.Active s.counts x.current id) refl

  one_let_in_moved : (key : Key) (x : Transaction) (others : List Transaction) (s : Machine) →
      one_let_in key (moved_transaction move x) (map (moved_transaction move) others) (moved_machine move s) ≡ moved_machine move (one_let_in key x others s)
  one_let_in_moved key x others s =
      rw (with_delay_moved move s.delays key others) (let_in_moved x x.destination (record s { delays = with_value s.delays key others }))

  some_let_in_moved : (key : Key) (grants : List (Option ℕ)) (passed chain : List Transaction) (s : Machine) →
      some_let_in key grants (map (moved_transaction move) passed) (map (moved_transaction move) chain) (moved_machine move s) ≡
      moved_machine move (some_let_in key grants passed chain s)
  some_let_in_moved key [] passed chain s = refl
  some_let_in_moved key (grant ∷ grants) passed [] s = refl
  some_let_in_moved key (None ∷ grants) passed (x ∷ xs) s =
      ap (λ ys. some_let_in key grants ys (map (moved_transaction move) xs) (moved_machine move s))
      (sym (map-append (moved_transaction move) passed (x ∷ []))) ∙
      some_let_in_moved key grants (passed ++ x ∷ []) xs s
  some_let_in_moved key (Some units ∷ grants) passed (x ∷ xs) s =
      let others = map-append (moved_transaction move) passed xs in
      let next = one_let_in_moved key x (passed ++ xs) s in
      ap (some_let_in key grants (map (moved_transaction move) passed) (map (moved_transaction move) xs))
      (ap (λ ys. one_let_in key (moved_transaction move x) ys (moved_machine move s)) (sym others) ∙ next) ∙
      some_let_in_moved key grants passed xs (one_let_in key x (passed ++ xs) s)

  admitted_moved : (key : Key) (update : Update) (s : Machine) → admitted key update (moved_machine move s) ≡ moved_machine move (admitted key update s)
  admitted_moved key update s =
      rw (delay_at_moved move s.delays key) (some_let_in_moved key (update_grants update) [] (delay_at s.delays key) s)

  -- copies
  one_copied_moved : (to : Option ℕ) (x : Transaction) (values : List (Key × ℤ)) (s : Machine) →
      one_copied (option_map move to) (moved_transaction move x) values (moved_machine move s) ≡ moved_machine move (one_copied to x values s)
  one_copied_moved to x values s = rw (lined_up_moved move (copied x s.next to) s.current, stood_moved move is s.counts x.current) refl

  all_copied_moved : (count : ℕ) (to : Option ℕ) (x : Transaction) (values : List (Key × ℤ)) (s : Machine) →
      all_copied count (option_map move to) (moved_transaction move x) values (moved_machine move s) ≡
      moved_machine move (all_copied count to x values s)
  all_copied_moved zero to x values s = refl
  all_copied_moved (suc n) to x values s =
      ap (all_copied n (option_map move to) (moved_transaction move x) values) (one_copied_moved to x values s) ∙
      all_copied_moved n to x values (one_copied to x values s)

  -- those who are unlinked
  one_unlinked_moved : (key : Key) (to : Option ℕ) (x : Transaction) (others : List Transaction) (s : Machine) →
      one_unlinked key (option_map move to) (moved_transaction move x) (map (moved_transaction move) others) (moved_machine move s) ≡
      moved_machine move (one_unlinked key to x others s)
  one_unlinked_moved key to x others s = rw (lined_up_moved move (sent to x) s.current, with_members_moved move s.linked key others) refl

  some_unlinked_moved : (count : ℕ) (key : Key) (to : Option ℕ) (chain : List Transaction) (s : Machine) →
      some_unlinked count key (option_map move to) (map (moved_transaction move) chain) (moved_machine move s) ≡
      moved_machine move (some_unlinked count key to chain s)
  some_unlinked_moved zero key to chain s = refl
  some_unlinked_moved (suc n) key to [] s = refl
  some_unlinked_moved (suc n) key to (x ∷ xs) s =
      ap (some_unlinked n key (option_map move to) (map (moved_transaction move) xs)) (one_unlinked_moved key to x xs s) ∙
      some_unlinked_moved n key to xs (one_unlinked key to x xs s)

  split_moved : (o : Option Transaction) (count : ℕ) (to : Option ℕ) (s : Machine) →
      with_active (option_map (moved_transaction move) o)
      (λ x. all_copied count (option_map move to) x (values_at s.parameters x.number) (moved_machine move s)) (moved_machine move s) ≡
      moved_machine move (with_active o (λ x. all_copied count to x (values_at s.parameters x.number) s) s)
  split_moved None count to s = refl
  split_moved (Some x) count to s = all_copied_moved count to x (values_at s.parameters x.number) s

  unlink_moved : (key : Key) (count : ℕ) (to : Option ℕ) (s : Machine) →
      some_unlinked count key (option_map move to) (user_chain_at (map (moved_linked move) s.linked) key).members (moved_machine move s) ≡
      moved_machine move (some_unlinked count key to (user_chain_at s.linked key).members s)
  unlink_moved key count to s =
      ap (λ (c : UserChain). some_unlinked count key (option_map move to) c.members (moved_machine move s)) (user_chain_moved move s.linked key) ∙
      some_unlinked_moved count key to (user_chain_at s.linked key).members s

  changed_moved : (change : Change) (s : Machine) → changed (moved_change move change) (moved_machine move s) ≡ moved_machine move (changed change s)
  changed_moved (changes.Generate next) s = arrived_moved next s
  changed_moved (changes.Split count to) s = split_moved s.active count to s
  changed_moved (changes.Unlink key count to) s = unlink_moved key count to s
  changed_moved (changes.Entity change) s = admitted_moved change.0 change.1 s
  changed_moved (changes.Transaction change) s = refl
  changed_moved changes.Nothing s = refl

  touched_moved : (change : Change) (clock number : ℕ) (e : Entities) → touched (moved_change move change) clock number e ≡ touched change clock number e
  touched_moved (changes.Generate next) clock number e = refl
  touched_moved (changes.Transaction change) clock number e = refl
  touched_moved change clock number e = refl

  entering_moved : (s : Machine) (x : Transaction) (id : ℕ) (change : Change) (fate : Fate) →
      entering (moved_machine move s) (moved_transaction move x) (move id) (moved_change move change) fate ≡
      moved_machine move (entering s x id change fate)
  entering_moved s x id change fate =
      let there : Machine = record s {
        counts = crossed fate s.counts x.current id;
        entities = touched change s.clock x.number s.entities;
        parameters = held_by change x.number s.parameters;
      } in
      let y = marked change s.clock (placed x id) in
      rw (
        crossed_moved move is fate s.counts x.current id,
        touched_moved change s.clock x.number s.entities,
        held_moved change x.number s.parameters,
        marked_moved change s.clock (placed x id),
        fated_moved fate y there,
      )
      (changed_moved change (fated fate y there))

  refused_moved : (s : Machine) (x : Transaction) (id : ℕ) (key : Key) (units : ℕ) →
      refused (moved_machine move s) (moved_transaction move x) (move id) key units ≡ moved_machine move (refused s x id key units)
  refused_moved s x id key units =
      rw (
        delay_at_moved move s.delays key,
        lined_up_moved move (bound x id units) (delay_at s.delays key),
        with_delay_moved move s.delays key (lined_up (bound x id units) (delay_at s.delays key)),
      )
      refl

  watching_moved : (s : Machine) (x : Transaction) (read : List Watched) →
      watching (moved_machine move s) (moved_transaction move x) (map (moved_watched move) read) ≡ moved_machine move (watching s x read)
  watching_moved s x read = rw (map-append (moved_waiter move) s.retry) refl

  picked_moved : (s : Machine) (xs : List Transaction) → picked (moved_machine move s) (map (moved_transaction move) xs) ≡ moved_machine move (picked s xs)
  picked_moved s [] = refl
  picked_moved s (x ∷ xs) = refl

  advanced_moved : (s : Machine) (time : ℕ) → advanced (moved_machine move s) time ≡ moved_machine move (advanced s time)
  advanced_moved s time = rw (due_moved move time s.future, later_moved move time s.future, all_lined_up_moved move (due time s.future) s.current) refl

  with_active_moved : (s : Machine) (o : Option Transaction) (f g : Transaction → Machine) →
      ((x : Transaction) → g (moved_transaction move x) ≡ moved_machine move (f x)) →
      with_active (option_map (moved_transaction move) o) g (moved_machine move s) ≡ moved_machine move (with_active o f s)
  with_active_moved s None f g each = refl
  with_active_moved s (Some x) f g each = each x

  -- a RESET, which changes no id
  maps_swap : {X : Type 0} (f g : X → X) → ((x : X) → f (g x) ≡ g (f x)) → (xs : List X) → map f (map g xs) ≡ map g (map f xs)
  maps_swap f g same [] = refl
  maps_swap f g same (x ∷ xs) = ap₂ (λ y ys. y ∷ ys) (same x) (maps_swap f g same xs)

  reset_moved : (s : Machine) → reset (moved_machine move s) ≡ moved_machine move (reset s)
  reset_moved s =
      let linked = maps_swap (λ (c : Key × UserChain). (c.0, user_chain_anew c.1)) (moved_linked move) (λ c. refl) s.linked in
      let counts = maps_swap (λ (c : ℕ × Count). (c.0, count_anew c.1)) (moved_count move) (λ c. refl) s.counts in
      rw (linked, counts) refl

  moved_moved : (s : Machine) (m : Move) → moved (moved_machine move s) (moved_move move m) ≡ moved_machine move (moved s m)
  moved_moved s (moves.Start count arrivals) = started_moved s count arrivals
  moved_moved s moves.Command = refl
  moved_moved s moves.Reset = reset_moved s
  moved_moved s moves.Clear = refl
  moved_moved s (moves.Enter id change fate) = with_active_moved s s.active _ _ (λ x. entering_moved s x id change fate)
  moved_moved s (moves.Refuse id key units) = with_active_moved s s.active _ _ (λ x. refused_moved s x id key units)
  moved_moved s (moves.Watch read) = with_active_moved s s.active _ _ (λ x. watching_moved s x read)
  moved_moved s moves.Pick = picked_moved s s.current
  moved_moved s (moves.Clock time) = advanced_moved s time

  -- what is written, and what a step does
  written_by_moved : (change : Change) (s : Machine) →
      written_by (moved_change move change) (moved_machine move s) ≡ map (moved_watched move) (written_by change s)
  written_by_moved (changes.Entity change) s =
      ap (λ ws. watched.Entity (kind_of change.1) change.0 ∷ ws)
      (ap (crossings (update_grants change.1)) (delay_at_moved move s.delays change.0) ∙
      crossings_moved move (update_grants change.1) (delay_at s.delays change.0))
  written_by_moved change s = refl

  written_in_moved : (fate : Fate) → written_in fate ≡ map (moved_watched move) (written_in fate)
  written_in_moved fates.Active = refl
  written_in_moved fate = refl

  written_where_moved : (o : Option Transaction) (id : ℕ) (change : Change) (fate : Fate) (s : Machine) →
      written_where (option_map (moved_transaction move) o) (move id) (moved_change move change) fate (moved_machine move s) ≡
      map (moved_watched move) (written_where o id change fate s)
  written_where_moved None id change fate s = refl
  written_where_moved (Some x) id change fate s =
      ap (λ ws. watched.Counts (move x.current) ∷ watched.Counts (move id) ∷ ws)
      (ap₂ (λ ws vs. ws ++ vs) (written_by_moved change s) (written_in_moved fate) ∙
      sym (map-append (moved_watched move) (written_by change s) (written_in fate)))

  written_moved : (s : Machine) (m : Move) → written (moved_machine move s) (moved_move move m) ≡ map (moved_watched move) (written s m)
  written_moved s (moves.Enter id change fate) = written_where_moved s.active id change fate s
  written_moved s m = refl

  pub decided_moved : (s : Machine) (m : Move) (streams : List Stream) →
      decided (moved_machine move s) (moved_move move m) streams ≡ moved_machine move (decided s m streams)
  decided_moved s m streams =
      ap (λ (v : Machine). let w : Machine = record v { streams = streams } in w)
      (ap₂ woken (written_moved s m) (moved_moved s m) ∙ woken_moved move is (written s m) (moved s m))
