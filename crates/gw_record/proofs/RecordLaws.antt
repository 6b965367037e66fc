-- What stays the record of a run: when a state is kept, when a step is made, when first uses are forgotten.
use Rattle.std.proofs.Common.{◌≡◌, ◌⊎◌, ℕ, zero, suc, ℤ, ◌+◌, ◌-◌, ◌<◌, ◌≤◌, Bool, true, false, cond, nat_eq, nat_lt, List, [], ◌∷◌, ◌++◌, length, get_or, slice_get, Option, Some, None, Ok, Bor, option_copied, inl, inr, ⊎_elim, refl, sym, ap, subst, ◌∙◌, arith}
use Rattle.std.specs.List.{list_any}
use Rattle.std.proofs.lemmas.Bool.Decides.{nat_tests}
use Rattle.std.proofs.lemmas.List.{length_push}
use Rattle.std.proofs.lemmas.Option.{slice_get-get_or}
use Rattle.std.proofs.lemmas.List.Sorted.{IsNonDecreasingBy-push}
use Rattle.gw_meaning.specs.declared.item.Item.{Item}
use Rattle.gw_meaning.specs.declared.moves.Move.{Move}
use Rattle.gw_meaning.specs.declared.moves.Move.TheVariants as moves
use Rattle.gw_meaning.specs.declared.transaction.Transaction.{Transaction}
use Rattle.gw_meaning.specs.Listing.{Listing}
use Rattle.gw_meaning.specs.Parameters.{values_at}
use Rattle.gw_meaning.specs.Machine.{Machine, raised, delay_at, user_chain_at}
use Rattle.gw_streams.specs.declared.stream.Stream.{Stream}
use Rattle.gw_names.specs.declared.key.Key.{Key}
use Rattle.gw_meaning.specs.declared.entity_change.Update.{Update}
use Rattle.gw_meaning.specs.declared.moves.Change.{Change}
use Rattle.gw_meaning.specs.declared.moves.Change.TheVariants as changes
use Rattle.gw_meaning.specs.declared.moves.Fate.{Fate}
use Rattle.gw_meaning.specs.declared.moves.Fate.TheVariants as fates
use Rattle.gw_meaning.specs.Changes.{update_grants, moved, decided, fated, let_in, one_let_in, some_let_in, admitted, all_copied, one_copied, some_unlinked, one_unlinked, changed, with_active, picked}
use Rattle.gw_meaning.specs.Step.{decide, step, step_items, run}
use Rattle.gw_meaning.specs.Questions.{result_of}
use Rattle.gw_expr.specs.declared.halt.End.{End}
use Rattle.gw_scan.proofs.StepLaws.{step_goes, step_ends}
use Rattle.std.specs.Prelude.{IfOk, IfSome, IfNone, Result, Err}
use Rattle.gw_meaning.specs.Reads.{or_later, is_use, read_from, first_use}
use Rattle.gw_meaning.proofs.Programs.{run_on}
use Rattle.gw_record.specs.declared.kept.Kept.{Kept}
use Rattle.gw_uses.specs.declared.first_uses.FirstUses.{FirstUses}
use Rattle.gw_uses.specs.Steps.{below, AreBelow}
use Rattle.gw_uses.specs.Uses.{first_in}
use Rattle.gw_record.specs.Tape.{Tape, from_tip, Records, IsKeptUp, IsStartEnd, IsWanted, IsThere, IsOfRun, IsEndThere, IsStateIn}
use Rattle.gw_record.specs.Parting.{AreInOrder}
use Rattle.gw_record.specs.Lookups.{IsStateAt}
use Rattle.gw_uses.proofs.UseLaws.{reading_cut}
use Rattle.gw_uses.specs.Uses.{first_in}

-- the last of a longer list, or one of those before
pushed_at :
    {X : Type 0} (xs : List X) (x : X) (i : ℕ) (y : X) → slice_get (xs ++ x ∷ []) i ≡ Some y →
    (slice_get xs i ≡ Some y) ⊎ ((i ≡ length xs) × (x ≡ y))
pushed_at [] x zero y is = let same : x ≡ y = cc in inr (refl, same)
pushed_at [] x (suc i) y is = absurd cc
pushed_at (z ∷ xs) x zero y is = inl is
pushed_at (z ∷ xs) x (suc i) y is = ⊎_elim (λ h. inl h) (λ h. inr (ap suc h.0, h.1)) (pushed_at xs x i y is)

slice_get_more : {X : Type 0} (xs : List X) (x : X) (i : ℕ) (y : X) → slice_get xs i ≡ Some y → slice_get (xs ++ x ∷ []) i ≡ Some y
slice_get_more [] x i y is = absurd cc
slice_get_more (z ∷ xs) x zero y is = is
slice_get_more (z ∷ xs) x (suc i) y is = slice_get_more xs x i y is

-- a kept state stays where one more is kept
pub there_more : (xs : List Kept) (x : Kept) (m : ℕ) → IsThere xs m → IsThere (xs ++ x ∷ []) m
there_more xs x m (i, e, is, at) = (i, e, slice_get_more xs x i e is, at)

-- the last one is there
pub there_last : (xs : List Kept) (x : Kept) → IsThere (xs ++ x ∷ []) x.moment
there_last [] x = (0, x, refl, refl)
there_last (y ∷ ys) x = let (i, e, is, at) = there_last ys x in (suc i, e, is, at)

-- the moments of a START end are one
same_end : (t : Listing) (seed k m n : ℕ) → IsStartEnd t seed k m → IsStartEnd t seed k n → m ≤ n
same_end t seed k m n a b = go (nat_lt n m) refl where
  go : (c : Bool) → nat_lt n m ≡ c → m ≤ n
  go true e = absurd (a.first n b.state (grind (arith, nat_tests)) b.there b.complete)
  go false e = grind (arith, nat_tests)

-- the tip is a START end where one more is complete than were noted
pub tip_is_end :
    (t : Listing) (seed : ℕ) (r : Tape) → Records t seed r → length r.ends < r.tip.complete →
    IsStartEnd t seed (length r.ends + 1) r.moment
tip_is_end t seed r h more =
    let one = h.tip_end in
    record {
      state = r.tip;
      there = h.tip;
      complete = omega (arith, more, one);
      some = omega arith;
      first = λ m u less is done. let few = h.all_ends m u less is in absurd (omega (arith, few, done));
    }

-- where no more are complete, a START end at a tip after the start is noted and kept
pub end_is_there :
    (t : Listing) (seed k : ℕ) (r : Tape) → Records t seed r → r.start < r.moment → r.tip.complete ≤ length r.ends →
    IsStartEnd t seed k r.moment → IsThere r.kept r.moment
end_is_there t seed k r h behind few end =
    let found : Ok end.state ≡ Ok r.tip = sym end.there ∙ h.tip in
    let same : end.state ≡ r.tip = cc in
    let count : r.tip.complete ≡ k = ap (λ (s : Machine). s.complete) (sym same) ∙ end.complete in
    let some = end.some in
    let e : k - 1 + 1 ≡ k = omega (arith, some) in
    let m : ℕ = get_or r.ends (k - 1) 0 in
    let noted = h.ends (k - 1) m (slice_get-get_or r.ends (k - 1) 0 (omega (arith, some, count, few))) in
    let is : IsStartEnd t seed k m = subst (λ n. IsStartEnd t seed n m) e noted.end in
    let low = same_end t seed k m r.moment is end in
    let high = same_end t seed k r.moment m end is in
    let at : m ≡ r.moment = omega (arith, low, high) in
    subst (λ n. IsThere r.kept n) at (noted.kept (omega (arith, behind, at)))

-- the state at the tip is kept
pub state_kept :
    (t : Listing) (seed : ℕ) (r : Tape) → Records t seed r → IsWanted t seed r.every r.start r.moment →
    Records t seed (record r { kept = r.kept ++ (record { moment = r.moment; state = r.tip }) ∷ [] })
state_kept t seed r h wanted =
    let last : Kept = record { moment = r.moment; state = r.tip } in
    record {
      tip = h.tip;
      from = h.from;
      within = h.within;
      kept = λ i e is. ⊎_elim
          (λ old. let o = h.kept i e old in record { there = o.there; wanted = o.wanted; from = o.from; below = o.below })
          (λ new.
          let R : Tape = record r { kept = r.kept ++ last ∷ [] } in
          subst (λ (e : Kept). IsOfRun t seed R e) new.1 (record { there = h.tip; wanted = wanted; from = h.from; below = omega arith }))
          (pushed_at r.kept last i e is);
      rising = IsNonDecreasingBy-push (λ (e : Kept). e.moment) r.kept last h.rising (λ d some.
          let i : ℕ = length r.kept - 1 in
          (h.kept i (get_or r.kept i d) (slice_get-get_or r.kept i d (omega (arith, some)))).below);
      all_kept = λ m from less want. there_more r.kept last m (h.all_kept m from less want);
      ends = λ i m is.
          let o = h.ends i m is in
          record { end = o.end; below = o.below; kept = λ behind. there_more r.kept last m (o.kept behind) };
      ends_rise = h.ends_rise;
      all_ends = h.all_ends;
      tip_end = h.tip_end;
      firsts = h.firsts;
    }

-- the tip is noted as a START end
pub end_kept :
    (t : Listing) (seed : ℕ) (r : Tape) → Records t seed r → length r.ends < r.tip.complete → IsThere r.kept r.moment →
    Records t seed (record r { ends = r.ends ++ r.moment ∷ [] })
end_kept t seed r h more there =
    let n : length (r.ends ++ r.moment ∷ []) ≡ length r.ends + 1 = length_push r.ends r.moment in
    let end = tip_is_end t seed r h more in
    let one = h.tip_end in
    let R : Tape = record r { ends = r.ends ++ r.moment ∷ [] } in
    record {
      tip = h.tip;
      from = h.from;
      within = h.within;
      kept = λ i e is. let o = h.kept i e is in record { there = o.there; wanted = o.wanted; from = o.from; below = o.below };
      rising = h.rising;
      all_kept = h.all_kept;
      ends = λ i m is. ⊎_elim
          (λ old. let o = h.ends i m old in record { end = o.end; below = o.below; kept = o.kept })
          (λ new. let P : ℕ → ℕ → Type 0 = λ k m. IsEndThere t seed R (k + 1) m in
          subst (λ k. P k m) (sym new.0) (subst (λ m. P (length r.ends) m) new.1 (record { end = end; below = omega arith; kept = λ behind. there })))
          (pushed_at r.ends r.moment i m is);
      ends_rise = IsNonDecreasingBy-push (λ (m : ℕ). m) r.ends r.moment h.ends_rise (λ d some.
          let i : ℕ = length r.ends - 1 in
          (h.ends i (get_or r.ends i d) (slice_get-get_or r.ends i d (omega (arith, some)))).below);
      all_ends = λ m u less is. let few = h.all_ends m u less is in omega (arith, few, n);
      tip_end = omega (arith, one, n);
      firsts = h.firsts;
    }

-- a move completes one START at most
complete_active :
    (s : Machine) (o : Option Transaction) (f : Transaction → Machine) → ((x : Transaction) → (f x).complete ≤ s.complete + 1) →
    (with_active o f s).complete ≤ s.complete + 1
complete_active s None f h = omega arith
complete_active s (Some x) f h = h x

complete_picked : (s : Machine) (xs : List Transaction) → (picked s xs).complete ≤ s.complete + 1
complete_picked s [] = omega arith
complete_picked s (x ∷ xs) = omega arith

complete_done : (b : Bool) (n : ℕ) → cond b n (raised n) ≤ n + 1
complete_done true n = omega arith
complete_done false n = grind arith

complete_fated : (fate : Fate) (x : Transaction) (s : Machine) → (fated fate x s).complete ≤ s.complete + 1
complete_fated fates.Active x s = omega arith
complete_fated fates.Current x s = omega arith
complete_fated (fates.Delayed until) x s = omega arith
complete_fated (fates.Linked key discipline) x s = omega arith
complete_fated (fates.Destroyed count) x s = complete_done _ s.complete

complete_let_in : (x : Transaction) (destination : Option ℕ) (s : Machine) (n : ℕ) → s.complete ≤ n + 1 → (let_in x destination s).complete ≤ n + 1
complete_let_in x None s n h = h
complete_let_in x (Some id) s n h = h

complete_some :
    (key : Key) (grants : List (Option ℕ)) (passed chain : List Transaction) (s : Machine) (n : ℕ) → s.complete ≤ n + 1 →
    (some_let_in key grants passed chain s).complete ≤ n + 1
complete_some key [] passed chain s n h = h
complete_some key (grant ∷ grants) passed [] s n h = h
complete_some key (None ∷ grants) passed (x ∷ xs) s n h = complete_some key grants (passed ++ x ∷ []) xs s n h
complete_some key (Some units ∷ grants) passed (x ∷ xs) s n h =
    complete_some key grants passed xs (one_let_in key x (passed ++ xs) s) n (complete_let_in x x.destination _ n h)

complete_admitted : (key : Key) (update : Update) (s : Machine) (n : ℕ) → s.complete ≤ n + 1 → (admitted key update s).complete ≤ n + 1
complete_admitted key update s n h = complete_some key (update_grants update) [] (delay_at s.delays key) s n h

complete_copied :
    (count : ℕ) (to : Option ℕ) (x : Transaction) (values : List (Key × ℤ)) (s : Machine) (n : ℕ) → s.complete ≤ n + 1 →
    (all_copied count to x values s).complete ≤ n + 1
complete_copied zero to x values s n h = h
complete_copied (suc k) to x values s n h = complete_copied k to x values (one_copied to x values s) n h

complete_split :
    (count : ℕ) (to : Option ℕ) (active : Option Transaction) (s : Machine) (n : ℕ) → s.complete ≤ n + 1 →
    (with_active active (λ x. all_copied count to x (values_at s.parameters x.number) s) s).complete ≤ n + 1
complete_split count to None s n h = h
complete_split count to (Some x) s n h = complete_copied count to x (values_at s.parameters x.number) s n h

complete_unlinked :
    (count : ℕ) (key : Key) (to : Option ℕ) (chain : List Transaction) (s : Machine) (n : ℕ) → s.complete ≤ n + 1 →
    (some_unlinked count key to chain s).complete ≤ n + 1
complete_unlinked zero key to chain s n h = h
complete_unlinked (suc k) key to [] s n h = h
complete_unlinked (suc k) key to (x ∷ xs) s n h = complete_unlinked k key to xs (one_unlinked key to x xs s) n h

complete_changed : (change : Change) (s : Machine) (n : ℕ) → s.complete ≤ n + 1 → (changed change s).complete ≤ n + 1
complete_changed (changes.Generate next) s n h = h
complete_changed (changes.Entity change) s n h = complete_admitted change.0 change.1 s n h
complete_changed (changes.Transaction change) s n h = h
complete_changed (changes.Split count to) s n h = complete_split count to s.active s n h
complete_changed (changes.Unlink key count to) s n h =
    complete_unlinked count key to (user_chain_at s.linked key).members s n h
complete_changed changes.Nothing s n h = h

pub complete_moved : (s : Machine) (m : Move) → (moved s m).complete ≤ s.complete + 1
complete_moved s (moves.Start count arrivals) = omega arith
complete_moved s moves.Command = omega arith
complete_moved s moves.Reset = omega arith
complete_moved s moves.Clear = omega arith
complete_moved s (moves.Enter id change fate) =
    complete_active s s.active _ (λ x. complete_changed change _ s.complete (complete_fated fate _ _))
complete_moved s (moves.Refuse id key units) = complete_active s s.active _ (λ x. omega arith)
complete_moved s (moves.Watch read) = complete_active s s.active _ (λ x. omega arith)
complete_moved s moves.Pick = complete_picked s s.current
complete_moved s (moves.Clock time) = omega arith

-- a step completes one START at most
complete_step : (t : Listing) (seed : ℕ) (s u : Machine) → step t seed s ≡ Ok u → u.complete ≤ s.complete + 1
complete_step t seed s u is = go (result_of t seed (decide s)) refl where
  go : (r : Result (Move × List Stream) End) → result_of t seed (decide s) ≡ r → u.complete ≤ s.complete + 1
  go (Ok d) goes =
      let same : Ok u ≡ Ok (decided s d.0 d.1) = sym is ∙ step_goes t seed s d goes in
      let F : Result Machine End → Type 0 = λ r. IfOk r (λ v. v.complete ≤ s.complete + 1) in
      subst F (sym same) (complete_moved s d.0)
  go (Err end) ends = absurd (ok_is_no_err (sym is ∙ step_ends t seed s end ends)) where
    ok_is_no_err : Ok u ≡ Err end → ⊥
    ok_is_no_err h = absurd cc

-- a step is made, and the items that it read are noted
pub made :
    (t : Listing) (seed : ℕ) (r : Tape) (u : Machine) (f : FirstUses) → Records t seed r → IsKeptUp t seed r → r.moment < t.limit →
    step t seed r.tip ≡ Ok u →
    ((item : Item) → first_in f item ≡ or_later (first_in r.firsts item) (cond (list_any (is_use item) (step_items t seed r.tip)) (Some r.moment) None)) →
    AreBelow (r.moment + 1) f.clock_steps → Records t seed (record r { moment = r.moment + 1; tip = u; firsts = f })
made t seed r u f h up room goes noted clock =
    let one : r.moment + 1 ≡ suc r.moment = omega arith in
    record {
      from = let f = h.from in omega (arith, f);
      tip = ap (λ n. run t seed n) one ∙ (run_on t seed r.moment r.tip h.tip ∙ goes);
      within = omega (arith, room);
      kept = λ i e is.
          let o = h.kept i e is in
          let l = o.below in
          record { there = o.there; wanted = o.wanted; from = o.from; below = omega (arith, l) };
      rising = h.rising;
      all_kept = λ i from less want. kept_before i from less want (nat_eq i r.moment) refl;
      ends = λ i e is. let o = h.ends i e is in let l = o.below in record { end = o.end; below = omega (arith, l); kept = o.kept };
      ends_rise = h.ends_rise;
      all_ends = λ i u less is. before i u less is (nat_eq i r.moment) refl;
      tip_end = let c = complete_step t seed r.tip u goes in let e = up.end in omega (arith, c, e);
      firsts = record { each = λ item. noted item ∙ each item; clock = clock };
    } where
      each : (item : Item) →
          or_later (first_in r.firsts item) (cond (list_any (is_use item) (step_items t seed r.tip)) (Some r.moment) None) ≡
          first_use item t seed (r.moment + 1)
      each item =
          let later : List Item → Option ℕ = λ is. cond (list_any (is_use item) is) (Some r.moment) None in
          let first = first_use item t seed r.moment in
          let one : suc r.moment ≡ r.moment + 1 = omega arith in
          ap (λ o. or_later o (later (step_items t seed r.tip))) (h.firsts.each item) ∙
          (ap (λ q. or_later first (later (read_from t seed q))) (sym h.tip) ∙
          ap (λ n. first_use item t seed n) one)

      before : (i : ℕ) (u : Machine) → i < r.moment + 1 → run t seed i ≡ Ok u → (b : Bool) → nat_eq i r.moment ≡ b → u.complete ≤ length r.ends
      before i u less is true e =
          let at : i ≡ r.moment = grind (arith, nat_tests) in
          let found : Ok u ≡ Ok r.tip = sym is ∙ (ap (λ i. run t seed i) at ∙ h.tip) in
          let same : u ≡ r.tip = cc in
          let few = up.end in
          omega (arith, few, ap (λ (v : Machine). v.complete) same)
      before i u less is false e = h.all_ends i u (grind (arith, nat_tests)) is

      kept_before : (i : ℕ) → r.start ≤ i → i < r.moment + 1 → IsWanted t seed r.every r.start i → (b : Bool) → nat_eq i r.moment ≡ b → IsThere r.kept i
      kept_before i from less want true e =
          let at : i ≡ r.moment = grind (arith, nat_tests) in
          subst (λ n. IsThere r.kept n) (sym at) (up.state (subst (λ n. IsWanted t seed r.every r.start n) at want))
      kept_before i from less want false e = h.all_kept i from (grind (arith, nat_tests)) want

-- what was noted of a step that was not made is forgotten
pub forgotten :
    (t : Listing) (seed : ℕ) (r : Tape) (f : FirstUses) → Records t seed r →
    ((item : Item) → first_in f item ≡ below r.moment (first_in r.firsts item)) → AreBelow r.moment f.clock_steps →
    Records t seed (record r { firsts = f })
forgotten t seed r f h cut clock =
    record {
      tip = h.tip;
      from = h.from;
      within = h.within;
      kept = λ i e is. let o = h.kept i e is in record { there = o.there; wanted = o.wanted; from = o.from; below = o.below };
      rising = h.rising;
      all_kept = h.all_kept;
      ends = λ i m is. let o = h.ends i m is in record { end = o.end; below = o.below; kept = o.kept };
      ends_rise = h.ends_rise;
      all_ends = h.all_ends;
      tip_end = h.tip_end;
      firsts = record {
        each = λ item.
            let same = reading_cut (is_use item) t seed r.moment r.moment (omega arith) in
            cut item ∙ (ap (λ o. below r.moment o) (h.firsts.each item) ∙ same);
        clock = clock;
      };
    }

-- from its tip on it is the record of the same run
pub begun_at_tip : (t : Listing) (seed : ℕ) (r : Tape) → Records t seed r → Records t seed (from_tip r)
begun_at_tip t seed r h = record {
  tip = h.tip;
  from = omega arith;
  within = h.within;
  kept = λ i e is. absurd cc;
  rising = λ i j d before within. absurd (omega (arith, within));
  all_kept = λ m from less want. absurd (omega (arith, from, less));
  ends = λ i m is. let o = h.ends i m is in let l = o.below in record { end = o.end; below = l; kept = λ behind. absurd (omega (arith, behind, l)) };
  ends_rise = h.ends_rise;
  all_ends = h.all_ends;
  tip_end = h.tip_end;
  firsts = h.firsts;
}

-- the state of a moment that is not the tip's, where it is kept
pub state_had :
    (t : Listing) (seed : ℕ) (r : Tape) (m : ℕ) (o : Option (Bor Machine)) → Records t seed r → (m ≡ r.moment → ⊥) →
    IfSome o (λ s. IsStateIn r.kept m s.now) → IfNone o (AreInOrder r.kept → IsThere r.kept m → ⊥) → IsStateAt t seed r m (option_copied o)
state_had t seed r m None h other found none = λ k.
    let below = k.below in
    let less : m < r.moment = omega (arith, below, other) in
    none h.rising (⊎_elim (λ at. absurd (other at)) (λ wanted. h.all_kept m k.from less wanted) k.wanted)
state_had t seed r m (Some s) h other (i, e, is, at, same) none =
    let o = h.kept i e is in
    let there : run t seed m ≡ Ok e.state = subst (λ m. run t seed m ≡ Ok e.state) at o.there in (
      record {
        from = subst (λ m. r.start ≤ m) at o.from;
        below = subst (λ m. m ≤ r.moment) at o.below;
        wanted = inr (subst (λ m. IsWanted t seed r.every r.start m) at o.wanted);
      },
      there ∙ ap (λ s. Ok s) same,
    )
