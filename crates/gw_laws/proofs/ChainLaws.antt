-- The current chain, move by move and over a run: in order of priority, and first in first out within. The delay chains, too,
-- are in order.
use Rattle.std.proofs.Common.{◌≡◌, ℕ, ◌+◌, ◌-◌, ◌^◌, ◌<◌, ◌≤◌, ℤ, Option, nat_eq, Bool, true, false, List, [], ◌∷◌, ◌++◌, Some, Ok, refl, sym, ap, ap₂, subst, ◌∙◌, append-nil, append_assoc, arith, inl, inr, filter}
use Rattle.std.specs.List.{AllByRecursion}
use Rattle.std.specs.Ordering.{int_eq}
use Rattle.std.proofs.lemmas.Bool.{cases_Bool, eq-eqb, false≢true, or_parts}
use Rattle.std.proofs.lemmas.Bool.Decides.{Decides-int_eq}
use Rattle.std.proofs.lemmas.List.Elements.{All-from_recursion}
use Rattle.std.proofs.lemmas.List.Folds.{list_any-append}
use Rattle.gw_nums.specs.Range.{is_below}
use Rattle.gw_names.specs.declared.key.Key.{Key}
use Rattle.gw_meaning.specs.declared.transaction.Transaction.{Transaction}
use Rattle.gw_meaning.specs.declared.moves.Change.{Change}
use Rattle.gw_meaning.specs.declared.moves.Fate.{Fate}
use Rattle.gw_meaning.specs.declared.moves.Fate.TheVariants as fates
use Rattle.gw_meaning.specs.declared.moves.Move.{Move}
use Rattle.gw_meaning.specs.declared.moves.Move.TheVariants as moves
use Rattle.gw_meaning.specs.Listing.{Listing}
use Rattle.gw_meaning.specs.Machine.{Machine, delay_at, user_chain_at}
use Rattle.gw_meaning.specs.Changes.{lined_up, all_lined_up, making_of, placed, marked, one_let_in, copied, one_copied, sent, one_unlinked, bound, refused, due, moved, watching, written, is_woken, woken}
use Rattle.gw_meaning.specs.Step.{run}
use Rattle.gw_meaning.proofs.Programs.{run_on}
use Rattle.gw_meaning.proofs.Chains.{IsOrdered, AreNotAbove, in_order, ordered_lined, ordered_all_lined, below_one_way}
use Rattle.gw_meaning.specs.declared.watched.Watched.{Watched}
use Rattle.gw_meaning.specs.Watching.{transactions_of}
use Rattle.gw_laws.specs.Chain.{ChainIsInOrder, ChainIsFirstInFirstOut, IsFirstInFirstOut, numbers_of, is_in}
use Rattle.gw_frame.proofs.Decided.{step_decides}
use Rattle.gw_frame.proofs.Known.{IsDecided}
use Rattle.gw_frame.proofs.Lawful.{all_with}
use Rattle.gw_frame.proofs.Moves.{settled, settled_is, current_behind, with_active_has, entered_has, picked_has}
use Rattle.gw_frame.proofs.Running.{over_run}
use Rattle.gw_laws.proofs.Entries.{Each, at_has, with_has}
use Rattle.gw_laws.proofs.Waiting.{let_in_as, let_in_is, all_without}
use Rattle.gw_laws.proofs.Crowd.{one, many, many_lined, future_parts, many_all_lined, woken_crowd}
use Rattle.gw_laws.proofs.NumberLaws.{has_number, IsNumbered, same_numbered, made_numbered, settled_numbered, lets_numbered, copied_numbered, unlinked_numbered, all_numbered}
use Rattle.gw_laws.proofs.Room.{all_within}
use Rattle.gw_laws.proofs.Waking.{unwoken}
use Rattle.gw_laws.proofs.Anew.{all_go}

-- the current chain and each delay chain are in order of priority
pub record AreChained (s : Machine) : Type 0 where
  pub current : IsOrdered s.current
  pub delays : Each IsOrdered s.delays

pub delay_ordered : (s : Machine) (key : Key) → AreChained s → IsOrdered (delay_at s.delays key)
delay_ordered s key h = at_has IsOrdered [] s.delays key tt h.delays

-- the current chain stays in order after a fate
behind_ordered : (fate : Fate) (x : Transaction) (chain : List Transaction) → IsOrdered chain → IsOrdered (current_behind fate x chain)
behind_ordered fates.Current x chain h = ordered_lined x chain h
behind_ordered fate x chain h = h

-- a block leaves the chains as they are, but for one who goes after his equals, is let in or refused
settled_ordered : (s : Machine) (x : Transaction) (id : ℕ) (change : Change) (fate : Fate) → AreChained s → AreChained (settled s x id change fate)
settled_ordered s x id change fate h =
    let same = settled_is s x id change fate in
    let chain = behind_ordered fate (marked change s.clock (placed x id)) s.current h.current in
    record { current = subst IsOrdered (sym same.current) chain; delays = subst (Each IsOrdered) (sym same.delays) h.delays }

ordered_without : (passed : List Transaction) (x : Transaction) (xs : List Transaction) → IsOrdered (passed ++ x ∷ xs) → IsOrdered (passed ++ xs)
ordered_without [] x xs h = h.1
ordered_without (y ∷ ys) x xs h =
    (all_without (λ (z : Transaction). is_below y.priority z.priority ≡ false) ys x xs h.0, ordered_without ys x xs h.1)

lets_ordered : (w : Machine) (key : Key) (x : Transaction) (passed xs : List Transaction) → delay_at w.delays key ≡ passed ++ x ∷ xs → AreChained w →
    AreChained (one_let_in key x (passed ++ xs) w)
lets_ordered w key x passed xs is h =
    let same = let_in_is key x (passed ++ xs) w in
    let chain = ordered_without passed x xs (subst IsOrdered is (delay_ordered w key h)) in
    record {
      current = subst IsOrdered (sym same.current) (ordered_lined (let_in_as x x.destination) w.current h.current);
      delays = subst (Each IsOrdered) (sym same.delays) (with_has IsOrdered w.delays key (passed ++ xs) chain h.delays);
    }

refused_ordered : (s : Machine) (x : Transaction) (id : ℕ) (key : Key) (units : ℕ) → AreChained s → AreChained (refused s x id key units)
refused_ordered s x id key units h = record {
  current = h.current;
  delays = with_has IsOrdered s.delays key _ (ordered_lined (bound x id units) (delay_at s.delays key) (delay_ordered s key h)) h.delays;
}

pub moved_ordered : (t : Listing) (s : Machine) (m : Move) → IsDecided t s m → AreChained s → AreChained (moved s m)
moved_ordered t s moves.Clear decided h = record { current = tt; delays = tt }
moved_ordered t s (moves.Enter id change fate) decided h =
    entered_has AreChained AreChained t s id change fate decided.1 h (λ x is. settled_ordered s x id change fate h)
    (λ v. record {
      nothing = λ k. k;
      one = λ a coming k. record { current = k.current; delays = k.delays };
      lets = lets_ordered;
      copies = λ w to x values copying k. record { current = ordered_lined (copied x w.next to) w.current k.current; delays = k.delays };
      unlinks = λ w key to x xs named is k. record { current = ordered_lined (sent to x) w.current k.current; delays = k.delays };
    })
moved_ordered t s (moves.Refuse id key units) decided h =
    with_active_has AreChained s.active (λ x. refused s x id key units) s h (λ x is. refused_ordered s x id key units h)
moved_ordered t s (moves.Watch read) decided h =
    with_active_has AreChained s.active (λ x. watching s x read) s h (λ x is. record { current = h.current; delays = h.delays })
moved_ordered t s moves.Pick decided h =
    picked_has AreChained s s.current h (λ x xs is. record { current = (subst IsOrdered is h.current).1; delays = h.delays })
moved_ordered t s (moves.Clock time) decided h =
    record { current = ordered_all_lined (due time s.future) s.current h.current; delays = h.delays }
moved_ordered t s m decided h = record { current = h.current; delays = h.delays }

pub all_chained : (t : Listing) (seed n : ℕ) (s : Machine) → run t seed n ≡ Ok s → AreChained s
all_chained t seed = over_run t seed (λ n s. AreChained s) (record { current = tt; delays = tt })
    (λ n s m streams there decided h.
    (let v = moved s m in
    let k = moved_ordered t s m decided h in
    record {
      current = ordered_all_lined (transactions_of (filter (is_woken (written s m)) v.retry)) v.current k.current;
      delays = k.delays;
    }))

pub all_ordered : (t : Listing) (seed n : ℕ) (s : Machine) → run t seed n ≡ Ok s → IsOrdered s.current
all_ordered t seed n s is = (all_chained t seed n s is).current

pub chain_is_in_order : ChainIsInOrder
chain_is_in_order t seed n s is = in_order s.current (all_ordered t seed n s is)

-- Lists of numbers: others come after those that were there, or the first goes.
pub joined : (ks more : List ℕ) → AllByRecursion (λ k. is_in ks k ≡ false) more → IsFirstInFirstOut ks (ks ++ more)
joined ks more new = (0, more, refl, All-from_recursion (λ k. is_in ks k ≡ false) more new)

pub unchanged : (ks : List ℕ) → IsFirstInFirstOut ks ks
unchanged ks = let h = joined ks [] tt in rw append-nil at h

first_gone : (k : ℕ) (ks : List ℕ) → IsFirstInFirstOut (k ∷ ks) ks
first_gone k ks = (1, [], sym (append-nil ks), All-from_recursion (λ j. is_in (k ∷ ks) j ≡ false) [] tt)

pub never_below_itself : (a : ℤ) → is_below a a ≡ false
never_below_itself a = elim (cases_Bool (is_below a a)) [ inl below ↦ below_one_way a a below | inr not' ↦ not' ]

-- One more on a chain in order stands after those of its priority that are there.
module _ (priority : ℤ) where
  abbrev has_priority : Transaction → Bool
  has_priority x = int_eq x.priority priority

  first_has : (x : Transaction) (xs : List Transaction) → has_priority x ≡ true → numbers_of priority (x ∷ xs) ≡ x.number ∷ numbers_of priority xs
  first_has x xs has = rw has refl

  first_other : (x : Transaction) (xs : List Transaction) → has_priority x ≡ false → numbers_of priority (x ∷ xs) ≡ numbers_of priority xs
  first_other x xs other = rw other refl

  -- after one of lower priority none has this one
  none_further : (y : Transaction) (ys : List Transaction) → is_below y.priority priority ≡ true → AreNotAbove y ys → numbers_of priority ys ≡ []
  none_further y [] below h = refl
  none_further y (z ∷ zs) below h =
      elim (cases_Bool (has_priority z)) [
        | inl has ↦ absurd (let same : z.priority ≡ priority = (Decides-int_eq z.priority priority).0 has in let above : is_below y.priority priority ≡ false =
            rw same at h.0 in false≢true (sym above ∙ below))
        | inr other ↦ rw other (none_further y zs below h.1)
      ]

  pub lined_numbers : (x : Transaction) (ys : List Transaction) → IsOrdered ys → numbers_of priority (lined_up x ys) ≡ numbers_of priority ys ++
      numbers_of priority (x ∷ [])
  lined_numbers x [] h = refl
  lined_numbers x (y ∷ ys) h =
      elim (cases_Bool (is_below y.priority x.priority)) [
        | inl below ↦ rw below (elim (cases_Bool (has_priority x)) [
          | inl has ↦
              let same : x.priority ≡ priority = (Decides-int_eq x.priority priority).0 has in
              let none : numbers_of priority (y ∷ ys) ≡ [] = none_further y (y ∷ ys) (rw same at below) (never_below_itself y.priority, h.0) in
              first_has x (y ∷ ys) has ∙ (ap (λ ks. x.number ∷ ks) none ∙ sym (ap₂ ◌++◌ none (first_has x [] has)))
          | inr other ↦ first_other x (y ∷ ys) other ∙ sym (ap (λ ks. numbers_of priority (y ∷ ys) ++ ks) (first_other x [] other) ∙
              append-nil (numbers_of priority (y ∷ ys)))
        ])
        | inr above ↦ rw above (elim (cases_Bool (has_priority y)) [
          | inl has ↦ rw has (ap (λ ks. y.number ∷ ks) (lined_numbers x ys h.1))
          | inr other ↦ rw other (lined_numbers x ys h.1)
        ])
      ]

  numbers_parts : (x : Transaction) (xs : List Transaction) → numbers_of priority (x ∷ xs) ≡ numbers_of priority (x ∷ []) ++ numbers_of priority xs
  numbers_parts x xs = elim (cases_Bool (has_priority x)) [ inl has ↦ rw has refl | inr other ↦ rw other refl ]

  pub all_lined_numbers : (xs ys : List Transaction) → IsOrdered ys →
      numbers_of priority (all_lined_up xs ys) ≡ numbers_of priority ys ++ numbers_of priority xs
  all_lined_numbers [] ys h = sym (append-nil (numbers_of priority ys))
  all_lined_numbers (x ∷ xs) ys h =
      all_lined_numbers xs (lined_up x ys) (ordered_lined x ys h)
      ∙ (ap (λ ks. ks ++ numbers_of priority xs) (lined_numbers x ys h)
      ∙ (append_assoc (numbers_of priority ys) (numbers_of priority (x ∷ [])) (numbers_of priority xs)
      ∙ ap (λ ks. numbers_of priority ys ++ ks) (sym (numbers_parts x xs))))

  -- a number that no transaction has
  not_there : (k : ℕ) (xs : List Transaction) → many (has_number k) xs ≡ 0 → is_in (numbers_of priority xs) k ≡ false
  not_there k [] none = refl
  not_there k (x ∷ xs) none =
      let rest = not_there k xs (omega arith) in
      elim (cases_Bool (nat_eq x.number k)) [
        | inl is ↦ absurd (let here : one (has_number k x) ≡ 1 = rw is refl in omega arith)
        | inr not' ↦ elim (cases_Bool (has_priority x)) [ inl has ↦ rw has (rw not' rest) | inr other ↦ rw other rest ]
      ]

  -- those that come were not there
  pub come_new : (chain come : List Transaction) → ((k : ℕ) → many (has_number k) come + many (has_number k) chain ≤ 1) →
      AllByRecursion (λ k. is_in (numbers_of priority chain) k ≡ false) (numbers_of priority come)
  come_new chain [] once = tt
  come_new chain (x ∷ xs) once =
      let rest = come_new chain xs (λ k. let all = once k in omega arith) in
      let here = eq-eqb x.number x.number refl in
      let is : one (has_number x.number x) ≡ 1 = rw here refl in
      let first = once x.number in
      let new = not_there x.number chain (omega arith) in
      elim (cases_Bool (has_priority x)) [ inl has ↦ rw has (new, rest) | inr other ↦ rw other rest ]

  -- the first of a chain goes
  pub picked_turn : (x : Transaction) (xs : List Transaction) → IsFirstInFirstOut (numbers_of priority (x ∷ xs)) (numbers_of priority xs)
  picked_turn x xs =
      elim (cases_Bool (has_priority x)) [
        | inl has ↦ rw (first_has x xs has) (first_gone x.number (numbers_of priority xs))
        | inr other ↦ rw (first_other x xs other) (unchanged (numbers_of priority xs))
      ]

  abbrev TakesTurns : Machine → Machine → Type 0
  TakesTurns s v = IsFirstInFirstOut (numbers_of priority s.current) (numbers_of priority v.current)

  same_turn : (s : Machine) → TakesTurns s s
  same_turn s = unchanged (numbers_of priority s.current)

  chain_turn : (s v : Machine) → v.current ≡ s.current → TakesTurns s v
  chain_turn s v same = rw same (same_turn s)

  -- one more who is not there yet, on a chain in order
  pub lined_turn : (x : Transaction) (ys : List Transaction) → IsOrdered ys → ((k : ℕ) → one (has_number k x) + many (has_number k) ys ≤ 1) →
      IsFirstInFirstOut (numbers_of priority ys) (numbers_of priority (lined_up x ys))
  lined_turn x ys order once =
      rw (lined_numbers x ys order)
      (joined (numbers_of priority ys) (numbers_of priority (x ∷ [])) (come_new ys (x ∷ []) (λ k. let all = once k in omega arith)))

  -- others stand after those who stood there, each with a number of his own
  record StandBehind (s w : Machine) : Type 0 where
    order : IsOrdered w.current
    come : List ℕ
    numbers : numbers_of priority w.current ≡ numbers_of priority s.current ++ come
    new : AllByRecursion (λ k. is_in (numbers_of priority s.current) k ≡ false) come
    numbered : IsNumbered w

  behind_turn : (s w : Machine) → StandBehind s w → TakesTurns s w
  behind_turn s w h =
      let P : List ℕ → Type 0 = λ ks. IsFirstInFirstOut (numbers_of priority s.current) ks in
      subst P (sym h.numbers) (joined (numbers_of priority s.current) h.come h.new)

  not_in_front : (ks js more : List ℕ) → AllByRecursion (λ k. is_in (ks ++ js) k ≡ false) more → AllByRecursion (λ k. is_in ks k ≡ false) more
  not_in_front ks js [] all = tt
  not_in_front ks js (k ∷ more) all =
      let parts = or_parts (is_in ks k) (is_in js k) (sym (list_any-append (λ other. nat_eq other k) ks js) ∙ all.0) in
      (parts.0, not_in_front ks js more all.1)

  stood : (s v : Machine) → IsNumbered v → IsOrdered s.current → v.current ≡ s.current → StandBehind s v
  stood s v numbered order same = record {
    order = subst IsOrdered (sym same) order;
    come = [];
    numbers = ap (numbers_of priority) same ∙ sym (append-nil (numbers_of priority s.current));
    new = tt;
    numbered = numbered;
  }

  -- one more comes, who is not there yet
  comes_behind : (s w v : Machine) (y : Transaction) → v.current ≡ lined_up y w.current → IsNumbered v → StandBehind s w → StandBehind s v
  comes_behind s w v y same numbered h =
      let new : AllByRecursion (λ k. is_in (numbers_of priority w.current) k ≡ false) (numbers_of priority (y ∷ [])) =
      come_new w.current (y ∷ []) (λ k.
      let lined = ap (many (has_number k)) same ∙ many_lined (has_number k) y w.current in
      let once = numbered.apart k in
      omega arith) in
      let Q : List ℕ → Type 0 = λ ks. AllByRecursion (λ k. is_in ks k ≡ false) (numbers_of priority (y ∷ [])) in
      record {
        order = subst IsOrdered (sym same) (ordered_lined y w.current h.order);
        come = h.come ++ numbers_of priority (y ∷ []);
        numbers =
            ap (numbers_of priority) same
            ∙ (lined_numbers y w.current h.order
            ∙ (ap (λ ks. ks ++ numbers_of priority (y ∷ [])) h.numbers
            ∙ append_assoc (numbers_of priority s.current) h.come (numbers_of priority (y ∷ []))));
        new =
            all_with (λ k. is_in (numbers_of priority s.current) k ≡ false) h.come (numbers_of priority (y ∷ [])) h.new
            (not_in_front (numbers_of priority s.current) h.come (numbers_of priority (y ∷ [])) (subst Q h.numbers new));
        numbered = numbered;
      }

  settled_behind : (s : Machine) (x : Transaction) (id : ℕ) (change : Change) (fate : Fate) → s.active ≡ Some x → IsNumbered s → IsOrdered s.current →
      StandBehind s (settled s x id change fate)
  settled_behind s x id change fates.Current is h order =
      comes_behind s s (settled s x id change fates.Current) (marked change s.clock (placed x id)) (settled_is s x id change fates.Current).current
      (settled_numbered s x id change fates.Current is h) (stood s s h order refl)
  settled_behind s x id change fate is h order =
      stood s (settled s x id change fate) (settled_numbered s x id change fate is h) order (settled_is s x id change fate).current

  lets_behind : (s w : Machine) (key : Key) (x : Transaction) (passed xs : List Transaction) → delay_at w.delays key ≡ passed ++ x ∷ xs →
      StandBehind s w → StandBehind s (one_let_in key x (passed ++ xs) w)
  lets_behind s w key x passed xs is h =
      comes_behind s w (one_let_in key x (passed ++ xs) w) (let_in_as x x.destination) (let_in_is key x (passed ++ xs) w).current
      (lets_numbered w key x passed xs is h.numbered) h

  copied_behind : (s w : Machine) (to : Option ℕ) (x : Transaction) (values : List (Key × ℤ)) → w.next < 2 ^ 64 - 1 → StandBehind s w →
      StandBehind s (one_copied to x values w)
  copied_behind s w to x values room h =
      comes_behind s w (one_copied to x values w) (copied x w.next to) refl (copied_numbered to x values w room h.numbered) h

  unlinked_behind : (s w : Machine) (key : Key) (to : Option ℕ) (x : Transaction) (xs : List Transaction) →
      (user_chain_at w.linked key).members ≡ x ∷ xs → StandBehind s w → StandBehind s (one_unlinked key to x xs w)
  unlinked_behind s w key to x xs is h =
      comes_behind s w (one_unlinked key to x xs w) (sent to x) refl (unlinked_numbered w key to x xs is h.numbered) h

  -- those who wake stand after, too
  woken_behind : (list : List Watched) (s w : Machine) → StandBehind s w → StandBehind s (woken list w)
  woken_behind list s w h =
      let xs = transactions_of (filter (is_woken list) w.retry) in
      let numbered = same_numbered w (woken list w) refl (λ k. let same = woken_crowd (has_number k) list w in omega arith) h.numbered in
      let new : AllByRecursion (λ k. is_in (numbers_of priority w.current) k ≡ false) (numbers_of priority xs) =
      come_new w.current xs (λ k. let lined = many_all_lined (has_number k) xs w.current in let once = numbered.apart k in omega arith) in
      let Q : List ℕ → Type 0 = λ ks. AllByRecursion (λ k. is_in ks k ≡ false) (numbers_of priority xs) in
      record {
        order = ordered_all_lined xs w.current h.order;
        come = h.come ++ numbers_of priority xs;
        numbers =
            all_lined_numbers xs w.current h.order
            ∙ (ap (λ ks. ks ++ numbers_of priority xs) h.numbers
            ∙ append_assoc (numbers_of priority s.current) h.come (numbers_of priority xs));
        new =
            all_with (λ k. is_in (numbers_of priority s.current) k ≡ false) h.come (numbers_of priority xs) h.new
            (not_in_front (numbers_of priority s.current) h.come (numbers_of priority xs) (subst Q h.numbers new));
        numbered = numbered;
      }

  -- after a move those stand who wake
  abbrev DecidedTurn : Machine → Move → Type 0
  DecidedTurn s m = TakesTurns s (woken (written s m) (moved s m))

  none_turn : (s v : Machine) → TakesTurns s v → TakesTurns s (woken [] v)
  none_turn s v h = unwoken (TakesTurns s) v h

  decided_turn : (t : Listing) (s : Machine) (m : Move) → s.next + 100000 < 2 ^ 64 - 1 → IsDecided t s m → IsNumbered s → IsOrdered s.current →
      DecidedTurn s m
  decided_turn t s (moves.Start count arrivals) room decided h order = none_turn s (moved s (moves.Start count arrivals)) (same_turn s)
  decided_turn t s moves.Command room decided h order = none_turn s (moved s moves.Command) (same_turn s)
  decided_turn t s moves.Reset room decided h order = none_turn s (moved s moves.Reset) (same_turn s)
  decided_turn t s moves.Clear room decided h order = none_turn s (moved s moves.Clear) (all_go (numbers_of priority s.current))
  decided_turn t s (moves.Enter id change fate) room decided h order =
      let m = moves.Enter id change fate in
      behind_turn s (woken (written s m) (moved s m))
      (woken_behind (written s m) s (moved s m)
      (entered_has (λ v. (v.next ≡ s.next) × StandBehind s v) (StandBehind s) t s id change fate decided.1 (stood s s h order refl)
      (λ x is. ((settled_is s x id change fate).next, settled_behind s x id change fate is h order))
      (λ v. record {
        nothing = λ k. k.1;
        one = λ a coming k. record {
          order = k.1.order;
          come = k.1.come;
          numbers = k.1.numbers;
          new = k.1.new;
          numbered = made_numbered a (making_of v) v (omega (arith, room, k.0)) k.1.numbered;
        };
        lets = lets_behind s;
        copies = λ w to x values copying k. copied_behind s w to x values (omega (arith, room, copying.below)) k;
        unlinks = λ w key to x xs named is k. unlinked_behind s w key to x xs is k;
      })))
  decided_turn t s (moves.Refuse id key units) room decided h order =
      none_turn s (moved s (moves.Refuse id key units))
      (with_active_has (TakesTurns s) s.active (λ x. refused s x id key units) s (same_turn s) (λ x is. same_turn s))
  decided_turn t s (moves.Watch read) room decided h order =
      none_turn s (moved s (moves.Watch read))
      (with_active_has (TakesTurns s) s.active (λ x. watching s x read) s (same_turn s) (λ x is. same_turn s))
  decided_turn t s moves.Pick room decided h order =
      none_turn s (moved s moves.Pick)
      (picked_has (TakesTurns s) s s.current (same_turn s)
      (λ x xs is. rw is (picked_turn x xs)))
  decided_turn t s (moves.Clock time) room decided h order =
      none_turn s (moved s (moves.Clock time))
      (rw (all_lined_numbers (due time s.future) s.current order)
      (joined (numbers_of priority s.current) (numbers_of priority (due time s.future))
      (come_new s.current (due time s.future) (λ k. let parts = future_parts (has_number k) time s.future in let once = h.apart k in omega arith))))

pub chain_is_first_in_first_out : ChainIsFirstInFirstOut
chain_is_first_in_first_out t seed n s v well within there is priority =
    let after = (step_decides t seed s v (sym (run_on t seed n s there) ∙ is)).0 in
    let P : Machine → Type 0 = λ w. IsFirstInFirstOut (numbers_of priority s.current) (numbers_of priority w.current) in
    let room = all_within t seed n s well within there in
    subst P (sym after.is) (decided_turn priority t s after.move (omega (arith, room.next, within, well.greatest_limit)) after.is_decided
    (all_numbered t seed well n s there within) (all_ordered t seed n s there))
