-- Who waits on a delay chain, move by move: whoever goes on waiting keeps his place, and whoever leaves is let in.
use Rattle.std.proofs.Common.{◌≡◌, ◌⊎◌, ℕ, zero, suc, ◌≤◌, ℤ, nat_eq, Bool, true, false, not, ◌&&◌, List, [], ◌∷◌, ◌++◌, filter, Some, refl, sym, ap, subst, ◌∙◌, append-nil, arith, inl, inr}
use Rattle.std.specs.Prelude.{Contains}
use Rattle.std.specs.List.{AllByRecursion}
use Rattle.std.specs.Ordering.{int_eq}
use Rattle.std.proofs.lemmas.Bool.{cases_Bool, eq-eqb}
use Rattle.std.proofs.lemmas.List.Elements.{All-from_recursion, All-contains, Contains-append_cases, Contains-append_left, Contains-append_right}
use Rattle.gw_names.specs.declared.key.Key.{Key}
use Rattle.gw_names.specs.Keys.{key_eq}
use Rattle.gw_entities.proofs.QueueArrivalLaws.{key_same}
use Rattle.gw_meaning.specs.declared.transaction.Transaction.{Transaction}
use Rattle.gw_meaning.specs.declared.moves.Move.{Move}
use Rattle.gw_meaning.specs.declared.moves.Move.TheVariants as moves
use Rattle.gw_meaning.specs.Listing.{Listing}
use Rattle.gw_meaning.specs.Machine.{Machine, delay_at}
use Rattle.gw_meaning.specs.Changes.{lined_up, one_let_in, copied, one_copied, sent, one_unlinked, placed, bound, refused, picked, moved, watching, written, woken, is_woken}
use Rattle.gw_meaning.proofs.Programs.{run_on}
use Rattle.gw_meaning.proofs.Chains.{IsOrdered}
use Rattle.gw_meaning.specs.declared.watched.Watched.{Watched}
use Rattle.gw_meaning.specs.Watching.{transactions_of}
use Rattle.gw_frame.proofs.Decided.{step_decides}
use Rattle.gw_frame.proofs.Known.{IsDecided}
use Rattle.gw_frame.proofs.Moves.{settled, settled_is, with_active_has, entered_has, picked_has}
use Rattle.gw_laws.specs.Chain.{numbers_of, is_in, KeepPlaces}
use Rattle.gw_laws.specs.Delays.{WhoWaitsKeepsHisPlace, IsBound, IsLetIn, WhoLeavesIsLetIn}
use Rattle.gw_laws.proofs.Waiting.{let_in_as, let_in_is, lined_keeps, lined_has}
use Rattle.gw_laws.proofs.LettingIn.{set_here, set_there, set_has}
use Rattle.gw_laws.proofs.Crowd.{one, many, many_without, active_crowd, waiting_with}
use Rattle.gw_laws.proofs.NumberLaws.{has_number, IsNumbered, all_numbered}
use Rattle.gw_laws.proofs.ChainLaws.{delay_ordered, all_chained, come_new, lined_numbers}
use Rattle.gw_laws.proofs.DelayLaws.{delay_bound, all_bound}
use Rattle.gw_laws.proofs.Waking.{all_lined_keeps}
use Rattle.gw_laws.proofs.Anew.{none_stay, no_clear}
use Rattle.gw_laws.specs.Anew.{Clears}

-- ---- whoever goes on waiting keeps his place

filter_all : (ks : List ℕ) → filter (λ k. true) ks ≡ ks
filter_all [] = refl
filter_all (k ∷ ks) = ap (λ js. k ∷ js) (filter_all ks)

filter_both : (f g : ℕ → Bool) (ks : List ℕ) → filter g (filter f ks) ≡ filter (λ k. f k && g k) ks
filter_both f g [] = refl
filter_both f g (k ∷ ks) =
    let rest = filter_both f g ks in
    elim (cases_Bool (f k)) [
      | inl is ↦ rw is (elim (cases_Bool (g k)) [ inl also ↦ rw also (ap (λ js. k ∷ js) rest) | inr not' ↦ rw not' rest ])
      | inr other ↦ rw other rest
    ]

-- some stay, or others come after all
pub some_stay : (before after : List ℕ) (stays : ℕ → Bool) → after ≡ filter stays before → KeepPlaces before after
some_stay before after stays is =
    (stays, [], is ∙ sym (append-nil (filter stays before)), All-from_recursion (λ k. is_in before k ≡ false) [] tt)

pub others_come : (before come : List ℕ) → AllByRecursion (λ k. is_in before k ≡ false) come → KeepPlaces before (before ++ come)
others_come before come new =
    ((λ k. true), come, ap (λ ks. ks ++ come) (sym (filter_all before)), All-from_recursion (λ k. is_in before k ≡ false) come new)

pub all_stay : (ks : List ℕ) → KeepPlaces ks ks
all_stay ks = some_stay ks ks (λ k. true) (sym (filter_all ks))

module _ (priority : ℤ) where
  -- one is taken out, whose number no other one has
  abbrev others_than : ℕ → ℕ → Bool
  others_than k j = not (nat_eq j k)

  none_out : (k : ℕ) (xs : List Transaction) → many (has_number k) xs ≡ 0 → filter (others_than k) (numbers_of priority xs) ≡ numbers_of priority xs
  none_out k [] none = refl
  none_out k (x ∷ xs) none =
      let rest = none_out k xs (omega arith) in
      elim (cases_Bool (nat_eq x.number k)) [
        | inl is ↦ absurd (let here : one (has_number k x) ≡ 1 = rw is refl in omega arith)
        | inr other ↦ elim (cases_Bool (int_eq x.priority priority)) [
          | inl has ↦ rw has (rw other (ap (λ ks. x.number ∷ ks) rest))
          | inr lacks ↦ rw lacks rest
        ]
      ]

  one_out : (passed : List Transaction) (x : Transaction) (xs : List Transaction) → ((k : ℕ) → many (has_number k) (passed ++ x ∷ xs) ≤ 1) →
      numbers_of priority (passed ++ xs) ≡ filter (others_than x.number) (numbers_of priority (passed ++ x ∷ xs))
  one_out [] x xs once =
      let itself = eq-eqb x.number x.number refl in
      let here : one (has_number x.number x) ≡ 1 = rw itself refl in
      let all = once x.number in
      let rest = none_out x.number xs (omega arith) in
      elim (cases_Bool (int_eq x.priority priority)) [
        | inl has ↦ rw has (rw itself (sym rest))
        | inr lacks ↦ rw lacks (sym rest)
      ]
  one_out (y ∷ ys) x xs once =
      let rest = one_out ys x xs (λ k. let all = once k in omega arith) in
      let itself = eq-eqb x.number x.number refl in
      let here : one (has_number x.number x) ≡ 1 = rw itself refl in
      let all = once x.number in
      let whole = many_without (has_number x.number) ys x xs in
      elim (cases_Bool (nat_eq y.number x.number)) [
        | inl is ↦ absurd (let also : one (has_number x.number y) ≡ 1 = rw is refl in omega arith)
        | inr other ↦ elim (cases_Bool (int_eq y.priority priority)) [
          | inl has ↦ rw has (rw other (ap (λ ks. y.number ∷ ks) rest))
          | inr lacks ↦ rw lacks rest
        ]
      ]

  module _ (q : Key) where
    abbrev KeepsPlaces : Machine → Machine → Type 0
    KeepsPlaces s v = KeepPlaces (numbers_of priority (delay_at s.delays q)) (numbers_of priority (delay_at v.delays q))

    same_places : (s v : Machine) → v.delays ≡ s.delays → KeepsPlaces s v
    same_places s v same = rw same (all_stay (numbers_of priority (delay_at s.delays q)))

    -- of those who waited some still wait, each of another number
    record StillWait (s w : Machine) : Type 0 where
      stays : ℕ → Bool
      numbers : numbers_of priority (delay_at w.delays q) ≡ filter stays (numbers_of priority (delay_at s.delays q))
      apart : (k : ℕ) → many (has_number k) (delay_at w.delays q) ≤ 1

    all_wait : (s v : Machine) → IsNumbered s → v.delays ≡ s.delays → StillWait s v
    all_wait s v h same = record {
      stays = λ k. true;
      numbers = ap (λ ds. numbers_of priority (delay_at ds q)) same ∙ sym (filter_all (numbers_of priority (delay_at s.delays q)));
      apart = λ k.
          let parts = waiting_with (has_number k) s.delays q [] in
          let once = h.apart k in
          rw same (omega arith);
    }

    lets_wait : (s w : Machine) (key : Key) (x : Transaction) (passed xs : List Transaction) → delay_at w.delays key ≡ passed ++ x ∷ xs → StillWait s w →
        StillWait s (one_let_in key x (passed ++ xs) w)
    lets_wait s w key x passed xs is h =
        let v = one_let_in key x (passed ++ xs) w in
        let after = (let_in_is key x (passed ++ xs) w).delays in
        elim (cases_Bool (key_eq q key)) [
          | inl here ↦
              let now : delay_at v.delays q ≡ passed ++ xs = ap (λ ds. delay_at ds q) after ∙ set_here w.delays q key (passed ++ xs) here in
              let was : delay_at w.delays q ≡ passed ++ x ∷ xs = ap (delay_at w.delays) (key_same q key here) ∙ is in
              let once : (k : ℕ) → many (has_number k) (passed ++ x ∷ xs) ≤ 1 = subst (λ ys. (k : ℕ) → many (has_number k) ys ≤ 1) was h.apart in
              record {
                stays = λ k. h.stays k && others_than x.number k;
                numbers =
                    ap (numbers_of priority) now
                    ∙ (one_out passed x xs once
                    ∙ (ap (λ ys. filter (others_than x.number) (numbers_of priority ys)) (sym was)
                    ∙ (ap (filter (others_than x.number)) h.numbers
                    ∙ filter_both h.stays (others_than x.number) (numbers_of priority (delay_at s.delays q)))));
                apart = λ k.
                    let all = once k in
                    let whole = many_without (has_number k) passed x xs in
                    rw now (omega arith);
              }
          | inr other ↦
              let now : delay_at v.delays q ≡ delay_at w.delays q = ap (λ ds. delay_at ds q) after ∙ set_there w.delays q key (passed ++ xs) other in
              record { stays = h.stays; numbers = ap (numbers_of priority) now ∙ h.numbers; apart = λ k. let all = h.apart k in rw now (omega arith) }
        ]

    still_places : (s w : Machine) → StillWait s w → KeepsPlaces s w
    still_places s w h =
        some_stay (numbers_of priority (delay_at s.delays q)) (numbers_of priority (delay_at w.delays q)) h.stays h.numbers

    refused_places : (s : Machine) (x : Transaction) (id : ℕ) (key : Key) (units : ℕ) → s.active ≡ Some x → IsNumbered s → IsOrdered (delay_at s.delays key) →
        KeepsPlaces s (refused s x id key units)
    refused_places s x id key units is h order =
        let y = bound x id units in
        let chain = delay_at s.delays key in
        let R : List Transaction → List Transaction → Type 0 = λ xs ys. KeepPlaces (numbers_of priority xs) (numbers_of priority ys) in
        let new : AllByRecursion (λ k. is_in (numbers_of priority chain) k ≡ false) (numbers_of priority (y ∷ [])) =
        come_new priority chain (y ∷ []) (λ k.
        let all = active_crowd (has_number k) s x is in
        let parts = waiting_with (has_number k) s.delays key [] in
        let once = h.apart k in
        omega arith) in
        set_has R (λ xs. all_stay (numbers_of priority xs)) s.delays q key (lined_up y chain)
        (subst (KeepPlaces (numbers_of priority chain)) (sym (lined_numbers priority y chain order))
        (others_come (numbers_of priority chain) (numbers_of priority (y ∷ [])) new))

    moved_places : (t : Listing) (s : Machine) (m : Move) → IsDecided t s m → IsNumbered s → ((key : Key) → IsOrdered (delay_at s.delays key)) →
        KeepsPlaces s (moved s m)
    moved_places t s (moves.Start count arrivals) decided h order = same_places s (moved s (moves.Start count arrivals)) refl
    moved_places t s moves.Command decided h order = same_places s (moved s moves.Command) refl
    moved_places t s moves.Reset decided h order = same_places s (moved s moves.Reset) refl
    moved_places t s moves.Clear decided h order = none_stay (numbers_of priority (delay_at s.delays q))
    moved_places t s (moves.Enter id change fate) decided h order =
        still_places s (moved s (moves.Enter id change fate))
        (entered_has (StillWait s) (StillWait s) t s id change fate decided.1 (all_wait s s h refl)
        (λ x is. all_wait s (settled s x id change fate) h (settled_is s x id change fate).delays)
        (λ v. record {
          nothing = λ k. k;
          one = λ a coming k. record { stays = k.stays; numbers = k.numbers; apart = k.apart };
          lets = lets_wait s;
          copies = λ w to x values copying k. record { stays = k.stays; numbers = k.numbers; apart = k.apart };
          unlinks = λ w key to x xs named is k. record { stays = k.stays; numbers = k.numbers; apart = k.apart };
        }))
    moved_places t s (moves.Refuse id key units) decided h order =
        with_active_has (KeepsPlaces s) s.active (λ x. refused s x id key units) s (same_places s s refl)
        (λ x is. refused_places s x id key units is h (order key))
    moved_places t s (moves.Watch read) decided h order =
        with_active_has (KeepsPlaces s) s.active (λ x. watching s x read) s (same_places s s refl) (λ x is. same_places s (watching s x read) refl)
    moved_places t s moves.Pick decided h order =
        picked_has (KeepsPlaces s) s s.current (same_places s s refl) (λ x xs is. same_places s (picked s (x ∷ xs)) refl)
    moved_places t s (moves.Clock time) decided h order = same_places s (moved s (moves.Clock time)) refl

pub who_waits_keeps_his_place : WhoWaitsKeepsHisPlace
who_waits_keeps_his_place t seed n s v well within there is key priority =
    let after = (step_decides t seed s v (sym (run_on t seed n s there) ∙ is)).0 in
    let chained = all_chained t seed n s there in
    subst (KeepsPlaces priority key s) (sym after.is)
    (moved_places priority key t s after.move after.is_decided (all_numbered t seed well n s there within) (λ other. delay_ordered s other chained))

-- ---- whoever leaves is let in

pub first_or_rest : {X : Type 0} (y : X) (ys : List X) (x : X) → Contains (y ∷ ys) x → (y ≡ x) ⊎ Contains ys x
first_or_rest y ys x (zero, within, same) = inl same
first_or_rest y ys x (suc i, within, same) = inr (i, omega (arith, within), same)

module _ (q : Key) (x : Transaction) (way : IsBound x) where
  -- he waits, or was let in
  abbrev WaitsOrIsIn : Machine → Type 0
  WaitsOrIsIn w = Contains (delay_at w.delays q) x ⊎ IsLetIn x w

  this_one_in : (key : Key) (y : Transaction) (others : List Transaction) (w : Machine) → y ≡ x → IsLetIn x (one_let_in key y others w)
  this_one_in key y others w same =
      let stands : let_in_as y y.destination ≡ placed x way.0 = ap (λ (z : Transaction). let_in_as z z.destination) same ∙ ap (let_in_as x) way.1 in
      let there : Contains (one_let_in key y others w).current (let_in_as y y.destination) =
      subst (λ ys. Contains ys (let_in_as y y.destination)) (sym (let_in_is key y others w).current) (lined_has (let_in_as y y.destination) w.current) in
      (way.0, way.1, subst (Contains (one_let_in key y others w).current) stands there)

  still_in : (key : Key) (y : Transaction) (others : List Transaction) (w : Machine) → IsLetIn x w → IsLetIn x (one_let_in key y others w)
  still_in key y others w h = (
    h.0,
    h.1,
    subst (λ ys. Contains ys (placed x h.0)) (sym (let_in_is key y others w).current)
        (lined_keeps (let_in_as y y.destination) w.current (placed x h.0) h.2),
  )

  lets_stay : (w : Machine) (key : Key) (y : Transaction) (passed ys : List Transaction) → delay_at w.delays key ≡ passed ++ y ∷ ys → WaitsOrIsIn w →
      WaitsOrIsIn (one_let_in key y (passed ++ ys) w)
  lets_stay w key y passed ys is (inr in') = inr (still_in key y (passed ++ ys) w in')
  lets_stay w key y passed ys is (inl there) =
      let v = one_let_in key y (passed ++ ys) w in
      let after = (let_in_is key y (passed ++ ys) w).delays in
      elim (cases_Bool (key_eq q key)) [
        | inl here ↦
            let now : delay_at v.delays q ≡ passed ++ ys = ap (λ ds. delay_at ds q) after ∙ set_here w.delays q key (passed ++ ys) here in
            let was : Contains (passed ++ y ∷ ys) x = subst (λ zs. Contains zs x) (ap (delay_at w.delays) (key_same q key here) ∙ is) there in
            let stays : Contains (passed ++ ys) x → WaitsOrIsIn v = λ c. inl (subst (λ zs. Contains zs x) (sym now) c) in
            elim (Contains-append_cases passed (y ∷ ys) x was) [
              | inl front ↦ stays (Contains-append_left passed ys x front)
              | inr behind ↦ elim (first_or_rest y ys x behind) [
                | inl same ↦ inr (this_one_in key y (passed ++ ys) w same)
                | inr further ↦ stays (Contains-append_right passed ys x further)
              ]
            ]
        | inr other ↦
            let now : delay_at v.delays q ≡ delay_at w.delays q = ap (λ ds. delay_at ds q) after ∙ set_there w.delays q key (passed ++ ys) other in
            inl (subst (λ zs. Contains zs x) (sym now) there)
      ]

  refused_stay : (s : Machine) (y : Transaction) (id : ℕ) (key : Key) (units : ℕ) → Contains (delay_at s.delays q) x → WaitsOrIsIn (refused s y id key units)
  refused_stay s y id key units there =
      let R : List Transaction → List Transaction → Type 0 = λ zs ws. Contains zs x → Contains ws x in
      inl (set_has R (λ zs h. h) s.delays q key (lined_up (bound y id units) (delay_at s.delays key))
      (lined_keeps (bound y id units) (delay_at s.delays key) x) there)

  -- where another one lines up
  lined_stay : (y : Transaction) (w v : Machine) → v.delays ≡ w.delays → v.current ≡ lined_up y w.current → WaitsOrIsIn w → WaitsOrIsIn v
  lined_stay y w v delays current (inl there) = inl (subst (λ ds. Contains (delay_at ds q) x) (sym delays) there)
  lined_stay y w v delays current (inr in') =
      inr (in'.0, in'.1, subst (λ ys. Contains ys (placed x in'.0)) (sym current) (lined_keeps y w.current (placed x in'.0) in'.2))

  moved_stay : (t : Listing) (s : Machine) (m : Move) → IsDecided t s m → (Clears m → ⊥) → Contains (delay_at s.delays q) x →
      WaitsOrIsIn (moved s m)
  moved_stay t s moves.Clear decided apart there = absurd (apart tt)
  moved_stay t s (moves.Enter id change fate) decided apart there =
      entered_has WaitsOrIsIn WaitsOrIsIn t s id change fate decided.1 (inl there)
      (λ y is. inl (subst (λ ds. Contains (delay_at ds q) x) (sym (settled_is s y id change fate).delays) there))
      (λ v. record {
        nothing = λ k. k;
        one = λ a coming k. k;
        lets = lets_stay;
        copies = λ w to y values copying k. lined_stay (copied y w.next to) w (one_copied to y values w) refl refl k;
        unlinks = λ w key to y ys named is k. lined_stay (sent to y) w (one_unlinked key to y ys w) refl refl k;
      })
  moved_stay t s (moves.Refuse id key units) decided apart there =
      with_active_has WaitsOrIsIn s.active (λ y. refused s y id key units) s (inl there) (λ y is. refused_stay s y id key units there)
  moved_stay t s (moves.Watch read) decided apart there =
      with_active_has WaitsOrIsIn s.active (λ y. watching s y read) s (inl there) (λ y is. inl there)
  moved_stay t s moves.Pick decided apart there = picked_has WaitsOrIsIn s s.current (inl there) (λ y ys is. inl there)
  moved_stay t s m decided apart there = inl there

  woken_stay : (list : List Watched) (w : Machine) → WaitsOrIsIn w → WaitsOrIsIn (woken list w)
  woken_stay list w (inl there) = inl there
  woken_stay list w (inr in') =
      inr (in'.0, in'.1, all_lined_keeps (transactions_of (filter (is_woken list) w.retry)) w.current (placed x in'.0) in'.2)

pub who_leaves_is_let_in : WhoLeavesIsLetIn
who_leaves_is_let_in t seed n s v there is none key x waits =
    let after = (step_decides t seed s v (sym (run_on t seed n s there) ∙ is)).0 in
    let way : IsBound x =
    All-contains IsBound (delay_at s.delays key) x
    (All-from_recursion IsBound (delay_at s.delays key) (delay_bound s key (all_bound t seed n s there))) waits in
    subst (WaitsOrIsIn key x way) (sym after.is)
    (woken_stay key x way (written s after.move) (moved s after.move) (moved_stay key x way t s after.move after.is_decided
    (no_clear t s after.move after.is_decided none) waits))
