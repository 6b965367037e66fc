-- Those who wait for a change: who comes and who stays, and in which order they wake.
use Rattle.std.proofs.Common.{◌≡◌, ◌⊎◌, ℕ, zero, suc, ◌<◌, Bool, true, false, not, List, [], ◌∷◌, ◌++◌, append-nil, filter, Option, Some, None, Ok, refl, sym, ap, subst, ◌∙◌, inl, inr, arith}
use Rattle.std.specs.Prelude.{Contains, slice_get}
use Rattle.std.specs.List.{AllByRecursion}
use Rattle.std.proofs.lemmas.Bool.{cases_Bool, cond_both}
use Rattle.std.proofs.lemmas.List.Elements.{filter-append}
use Rattle.gw_nums.specs.Range.{is_below}
use Rattle.gw_streams.specs.declared.stream.Stream.{Stream}
use Rattle.gw_meaning.specs.declared.transaction.Transaction.{Transaction}
use Rattle.gw_meaning.specs.declared.moves.Change.{Change}
use Rattle.gw_meaning.specs.declared.moves.Fate.{Fate}
use Rattle.gw_meaning.specs.declared.moves.Move.{Move}
use Rattle.gw_meaning.specs.declared.moves.Move.TheVariants as moves
use Rattle.gw_meaning.specs.Watching.{Waiter, transactions_of}
use Rattle.gw_meaning.specs.Machine.{Machine}
use Rattle.gw_meaning.specs.Changes.{lined_up, all_lined_up, entering, refused, watching, with_active, moved, written, is_woken, decided}
use Rattle.gw_meaning.proofs.Programs.{run_on}
use Rattle.gw_meaning.proofs.Chains.{IsOrdered, AreNotAbove, ordered_lined}
use Rattle.gw_frame.proofs.Decided.{step_decides}
use Rattle.gw_frame.proofs.Moves.{settled, settled_is, with_active_has, picked_has}
use Rattle.gw_laws.specs.Waiters.{IsAtMostTheActive, Waits, StandsInFront, WaitersKeepTheirOrder, WokenInOrder, WokenByWhatIsWritten}
use Rattle.gw_laws.proofs.Waiting.{let_in_is}
use Rattle.gw_laws.proofs.ChainLaws.{all_chained, moved_ordered, never_below_itself}
use Rattle.gw_laws.proofs.EndLaws.{went_on, goes_on}
use Rattle.gw_laws.proofs.Tried.{changed_keeps}
use Rattle.gw_laws.proofs.Anew.{clears_or, no_clear, filter_none}
use Rattle.gw_laws.specs.Anew.{Clears}

-- ---- who stands on a list, and in front of whom

module _ {X : Type 0} where
  abbrev pub Stands : List X → X → Type 0
  Stands [] x = ⊥
  Stands (y ∷ ys) x = (y ≡ x) ⊎ Stands ys x

  abbrev Before : List X → X → X → Type 0
  Before [] x y = ⊥
  Before (z ∷ zs) x y = ((z ≡ x) × Stands zs y) ⊎ Before zs x y

  pub stands_of : (xs : List X) (x : X) → Contains xs x → Stands xs x
  stands_of [] x there = absurd (omega (arith, there.1))
  stands_of (y ∷ ys) x (zero, within, same) = inl same
  stands_of (y ∷ ys) x (suc i, within, same) = inr (stands_of ys x (i, omega (arith, within), same))

  pub contains_of : (xs : List X) (x : X) → Stands xs x → Contains xs x
  contains_of [] x there = absurd there
  contains_of (y ∷ ys) x (inl same) = (0, omega arith, same)
  contains_of (y ∷ ys) x (inr there) = let rest = contains_of ys x there in (suc rest.0, omega (arith, rest.1), rest.2)

  stands_at : (xs : List X) (i : ℕ) (x : X) → slice_get xs i ≡ Some x → Stands xs x
  stands_at [] i x is = absurd cc
  stands_at (y ∷ ys) zero x is = inl cc
  stands_at (y ∷ ys) (suc i) x is = inr (stands_at ys i x is)

  at_stands : (xs : List X) (x : X) → Stands xs x → (i : ℕ) × (slice_get xs i ≡ Some x)
  at_stands [] x there = absurd there
  at_stands (y ∷ ys) x (inl same) = (0, ap (λ z. Some z) same)
  at_stands (y ∷ ys) x (inr there) = let rest = at_stands ys x there in (suc rest.0, rest.1)

  before_of : (xs : List X) (i j : ℕ) (x y : X) → i < j → slice_get xs i ≡ Some x → slice_get xs j ≡ Some y → Before xs x y
  before_of [] i j x y less here there = absurd cc
  before_of (z ∷ zs) zero zero x y less here there = absurd (omega (arith, less))
  before_of (z ∷ zs) zero (suc j) x y less here there = inl (cc, stands_at zs j y there)
  before_of (z ∷ zs) (suc i) zero x y less here there = absurd (omega (arith, less))
  before_of (z ∷ zs) (suc i) (suc j) x y less here there = inr (before_of zs i j x y (omega (arith, less)) here there)

  front_of : (xs : List X) (x y : X) → Before xs x y → StandsInFront xs x y
  front_of [] x y before = absurd before
  front_of (z ∷ zs) x y (inl (same, there)) = let at = at_stands zs y there in (0, suc at.0, omega arith, ap (λ v. Some v) same, at.1)
  front_of (z ∷ zs) x y (inr before) =
      let rest = front_of zs x y before in (suc rest.0, suc rest.1, omega (arith, rest.2), rest.3, rest.4)

  pub stands_append : (xs ys : List X) (x : X) → Stands xs x → Stands (xs ++ ys) x
  stands_append [] ys x there = absurd there
  stands_append (z ∷ zs) ys x (inl same) = inl same
  stands_append (z ∷ zs) ys x (inr there) = inr (stands_append zs ys x there)

  before_append : (xs ys : List X) (x y : X) → Before xs x y → Before (xs ++ ys) x y
  before_append [] ys x y before = absurd before
  before_append (z ∷ zs) ys x y (inl (same, there)) = inl (same, stands_append zs ys y there)
  before_append (z ∷ zs) ys x y (inr before) = inr (before_append zs ys x y before)

  module _ (p : X → Bool) where
    pub stands_filter : (xs : List X) (x : X) → p x ≡ true → Stands xs x → Stands (filter p xs) x
    stands_filter [] x is there = absurd there
    stands_filter (z ∷ zs) x is (inl same) = let here : p z ≡ true = ap p same ∙ is in rw here (inl same)
    stands_filter (z ∷ zs) x is (inr there) =
        let rest = stands_filter zs x is there in
        elim (cases_Bool (p z)) [ inl yes' ↦ rw yes' (inr rest) | inr no' ↦ rw no' rest ]

    before_filter : (xs : List X) (x y : X) → p x ≡ true → p y ≡ true → Before xs x y → Before (filter p xs) x y
    before_filter [] x y one' other before = absurd before
    before_filter (z ∷ zs) x y one' other (inl (same, there)) =
        let here : p z ≡ true = ap p same ∙ one' in rw here (inl (same, stands_filter zs y other there))
    before_filter (z ∷ zs) x y one' other (inr before) =
        let rest = before_filter zs x y one' other before in
        elim (cases_Bool (p z)) [ inl yes' ↦ rw yes' (inr rest) | inr no' ↦ rw no' rest ]

pub all_stands : {X : Type 0} (P : X → Type 0) (xs : List X) (x : X) → AllByRecursion P xs → Stands xs x → P x
all_stands P [] x all there = absurd there
all_stands P (y ∷ ys) x all (inl same) = subst P same all.0
all_stands P (y ∷ ys) x all (inr there) = all_stands P ys x all.1 there

pub stands_transactions : (ws : List Waiter) (w : Waiter) → Stands ws w → Stands (transactions_of ws) w.transaction
stands_transactions [] w there = absurd there
stands_transactions (v ∷ vs) w (inl same) = inl (ap (λ (u : Waiter). u.transaction) same)
stands_transactions (v ∷ vs) w (inr there) = inr (stands_transactions vs w there)

before_transactions : (ws : List Waiter) (v w : Waiter) → Before ws v w → Before (transactions_of ws) v.transaction w.transaction
before_transactions [] v w before = absurd before
before_transactions (u ∷ us) v w (inl (same, there)) = inl (ap (λ (z : Waiter). z.transaction) same, stands_transactions us w there)
before_transactions (u ∷ us) v w (inr before) = inr (before_transactions us v w before)

-- ---- lining up keeps that, and puts whoever comes later after

lined_stands : (x : Transaction) (ys : List Transaction) (z : Transaction) → Stands ys z → Stands (lined_up x ys) z
lined_stands x [] z there = absurd there
lined_stands x (y ∷ ys) z there =
    cond_both (is_below y.priority x.priority) (x ∷ y ∷ ys) (y ∷ lined_up x ys) (λ zs. Stands zs z) (λ _. inr there)
    (λ _. elim there [ inl same ↦ inl same | inr rest ↦ inr (lined_stands x ys z rest) ])

lined_before : (x : Transaction) (ys : List Transaction) (a b : Transaction) → Before ys a b → Before (lined_up x ys) a b
lined_before x [] a b before = absurd before
lined_before x (y ∷ ys) a b before =
    cond_both (is_below y.priority x.priority) (x ∷ y ∷ ys) (y ∷ lined_up x ys) (λ zs. Before zs a b) (λ _. inr before)
    (λ _. elim before [ inl here ↦ inl (here.0, lined_stands x ys b here.1) | inr rest ↦ inr (lined_before x ys a b rest) ])

lined_itself : (x : Transaction) (ys : List Transaction) → Stands (lined_up x ys) x
lined_itself x [] = inl refl
lined_itself x (y ∷ ys) =
    cond_both (is_below y.priority x.priority) (x ∷ y ∷ ys) (y ∷ lined_up x ys) (λ zs. Stands zs x) (λ _. inl refl) (λ _. inr (lined_itself x ys))

-- after its equals
lined_behind : (x : Transaction) (ys : List Transaction) (a : Transaction) → IsOrdered ys → Stands ys a → a.priority ≡ x.priority → Before (lined_up x ys) a x
lined_behind x [] a order there equal = absurd there
lined_behind x (y ∷ ys) a order (inl same) equal =
    let level : is_below y.priority x.priority ≡ false = ap (λ (z : Transaction). is_below z.priority x.priority) same
    ∙ (ap (λ p. is_below p x.priority) equal ∙ never_below_itself x.priority) in
    rw level (inl (same, lined_itself x ys))
lined_behind x (y ∷ ys) a order (inr there) equal =
    let above : is_below y.priority a.priority ≡ false =
    all_stands (λ (z : Transaction). is_below y.priority z.priority ≡ false) ys a (not_above ys order.0) there in
    let level : is_below y.priority x.priority ≡ false = ap (is_below y.priority) (sym equal) ∙ above in
    let rest = lined_behind x ys a order.1 there equal in
    rw level (inr rest)
  where
    not_above : (zs : List Transaction) → AreNotAbove y zs → AllByRecursion (λ (z : Transaction). is_below y.priority z.priority ≡ false) zs
    not_above [] h = tt
    not_above (z ∷ zs) h = (h.0, not_above zs h.1)

all_lined_stands : (xs ys : List Transaction) (z : Transaction) → Stands ys z → Stands (all_lined_up xs ys) z
all_lined_stands [] ys z there = there
all_lined_stands (x ∷ xs) ys z there = all_lined_stands xs (lined_up x ys) z (lined_stands x ys z there)

pub all_lined_comes : (xs ys : List Transaction) (z : Transaction) → Stands xs z → Stands (all_lined_up xs ys) z
all_lined_comes [] ys z there = absurd there
all_lined_comes (x ∷ xs) ys z (inl same) =
    all_lined_stands xs (lined_up x ys) z (subst (Stands (lined_up x ys)) same (lined_itself x ys))
all_lined_comes (x ∷ xs) ys z (inr there) = all_lined_comes xs (lined_up x ys) z there

all_lined_before : (xs ys : List Transaction) (a b : Transaction) → Before ys a b → Before (all_lined_up xs ys) a b
all_lined_before [] ys a b before = before
all_lined_before (x ∷ xs) ys a b before = all_lined_before xs (lined_up x ys) a b (lined_before x ys a b before)

comes_behind : (xs ys : List Transaction) (a b : Transaction) → IsOrdered ys → Stands ys a → Stands xs b → a.priority ≡ b.priority →
    Before (all_lined_up xs ys) a b
comes_behind [] ys a b order here there equal = absurd there
comes_behind (x ∷ xs) ys a b order here (inl same) equal =
    let level : a.priority ≡ x.priority = equal ∙ ap (λ (z : Transaction). z.priority) (sym same) in
    all_lined_before xs (lined_up x ys) a b (subst (Before (lined_up x ys) a) same (lined_behind x ys a order here level))
comes_behind (x ∷ xs) ys a b order here (inr there) equal =
    comes_behind xs (lined_up x ys) a b (ordered_lined x ys order) (lined_stands x ys a here) there equal

in_order_lined : (xs ys : List Transaction) (a b : Transaction) → IsOrdered ys → Before xs a b → a.priority ≡ b.priority → Before (all_lined_up xs ys) a b
in_order_lined [] ys a b order before equal = absurd before
in_order_lined (x ∷ xs) ys a b order (inl (same, there)) equal =
    comes_behind xs (lined_up x ys) a b (ordered_lined x ys order) (subst (Stands (lined_up x ys)) same (lined_itself x ys)) there equal
in_order_lined (x ∷ xs) ys a b order (inr before) equal = in_order_lined xs (lined_up x ys) a b (ordered_lined x ys order) before equal

-- ---- who comes

abbrev pub who_comes : Move → Option Transaction → List Waiter
who_comes (moves.Watch read) (Some x) = record { transaction = x; read = read } ∷ []
who_comes m o = []

entering_retry : (s : Machine) (x : Transaction) (id : ℕ) (change : Change) (fate : Fate) → (entering s x id change fate).retry ≡ s.retry
entering_retry s x id change fate =
    changed_keeps (λ v. v.retry ≡ s.retry) change (settled s x id change fate)
    (record {
      makes = λ a w k. k;
      lets = λ w key y passed ys is k. (let_in_is key y (passed ++ ys) w).retry ∙ k;
      copies = λ w to y values k. k;
      unlinks = λ w key to y ys is k. k;
    })
    (settled_is s x id change fate).retry

-- after those who were there
pub retry_behind : (s : Machine) (m : Move) → (Clears m → ⊥) → (moved s m).retry ≡ s.retry ++ who_comes m s.active
retry_behind s moves.Clear apart = absurd (apart tt)
retry_behind s (moves.Enter id change fate) apart =
    with_active_has (λ v. v.retry ≡ s.retry) s.active (λ x. entering s x id change fate) s refl (λ x is. entering_retry s x id change fate)
    ∙ sym (append-nil s.retry)
retry_behind s (moves.Refuse id key units) apart =
    with_active_has (λ v. v.retry ≡ s.retry) s.active (λ x. refused s x id key units) s refl (λ x is. refl) ∙ sym (append-nil s.retry)
retry_behind s (moves.Watch read) apart = go s.active where
  go : (o : Option Transaction) → (with_active o (λ x. watching s x read) s).retry ≡ s.retry ++ who_comes (moves.Watch read) o
  go None = sym (append-nil s.retry)
  go (Some x) = refl
retry_behind s moves.Pick apart =
    picked_has (λ v. v.retry ≡ s.retry) s s.current refl (λ x xs is. refl) ∙ sym (append-nil s.retry)
retry_behind s m apart = sym (append-nil s.retry)

pub who_comes_is : (m : Move) (o : Option Transaction) → IsAtMostTheActive o (who_comes m o)
who_comes_is (moves.Watch read) (Some x) = inr (record { transaction = x; read = read }, refl, refl)
who_comes_is (moves.Watch read) None = inl refl
who_comes_is m o = inl refl

at_most_still : (p : Waiter → Bool) (o : Option Transaction) (come : List Waiter) → IsAtMostTheActive o come → IsAtMostTheActive o (filter p come)
at_most_still p o come (inl none) = inl (ap (filter p) none)
at_most_still p o come (inr (w, one', active)) = elim (cases_Bool (p w)) [
  | inl is ↦ inr (w, ap (filter p) one' ∙ (rw is refl), active)
  | inr other ↦ inl (ap (filter p) one' ∙ (rw other refl))
]

-- whoever read nothing that is written waits on
abbrev pub waits_on : Machine → Move → Waiter → Bool
waits_on s m w = not (is_woken (written s m) w)

pub retry_decided : (s : Machine) (m : Move) (streams : List Stream) → (Clears m → ⊥) →
    (decided s m streams).retry ≡ filter (waits_on s m) s.retry ++ filter (waits_on s m) (who_comes m s.active)
retry_decided s m streams apart = ap (filter (waits_on s m)) (retry_behind s m apart) ∙ filter-append (waits_on s m) s.retry (who_comes m s.active)

pub waiters_keep_their_order : WaitersKeepTheirOrder
waiters_keep_their_order t seed s v is =
    let went = went_on t seed s v is in
    let m = went.0.0 in
    elim (clears_or m) [
      | inl clears ↦ (
        (λ w. false),
        [],
        none_waits s v m went.0.1 went.2 clears ∙ sym (append-nil (filter (λ w. false) s.retry) ∙ filter_none s.retry),
        inl refl,
      )
      | inr apart ↦ (
        waits_on s m,
        filter (waits_on s m) (who_comes m s.active),
        ap (λ (u : Machine). u.retry) went.2 ∙ retry_decided s m went.0.1 apart,
        at_most_still (waits_on s m) s.active (who_comes m s.active) (who_comes_is m s.active),
      )
    ]
  where
    -- after a CLEAR nobody waits
    none_waits : (s v : Machine) (m : Move) (streams : List Stream) → v ≡ decided s m streams → Clears m → v.retry ≡ []
    none_waits s v moves.Clear streams same c = ap (λ (u : Machine). u.retry) same
    none_waits s v m streams same c = absurd c

-- ---- whom a step wakes

woken_waits_on : (s : Machine) (m : Move) (streams : List Stream) (w : Waiter) → (Clears m → ⊥) → Waits s w → is_woken (written s m) w ≡ false →
    Waits (decided s m streams) w
woken_waits_on s m streams w apart there unread =
    let still = stands_filter (waits_on s m) s.retry w (ap not unread) (stands_of s.retry w there) in
    let stands = stands_append (filter (waits_on s m) s.retry) (filter (waits_on s m) (who_comes m s.active)) w still in
    subst (λ ws. Contains ws w) (sym (retry_decided s m streams apart)) (contains_of _ w stands)

-- those who wake were there before
abbrev who_wakes : Machine → Move → List Waiter
who_wakes s m = filter (is_woken (written s m)) (moved s m).retry

wake_behind : (s : Machine) (m : Move) → (Clears m → ⊥) →
    who_wakes s m ≡ filter (is_woken (written s m)) s.retry ++ filter (is_woken (written s m)) (who_comes m s.active)
wake_behind s m apart = ap (filter (is_woken (written s m))) (retry_behind s m apart) ∙ filter-append (is_woken (written s m)) s.retry (who_comes m s.active)

wakes : (s : Machine) (m : Move) (streams : List Stream) (w : Waiter) → (Clears m → ⊥) → Waits s w → is_woken (written s m) w ≡ true →
    Contains (decided s m streams).current w.transaction
wakes s m streams w apart there is =
    let some = stands_filter (is_woken (written s m)) s.retry w is (stands_of s.retry w there) in
    let all = stands_append (filter (is_woken (written s m)) s.retry) (filter (is_woken (written s m)) (who_comes m s.active)) w some in
    let stands : Stands (who_wakes s m) w = subst (λ ws. Stands ws w) (sym (wake_behind s m apart)) all in
    contains_of _ w.transaction (all_lined_comes (transactions_of (who_wakes s m)) (moved s m).current w.transaction
    (stands_transactions (who_wakes s m) w stands))

pub woken_by_what_is_written : WokenByWhatIsWritten
woken_by_what_is_written t seed s v w m streams goes is apart there =
    let same : decided s m streams ≡ v = let both : Ok (decided s m streams) ≡ Ok v = sym (goes_on t seed s (m, streams) goes) ∙ is in cc in (
      λ read. subst (λ (u : Machine). Contains u.current w.transaction) same (wakes s m streams w apart there read),
      λ unread. subst (λ u. Waits u w) same (woken_waits_on s m streams w apart there unread),
    )

-- whoever waits no longer was woken
pub was_woken : (s : Machine) (m : Move) (streams : List Stream) (w : Waiter) → (Clears m → ⊥) → Waits s w → (Waits (decided s m streams) w → ⊥) →
    is_woken (written s m) w ≡ true
was_woken s m streams w apart there gone = elim (cases_Bool (is_woken (written s m) w)) [
  | inl is ↦ is
  | inr unread ↦ absurd (gone (woken_waits_on s m streams w apart there unread))
]

pub woken_in_order : WokenInOrder
woken_in_order t seed n s v there is none w u front equal gone other =
    let after = (step_decides t seed s v (sym (run_on t seed n s there) ∙ is)).0 in
    let m = after.move in
    let apart = no_clear t s m after.is_decided none in
    let P : Machine → Type 0 = λ z. (Waits z w → ⊥) → (Waits z u → ⊥) → StandsInFront z.current w.transaction u.transaction in
    let before = before_of s.retry front.0 front.1 w u front.2 front.3 front.4 in
    let ordered = (moved_ordered t s m after.is_decided (all_chained t seed n s there)).current in
    subst P (sym after.is) (λ one' two.
    (let first = was_woken s m after.streams w apart (contains_of s.retry w (stands_at s.retry front.0 w front.3)) one' in
    let second = was_woken s m after.streams u apart (contains_of s.retry u (stands_at s.retry front.1 u front.4)) two in
    let some = before_filter (is_woken (written s m)) s.retry w u first second before in
    let all = before_append (filter (is_woken (written s m)) s.retry) (filter (is_woken (written s m)) (who_comes m s.active)) w u some in
    let among = subst (λ ws. Before ws w u) (sym (wake_behind s m apart)) all in
    front_of _ w.transaction u.transaction
    (in_order_lined (transactions_of (who_wakes s m)) (moved s m).current w.transaction u.transaction ordered
    (before_transactions (who_wakes s m) w u among) equal))) gone other
