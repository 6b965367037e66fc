-- The copies that a SPLIT makes: their numbers, what they are, where they stand, and what is counted of them.
use Rattle.std.proofs.Common.{◌≡◌, ◌≢◌, ◌⊎◌, ℕ, zero, suc, ◌+◌, ◌-◌, ◌^◌, ◌<◌, ◌≤◌, nat_eq, ℤ, true, Bool, List, [], ◌∷◌, ◌++◌, map, filter, not, Option, Some, refl, sym, ap, subst, ◌∙◌, append_assoc, arith, inl, inr}
use Rattle.std.specs.Prelude.{option_to_list}
use Rattle.std.specs.List.{AllByRecursion}
use Rattle.std.specs.Ordering.{int_eq}
use Rattle.std.proofs.lemmas.Bool.{cases_Bool, eq-eqb, ne_eqb}
use Rattle.std.proofs.lemmas.Bool.Decides.{Decides-int_eq}
use Rattle.std.proofs.lemmas.List.Elements.{All-from_recursion, recursion_from_All, All-contains}
use Rattle.gw_names.specs.declared.key.Key.{Key}
use Rattle.gw_meaning.specs.Parameters.{values_at}
use Rattle.gw_streams.specs.declared.stream.Stream.{Stream}
use Rattle.gw_meaning.specs.declared.transaction.Transaction.{Transaction}
use Rattle.gw_meaning.specs.declared.transaction.Event.{Event}
use Rattle.gw_meaning.specs.declared.moves.Change.TheVariants as changes
use Rattle.gw_meaning.specs.declared.moves.Fate.{Fate}
use Rattle.gw_meaning.specs.declared.moves.Fate.TheVariants as fates
use Rattle.gw_meaning.specs.declared.moves.Move.{Move}
use Rattle.gw_meaning.specs.declared.moves.Move.TheVariants as moves
use Rattle.gw_meaning.specs.Listing.{Listing}
use Rattle.gw_meaning.specs.Watching.{Waiter, transactions_of}
use Rattle.gw_meaning.specs.Machine.{Machine, raised, count_at, waiting, members_of}
use Rattle.gw_meaning.specs.Changes.{all_lined_up, crossed, placed, copied, one_copied, all_copied, entering, with_active, moved, written, is_woken, woken, decided}
use Rattle.gw_meaning.proofs.Chains.{IsOrdered, ordered_all_lined}
use Rattle.gw_meaning.proofs.Programs.{run_on}
use Rattle.gw_frame.proofs.Decided.{is_decided}
use Rattle.gw_frame.proofs.Lawful.{all_with}
use Rattle.gw_frame.proofs.Known.{IsDecidedFate, IsDecided}
use Rattle.gw_frame.proofs.Moves.{settled, all_copied_keep, AfterCopying, all_copied_is}
use Rattle.gw_laws.specs.Chain.{numbers_of}
use Rattle.gw_laws.specs.Living.{living}
use Rattle.gw_laws.specs.Copies.{IsSplit, TheParentStaysActive, EachCopyHasANumber, IsCopyOf, CopiesAreAlike, numbers_from, CopiesLineUpInOrder, CopiesAreNoEntries, CopiesStandInTheBlock}
use Rattle.gw_laws.proofs.ChainLaws.{all_ordered, all_lined_numbers}
use Rattle.gw_laws.proofs.ContentLaws.{stands_in, crowd_fewer, all_counted}
use Rattle.gw_laws.proofs.Counts.{content, content_crossed, content_stood, entries_crossed_here, entries_crossed_there, entries_stood}
use Rattle.gw_laws.proofs.Crowd.{one}
use Rattle.gw_laws.proofs.NumberLaws.{numbers_are_given}
use Rattle.gw_laws.proofs.Room.{all_within}
use Rattle.gw_laws.proofs.UserChainLaws.{same_behind, who_is_active}
use Rattle.gw_laws.proofs.Waiting.{lined_all}

-- ---- so many copies

-- the copies of a transaction that goes to this block, with the numbers from this one on
abbrev pub copies_from : Transaction → Option ℕ → ℕ → ℕ → List Transaction
copies_from x to first zero = []
copies_from x to first (suc n) = copied x first to ∷ copies_from x to (suc first) n

copies_numbers : (x : Transaction) (to : Option ℕ) (first count : ℕ) → numbers_of x.priority (copies_from x to first count) ≡ numbers_from first count
copies_numbers x to first zero = refl
copies_numbers x to first (suc n) =
    let has : int_eq x.priority x.priority ≡ true = (Decides-int_eq x.priority x.priority).1 refl in
    rw has (ap (λ ks. first ∷ ks) (copies_numbers x to (suc first) n))

copies_all : (x : Transaction) (to : Option ℕ) (first count : ℕ) → AllByRecursion (IsCopyOf x to) (copies_from x to first count)
copies_all x to first zero = tt
copies_all x to first (suc n) = (record { priority = refl; mark = refl; current = refl; destination = refl }, copies_all x to (suc first) n)

module _ (to : Option ℕ) (x : Transaction) (values : List (Key × ℤ)) where
  copies_next : (count : ℕ) (w : Machine) → w.next + count < 2 ^ 64 - 1 → (all_copied count to x values w).next ≡ w.next + count
  copies_next count w room =
      let Q : ℕ → Machine → Type 0 = λ n u. u.next + n ≡ w.next + count in
      let all = all_copied_keep Q to x values (λ n u h. omega (arith, room, h)) count w refl in
      omega (arith, all)

  copies_current : (count : ℕ) (w : Machine) → w.next + count < 2 ^ 64 - 1 →
      (all_copied count to x values w).current ≡ all_lined_up (copies_from x to w.next count) w.current
  copies_current zero w room = refl
  copies_current (suc n) w room =
      let next : raised w.next ≡ suc w.next = omega (arith, room) in
      copies_current n (one_copied to x values w) (omega (arith, room))
      ∙ ap (λ first. all_lined_up (copies_from x to first n) (one_copied to x values w).current) next

  copies_content : (count : ℕ) (w : Machine) → content w.counts x.current + count < 2 ^ 64 - 1 →
      content (all_copied count to x values w).counts x.current ≡ content w.counts x.current + count
  copies_content count w room =
      let Q : ℕ → Machine → Type 0 = λ n u. content u.counts x.current + n ≡ content w.counts x.current + count in
      let here : one (nat_eq x.current x.current) ≡ 1 = ap one (eq-eqb x.current x.current refl) in
      let all = all_copied_keep Q to x values
      (λ n u h. let more = content_stood u.counts x.current x.current (omega (arith, room, h)) in omega (arith, h, here, more)) count w refl in
      omega (arith, all)

  copies_entries : (count : ℕ) (w : Machine) (p : ℕ) → (count_at (all_copied count to x values w).counts p).entries ≡ (count_at w.counts p).entries
  copies_entries count w p =
      all_copied_keep (λ n u. (count_at u.counts p).entries ≡ (count_at w.counts p).entries) to x values
      (λ n u h. entries_stood u.counts x.current p ∙ h) count w refl

-- ---- a step that is the entry of a SPLIT

-- the transaction in its block, before and after the making of the copies
abbrev pub settles : Machine → ℕ → ℕ → Option ℕ → Transaction → Machine
settles s id count to parent = settled s parent id (changes.Split count to) fates.Active

abbrev pub splits : Machine → ℕ → ℕ → Option ℕ → Transaction → Machine
splits s id count to parent = all_copied count to (placed parent id) (values_at s.parameters parent.number) (settles s id count to parent)

abbrev split_move : ℕ → ℕ → Option ℕ → Move
split_move id count to = moves.Enter id (changes.Split count to) fates.Active

-- what such a step is: those wake who read what it wrote
abbrev split_end : Machine → ℕ → ℕ → Option ℕ → Transaction → List Stream → Machine
split_end s id count to parent streams = record (woken (written s (split_move id count to)) (splits s id count to parent)) { streams = streams }

pub record Splits (s v : Machine) (id count : ℕ) (to : Option ℕ) : Type 0 where
  pub parent : Transaction
  pub active : s.active ≡ Some parent
  pub few : count ≤ 100000
  pub room : s.next + 100000 < 2 ^ 64 - 1
  pub streams : List Stream
  pub is : v ≡ split_end s id count to parent streams

stays_active : (s : Machine) (count : ℕ) (to : Option ℕ) (fate : Fate) → IsDecidedFate s (changes.Split count to) fate → fate ≡ fates.Active
stays_active s count to fates.Active h = refl
stays_active s count to (fates.Delayed until) h = absurd (let no = h.0 in cc)
stays_active s count to fate h = absurd cc

pub splits_so : (t : Listing) (seed : ℕ) (s v : Machine) (id count : ℕ) (to : Option ℕ) → IsSplit t seed s v id count to → Splits s v id count to
splits_so t seed s v id count to h =
    let m = moves.Enter id (changes.Split count to) h.fate in
    let goes = sym (run_on t seed h.moment s h.before) ∙ h.behind in
    let known : IsDecided t s m = is_decided t seed s (m, h.streams) h.splits in
    let fate = stays_active s count to h.fate known.2 in
    let who = who_is_active t seed s m h.streams id (changes.Split count to) h.fate h.splits refl in
    let f : Transaction → Machine = λ y. entering s y id (changes.Split count to) fates.Active in
    let enters : moved s (split_move id count to) ≡ splits s id count to who.0 = ap (λ o. with_active o f s) who.1 in
    let far = all_within t seed h.moment s h.well h.within h.before in
    record {
      parent = who.0;
      active = who.1;
      few = let few = known.1.few in omega (arith, few);
      room = omega (arith, far.next, h.within, h.well.greatest_limit);
      streams = h.streams;
      is =
          sym (same_behind t seed s v m h.streams h.splits goes)
          ∙ (ap (λ k. decided s (moves.Enter id (changes.Split count to) k) h.streams) fate
          ∙ ap (λ (w : Machine). let z : Machine = record (woken (written s (split_move id count to)) w) { streams = h.streams } in z) enters);
    }

module _ (s v : Machine) (id count : ℕ) (to : Option ℕ) (h : Splits s v id count to) where
  abbrev x : Transaction
  x = placed h.parent id

  abbrev u : Machine
  u = splits s id count to h.parent

  abbrev copies : List Transaction
  copies = copies_from x to s.next count

  abbrev wakers : List Transaction
  wakers = transactions_of (filter (is_woken (written s (split_move id count to))) u.retry)

  pub after : AfterCopying (settles s id count to h.parent) u
  after = all_copied_is count to x (values_at s.parameters (h.parent).number) (settles s id count to h.parent)

  pub split_active : v.active ≡ Some (placed h.parent id)
  split_active = ap (λ (w : Machine). w.active) h.is ∙ after.active

  pub is_parent : (y : Transaction) → v.active ≡ Some y → placed h.parent id ≡ y
  is_parent y active = let both : Some (placed h.parent id) ≡ Some y = sym split_active ∙ active in cc

  pub split_next : v.next ≡ s.next + count
  split_next =
      ap (λ (w : Machine). w.next) h.is
      ∙ copies_next to x (values_at s.parameters (h.parent).number) count (settles s id count to h.parent) (omega (arith, h.room, h.few))

  split_current : v.current ≡ all_lined_up wakers (all_lined_up copies s.current)
  split_current =
      ap (λ (w : Machine). w.current) h.is
      ∙ ap (all_lined_up wakers)
      (copies_current to x (values_at s.parameters (h.parent).number) count (settles s id count to h.parent) (omega (arith, h.room, h.few)))

  split_order : IsOrdered s.current →
      (woken : List ℕ) × (numbers_of x.priority v.current ≡ numbers_of x.priority s.current ++ (numbers_from s.next count ++ woken))
  split_order ordered =
      let ks = numbers_of x.priority s.current in
      let js = numbers_of x.priority wakers in (
        js,
        ap (numbers_of x.priority) split_current
            ∙ (all_lined_numbers x.priority wakers (all_lined_up copies s.current) (ordered_all_lined copies s.current ordered)
            ∙ (ap (λ is. is ++ js) (all_lined_numbers x.priority copies s.current ordered)
            ∙ (append_assoc ks (numbers_of x.priority copies) js ∙ ap (λ is. ks ++ (is ++ js)) (copies_numbers x to s.next count)))),
      )

pub the_parent_stays_active : TheParentStaysActive
the_parent_stays_active t seed s v id count to split =
    let h = splits_so t seed s v id count to split in
    (placed h.parent id, split_active s v id count to h, refl, (h.parent, h.active, refl))

pub each_copy_has_a_number : EachCopyHasANumber
each_copy_has_a_number t seed s v id count to split = split_next s v id count to (splits_so t seed s v id count to split)

pub copies_line_up_in_order : CopiesLineUpInOrder
copies_line_up_in_order t seed s v id count to split y active =
    let h = splits_so t seed s v id count to split in
    subst (λ (z : Transaction). (woken : List ℕ)
    × (numbers_of z.priority v.current ≡ numbers_of z.priority s.current ++ (numbers_from s.next count ++ woken)))
    (is_parent s v id count to h y active) (split_order s v id count to h (all_ordered t seed split.moment s split.before))

-- ---- what they are

all_parts : (P : Transaction → Type 0) (xs ys : List Transaction) → AllByRecursion P (xs ++ ys) → AllByRecursion P xs × AllByRecursion P ys
all_parts P [] ys all = (tt, all)
all_parts P (x ∷ xs) ys all = let rest = all_parts P xs ys all.1 in ((all.0, rest.0), rest.1)

all_lined_all : (P : Transaction → Type 0) (xs ys : List Transaction) → AllByRecursion P xs → AllByRecursion P ys →
    AllByRecursion P (all_lined_up xs ys)
all_lined_all P [] ys new all = all
all_lined_all P (x ∷ xs) ys new all = all_lined_all P xs _ new.1 (lined_all P x ys new.0 all)

transactions_all : (P : Transaction → Type 0) (p : Waiter → Bool) (ws : List Waiter) → AllByRecursion P (transactions_of ws) →
    AllByRecursion P (transactions_of (filter p ws))
transactions_all P p [] all = tt
transactions_all P p (w ∷ ws) all =
    let rest = transactions_all P p ws all.1 in
    elim (cases_Bool (p w)) [ inl is ↦ rw is (all.0, rest) | inr other ↦ rw other rest ]

all_more : (P Q : Transaction → Type 0) (xs : List Transaction) → ((x : Transaction) → P x → Q x) → AllByRecursion P xs → AllByRecursion Q xs
all_more P Q [] each all = tt
all_more P Q (x ∷ xs) each all = (each x all.0, all_more P Q xs each all.1)

-- whoever lives after the step was there before, or is a copy
module _ (s v : Machine) (id count : ℕ) (to : Option ℕ) (h : Splits s v id count to) where
  abbrev WasThere : Transaction → Type 0
  WasThere y = y.number < s.next

  abbrev WasOrIsCopy : Transaction → Type 0
  WasOrIsCopy y = WasThere y ⊎ IsCopyOf (placed h.parent id) to y

  all_known : AllByRecursion WasThere (living s) → AllByRecursion WasOrIsCopy (living v)
  all_known there =
      let P : Transaction → Type 0 = WasOrIsCopy in
      let old : (xs : List Transaction) → AllByRecursion WasThere xs → AllByRecursion P xs = λ xs all. all_more WasThere P xs (λ y was. inl was) all in
      let events : List Event → List Transaction = map (λ (e : Event). e.transaction) in
      let same = after s v id count to h in
      let list = written s (split_move id count to) in
      let u = splits s id count to h.parent in
      let copies = copies_from (placed h.parent id) to s.next count in
      let active_there = all_parts WasThere (option_to_list s.active) _ there in
      let current_there = all_parts WasThere s.current _ active_there.1 in
      let future_there = all_parts WasThere (events s.future) _ current_there.1 in
      let delays_there = all_parts WasThere (waiting s.delays) _ future_there.1 in
      let retry_there = all_parts WasThere (transactions_of s.retry) _ delays_there.1 in
      let parent_there : AllByRecursion WasThere (option_to_list (Some h.parent)) =
      subst (λ o. AllByRecursion WasThere (option_to_list o)) h.active active_there.0 in
      let waiters : AllByRecursion P (transactions_of u.retry) =
      subst (λ ws. AllByRecursion P (transactions_of ws)) (sym same.retry) (old (transactions_of s.retry) retry_there.0) in
      let new : AllByRecursion P copies =
      all_more (IsCopyOf (placed h.parent id) to) P copies (λ y is. inr is) (copies_all (placed h.parent id) to s.next count) in
      let lined = all_lined_all P copies s.current new (old s.current current_there.0) in
      let woken' = transactions_all P (is_woken list) u.retry waiters in
      let active : AllByRecursion P (option_to_list v.active) =
      subst (λ o. AllByRecursion P (option_to_list o)) (sym (split_active s v id count to h)) (inl parent_there.0, tt) in
      let current : AllByRecursion P v.current =
      subst (AllByRecursion P) (sym (split_current s v id count to h))
      (all_lined_all P (transactions_of (filter (is_woken list) u.retry)) _ woken' lined) in
      let future : AllByRecursion P (events v.future) =
      subst (λ es. AllByRecursion P (events es)) (sym (ap (λ (w : Machine). w.future) h.is ∙ same.future)) (old (events s.future) future_there.0) in
      let delays : AllByRecursion P (waiting v.delays) =
      subst (λ ds. AllByRecursion P (waiting ds)) (sym (ap (λ (w : Machine). w.delays) h.is ∙ same.delays)) (old (waiting s.delays) delays_there.0) in
      let retry : AllByRecursion P (transactions_of v.retry) =
      subst (λ ws. AllByRecursion P (transactions_of ws)) (sym (ap (λ (w : Machine). w.retry) h.is))
      (transactions_all P (λ w. not (is_woken list w)) u.retry waiters) in
      let linked : AllByRecursion P (waiting (members_of v.linked)) =
      subst (λ cs. AllByRecursion P (waiting (members_of cs))) (sym (ap (λ (w : Machine). w.linked) h.is ∙ same.linked))
      (old (waiting (members_of s.linked)) retry_there.1) in
      all_with P (option_to_list v.active) _ active
      (all_with P v.current _ current
      (all_with P (events v.future) _ future
      (all_with P (waiting v.delays) _ delays
      (all_with P (transactions_of v.retry) _ retry linked))))

pub copies_are_alike : CopiesAreAlike
copies_are_alike t seed s v id count to split z y active lives new =
    let h = splits_so t seed s v id count to split in
    let P : Transaction → Type 0 = WasOrIsCopy s v id count to h in
    let given = numbers_are_given t seed split.moment s split.well split.within split.before in
    let there = recursion_from_All (WasThere s v id count to h) (living s) given in
    elim (All-contains P (living v) y (All-from_recursion P (living v) (all_known s v id count to h there)) lives) [
      | inl was ↦ absurd (omega (arith, was, new))
      | inr copy ↦ subst (λ w. IsCopyOf w to y) (is_parent s v id count to h z active) copy
    ]

-- ---- what is counted

split_entries : (s v : Machine) (id count : ℕ) (to : Option ℕ) (h : Splits s v id count to) (p : ℕ) →
    (count_at v.counts p).entries ≡ (count_at (crossed fates.Active s.counts (h.parent).current id) p).entries
split_entries s v id count to h p =
    ap (λ (w : Machine). (count_at w.counts p).entries) h.is
    ∙ copies_entries to (placed h.parent id) (values_at s.parameters (h.parent).number) count (settles s id count to h.parent) p

pub copies_are_no_entries : CopiesAreNoEntries
copies_are_no_entries t seed s v id count to split =
    let h = splits_so t seed s v id count to split in
    let from = (h.parent).current in (
      split_entries s v id count to h id ∙ entries_crossed_here fates.Active s.counts from id,
      λ block apart. split_entries s v id count to h block ∙ entries_crossed_there fates.Active s.counts from id block (λ same. apart (sym same)),
    )

pub copies_stand_in_the_block : CopiesStandInTheBlock
copies_stand_in_the_block t seed s v id count to split some z active elsewhere =
    let h = splits_so t seed s v id count to split in
    let from = (h.parent).current in
    let both : Some h.parent ≡ Some z = sym h.active ∙ active in
    let same : h.parent ≡ z = cc in
    let apart : from ≢ id = λ is. elsewhere (ap (λ (y : Transaction). y.current) (sym same) ∙ is) in
    let counted = all_counted t seed split.well split.moment s split.before split.within id some in
    let fewer = crowd_fewer (stands_in id) s in
    let far = all_within t seed split.moment s split.well split.within split.before in
    let low : content s.counts id + 100001 < 2 ^ 64 - 1 = omega (arith, counted, fewer, far.crowd, h.room) in
    let not_from : one (nat_eq from id) ≡ 0 = ap one (ne_eqb from id apart) in
    let here : one (nat_eq id id) ≡ 1 = ap one (eq-eqb id id refl) in
    let enters = content_crossed fates.Active s.counts from id id (content s.counts id) (omega (arith, not_from)) (omega (arith, low)) in
    let copies = copies_content to (placed h.parent id) (values_at s.parameters (h.parent).number) count (settles s id count to h.parent)
    (omega (arith, enters, here, low, h.few)) in
    let now = ap (λ (w : Machine). content w.counts id) h.is in
    omega (arith, now, copies, enters, here)
