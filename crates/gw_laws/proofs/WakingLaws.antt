-- Nobody wakes for nothing: where no block is entered all wait on, and whoever wakes read something that changed.
use Rattle.std.proofs.Common.{◌≡◌, ◌⊎◌, ℕ, ◌-◌, ◌<◌, ◌^◌, arith, Bool, true, List, [], ◌∷◌, ◌++◌, append-nil, filter, Option, Some, None, Ok, refl, sym, ap, subst, ◌∙◌, inl, inr}
use Rattle.std.specs.Prelude.{Contains}
use Rattle.std.specs.List.{list_any}
use Rattle.std.proofs.lemmas.Bool.{cases_Bool, eq-eqb}
use Rattle.gw_streams.specs.declared.stream.Stream.{Stream}
use Rattle.gw_names.specs.declared.key.Key.{Key}
use Rattle.gw_meaning.specs.declared.transaction.Transaction.{Transaction}
use Rattle.gw_meaning.specs.declared.moves.Change.{Change}
use Rattle.gw_meaning.specs.declared.moves.Change.TheVariants as changes
use Rattle.gw_meaning.specs.declared.moves.Fate.{Fate}
use Rattle.gw_meaning.specs.declared.moves.Fate.TheVariants as fates
use Rattle.gw_meaning.specs.declared.moves.Move.{Move}
use Rattle.gw_meaning.specs.declared.moves.Move.TheVariants as moves
use Rattle.gw_meaning.specs.declared.watched.Watched.{Watched}
use Rattle.gw_meaning.specs.declared.watched.Watched.TheVariants as watched
use Rattle.gw_meaning.specs.Watching.{same_watched, is_watched, transactions_of}
use Rattle.gw_meaning.specs.Listing.{Listing}
use Rattle.gw_meaning.specs.Machine.{Machine, delay_at, waiting}
use Rattle.gw_meaning.specs.Questions.{result_of}
use Rattle.gw_meaning.specs.Step.{decide, step}
use Rattle.gw_meaning.specs.Changes.{placed, update_grants, one_let_in, some_let_in, entering, with_active, moved, crossing, crossings, written_by, written_in, written_where, written, is_woken, woken, decided}
use Rattle.gw_frame.proofs.Moves.{settled, settled_is}
use Rattle.gw_laws.specs.Waiters.{NobodyWakesWhereNoneIsActive, HasToWait, NobodyWakesWhereTheActiveHasToWait, IsEntry, NobodyWakesUnlessABlockIsEntered, IsLeftOrEntered, LeavesForItsBlock, IsChangedBy, IsChanged, WhoWakesReadWhatChanged}
use Rattle.gw_laws.proofs.Waiting.{let_in_as, let_in_is, lined_keeps, lined_has}
use Rattle.gw_laws.proofs.Waking.{nobody_wakes, all_lined_keeps}
use Rattle.gw_laws.proofs.EndLaws.{went_on, goes_on}
use Rattle.gw_laws.proofs.WaiterLaws.{Stands, contains_of, who_comes, who_comes_is, waits_on, retry_behind, retry_decided, was_woken}
use Rattle.gw_laws.proofs.GateLaws.{watched_same}
use Rattle.gw_laws.proofs.Crowd.{many, many_has, many_append, waiters_parts}
use Rattle.gw_laws.proofs.NumberLaws.{has_number, IsNumbered, all_numbered}
use Rattle.gw_laws.proofs.Room.{all_within}
use Rattle.gw_laws.proofs.DestinationLaws.{is_given, no_other, entered_waits_not}
use Rattle.gw_meaning.proofs.Programs.{run_on}
use Rattle.gw_laws.proofs.Anew.{no_clear, nobody_in}
use Rattle.gw_laws.specs.Anew.{Clears}
use Rattle.gw_frame.proofs.Decided.{is_decided}

-- ---- where no block is entered

all_wait_and : (s : Machine) (m : Move) (streams : List Stream) → (Clears m → ⊥) → written s m ≡ [] →
    (decided s m streams).retry ≡ s.retry ++ who_comes m s.active
all_wait_and s m streams apart nothing =
    ap (λ list. (woken list (moved s m)).retry) nothing ∙ (ap (λ (u : Machine). u.retry) (nobody_wakes (moved s m)) ∙ retry_behind s m apart)

no_entry : (s : Machine) (m : Move) → (IsEntry m → ⊥) → written s m ≡ []
no_entry s (moves.Enter id change fate) apart = absurd (apart tt)
no_entry s m apart = refl

none_writes : (s : Machine) (m : Move) → s.active ≡ None → written s m ≡ []
none_writes s (moves.Enter id change fate) none = ap (λ o. written_where o id change fate s) none
none_writes s m none = refl

none_comes : (m : Move) → who_comes m None ≡ []
none_comes (moves.Watch read) = refl
none_comes m = refl

pub nobody_wakes_where_none_is_active : NobodyWakesWhereNoneIsActive
nobody_wakes_where_none_is_active t seed s v is no_next none =
    let went = went_on t seed s v is in
    let m = went.0.0 in
    let apart = no_clear t s m (is_decided t seed s went.0 went.1) no_next in
    ap (λ (u : Machine). u.retry) went.2
    ∙ (all_wait_and s m went.0.1 apart (none_writes s m none)
    ∙ (ap (λ o. s.retry ++ who_comes m o) none ∙ (ap (λ ws. s.retry ++ ws) (none_comes m) ∙ append-nil s.retry)))

same_behind : (t : Listing) (seed : ℕ) (s v : Machine) (m : Move) (streams : List Stream) → result_of t seed (decide s) ≡ Ok (m, streams) →
    step t seed s ≡ Ok v → decided s m streams ≡ v
same_behind t seed s v m streams goes is = let both : Ok (decided s m streams) ≡ Ok v = sym (goes_on t seed s (m, streams) goes) ∙ is in cc

pub nobody_wakes_unless_a_block_is_entered : NobodyWakesUnlessABlockIsEntered
nobody_wakes_unless_a_block_is_entered t seed s v m streams goes is no_next apart =
    let same = same_behind t seed s v m streams goes is in (
      who_comes m s.active,
      ap (λ (u : Machine). u.retry) (sym same) ∙ all_wait_and s m streams no_next (no_entry s m apart),
      who_comes_is m s.active,
    )

-- whoever enters a block does not wait after the step
waits_or_enters : (s : Machine) (x : Transaction) (m : Move) (streams : List Stream) → s.active ≡ Some x → IsNumbered s → x.number < 2 ^ 64 - 1 →
    HasToWait (decided s m streams) x → IsEntry m → ⊥
waits_or_enters s x (moves.Enter id change fate) streams active h low waits entry =
    let has = has_number x.number in
    let m = moves.Enter id change fate in
    let v = decided s m streams in
    let same : moved s m ≡ entering s x id change fate = ap (λ o. with_active o (λ y. entering s y id change fate) s) active in
    let delays : many has (waiting v.delays) ≡ 0 =
    ap (λ (u : Machine). many has (waiting u.delays)) same ∙ entered_waits_not s x id active h low change fate in
    let nobody = no_other s x id active h low in
    let retry : v.retry ≡ filter (waits_on s m) s.retry = retry_decided s m streams (λ c. c) ∙ append-nil (filter (waits_on s m) s.retry) in
    let still : many has (transactions_of v.retry) ≡ many has (transactions_of (filter (waits_on s m) s.retry)) =
    ap (λ ws. many has (transactions_of ws)) retry in
    let parts = waiters_parts has (is_woken (written s m)) s.retry in
    let all = many_append has (waiting v.delays) (transactions_of v.retry) in
    let some = many_has has (waiting v.delays ++ transactions_of v.retry) waits.0 waits.1 (eq-eqb waits.0.number x.number waits.2) in
    omega arith
waits_or_enters s x m streams active h low waits entry = absurd entry

-- whoever waits after a step, waits after no CLEAR
waits_at_no_clear : (s : Machine) (x : Transaction) (m : Move) (streams : List Stream) → HasToWait (decided s m streams) x → Clears m → ⊥
waits_at_no_clear s x moves.Clear streams waits c = nobody_in waits.0 [] refl waits.1
waits_at_no_clear s x m streams waits c = c

pub nobody_wakes_where_the_active_has_to_wait : NobodyWakesWhereTheActiveHasToWait
nobody_wakes_where_the_active_has_to_wait t seed n s v well within there is x active waits =
    let went = went_on t seed s v (sym (run_on t seed n s there) ∙ is) in
    let m = went.0.0 in
    let h = all_numbered t seed well n s there within in
    let room = all_within t seed n s well within there in
    let given = is_given s x active h in
    let low : x.number < 2 ^ 64 - 1 = omega (arith, given, room.next, well.greatest_limit, within) in
    let behind = subst (λ u. HasToWait u x) went.2 waits in (
      who_comes m s.active,
      ap (λ (u : Machine). u.retry) went.2
          ∙ all_wait_and s m went.0.1 (waits_at_no_clear s x m went.0.1 behind) (no_entry s m (waits_or_enters s x m went.0.1 active h low behind)),
      who_comes_is m s.active,
    )

-- ---- whoever wakes

any_stands : {X : Type 0} (test : X → Bool) (xs : List X) → list_any test xs ≡ true → (x : X) × Stands xs x × (test x ≡ true)
any_stands test [] some = absurd cc
any_stands test (x ∷ xs) some = elim (cases_Bool (test x)) [
  | inl is ↦ (x, inl refl, is)
  | inr other ↦ let rest = any_stands test xs (rw other at some) in (rest.0, inr rest.1, rest.2)
]

stands_either : {X : Type 0} (xs ys : List X) (x : X) → Stands (xs ++ ys) x → Stands xs x ⊎ Stands ys x
stands_either [] ys x there = inr there
stands_either (z ∷ zs) ys x (inl same) = inl (inl same)
stands_either (z ∷ zs) ys x (inr there) = elim (stands_either zs ys x there) [ inl front ↦ inl (inr front) | inr behind ↦ inr behind ]

-- whoever stands on the current chain stands there still where some are let in
some_keep : (key : Key) (grants : List (Option ℕ)) (passed chain : List Transaction) (w : Machine) (z : Transaction) → Contains w.current z →
    Contains (some_let_in key grants passed chain w).current z
some_keep key [] passed chain w z there = there
some_keep key (grant ∷ grants) passed [] w z there = there
some_keep key (None ∷ grants) passed (x ∷ xs) w z there = some_keep key grants (passed ++ x ∷ []) xs w z there
some_keep key (Some units ∷ grants) passed (x ∷ xs) w z there =
    some_keep key grants passed xs (one_let_in key x (passed ++ xs) w) z
    (subst (λ ys. Contains ys z) (sym (let_in_is key x (passed ++ xs) w).current) (lined_keeps (let_in_as x x.destination) w.current z there))

-- of a delay chain: one that is let in, and that leaves or enters a block whose counts are r
record LetsInBy (chain : List Transaction) (v : Machine) (r : Watched) : Type 0 where
  x : Transaction
  to : ℕ
  waited : Stands chain x
  goes : x.destination ≡ Some to
  stands : Contains v.current (placed x to)
  counts : (watched.Counts x.current ≡ r) ⊎ (watched.Counts to ≡ r)

crossed_by : (key : Key) (grants : List (Option ℕ)) (passed chain : List Transaction) (w : Machine) (r : Watched) → Stands (crossings grants chain) r →
    LetsInBy chain (some_let_in key grants passed chain w) r
crossed_by key [] passed chain w r there = absurd there
crossed_by key (grant ∷ grants) passed [] w r there = absurd there
crossed_by key (None ∷ grants) passed (x ∷ xs) w r there =
    let rest = crossed_by key grants (passed ++ x ∷ []) xs w r there in
    record { x = rest.x; to = rest.to; waited = inr rest.waited; goes = rest.goes; stands = rest.stands; counts = rest.counts }
crossed_by key (Some units ∷ grants) passed (x ∷ xs) w r there =
    elim (stands_either (crossing x x.destination) (crossings grants xs) r there) [
      | inl front ↦ go x.destination refl front
      | inr behind ↦
          let rest = crossed_by key grants passed xs v r behind in
          record { x = rest.x; to = rest.to; waited = inr rest.waited; goes = rest.goes; stands = rest.stands; counts = rest.counts }
    ]
  where
    v : Machine
    v = one_let_in key x (passed ++ xs) w

    here : (o : Option ℕ) → x.destination ≡ o → Contains v.current (let_in_as x o)
    here o is =
        subst (λ p. Contains v.current (let_in_as x p)) is
        (subst (λ ys. Contains ys (let_in_as x x.destination)) (sym (let_in_is key x (passed ++ xs) w).current)
        (lined_has (let_in_as x x.destination) w.current))

    lets : (to : ℕ) → x.destination ≡ Some to → (watched.Counts x.current ≡ r) ⊎ (watched.Counts to ≡ r) →
        LetsInBy (x ∷ xs) (some_let_in key grants passed xs v) r
    lets to is counts = record {
      x = x;
      to = to;
      waited = inl refl;
      goes = is;
      stands = some_keep key grants passed xs v (placed x to) (here (Some to) is);
      counts = counts;
    }

    go : (o : Option ℕ) → x.destination ≡ o → Stands (crossing x o) r → LetsInBy (x ∷ xs) (some_let_in key grants passed xs v) r
    go None is front = absurd front
    go (Some to) is (inl left') = lets to is (inl left')
    go (Some to) is (inr (inl entered')) = lets to is (inr entered')
    go (Some to) is (inr (inr none)) = absurd none

module _ (s : Machine) (x : Transaction) (id : ℕ) (fate : Fate) (active : s.active ≡ Some x) where
  -- whoever stands on the current chain after an entry stands there after the step
  abbrev StandsBehind : Change → Machine → Type 0
  StandsBehind change v = (z : Transaction) → Contains (entering s x id change fate).current z → Contains v.current z

  counts_of_active : (change : Change) (v : Machine) (block : ℕ) → IsLeftOrEntered x id block → IsChangedBy s v id change fate (watched.Counts block)
  counts_of_active change v block is = inl (x, active, is)

  by_change : (change : Change) (v : Machine) (r : Watched) → StandsBehind change v → Stands (written_by change s) r → IsChangedBy s v id change fate r
  by_change (changes.Generate next) v r behind there = absurd there
  by_change (changes.Transaction change) v r behind there = absurd there
  by_change changes.Nothing v r behind there = absurd there
  by_change (changes.Split count to) v r behind there = absurd there
  by_change (changes.Unlink key count to) v r behind (inl same) =
      subst (IsChangedBy s v id (changes.Unlink key count to) fate) same (inl (refl, refl))
  by_change (changes.Unlink key count to) v r behind (inr there) = absurd there
  by_change (changes.Entity change) v r behind (inl same) = subst (IsChangedBy s v id (changes.Entity change) fate) same (inl (refl, refl))
  by_change (changes.Entity change) v r behind (inr there) = by_counts lets.counts where
    settles : Machine
    settles = settled s x id (changes.Entity change) fate

    chain : delay_at settles.delays change.0 ≡ delay_at s.delays change.0
    chain = ap (λ ds. delay_at ds change.0) (settled_is s x id (changes.Entity change) fate).delays

    lets : LetsInBy (delay_at s.delays change.0) (entering s x id (changes.Entity change) fate) r
    lets =
        subst (λ xs. LetsInBy xs (entering s x id (changes.Entity change) fate) r) chain
        (crossed_by change.0 (update_grants change.1) [] (delay_at settles.delays change.0) settles r
        (subst (λ xs. Stands (crossings (update_grants change.1) xs) r) (sym chain) there))

    crosses : (block : ℕ) → IsLeftOrEntered lets.x lets.to block → IsChangedBy s v id (changes.Entity change) fate (watched.Counts block)
    crosses block is =
        let way : LeavesForItsBlock s v lets.x = (
          change.0,
          contains_of (delay_at s.delays change.0) lets.x lets.waited,
          (
            lets.to,
            lets.goes,
            behind (placed lets.x lets.to) lets.stands,
          ),
        ) in
        inr (lets.x, way, is)

    by_counts : (watched.Counts lets.x.current ≡ r) ⊎ (watched.Counts lets.to ≡ r) → IsChangedBy s v id (changes.Entity change) fate r
    by_counts (inl same) = subst (IsChangedBy s v id (changes.Entity change) fate) same (crosses lets.x.current (inl refl))
    by_counts (inr same) = subst (IsChangedBy s v id (changes.Entity change) fate) same (crosses lets.to (inr refl))

  by_entry : (change : Change) (v : Machine) (r : Watched) → StandsBehind change v → Stands (written_where (Some x) id change fate s) r →
      IsChangedBy s v id change fate r
  by_entry change v r behind (inl same) = subst (IsChangedBy s v id change fate) same (counts_of_active change v x.current (inl refl))
  by_entry change v r behind (inr (inl same)) = subst (IsChangedBy s v id change fate) same (counts_of_active change v id (inr refl))
  by_entry change v r behind (inr (inr there)) = elim (stands_either (written_by change s) (written_in fate) r there) [
    | inl by_block ↦ by_change change v r behind by_block
    | inr by_fate ↦ go fate by_fate
  ] where
    go : (f : Fate) → Stands (written_in f) r → IsChangedBy s v id change f r
    go (fates.Linked key discipline) (inl same) = subst (IsChangedBy s v id change (fates.Linked key discipline)) same (inr (refl, refl))
    go (fates.Linked key discipline) (inr none) = absurd none
    go f none = absurd none

written_is_changed : (s : Machine) (m : Move) (streams : List Stream) (r : Watched) → Stands (written s m) r → IsChanged s (decided s m streams) m r
written_is_changed s (moves.Enter id change fate) streams r there = go s.active refl there where
  v : Machine
  v = decided s (moves.Enter id change fate) streams

  wakes : List Transaction
  wakes = transactions_of (filter (is_woken (written s (moves.Enter id change fate))) (moved s (moves.Enter id change fate)).retry)

  go : (o : Option Transaction) → s.active ≡ o → Stands (written_where o id change fate s) r → IsChangedBy s v id change fate r
  go None none none_there = absurd none_there
  go (Some x) active is =
      let same : moved s (moves.Enter id change fate) ≡ entering s x id change fate = ap (λ o. with_active o (λ y. entering s y id change fate) s) active in
      by_entry s x id fate active change v r
      (λ z stands. all_lined_keeps wakes (moved s (moves.Enter id change fate)).current z (subst (λ (u : Machine). Contains u.current z) (sym same) stands)) is
written_is_changed s m streams r there = absurd there

pub who_wakes_read_what_changed : WhoWakesReadWhatChanged
who_wakes_read_what_changed t seed s v w m streams goes is apart waits gone =
    let same = same_behind t seed s v m streams goes is in
    let woke = was_woken s m streams w apart waits (λ still. gone (subst (λ (u : Machine). Contains u.retry w) same still)) in
    let read = any_stands (is_watched (written s m)) w.read woke in
    let one' = any_stands (same_watched read.0) (written s m) read.2 in
    let itself : one'.0 ≡ read.0 = sym (watched_same read.0 one'.0 one'.2) in
    let there : Stands (written s m) read.0 = subst (Stands (written s m)) itself one'.1 in
    (read.0, contains_of w.read read.0 read.1, subst (λ (u : Machine). IsChanged s u m read.0) same (written_is_changed s m streams read.0 there))
