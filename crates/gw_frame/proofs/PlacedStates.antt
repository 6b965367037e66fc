-- What a move makes of a state names only blocks of the version, where the state does; and so does every state of a run, and
-- every item that it reads.
use Rattle.std.proofs.Common.{◌≡◌, ℕ, nat_eq, Bool, true, false, cond, not, List, [], ◌∷◌, ◌++◌, filter, map, Option, Some, None, inl, refl, sym, subst, ◌∙◌}
use Rattle.std.specs.List.{AllByRecursion}
use Rattle.gw_nums.specs.Range.{is_below}
use Rattle.gw_meaning.specs.declared.item.Item.{Item}
use Rattle.gw_meaning.specs.declared.transaction.Transaction.{Transaction}
use Rattle.gw_meaning.specs.declared.transaction.Event.{Event}
use Rattle.gw_meaning.specs.declared.transaction.Count.{Count}
use Rattle.gw_names.specs.declared.key.Key.{Key}
use Rattle.gw_meaning.specs.Tables.{with_value}
use Rattle.gw_expr.specs.declared.expr.Discipline.{Discipline}
use Rattle.gw_expr.specs.declared.expr.Discipline.TheVariants as disciplines
use Rattle.gw_meaning.specs.declared.moves.Arrival.{Arrival}
use Rattle.gw_meaning.specs.declared.moves.Change.{Change}
use Rattle.gw_meaning.specs.declared.moves.Change.TheVariants as changes
use Rattle.gw_meaning.specs.declared.transaction_change.TransactionChange.{TransactionChange}
use Rattle.gw_meaning.specs.declared.transaction_change.TransactionChange.TheVariants as own
use Rattle.gw_meaning.specs.declared.moves.Fate.{Fate}
use Rattle.gw_meaning.specs.declared.moves.Fate.TheVariants as fates
use Rattle.gw_meaning.specs.declared.moves.Move.{Move}
use Rattle.gw_meaning.specs.declared.moves.Move.TheVariants as moves
use Rattle.gw_meaning.specs.declared.watched.Watched.{Watched}
use Rattle.gw_meaning.specs.Watching.{Waiter, transactions_of}
use Rattle.gw_meaning.specs.Listing.{Listing}
use Rattle.gw_meaning.specs.Numbers.{AreNumbered}
use Rattle.gw_meaning.specs.Machine.{Machine, UserChain, count_in, with_count, delay_at, user_chain_at}
use Rattle.gw_meaning.specs.Changes.{lined_up, all_lined_up, left_at, left, crossed, is_due, due, Making, made, all_made, making_of, with_making, started, placed, own_marked, marked, linked_to, fated, let_in, copied, sent, bound, refused, watching, reset, cleared, moved, written, is_woken, woken}
use Rattle.gw_frame.specs.BlockIds.{IsBlockId, IsIdIfAny, TransactionNames, ActiveNames, EventNames, DelayNames, LinkedNames, WatchedNames, WaiterNames, CountNames, StateNames, ItemNames, StatesNameBlocks, StepsReadBlocks}
use Rattle.gw_frame.proofs.Lawful.{all_with}
use Rattle.gw_frame.proofs.Known.{IsQueueArrival, IsDecidedOwn, IsDecidedChange, IsDecided, IsRead}
use Rattle.gw_frame.proofs.Decided.{step_decides}
use Rattle.gw_frame.proofs.Moves.{LetsIn, Copies, Unlinks, settled, with_active_has, entered_has, picked_has}
use Rattle.gw_frame.proofs.Delays.{delay_has, with_delay_has}
use Rattle.gw_frame.proofs.UserChains.{members_have, with_chain_has}
use Rattle.gw_frame.proofs.Running.{over_run}
use Rattle.gw_frame.proofs.ReadLaws.{step_reads, reads_there}

-- lists
all_cond : {X : Type 0} (P : X → Type 0) (b : Bool) (xs ys : List X) → AllByRecursion P xs → AllByRecursion P ys → AllByRecursion P (cond b xs ys)
all_cond P true xs ys h k = h
all_cond P false xs ys h k = k

module _ (t : Listing) where
  with_count_names : (cs : List (ℕ × Count)) (id : ℕ) (c : Count) → IsBlockId t id → AllByRecursion (CountNames t) cs →
      AllByRecursion (CountNames t) (with_count cs id c)
  with_count_names [] id c named all = (named, tt)
  with_count_names (d ∷ ds) id c named all = all_cond (CountNames t) (nat_eq id d.0) _ _ (all.0, all.1) (all.0, with_count_names ds id c named all.1)

  left_at_names : (o : Option Count) (cs : List (ℕ × Count)) (id : ℕ) → IsBlockId t id → AllByRecursion (CountNames t) cs →
      AllByRecursion (CountNames t) (left_at o cs id)
  left_at_names None cs id named all = all
  left_at_names (Some c) cs id named all = with_count_names cs id _ named all

  left_names : (cs : List (ℕ × Count)) (id : ℕ) → IsBlockId t id → AllByRecursion (CountNames t) cs → AllByRecursion (CountNames t) (left cs id)
  left_names cs id named all = left_at_names (count_in cs id) cs id named all

  lined_up_names : (x : Transaction) (ys : List Transaction) → TransactionNames t x → AllByRecursion (TransactionNames t) ys →
      AllByRecursion (TransactionNames t) (lined_up x ys)
  lined_up_names x [] named all = (named, tt)
  lined_up_names x (y ∷ ys) named all =
      all_cond (TransactionNames t) (is_below y.priority x.priority) (x ∷ y ∷ ys) (y ∷ lined_up x ys) (named, all)
      (all.0, lined_up_names x ys named all.1)

  all_lined_up_names : (xs chain : List Transaction) → AllByRecursion (TransactionNames t) xs → AllByRecursion (TransactionNames t) chain →
      AllByRecursion (TransactionNames t) (all_lined_up xs chain)
  all_lined_up_names [] chain named all = all
  all_lined_up_names (x ∷ xs) chain named all = all_lined_up_names xs (lined_up x chain) named.1 (lined_up_names x chain named.0 all)

  due_names : (time : ℕ) (es : List Event) → AllByRecursion (EventNames t) es → AllByRecursion (TransactionNames t) (due time es)
  due_names time [] all = tt
  due_names time (e ∷ es) all = all_cond (TransactionNames t) (is_due time e) _ _ (all.0, due_names time es all.1) (due_names time es all.1)

  later_names : (time : ℕ) (es : List Event) → AllByRecursion (EventNames t) es → AllByRecursion (EventNames t) (filter (λ e. not (is_due time e)) es)
  later_names time [] all = tt
  later_names time (e ∷ es) all = all_cond (EventNames t) (not (is_due time e)) _ _ (all.0, later_names time es all.1) (later_names time es all.1)

  -- the making of transactions
  made_names : (s : Machine) (a : Arrival) (w : Making) (v : Machine) → IsQueueArrival t s a → StateNames t (with_making w v) →
      StateNames t (with_making (made a w) v)
  made_names s a w v coming h = record {
    active = h.active;
    current = h.current;
    future = all_with (EventNames t) w.future _ h.future (record { current = inl refl; destination = coming.id }, tt);
    delays = h.delays;
    retry = h.retry;
    linked = h.linked;
    counts = with_count_names w.counts a.id _ coming.id h.counts;
  }

  all_made_names : (s : Machine) (arrivals : List Arrival) (w : Making) (v : Machine) → AllByRecursion (IsQueueArrival t s) arrivals →
      StateNames t (with_making w v) → StateNames t (with_making (all_made arrivals w) v)
  all_made_names s [] w v coming h = h
  all_made_names s (a ∷ rest) w v coming h = all_made_names s rest (made a w) v coming.1 (made_names s a w v coming.0 h)

  active_names : (s : Machine) (x : Transaction) → s.active ≡ Some x → StateNames t s → TransactionNames t x
  active_names s x is h = let here : ActiveNames t (Some x) = subst (λ o. ActiveNames t o) is h.active in here

  -- user chains
  members_names : (s : Machine) (key : Key) → StateNames t s → AllByRecursion (TransactionNames t) (user_chain_at s.linked key).members
  members_names s key h = members_have (λ chain. AllByRecursion (TransactionNames t) chain) s.linked key tt h.linked

  with_chain_names : (s : Machine) (key : Key) (c : UserChain) → AllByRecursion (TransactionNames t) c.members → StateNames t s →
      AllByRecursion (LinkedNames t) (with_value s.linked key c)
  with_chain_names s key c all h = with_chain_has (λ chain. AllByRecursion (TransactionNames t) chain) s.linked key c all h.linked

  linked_to_names : (discipline : Discipline) (x : Transaction) (c : UserChain) → TransactionNames t x → AllByRecursion (TransactionNames t) c.members →
      AllByRecursion (TransactionNames t) (linked_to discipline x c).members
  linked_to_names disciplines.Fifo x c named all = all_with (TransactionNames t) c.members _ all (named, tt)
  linked_to_names disciplines.Lifo x c named all = (named, all)

  -- entering a block
  fated_names : (fate : Fate) (x : Transaction) (s : Machine) → TransactionNames t x → StateNames t s → StateNames t (fated fate x s)
  fated_names fates.Active x s named h = record {
    active = named;
    current = h.current;
    future = h.future;
    delays = h.delays;
    retry = h.retry;
    linked = h.linked;
    counts = h.counts;
  }
  fated_names fates.Current x s named h =
      record {
        active = tt;
        current = lined_up_names x s.current named h.current;
        future = h.future;
        delays = h.delays;
        retry = h.retry;
        linked = h.linked;
        counts = h.counts;
      }
  fated_names (fates.Delayed until) x s named h =
      record {
        active = tt;
        current = h.current;
        future = all_with (EventNames t) s.future _ h.future (named, tt);
        delays = h.delays;
        retry = h.retry;
        linked = h.linked;
        counts = h.counts;
      }
  fated_names (fates.Linked key discipline) x s named h =
      let all = linked_to_names discipline x (user_chain_at s.linked key) named (members_names s key h) in
      record {
        active = tt;
        current = h.current;
        future = h.future;
        delays = h.delays;
        retry = h.retry;
        linked = with_chain_names s key _ all h;
        counts = h.counts;
      }
  fated_names (fates.Destroyed count) x s named h = record {
    active = tt;
    current = h.current;
    future = h.future;
    delays = h.delays;
    retry = h.retry;
    linked = h.linked;
    counts = h.counts;
  }

  own_names : (x : Transaction) (id clock : ℕ) (change : TransactionChange) → AreNumbered t.lines → IsDecidedOwn t change → IsBlockId t id →
      TransactionNames t (own_marked change clock (placed x id))
  own_names x id clock (own.Transfer to) numbered coming named = record { current = named; destination = coming numbered }
  own_names x id clock (own.Loop key left to) numbered coming named = record { current = named; destination = coming numbered }
  own_names x id clock change numbered coming named = record { current = named; destination = tt }

  marked_names : (s : Machine) (x : Transaction) (id : ℕ) (change : Change) → AreNumbered t.lines → IsDecidedChange t s change → IsBlockId t id →
      TransactionNames t (marked change s.clock (placed x id))
  marked_names s x id (changes.Transaction change) numbered coming named = own_names x id s.clock change numbered coming named
  marked_names s x id change numbered coming named = record { current = named; destination = tt }

  settled_names : (s : Machine) (x : Transaction) (id : ℕ) (change : Change) (fate : Fate) → StateNames t s → TransactionNames t x → IsBlockId t id →
      TransactionNames t (marked change s.clock (placed x id)) → StateNames t (settled s x id change fate)
  settled_names s x id change fate h moving named there =
      let counts = with_count_names (left s.counts x.current) id _ named (left_names s.counts x.current moving.current h.counts) in
      fated_names fate _ _ there (record {
        active = h.active;
        current = h.current;
        future = h.future;
        delays = h.delays;
        retry = h.retry;
        linked = h.linked;
        counts = counts;
      })

  crossed_names : (cs : List (ℕ × Count)) (from to : ℕ) → IsBlockId t from → IsBlockId t to → AllByRecursion (CountNames t) cs →
      AllByRecursion (CountNames t) (crossed fates.Active cs from to)
  crossed_names cs from to left_there there all = with_count_names (left cs from) to _ there (left_names cs from left_there all)

  let_in_names : (x : Transaction) (destination : Option ℕ) (s : Machine) → TransactionNames t x → IsIdIfAny t destination → StateNames t s →
      StateNames t (let_in x destination s)
  let_in_names x None s waits to h =
      record {
        active = h.active;
        current = lined_up_names x s.current waits h.current;
        future = h.future;
        delays = h.delays;
        retry = h.retry;
        linked = h.linked;
        counts = h.counts;
      }
  let_in_names x (Some id) s waits to h = record {
    active = h.active;
    current = lined_up_names (placed x id) s.current (record { current = to; destination = tt }) h.current;
    future = h.future;
    delays = h.delays;
    retry = h.retry;
    linked = h.linked;
    counts = crossed_names s.counts x.current id waits.current to h.counts;
  }

  delay_names : (s : Machine) (key : Key) → StateNames t s → AllByRecursion (TransactionNames t) (delay_at s.delays key)
  delay_names s key h = delay_has (λ chain. AllByRecursion (TransactionNames t) chain) s.delays key tt h.delays

  with_delay_names : (s : Machine) (key : Key) (xs : List Transaction) → AllByRecursion (TransactionNames t) xs → StateNames t s →
      AllByRecursion (DelayNames t) (with_value s.delays key xs)
  with_delay_names s key xs all h = with_delay_has (λ chain. AllByRecursion (TransactionNames t) chain) s.delays key xs all h.delays

  part_names : (passed : List Transaction) (x : Transaction) (xs : List Transaction) → AllByRecursion (TransactionNames t) (passed ++ x ∷ xs) →
      TransactionNames t x × AllByRecursion (TransactionNames t) (passed ++ xs)
  part_names [] x xs all = (all.0, all.1)
  part_names (y ∷ ys) x xs all = let rest = part_names ys x xs all.1 in (rest.0, (all.0, rest.1))

  lets_names : LetsIn (StateNames t)
  lets_names w key x passed xs is h =
      let all = part_names passed x xs (subst (λ chain. AllByRecursion (TransactionNames t) chain) is (delay_names w key h)) in
      let_in_names x x.destination (record w { delays = with_value w.delays key (passed ++ xs) }) all.0 all.0.destination
      (record {
        active = h.active;
        current = h.current;
        future = h.future;
        delays = with_delay_names w key (passed ++ xs) all.1 h;
        retry = h.retry;
        linked = h.linked;
        counts = h.counts;
      })

  copies_names : AreNumbered t.lines → (s : Machine) → Copies t s (StateNames t)
  copies_names numbered s w to x values copying h =
      let parent = active_names w x copying.active h in
      record {
        active = h.active;
        current = lined_up_names (copied x w.next to) w.current (record { current = parent.current; destination = copying.named numbered }) h.current;
        future = h.future;
        delays = h.delays;
        retry = h.retry;
        linked = h.linked;
        counts = with_count_names w.counts x.current _ parent.current h.counts;
      }

  unlinks_names : AreNumbered t.lines → Unlinks t (StateNames t)
  unlinks_names numbered w key to x xs named is h =
      let all = subst (λ chain. AllByRecursion (TransactionNames t) chain) is (members_names w key h) in
      record {
        active = h.active;
        current = lined_up_names (sent to x) w.current (record { current = all.0.current; destination = named numbered }) h.current;
        future = h.future;
        delays = h.delays;
        retry = h.retry;
        linked = with_chain_names w key _ all.1 h;
        counts = h.counts;
      }

  refused_names : (s : Machine) (x : Transaction) (id : ℕ) (key : Key) (units : ℕ) → StateNames t s → TransactionNames t x → IsBlockId t id →
      StateNames t (refused s x id key units)
  refused_names s x id key units h named there = record {
    active = tt;
    current = h.current;
    future = h.future;
    delays = with_delay_names s key _
        (lined_up_names (bound x id units) (delay_at s.delays key) (record { current = named.current; destination = there }) (delay_names s key h)) h;
    retry = h.retry;
    linked = h.linked;
    counts = h.counts;
  }

  watching_names : (s : Machine) (x : Transaction) (read : List Watched) → StateNames t s → TransactionNames t x →
      AllByRecursion (WatchedNames t) read → StateNames t (watching s x read)
  watching_names s x read h named all = record {
    active = tt;
    current = h.current;
    future = h.future;
    delays = h.delays;
    retry = all_with (WaiterNames t) s.retry _ h.retry (record { transaction = named; read = all }, tt);
    linked = h.linked;
    counts = h.counts;
  }

  -- those who wake
  filter_names : {X : Type 0} (P : X → Type 0) (p : X → Bool) (xs : List X) → AllByRecursion P xs → AllByRecursion P (filter p xs)
  filter_names P p [] all = tt
  filter_names P p (x ∷ xs) all = all_cond P (p x) _ _ (all.0, filter_names P p xs all.1) (filter_names P p xs all.1)

  transactions_names : (ws : List Waiter) → AllByRecursion (WaiterNames t) ws → AllByRecursion (TransactionNames t) (transactions_of ws)
  transactions_names [] all = tt
  transactions_names (w ∷ ws) all = (all.0.transaction, transactions_names ws all.1)

  woken_names : (list : List Watched) (s : Machine) → StateNames t s → StateNames t (woken list s)
  woken_names list s h =
      let ws = filter (is_woken list) s.retry in
      record {
        active = h.active;
        current = all_lined_up_names (transactions_of ws) s.current (transactions_names ws (filter_names (WaiterNames t) (is_woken list) s.retry h.retry))
            h.current;
        future = h.future;
        delays = h.delays;
        retry = filter_names (WaiterNames t) (λ w. not (is_woken list w)) s.retry h.retry;
        linked = h.linked;
        counts = h.counts;
      }

  -- a RESET and a CLEAR
  all_anew_names : {X : Type 0} (P : X → Type 0) (anew : X → X) → ((x : X) → P x → P (anew x)) → (xs : List X) → AllByRecursion P xs →
      AllByRecursion P (map anew xs)
  all_anew_names P anew each [] all = tt
  all_anew_names P anew each (x ∷ xs) all = (each x all.0, all_anew_names P anew each xs all.1)

  reset_names : (s : Machine) → StateNames t s → StateNames t (reset s)
  reset_names s h = record {
    active = h.active;
    current = h.current;
    future = h.future;
    delays = h.delays;
    retry = h.retry;
    linked = all_anew_names (LinkedNames t) _ (λ c all. all) s.linked h.linked;
    counts = all_anew_names (CountNames t) _ (λ c named. named) s.counts h.counts;
  }

  cleared_names : (s : Machine) → StateNames t (cleared s)
  cleared_names s = record { active = tt; current = tt; future = tt; delays = tt; retry = tt; linked = tt; counts = tt }

  -- moves
  moved_names : (s : Machine) (m : Move) → AreNumbered t.lines → IsDecided t s m → StateNames t s → StateNames t (moved s m)
  moved_names s (moves.Start count arrivals) numbered decided h = all_made_names s arrivals (making_of s) (started count s) decided.coming
      (record { active = h.active; current = h.current; future = h.future; delays = h.delays; retry = h.retry; linked = h.linked; counts = h.counts })
  moved_names s moves.Command numbered decided h = record {
    active = h.active;
    current = h.current;
    future = h.future;
    delays = h.delays;
    retry = h.retry;
    linked = h.linked;
    counts = h.counts;
  }
  moved_names s moves.Reset numbered decided h = reset_names s h
  moved_names s moves.Clear numbered decided h = cleared_names s
  moved_names s (moves.Enter id change fate) numbered decided h =
      entered_has (StateNames t) (StateNames t) t s id change fate decided.1 h
      (λ x is. settled_names s x id change fate h (active_names s x is h) decided.0 (marked_names s x id change numbered decided.1 decided.0))
      (λ v. record {
        nothing = λ k. k;
        one = λ a coming k. made_names s a (making_of v) v coming k;
        lets = lets_names;
        copies = copies_names numbered s;
        unlinks = unlinks_names numbered;
      })
  moved_names s (moves.Refuse id key units) numbered decided h =
      with_active_has (StateNames t) s.active (λ x. refused s x id key units) s h (λ x is. refused_names s x id key units h (active_names s x is h) decided.0)
  moved_names s (moves.Watch read) numbered decided h =
      with_active_has (StateNames t) s.active (λ x. watching s x read) s h (λ x is. watching_names s x read h (active_names s x is h) (decided numbered))
  moved_names s moves.Pick numbered decided h = picked_has (StateNames t) s s.current h
      (λ x xs is. (let all : AllByRecursion (TransactionNames t) (x ∷ xs) = subst (λ chain. AllByRecursion (TransactionNames t) chain) is h.current in
      record { active = all.0; current = all.1; future = h.future; delays = h.delays; retry = h.retry; linked = h.linked; counts = h.counts }))
  moved_names s (moves.Clock time) numbered decided h = record {
    active = h.active;
    current = all_lined_up_names (due time s.future) s.current (due_names time s.future h.future) h.current;
    future = later_names time s.future h.future;
    delays = h.delays;
    retry = h.retry;
    linked = h.linked;
    counts = h.counts;
  }

-- each state of a run, with what its step reads
pub run_names : StatesNameBlocks
run_names t seed n s numbered =
    over_run t seed (λ n s. StateNames t s) (record { active = tt; current = tt; future = tt; delays = tt; retry = tt; linked = tt; counts = tt })
    (λ n s m streams there decided h.
    let next = woken_names t (written s m) (moved s m) (moved_names t s m numbered decided h) in
    record {
      active = next.active;
      current = next.current;
      future = next.future;
      delays = next.delays;
      retry = next.retry;
      linked = next.linked;
      counts = next.counts;
    })
    n s

all_read : (t : Listing) (s : Machine) (is : List Item) → ((i : Item) → IsRead t s i → ItemNames t i) → AllByRecursion (IsRead t s) is →
    AllByRecursion (ItemNames t) is
all_read t s [] each h = tt
all_read t s (i ∷ is) each h = (each i h.0, all_read t s is each h.1)

pub reads_names : StepsReadBlocks
reads_names t seed n s v numbered there goes =
    let named = run_names t seed n s numbered there in
    let read = all_read t s _ (λ i h. h numbered named.active) (step_decides t seed s v goes).1 in
    let F : List Item → Type 0 = λ is. AllByRecursion (ItemNames t) is in
    subst F (sym (reads_there t seed n s there ∙ step_reads t seed s v goes)) read
