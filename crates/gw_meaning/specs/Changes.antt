-- What a move does to a state. (Manual: the chains, the counts of blocks, copies, user chains, RESET and CLEAR. Our
-- own: that an ADVANCE of 0 leaves the transaction active, that a time is fixed when the transaction comes onto the
-- future chain, that who waited for a facility or a storage enters its block in the step that gives it back, that
-- copies are numbered in the order in which they line up, and that waiters wake when all else is done.)
use Rattle.std.specs.Prelude.{ℕ, zero, suc, ℤ, ◌-◌, Bool, true, not, ◌==◌, List, [], ◌∷◌, ◌++◌, Option, Some, None, if◌then◌else◌, filter, length, nat_lt}
use Rattle.std.specs.List.{list_any}
use Rattle.gw_nums.specs.Range.{is_below}
use Rattle.gw_meaning.specs.declared.transaction.Transaction.{Transaction}
use Rattle.gw_meaning.specs.declared.transaction.Event.{Event}
use Rattle.gw_meaning.specs.declared.transaction.Count.{Count}
use Rattle.gw_streams.specs.declared.stream.Stream.{Stream}
use Rattle.gw_names.specs.declared.key.Key.{Key}
use Rattle.gw_expr.specs.declared.expr.Discipline.{Discipline}
use Rattle.gw_expr.specs.declared.expr.Discipline.TheVariants as disciplines
use Rattle.gw_meaning.specs.Tables.{with_value}
use Rattle.gw_meaning.specs.Parameters.{assigned, inherited, values_at, without}
use Rattle.gw_meaning.specs.declared.entity_change.Update.{Update}
use Rattle.gw_meaning.specs.declared.entity_change.Update.TheVariants as updates
use Rattle.gw_meaning.specs.declared.entity_change.FacilityUpdate.TheVariants as of_facility
use Rattle.gw_meaning.specs.declared.entity_change.StorageUpdate.TheVariants as of_storage
use Rattle.gw_meaning.specs.declared.moves.Arrival.{Arrival}
use Rattle.gw_meaning.specs.declared.moves.Change.{Change}
use Rattle.gw_meaning.specs.declared.moves.Change.TheVariants as changes
use Rattle.gw_meaning.specs.declared.transaction_change.TransactionChange.{TransactionChange}
use Rattle.gw_meaning.specs.declared.transaction_change.TransactionChange.TheVariants as own
use Rattle.gw_meaning.specs.declared.moves.Fate.{Fate}
use Rattle.gw_meaning.specs.declared.moves.Fate.TheVariants as fates
use Rattle.gw_meaning.specs.declared.moves.Move.{Move}
use Rattle.gw_meaning.specs.declared.moves.Move.TheVariants as moves
use Rattle.gw_meaning.specs.declared.watched.EntityKind.TheVariants as kinds
use Rattle.gw_meaning.specs.declared.watched.Watched.{Watched}
use Rattle.gw_meaning.specs.declared.watched.Watched.TheVariants as watched
use Rattle.gw_meaning.specs.Entities.{touched, later, all_anew, entities_anew}
use Rattle.gw_meaning.specs.Watching.{Waiter, is_watched, kind_of, transactions_of}
use Rattle.gw_meaning.specs.Machine.{Machine, UserChain, zero_state, raised, count_in, count_at, with_count, delay_at, user_chain_at}

-- what is done where x is active, and nothing where none is
abbrev pub with_active : Option Transaction → (Transaction → Machine) → Machine → Machine
with_active None f s = s
with_active (Some x) f s = f x

-- the current chain with one more transaction: after its equals, in front of the first of lower priority
abbrev pub lined_up : Transaction → List Transaction → List Transaction
lined_up x [] = x ∷ []
lined_up x (y ∷ ys) = if is_below y.priority x.priority then x ∷ y ∷ ys else y ∷ lined_up x ys

-- the same, of one transaction after another
abbrev pub all_lined_up : List Transaction → List Transaction → List Transaction
all_lined_up [] chain = chain
all_lined_up (x ∷ xs) chain = all_lined_up xs (lined_up x chain)

-- the counts after a transaction left a block
abbrev pub left_at : Option Count → List (ℕ × Count) → ℕ → List (ℕ × Count)
left_at None counts id = counts
left_at (Some c) counts id = with_count counts id (record c { content = c.content - 1 })

abbrev pub left : List (ℕ × Count) → ℕ → List (ℕ × Count)
left counts id = left_at (count_in counts id) counts id

-- the content of a block after the entry of a transaction, which stays in it or is destroyed
abbrev pub content_behind : Fate → ℕ → ℕ
content_behind fates.Active content = raised content
content_behind fates.Current content = raised content
content_behind (fates.Delayed until) content = raised content
content_behind (fates.Linked key discipline) content = raised content
content_behind (fates.Destroyed count) content = content

-- the counts after a transaction entered a block
abbrev pub entered : Fate → List (ℕ × Count) → ℕ → List (ℕ × Count)
entered fate counts id =
    let c = count_at counts id in
    with_count counts id (record c { entries = raised c.entries; content = content_behind fate c.content })

-- the counts after a transaction left one block and entered another
abbrev pub crossed : Fate → List (ℕ × Count) → ℕ → ℕ → List (ℕ × Count)
crossed fate counts from to = entered fate (left counts from) to

-- the counts after a GENERATE made one more
abbrev pub made_one : List (ℕ × Count) → ℕ → List (ℕ × Count)
made_one counts id = let c = count_at counts id in with_count counts id (record c { made = raised c.made })

-- a transaction in the block that it entered
abbrev pub placed : Transaction → ℕ → Transaction
placed x id = record x { current = id; destination = None; asked = 0 }

-- a new transaction, on its way to its GENERATE
abbrev pub newcomer : ℕ → Arrival → Event
newcomer number a = record {
  time = a.time;
  transaction =
      record { number = number; priority = a.priority; mark = 0; current = 0; destination = Some a.id; asked = 0 };
}

-- what the making of transactions changes
pub record Making : Type 0 where
  pub next : ℕ
  pub future : List Event
  pub counts : List (ℕ × Count)

abbrev pub making : ℕ → List Event → List (ℕ × Count) → Making
making next future counts = record { next = next; future = future; counts = counts }

-- one more transaction is made
abbrev pub made : Arrival → Making → Making
made a w =
    record { next = raised w.next; future = w.future ++ newcomer w.next a ∷ []; counts = made_one w.counts a.id }

abbrev pub maybe_made : Option Arrival → Making → Making
maybe_made None w = w
maybe_made (Some a) w = made a w

abbrev pub all_made : List Arrival → Making → Making
all_made [] w = w
all_made (a ∷ rest) w = all_made rest (made a w)

abbrev pub making_of : Machine → Making
making_of s = making s.next s.future s.counts

abbrev pub with_making : Making → Machine → Machine
with_making w s = record s { next = w.next; future = w.future; counts = w.counts }

-- a START is under way
abbrev pub started : ℕ → Machine → Machine
started count s = record s { remaining = count; commands = raised s.commands; primed = true }

-- the next transaction is made, if there is one
abbrev pub arrived : Option Arrival → Machine → Machine
arrived next s = with_making (maybe_made next (making_of s)) s

-- what a block changes of its transaction: its mark time, its priority, or the block that it goes to (its parameters
-- stand apart)
abbrev pub own_marked : TransactionChange → ℕ → Transaction → Transaction
own_marked own.Mark clock x = record x { mark = clock }
own_marked (own.Priority to) clock x = record x { priority = to }
own_marked (own.Transfer to) clock x = record x { destination = Some to }
own_marked (own.Assign key to) clock x = x
own_marked (own.Loop key left to) clock x = record x { destination = Some to }

abbrev pub marked : Change → ℕ → Transaction → Transaction
marked (changes.Generate next) clock x = own_marked own.Mark clock x
marked (changes.Transaction change) clock x = own_marked change clock x
marked change clock x = x

-- the parameters of all transactions, with what a block sets of those of its transaction
abbrev pub own_held : TransactionChange → ℕ → List (ℕ × List (Key × ℤ)) → List (ℕ × List (Key × ℤ))
own_held (own.Assign key to) number held = assigned held number key to
own_held (own.Loop key left to) number held = assigned held number key left
own_held change number held = held

abbrev pub held_by : Change → ℕ → List (ℕ × List (Key × ℤ)) → List (ℕ × List (Key × ℤ))
held_by (changes.Transaction change) number held = own_held change number held
held_by change number held = held

-- a user chain with one more transaction, whatever its priority: at the back, or at the front
abbrev pub joined : Discipline → Transaction → List Transaction → List Transaction
joined disciplines.Fifo x xs = xs ++ x ∷ []
joined disciplines.Lifo x xs = x ∷ xs

abbrev pub linked_to : Discipline → Transaction → UserChain → UserChain
linked_to discipline x c = record { entries = raised c.entries; members = joined discipline x c.members }

-- what becomes of the transaction x: it stays active, goes after its equals on the current chain, is on the future
-- chain or on a user chain, or is gone, with its parameters and with its count taken from the termination count, which
-- completes the START at 0
abbrev pub fated : Fate → Transaction → Machine → Machine
fated fates.Active x s = record s { active = Some x }
fated fates.Current x s = record s { active = None; current = lined_up x s.current }
fated (fates.Delayed until) x s =
    record s { active = None; future = s.future ++ record { time = until; transaction = x } ∷ [] }
fated (fates.Linked key discipline) x s = record s {
  active = None;
  linked = with_value s.linked key (linked_to discipline x (user_chain_at s.linked key));
}
fated (fates.Destroyed count) x s =
    record s {
      active = None;
      remaining = s.remaining - count;
      complete =
          (if nat_lt count s.remaining then s.complete else raised s.complete);
      parameters = without s.parameters x.number;
    }

-- a transaction that waited at a block enters it, and goes to the current chain after its equals
abbrev pub let_in : Transaction → Option ℕ → Machine → Machine
let_in x None s = record s { current = lined_up x s.current }
let_in x (Some id) s =
    record s { current = lined_up (placed x id) s.current; counts = crossed fates.Active s.counts x.current id }

-- a transaction leaves a delay chain, of which these go on waiting, and is let in
abbrev pub one_let_in : Key → Transaction → List Transaction → Machine → Machine
one_let_in key x others s = let_in x x.destination (record s { delays = with_value s.delays key others })

-- of a delay chain, after those who were passed over, each with a grant is let in, one by one from the front
abbrev pub some_let_in : Key → List (Option ℕ) → List Transaction → List Transaction → Machine → Machine
some_let_in key [] passed chain s = s
some_let_in key (grant ∷ grants) passed [] s = s
some_let_in key (None ∷ grants) passed (x ∷ xs) s = some_let_in key grants (passed ++ x ∷ []) xs s
some_let_in key (Some units ∷ grants) passed (x ∷ xs) s =
    some_let_in key grants passed xs (one_let_in key x (passed ++ xs) s)

-- the grants of those of the delay chain whom an update lets in: RELEASE the first of the facility's, where there is one;
-- LEAVE each of the storage's that has a grant
abbrev pub update_grants : Update → List (Option ℕ)
update_grants (updates.Facility (of_facility.Release next)) = Some 1 ∷ []
update_grants (updates.Storage (of_storage.Leave units grants)) = grants
update_grants update = []

abbrev pub admitted : Key → Update → Machine → Machine
admitted key update s = some_let_in key (update_grants update) [] (delay_at s.delays key) s

-- a copy of a transaction, which stands where that does: it has a number of its own, and goes to this block, or on from
-- its own where there is none
abbrev pub copied : Transaction → ℕ → Option ℕ → Transaction
copied x number to = record x { number = number; destination = to }

-- the counts with one more transaction in a block, which did not enter it
abbrev pub stood : List (ℕ × Count) → ℕ → List (ℕ × Count)
stood counts id = let c = count_at counts id in with_count counts id (record c { content = raised c.content })

-- one more copy of x is made, with the next number and these parameters, and goes after its equals
abbrev pub one_copied : Option ℕ → Transaction → List (Key × ℤ) → Machine → Machine
one_copied to x values s = record s {
  next = raised s.next;
  current = lined_up (copied x s.next to) s.current;
  counts = stood s.counts x.current;
  parameters = inherited values s.next s.parameters;
}

-- so many copies, one by one
abbrev pub all_copied : ℕ → Option ℕ → Transaction → List (Key × ℤ) → Machine → Machine
all_copied zero to x values s = s
all_copied (suc n) to x values s = all_copied n to x values (one_copied to x values s)

-- a transaction that is sent to a block
abbrev pub sent : Option ℕ → Transaction → Transaction
sent to x = record x { destination = to }

-- the user chains, where these are on one of them
abbrev pub with_members : List (Key × UserChain) → Key → List Transaction → List (Key × UserChain)
with_members linked key xs =
    with_value linked key (record { entries = (user_chain_at linked key).entries; members = xs })

-- a transaction leaves a user chain, on which these stay, and goes after its equals
abbrev pub one_unlinked : Key → Option ℕ → Transaction → List Transaction → Machine → Machine
one_unlinked key to x others s =
    record s { current = lined_up (sent to x) s.current; linked = with_members s.linked key others }

-- so many of a user chain leave it, one by one from the front
abbrev pub some_unlinked : ℕ → Key → Option ℕ → List Transaction → Machine → Machine
some_unlinked zero key to chain s = s
some_unlinked (suc n) key to [] s = s
some_unlinked (suc n) key to (x ∷ xs) s = some_unlinked n key to xs (one_unlinked key to x xs s)

-- what a block brings: a GENERATE the next transaction, a SPLIT the copies of the active one, an UNLINK those whom it
-- takes off its user chain, and the change of an entity those whom it lets in
abbrev pub changed : Change → Machine → Machine
changed (changes.Generate next) s = arrived next s
changed (changes.Split count to) s =
    with_active s.active (λ x. all_copied count to x (values_at s.parameters x.number) s) s
changed (changes.Unlink key count to) s = some_unlinked count key to (user_chain_at s.linked key).members s
changed (changes.Entity change) s = admitted change.0 change.1 s
changed change s = s

-- the transaction x entered a block
abbrev pub entering : Machine → Transaction → ℕ → Change → Fate → Machine
entering s x id change fate =
    changed change (fated fate (marked change s.clock (placed x id)) (record s {
      counts = crossed fate s.counts x.current id;
      entities = touched change s.clock x.number s.entities;
      parameters = held_by change x.number s.parameters;
    }))

-- a transaction that is to enter a block, and asks so many units there
abbrev pub bound : Transaction → ℕ → ℕ → Transaction
bound x id units = record x { destination = Some id; asked = units }

-- the transaction x is refused at a block, and waits for the facility or the storage
abbrev pub refused : Machine → Transaction → ℕ → Key → ℕ → Machine
refused s x id key units = record s {
  active = None;
  delays = with_value s.delays key (lined_up (bound x id units) (delay_at s.delays key));
}

-- the transaction x is refused at a block, and waits as it came for a change of what its attempt read, after all who
-- wait so
abbrev pub watching : Machine → Transaction → List Watched → Machine
watching s x read =
    record s { active = None; retry = s.retry ++ record { transaction = x; read = read } ∷ [] }

-- the first of the current chain is active
abbrev pub picked : Machine → List Transaction → Machine
picked s [] = s
picked s (x ∷ xs) = record s { active = Some x; current = xs }

-- the future chain's transactions of a time, and the others
abbrev pub is_due : ℕ → Event → Bool
is_due time e = e.time == time

abbrev pub due : ℕ → List Event → List Transaction
due time [] = []
due time (e ∷ es) = if is_due time e then e.transaction ∷ due time es else due time es

-- the clock stands at a later time, and its transactions are on the current chain
abbrev pub advanced : Machine → ℕ → Machine
advanced s time = record s {
  clock = time;
  current = all_lined_up (due time s.future) s.current;
  future =
      filter (λ e. not (is_due time e)) s.future;
  entities = later s.clock time s.entities;
}

-- A RESET counts anew: the relative clock, the entries of blocks and of user chains, and what is counted of entities.
-- Who is where stays, and the clock goes on.
abbrev pub count_anew : Count → Count
count_anew c = record c { entries = 0 }

abbrev pub user_chain_anew : UserChain → UserChain
user_chain_anew c = record c { entries = 0 }

abbrev pub reset : Machine → Machine
reset s = record s {
  since = s.clock;
  commands = raised s.commands;
  linked = all_anew user_chain_anew s.linked;
  counts = all_anew count_anew s.counts;
  entities = entities_anew s.clock s.entities;
}

-- A CLEAR begins anew: what is done of the commands stays, and the random streams stand where they stood.
abbrev pub cleared : Machine → Machine
cleared s = record zero_state { commands = raised s.commands; complete = s.complete; streams = s.streams }

abbrev pub moved : Machine → Move → Machine
moved s (moves.Start count arrivals) = with_making (all_made arrivals (making_of s)) (started count s)
moved s moves.Command = record s { commands = raised s.commands }
moved s moves.Reset = reset s
moved s moves.Clear = cleared s
moved s (moves.Enter id change fate) = with_active s.active (λ x. entering s x id change fate) s
moved s (moves.Refuse id key units) = with_active s.active (λ x. refused s x id key units) s
moved s (moves.Watch read) = with_active s.active (λ x. watching s x read) s
moved s moves.Pick = picked s s.current
moved s (moves.Clock time) = advanced s time

-- What a move writes: an entered block the counts of the block left and of the block entered, the entity that it names
-- (a user chain also where nobody leaves it), and the counts of the blocks that those whom it lets in leave and enter.
-- No other move writes anything: neither a command, nor a refused attempt, nor the clock.

-- the counts that a transaction changes where it goes to a block
abbrev pub crossing : Transaction → Option ℕ → List Watched
crossing x None = []
crossing x (Some id) = watched.Counts x.current ∷ watched.Counts id ∷ []

-- the counts that those of a delay chain change who are let in
abbrev pub crossings : List (Option ℕ) → List Transaction → List Watched
crossings [] xs = []
crossings (grant ∷ grants) [] = []
crossings (None ∷ grants) (x ∷ xs) = crossings grants xs
crossings (Some units ∷ grants) (x ∷ xs) = crossing x x.destination ++ crossings grants xs

abbrev pub written_by : Change → Machine → List Watched
written_by (changes.Unlink key count to) s = watched.Entity kinds.UserChain key ∷ []
written_by (changes.Entity change) s =
    watched.Entity (kind_of change.1) change.0 ∷ crossings (update_grants change.1) (delay_at s.delays change.0)
written_by change s = []

-- the user chain to which the transaction is linked
abbrev pub written_in : Fate → List Watched
written_in (fates.Linked key discipline) = watched.Entity kinds.UserChain key ∷ []
written_in fate = []

abbrev pub written_where : Option Transaction → ℕ → Change → Fate → Machine → List Watched
written_where None id change fate s = []
written_where (Some x) id change fate s = crossing x (Some id) ++ (written_by change s ++ written_in fate)

abbrev pub written : Machine → Move → List Watched
written s (moves.Enter id change fate) = written_where s.active id change fate s
written s move = []

-- Whoever waits for a change is woken where something is written that its attempt read: one after another, in order of
-- waiting, they line up on the current chain, and the others go on waiting.
abbrev pub is_woken : List Watched → Waiter → Bool
is_woken list w = list_any (is_watched list) w.read

-- how many wait for a change of something
abbrev pub retries : Machine → Watched → ℕ
retries s w = length (filter (λ (v : Waiter). is_watched v.read w) s.retry)

abbrev pub woke : List Waiter → List Waiter → Machine → Machine
woke ws others s = record s { current = all_lined_up (transactions_of ws) s.current; retry = others }

abbrev pub woken : List Watched → Machine → Machine
woken list s = woke (filter (is_woken list) s.retry) (filter (λ w. not (is_woken list w)) s.retry) s

-- what a step does: its move, then those wake who wait for something that it wrote, with the streams after its draws
abbrev pub decided : Machine → Move → List Stream → Machine
decided s m streams = record (woken (written s m) (moved s m)) { streams = streams }
