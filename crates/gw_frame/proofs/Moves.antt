-- What a law needs of a move: the block that is entered, with the change and the fate each by cases of their own, those
-- who are let in with it, copied or unlinked, and the one that is picked.
use Rattle.std.proofs.Common.{◌≡◌, ℕ, ◌+◌, ◌^◌, zero, suc, ℤ, List, [], ◌∷◌, ◌++◌, append_assoc, Option, Some, None, refl, ap, sym, ◌∙◌, ◌≤◌, ◌<◌, arith}
use Rattle.gw_meaning.specs.declared.transaction.Transaction.{Transaction}
use Rattle.gw_names.specs.declared.key.Key.{Key}
use Rattle.gw_meaning.specs.Tables.{with_value}
use Rattle.gw_meaning.specs.Parameters.{values_at}
use Rattle.gw_meaning.specs.declared.entity_change.Update.{Update}
use Rattle.gw_meaning.specs.declared.moves.Arrival.{Arrival}
use Rattle.gw_meaning.specs.declared.moves.Change.{Change}
use Rattle.gw_meaning.specs.declared.moves.Change.TheVariants as changes
use Rattle.gw_meaning.specs.declared.transaction_change.TransactionChange.{TransactionChange}
use Rattle.gw_meaning.specs.declared.transaction_change.TransactionChange.TheVariants as own
use Rattle.gw_meaning.specs.declared.moves.Fate.{Fate}
use Rattle.gw_meaning.specs.declared.moves.Fate.TheVariants as fates
use Rattle.gw_meaning.specs.declared.moves.Move.TheVariants as moves
use Rattle.gw_meaning.specs.Listing.{Listing}
use Rattle.gw_meaning.specs.Entities.{touched}
use Rattle.gw_meaning.specs.Machine.{Machine, UserChain, delay_at, user_chain_at}
use Rattle.gw_meaning.specs.Changes.{lined_up, crossed, made, making_of, with_making, placed, own_marked, marked, held_by, linked_to, fated, let_in, one_let_in, some_let_in, update_grants, admitted, one_copied, all_copied, one_unlinked, some_unlinked, changed, entering, with_active, picked, moved}
use Rattle.gw_frame.proofs.Known.{IsQueueArrival, IsSentTo, MayBeCopied, IsDecidedChange}
use Rattle.gw_frame.proofs.Delays.{delay_set}
use Rattle.gw_frame.proofs.UserChains.{members_set}

-- the transaction x in its block, before the block changes anything else
abbrev pub settled : Machine → Transaction → ℕ → Change → Fate → Machine
settled s x id change fate =
    fated fate (marked change s.clock (placed x id)) (record s {
      counts = crossed fate s.counts x.current id;
      entities = touched change s.clock x.number s.entities;
      parameters = held_by change x.number s.parameters;
    })

-- what a mark and a fate leave alone
own_same : (change : TransactionChange) (clock : ℕ) (x : Transaction) →
    ((own_marked change clock x).number ≡ x.number) × ((own_marked change clock x).current ≡ x.current)
own_same own.Mark clock x = (refl, refl)
own_same change clock x = (refl, refl)

pub marked_same : (change : Change) (clock : ℕ) (x : Transaction) →
    ((marked change clock x).number ≡ x.number) × ((marked change clock x).current ≡ x.current)
marked_same (changes.Transaction change) clock x = own_same change clock x
marked_same change clock x = (refl, refl)

-- the current chain after a fate
abbrev pub current_behind : Fate → Transaction → List Transaction → List Transaction
current_behind fates.Current x chain = lined_up x chain
current_behind fate x chain = chain

-- the user chains after a fate
abbrev pub linked_behind : Fate → Transaction → List (Key × UserChain) → List (Key × UserChain)
linked_behind (fates.Linked key discipline) x linked = with_value linked key (linked_to discipline x (user_chain_at linked key))
linked_behind fate x linked = linked

pub record IsSettled (s : Machine) (x : Transaction) (id : ℕ) (change : Change) (fate : Fate) (v : Machine) : Type 0 where
  pub clock : v.clock ≡ s.clock
  pub next : v.next ≡ s.next
  pub current : v.current ≡ current_behind fate (marked change s.clock (placed x id)) s.current
  pub delays : v.delays ≡ s.delays
  pub retry : v.retry ≡ s.retry
  pub linked : v.linked ≡ linked_behind fate (marked change s.clock (placed x id)) s.linked
  pub counts : v.counts ≡ crossed fate s.counts x.current id
  pub entities : v.entities ≡ touched change s.clock x.number s.entities

pub settled_is : (s : Machine) (x : Transaction) (id : ℕ) (change : Change) (fate : Fate) → IsSettled s x id change fate (settled s x id change fate)
settled_is s x id change fates.Active = record {
  clock = refl;
  next = refl;
  current = refl;
  delays = refl;
  retry = refl;
  linked = refl;
  counts = refl;
  entities = refl;
}
settled_is s x id change fate = record {
  clock = refl;
  next = refl;
  current = refl;
  delays = refl;
  retry = refl;
  linked = refl;
  counts = refl;
  entities = refl;
}

-- whoever is active after it is the one that entered the block
pub still_active : (s : Machine) (x : Transaction) (id : ℕ) (change : Change) (fate : Fate) (y : Transaction) →
    (settled s x id change fate).active ≡ Some y → y ≡ marked change s.clock (placed x id)
still_active s x id change fates.Active y is = let both : Some (marked change s.clock (placed x id)) ≡ Some y = is in cc
still_active s x id change fate y is = absurd cc

-- what else stays where one is let in: all but the delay chain that it leaves, the current chain and the counts of blocks
pub let_in_delays : (x : Transaction) (to : Option ℕ) (s : Machine) → (let_in x to s).delays ≡ s.delays
let_in_delays x None s = refl
let_in_delays x (Some id) s = refl

pub chain_behind : (key : Key) (x : Transaction) (others : List Transaction) (s : Machine) → delay_at (one_let_in key x others s).delays key ≡ others
chain_behind key x others s =
    ap (λ ds. delay_at ds key) (let_in_delays x x.destination (record s { delays = with_value s.delays key others })) ∙ delay_set s.delays key others

-- one of a delay chain is let in, and Q still holds
abbrev pub LetsIn : (Machine → Type 0) → Type 0
LetsIn Q = (w : Machine) (key : Key) (x : Transaction) (passed xs : List Transaction) → delay_at w.delays key ≡ passed ++ x ∷ xs → Q w →
    Q (one_let_in key x (passed ++ xs) w)

pub some_have : (Q : Machine → Type 0) (key : Key) (grants : List (Option ℕ)) (passed chain : List Transaction) (w : Machine) →
    delay_at w.delays key ≡ passed ++ chain → LetsIn Q → Q w → Q (some_let_in key grants passed chain w)
some_have Q key [] passed chain w is lets h = h
some_have Q key (grant ∷ grants) passed [] w is lets h = h
some_have Q key (None ∷ grants) passed (x ∷ xs) w is lets h =
    some_have Q key grants (passed ++ x ∷ []) xs w (is ∙ sym (append_assoc passed (x ∷ []) xs)) lets h
some_have Q key (Some units ∷ grants) passed (x ∷ xs) w is lets h =
    some_have Q key grants passed xs (one_let_in key x (passed ++ xs) w) (chain_behind key x (passed ++ xs) w) lets (lets w key x passed xs is h)

-- what each copy keeps of a state in which so many are to be made, all of them keep
pub all_copied_keep : (Q : ℕ → Machine → Type 0) (to : Option ℕ) (x : Transaction) (values : List (Key × ℤ)) →
    ((n : ℕ) (w : Machine) → Q (suc n) w → Q n (one_copied to x values w)) → (count : ℕ) (w : Machine) → Q count w →
    Q 0 (all_copied count to x values w)
all_copied_keep Q to x values step zero w h = h
all_copied_keep Q to x values step (suc n) w h = all_copied_keep Q to x values step n (one_copied to x values w) (step n w h)

-- what each who leaves a user chain keeps, all of them keep
pub some_unlinked_keep : (Q : Machine → Type 0) (key : Key) (to : Option ℕ) →
    ((w : Machine) (x : Transaction) (xs : List Transaction) → (user_chain_at w.linked key).members ≡ x ∷ xs → Q w → Q (one_unlinked key to x xs w)) →
    (count : ℕ) (chain : List Transaction) (w : Machine) → (user_chain_at w.linked key).members ≡ chain → Q w → Q (some_unlinked count key to chain w)
some_unlinked_keep Q key to step zero chain w is h = h
some_unlinked_keep Q key to step (suc n) [] w is h = h
some_unlinked_keep Q key to step (suc n) (x ∷ xs) w is h =
    some_unlinked_keep Q key to step n xs (one_unlinked key to x xs w) (members_set w.linked key xs) (step w x xs is h)

-- on the way after the state s the active transaction x is copied in the state w: one of the next 100,000 numbers is given,
-- unless they are at their end
pub record IsCopying (t : Listing) (s w : Machine) (to : Option ℕ) (x : Transaction) : Type 0 where
  pub named : IsSentTo t to
  pub active : w.active ≡ Some x
  pub above : s.next < 2 ^ 64 → s.next ≤ w.next
  pub below : w.next < s.next + 100000

-- one copy is made, and Q still holds
abbrev pub Copies : Listing → Machine → (Machine → Type 0) → Type 0
Copies t s Q = (w : Machine) (to : Option ℕ) (x : Transaction) (values : List (Key × ℤ)) → IsCopying t s w to x → Q w → Q (one_copied to x values w)

-- so many copies are still to be made
record AreCopying (t : Listing) (s : Machine) (Q : Machine → Type 0) (x : Transaction) (count : ℕ) (w : Machine) : Type 0 where
  active : w.active ≡ Some x
  above : s.next < 2 ^ 64 → s.next ≤ w.next
  below : w.next + count ≤ s.next + 100000
  holds : Q w

all_have : (t : Listing) (s : Machine) (Q : Machine → Type 0) (to : Option ℕ) (x : Transaction) (values : List (Key × ℤ)) → IsSentTo t to →
    Copies t s Q → (count : ℕ) (w : Machine) → AreCopying t s Q x count w → Q (all_copied count to x values w)
all_have t s Q to x values named copies count w h = (all_copied_keep (AreCopying t s Q x) to x values step count w h).holds where
  step : (n : ℕ) (u : Machine) → AreCopying t s Q x (suc n) u → AreCopying t s Q x n (one_copied to x values u)
  step n u k =
      let copying : IsCopying t s u to x = record { named = named; active = k.active; above = k.above; below = omega (arith, k.below) } in
      record {
        active = k.active;
        above = λ room. let low = k.above room in omega arith;
        below = omega (arith, k.below);
        holds = copies u to x values copying k.holds;
      }

-- the first of a user chain leaves it, and Q still holds
abbrev pub Unlinks : Listing → (Machine → Type 0) → Type 0
Unlinks t Q = (w : Machine) (key : Key) (to : Option ℕ) (x : Transaction) (xs : List Transaction) → IsSentTo t to →
    (user_chain_at w.linked key).members ≡ x ∷ xs → Q w → Q (one_unlinked key to x xs w)

-- where P holds of the settled state, Q holds after the block, if it holds with nothing more and with one more transaction
-- made, and if it still holds where one of a delay chain is let in, one copy is made, or the first of a user chain leaves it
pub record Brings (P Q : Machine → Type 0) (t : Listing) (s v : Machine) : Type 0 where
  pub nothing : P v → Q v
  pub one : (a : Arrival) → IsQueueArrival t s a → P v → Q (with_making (made a (making_of v)) v)
  pub lets : LetsIn Q
  pub copies : Copies t s Q
  pub unlinks : Unlinks t Q

admitted_has : (P Q : Machine → Type 0) (t : Listing) (s v : Machine) (key : Key) (update : Update) → P v → Brings P Q t s v → Q (admitted key update v)
admitted_has P Q t s v key update h brings =
    some_have Q key (update_grants update) [] (delay_at v.delays key) v refl brings.lets (brings.nothing h)

copied_has : (P Q : Machine → Type 0) (t : Listing) (s v : Machine) (o : Option Transaction) (count : ℕ) (to : Option ℕ) → v.active ≡ o →
    v.next ≡ s.next → MayBeCopied t s count to → P v → Brings P Q t s v →
    Q (with_active o (λ x. all_copied count to x (values_at v.parameters x.number) v) v)
copied_has P Q t s v None count to is next may h brings = brings.nothing h
copied_has P Q t s v (Some x) count to is next may h brings =
    all_have t s Q to x (values_at v.parameters x.number) may.named brings.copies count v
    (record { active = is; above = λ room. omega (arith, next); below = omega (arith, next, may.few); holds = brings.nothing h })

unlinked_has : (P Q : Machine → Type 0) (t : Listing) (s v : Machine) (key : Key) (count : ℕ) (to : Option ℕ) → IsSentTo t to → P v →
    Brings P Q t s v → Q (some_unlinked count key to (user_chain_at v.linked key).members v)
unlinked_has P Q t s v key count to named h brings =
    some_unlinked_keep Q key to (λ w x xs is k. brings.unlinks w key to x xs named is k) count (user_chain_at v.linked key).members v refl
    (brings.nothing h)

changed_has : (P Q : Machine → Type 0) (t : Listing) (s : Machine) (change : Change) (v : Machine) → IsDecidedChange t s change → v.next ≡ s.next →
    P v → Brings P Q t s v → Q (changed change v)
changed_has P Q t s (changes.Generate (Some a)) v coming next h brings = brings.one a coming h
changed_has P Q t s (changes.Split count to) v coming next h brings = copied_has P Q t s v v.active count to refl next coming h brings
changed_has P Q t s (changes.Unlink key count to) v coming next h brings = unlinked_has P Q t s v key count to coming.named h brings
changed_has P Q t s (changes.Entity change) v coming next h brings = admitted_has P Q t s v change.0 change.1 h brings
changed_has P Q t s change v coming next h brings = brings.nothing h

pub with_active_has : (P : Machine → Type 0) (o : Option Transaction) (f : Transaction → Machine) (s : Machine) → P s →
    ((x : Transaction) → o ≡ Some x → P (f x)) → P (with_active o f s)
with_active_has P None f s none some = none
with_active_has P (Some x) f s none some = some x refl

pub entered_has : (P Q : Machine → Type 0) (t : Listing) (s : Machine) (id : ℕ) (change : Change) (fate : Fate) → IsDecidedChange t s change → Q s →
    ((x : Transaction) → s.active ≡ Some x → P (settled s x id change fate)) → ((v : Machine) → Brings P Q t s v) →
    Q (moved s (moves.Enter id change fate))
entered_has P Q t s id change fate coming stays enters brings =
    with_active_has Q s.active (λ x. entering s x id change fate) s stays
    (λ x is. let v = settled s x id change fate in changed_has P Q t s change v coming (settled_is s x id change fate).next (enters x is) (brings v))

pub picked_has : (P : Machine → Type 0) (s : Machine) (chain : List Transaction) → P s →
    ((x : Transaction) (xs : List Transaction) → chain ≡ x ∷ xs → P (picked s (x ∷ xs))) → P (picked s chain)
picked_has P s [] none some = none
picked_has P s (x ∷ xs) none some = some x xs refl

-- what copies leave alone: all but the next number, the current chain, the counts of blocks and the parameters
pub record AfterCopying (s v : Machine) : Type 0 where
  pub clock : v.clock ≡ s.clock
  pub remaining : v.remaining ≡ s.remaining
  pub complete : v.complete ≡ s.complete
  pub active : v.active ≡ s.active
  pub future : v.future ≡ s.future
  pub delays : v.delays ≡ s.delays
  pub retry : v.retry ≡ s.retry
  pub linked : v.linked ≡ s.linked
  pub entities : v.entities ≡ s.entities

nothing_copied : (s : Machine) → AfterCopying s s
nothing_copied s = record {
  clock = refl;
  remaining = refl;
  complete = refl;
  active = refl;
  future = refl;
  delays = refl;
  retry = refl;
  linked = refl;
  entities = refl;
}

pub all_copied_is : (count : ℕ) (to : Option ℕ) (x : Transaction) (values : List (Key × ℤ)) (s : Machine) →
    AfterCopying s (all_copied count to x values s)
all_copied_is count to x values s =
    all_copied_keep (λ n w. AfterCopying s w) to x values
    (λ n w h. record {
      clock = h.clock;
      remaining = h.remaining;
      complete = h.complete;
      active = h.active;
      future = h.future;
      delays = h.delays;
      retry = h.retry;
      linked = h.linked;
      entities = h.entities;
    })
    count s (nothing_copied s)

pub split_is : (s : Machine) (count : ℕ) (to : Option ℕ) → AfterCopying s (changed (changes.Split count to) s)
split_is s count to = go s.active where
  go : (o : Option Transaction) → AfterCopying s (with_active o (λ x. all_copied count to x (values_at s.parameters x.number) s) s)
  go None = nothing_copied s
  go (Some x) = all_copied_is count to x (values_at s.parameters x.number) s

-- what unlinking leaves alone: all but the current chain and the user chains
pub record AfterUnlinking (s v : Machine) : Type 0 where
  pub clock : v.clock ≡ s.clock
  pub remaining : v.remaining ≡ s.remaining
  pub complete : v.complete ≡ s.complete
  pub next : v.next ≡ s.next
  pub active : v.active ≡ s.active
  pub future : v.future ≡ s.future
  pub delays : v.delays ≡ s.delays
  pub retry : v.retry ≡ s.retry
  pub counts : v.counts ≡ s.counts
  pub entities : v.entities ≡ s.entities
  pub parameters : v.parameters ≡ s.parameters

nobody_unlinked : (s : Machine) → AfterUnlinking s s
nobody_unlinked s = record {
  clock = refl;
  remaining = refl;
  complete = refl;
  next = refl;
  active = refl;
  future = refl;
  delays = refl;
  retry = refl;
  counts = refl;
  entities = refl;
  parameters = refl;
}

pub unlink_is : (s : Machine) (key : Key) (count : ℕ) (to : Option ℕ) → AfterUnlinking s (changed (changes.Unlink key count to) s)
unlink_is s key count to =
    some_unlinked_keep (AfterUnlinking s) key to
    (λ w x xs is h. record {
      clock = h.clock;
      remaining = h.remaining;
      complete = h.complete;
      next = h.next;
      active = h.active;
      future = h.future;
      delays = h.delays;
      retry = h.retry;
      counts = h.counts;
      entities = h.entities;
      parameters = h.parameters;
    })
    count (user_chain_at s.linked key).members s refl (nobody_unlinked s)
