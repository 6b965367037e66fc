-- The frame law in positions.
use Rattle.std.proofs.Common.{◌≡◌, ℕ, zero, suc, ◌<◌, List, [], ◌∷◌, map, Option, Some, None, option_map, Ok, refl, ap, ap₂, subst, ◌∙◌, arith, below_more}
use Rattle.std.specs.List.{AllByRecursion}
use Rattle.gw_meaning.specs.declared.item.Item.{Item}
use Rattle.gw_meaning.specs.declared.item.Item.TheVariants as items
use Rattle.gw_meaning.specs.declared.transaction.Transaction.{Transaction}
use Rattle.gw_meaning.specs.declared.transaction.Event.{Event}
use Rattle.gw_meaning.specs.declared.watched.Watched.{Watched}
use Rattle.gw_meaning.specs.declared.watched.Watched.TheVariants as watched
use Rattle.gw_meaning.specs.Watching.{Waiter}
use Rattle.gw_meaning.specs.Listing.{Listing}
use Rattle.gw_meaning.specs.Machine.{Machine, UserChain}
use Rattle.gw_meaning.specs.Step.{step, run}
use Rattle.gw_meaning.specs.Reads.{reads}
use Rattle.gw_frame.specs.Moved.{moved_item, moved_transaction, moved_event, moved_delay, moved_watched, moved_waiter, moved_linked, moved_count, moved_machine}
use Rattle.gw_frame.specs.BlockIds.{IsBlockId, IsIdIfAny, TransactionNames, ActiveNames, EventNames, DelayNames, LinkedNames, WatchedNames, WaiterNames, CountNames, StateNames, ItemNames}
use Rattle.gw_frame.specs.Positions.{position_of, shifted, FrameInPositions}
use Rattle.gw_frame.proofs.ReadLaws.{unseen_reads}
use Rattle.gw_frame.proofs.Running.{last_step}
use Rattle.gw_frame.proofs.PlacedStates.{run_names, reads_names}
use Rattle.gw_frame.proofs.PositionLaws.{position_shifts}

-- f does to each id of both versions what g and then h do
module _ (t u : Listing) (f g h : ℕ → ℕ) (same : (p : ℕ) → IsBlockId t p → IsBlockId u p → f p ≡ h (g p)) where
  maybe_same : (o : Option ℕ) → IsIdIfAny t o → IsIdIfAny u o → option_map f o ≡ option_map h (option_map g o)
  maybe_same None there also = refl
  maybe_same (Some p) there also = ap (λ q. Some q) (same p there also)

  transaction_same : (x : Transaction) → TransactionNames t x → TransactionNames u x → moved_transaction f x ≡ moved_transaction h (moved_transaction g x)
  transaction_same x there also =
      ap₂ (λ current destination. let y : Transaction = record x { current = current; destination = destination } in y)
      (same x.current there.current also.current) (maybe_same x.destination there.destination also.destination)

  active_same : (o : Option Transaction) → ActiveNames t o → ActiveNames u o →
      option_map (moved_transaction f) o ≡ option_map (moved_transaction h) (option_map (moved_transaction g) o)
  active_same None there also = refl
  active_same (Some x) there also = ap (λ y. Some y) (transaction_same x there also)

  -- lists of what is the same for each
  list_same : {X : Type 0} (P Q : X → Type 0) (a b c : X → X) → ((x : X) → P x → Q x → a x ≡ c (b x)) → (xs : List X) → AllByRecursion P xs →
      AllByRecursion Q xs → map a xs ≡ map c (map b xs)
  list_same P Q a b c each [] there also = refl
  list_same P Q a b c each (x ∷ xs) there also = ap₂ (λ y ys. y ∷ ys) (each x there.0 also.0) (list_same P Q a b c each xs there.1 also.1)

  watched_same : (w : Watched) → WatchedNames t w → WatchedNames u w → moved_watched f w ≡ moved_watched h (moved_watched g w)
  watched_same (watched.Entity kind key) there also = refl
  watched_same (watched.Counts id) there also = ap (λ p. watched.Counts p) (same id there also)

  waiter_same : (w : Waiter) → WaiterNames t w → WaiterNames u w → moved_waiter f w ≡ moved_waiter h (moved_waiter g w)
  waiter_same w there also =
      ap₂ (λ x read. let v : Waiter = record { transaction = x; read = read } in v) (transaction_same w.transaction there.transaction also.transaction)
      (list_same (WatchedNames t) (WatchedNames u) (moved_watched f) (moved_watched g) (moved_watched h) watched_same w.read there.read also.read)

  state_same : (s : Machine) → StateNames t s → StateNames u s → moved_machine f s ≡ moved_machine h (moved_machine g s)
  state_same s there also =
      let active = active_same s.active there.active also.active in
      let current = list_same (TransactionNames t) (TransactionNames u) (moved_transaction f) (moved_transaction g) (moved_transaction h)
      transaction_same s.current there.current also.current in
      let future = list_same (EventNames t) (EventNames u) (moved_event f) (moved_event g) (moved_event h)
      (λ e k l. ap (λ x. let y : Event = record e { transaction = x } in y) (transaction_same e.transaction k l)) s.future there.future also.future in
      let delays = list_same (DelayNames t) (DelayNames u) (moved_delay f) (moved_delay g) (moved_delay h)
      (λ d k l. ap (λ chain. (d.0, chain)) (list_same (TransactionNames t) (TransactionNames u) (moved_transaction f) (moved_transaction g)
      (moved_transaction h) transaction_same d.1 k l)) s.delays there.delays also.delays in
      let retry = list_same (WaiterNames t) (WaiterNames u) (moved_waiter f) (moved_waiter g) (moved_waiter h) waiter_same
      s.retry there.retry also.retry in
      let linked = list_same (LinkedNames t) (LinkedNames u) (moved_linked f) (moved_linked g) (moved_linked h)
      (λ c k l. ap (λ xs. let d : UserChain = record { entries = c.1.entries; members = xs } in (c.0, d))
      (list_same (TransactionNames t) (TransactionNames u) (moved_transaction f) (moved_transaction g) (moved_transaction h) transaction_same
      c.1.members k l)) s.linked there.linked also.linked in
      let counts = list_same (CountNames t) (CountNames u) (moved_count f) (moved_count g) (moved_count h) (λ c k l. ap (λ p. (p, c.1)) (same c.0 k l))
      s.counts there.counts also.counts in
      rw (active, current, future, delays, retry, linked, counts) refl

  item_same : (i : Item) → ItemNames t i → ItemNames u i → moved_item f i ≡ moved_item h (moved_item g i)
  item_same (items.Block p) there also = ap (λ q. items.Block q) (same p there also)
  item_same (items.After p) there also = ap (λ q. items.After q) (same p there also)
  item_same item there also = refl

  items_same : (is : List Item) → AllByRecursion (ItemNames t) is → AllByRecursion (ItemNames u) is →
      map (moved_item f) is ≡ map (moved_item h) (map (moved_item g) is)
  items_same is there also = list_same (ItemNames t) (ItemNames u) (moved_item f) (moved_item g) (moved_item h) item_same is there also

-- each step of a run goes
pub record Goes (t : Listing) (seed j : ℕ) : Type 0 where
  pub from : Machine
  pub to : Machine
  pub there : run t seed j ≡ Ok from
  pub goes : step t seed from ≡ Ok to

goes_below : (t : Listing) (seed n : ℕ) (s : Machine) → run t seed n ≡ Ok s → (j : ℕ) → j < n → Goes t seed j
goes_below t seed zero s there j below = absurd (omega arith)
goes_below t seed (suc n) s there j below =
    let last = last_step t seed n s there in
    below_more (λ i. Goes t seed i) n (goes_below t seed n last.before last.there)
    (record { from = last.before; to = s; there = last.there; goes = last.goes }) j (omega arith)

pub frame_in_positions : FrameInPositions
frame_in_positions t seed u new_seed n s front deleted inserted back splice first second there alike =
    let unseen = unseen_reads t seed u new_seed n s there alike in
    let move = shifted front deleted inserted in
    let same = position_shifts t u front deleted inserted back splice first second in (
      unseen.0,
      state_same t u (position_of u) (position_of t) move same s (run_names t seed n s first there) (run_names u new_seed n s second unseen.0),
      λ j below. reads_same same unseen.0 j below (unseen.1 j below),
    ) where
      reads_same : ((p : ℕ) → IsBlockId t p → IsBlockId u p → position_of u p ≡ shifted front deleted inserted (position_of t p)) →
          run u new_seed n ≡ Ok s → (j : ℕ) →
          j < n → reads u new_seed j ≡ reads t seed j → map (moved_item (position_of u)) (reads u new_seed j) ≡
          map (moved_item (shifted front deleted inserted)) (map (moved_item (position_of t)) (reads t seed j))
      reads_same same also j below reads_alike =
          let old = goes_below t seed n s there j below in
          let new = goes_below u new_seed n s also j below in
          let named = reads_names t seed j old.from old.to first old.there old.goes in
          let renamed = subst (λ is. AllByRecursion (ItemNames u) is) reads_alike (reads_names u new_seed j new.from new.to second new.there new.goes) in
          ap (map (moved_item (position_of u))) reads_alike ∙
          items_same t u (position_of u) (position_of t) (shifted front deleted inserted) same (reads t seed j) named renamed
