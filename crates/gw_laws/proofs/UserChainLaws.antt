-- The user chains, move by move: whoever comes is linked, and whoever goes is unlinked, from the front.
use Rattle.std.proofs.Common.{◌≡◌, ◌⊎◌, ℕ, suc, List, [], ◌∷◌, ◌++◌, ◌+◌, filter, length, Option, Some, Ok, refl, sym, ap, subst, ◌∙◌, append-nil, arith, inl, inr}
use Rattle.std.specs.Prelude.{Contains, drop, take}
use Rattle.std.proofs.lemmas.Bool.{cases_Bool}
use Rattle.std.proofs.lemmas.List.{take-append-drop, length-append}
use Rattle.std.proofs.lemmas.List.Elements.{Contains-append_cases, Contains-append_left}
use Rattle.gw_names.specs.declared.key.Key.{Key}
use Rattle.gw_names.specs.Keys.{key_eq}
use Rattle.gw_names.specs.declared.verb.BlockVerb.{BlockVerb}
use Rattle.gw_names.specs.declared.verb.BlockVerb.TheVariants as blocks
use Rattle.gw_entities.proofs.QueueArrivalLaws.{key_same}
use Rattle.gw_expr.specs.declared.expr.Discipline.{Discipline}
use Rattle.gw_expr.specs.declared.expr.Discipline.TheVariants as disciplines
use Rattle.gw_expr.specs.declared.expr.Expr.TheVariants.{Order}
use Rattle.gw_streams.specs.declared.stream.Stream.{Stream}
use Rattle.gw_meaning.specs.declared.statement.Block.{Block}
use Rattle.gw_meaning.specs.declared.transaction.Transaction.{Transaction}
use Rattle.gw_meaning.specs.declared.moves.Change.{Change}
use Rattle.gw_meaning.specs.declared.moves.Change.TheVariants as changes
use Rattle.gw_meaning.specs.declared.moves.Fate.{Fate}
use Rattle.gw_meaning.specs.declared.moves.Fate.TheVariants as fates
use Rattle.gw_meaning.specs.declared.moves.Move.{Move}
use Rattle.gw_meaning.specs.declared.moves.Move.TheVariants as moves
use Rattle.gw_meaning.specs.Statements.{B, operand}
use Rattle.gw_meaning.specs.Listing.{Listing, block_at}
use Rattle.gw_meaning.specs.Watching.{transactions_of}
use Rattle.gw_meaning.specs.Machine.{Machine, UserChain, user_chain_at}
use Rattle.gw_meaning.specs.Questions.{result_of}
use Rattle.gw_meaning.specs.Changes.{joined, linked_to, sent, placed, entering, refused, watching, with_active, moved, written, is_woken, decided}
use Rattle.gw_meaning.specs.Step.{decide, step}
use Rattle.gw_frame.proofs.Decided.{is_decided}
use Rattle.gw_frame.proofs.Known.{IsDecidedFate, IsDecided}
use Rattle.gw_frame.proofs.Moves.{settled, with_active_has, picked_has, split_is}
use Rattle.gw_laws.specs.UserChains.{chain_of, on_chain, IsLink, IsPlacedBy, TookFromTheFront, OneCame, CountedAnew, Emptied, UserChainsChangeByLinkAndUnlink, FewerByUnlinkAlone, WhoLeavesIsUnlinked, EachLinkIsFifo, UserChainsAreFirstInFirstOut}
use Rattle.gw_frame.proofs.UserChains.{chain_set}
use Rattle.gw_frame.proofs.Known.{LinksAtVerb, IsStep}
use Rattle.gw_laws.proofs.EndLaws.{went_on, goes_on}
use Rattle.gw_laws.proofs.Linking.{chain_there, admitted_chain, unlinked_there, unlinked_here, unlinked_entries, unlinked_stands}
use Rattle.gw_frame.proofs.Decided.{move_is_step}
use Rattle.gw_laws.proofs.Waking.{all_lined_keeps}
use Rattle.gw_laws.proofs.Anew.{all_dropped, chain_members, chain_entries}

-- ---- a user chain in a step

joined_is : (discipline : Discipline) (x : Transaction) (xs : List Transaction) → IsPlacedBy discipline x xs (joined discipline x xs)
joined_is disciplines.Fifo x xs = refl
joined_is disciplines.Lifo x xs = refl

module _ (s : Machine) (key : Key) where
  abbrev IsServed : Move → Machine → Type 0
  IsServed m v =
      (chain_of v key ≡ chain_of s key)
      ⊎ (TookFromTheFront m key (chain_of s key) (chain_of v key)
      ⊎ (OneCame s m key (chain_of s key) (chain_of v key)
      ⊎ (CountedAnew m (chain_of s key) (chain_of v key) ⊎ Emptied m (chain_of v key))))

  -- an entry that leaves the transaction active
  stays_served : (x : Transaction) (id : ℕ) (change : Change) → IsServed (moves.Enter id change fates.Active) (entering s x id change fates.Active)
  stays_served x id (changes.Entity change) =
      inl (admitted_chain change.0 change.1 (settled s x id (changes.Entity change) fates.Active) key)
  stays_served x id (changes.Split count to) =
      inl (ap (λ cs. user_chain_at cs key) (split_is (settled s x id (changes.Split count to) fates.Active) count to).linked)
  stays_served x id (changes.Unlink chain count to) =
      let m = moves.Enter id (changes.Unlink chain count to) fates.Active in
      let v = settled s x id (changes.Unlink chain count to) fates.Active in
      let w = entering s x id (changes.Unlink chain count to) fates.Active in
      let took : TookFromTheFront m chain (chain_of s chain) (chain_of w chain) = record {
        count = count;
        to = to;
        unlinks = (id, refl);
        members = unlinked_here count chain to (on_chain s chain) v refl;
        entries = unlinked_entries count chain to v;
      } in
      elim (cases_Bool (key_eq key chain)) [
        | inl is ↦ inr (inl (subst (λ k. TookFromTheFront m k (chain_of s k) (chain_of w k)) (sym (key_same key chain is)) took))
        | inr other ↦ inl (unlinked_there count chain to v key other)
      ]
  stays_served x id change = inl refl

  -- an entry that links it
  link_served : (x : Transaction) (id : ℕ) (chain : Key) (discipline : Discipline) → s.active ≡ Some x →
      IsServed (moves.Enter id changes.Nothing (fates.Linked chain discipline)) (entering s x id changes.Nothing (fates.Linked chain discipline))
  link_served x id chain discipline active =
      let m = moves.Enter id changes.Nothing (fates.Linked chain discipline) in
      let y = placed x id in
      let v = entering s x id changes.Nothing (fates.Linked chain discipline) in
      let here = chain_set s.linked chain (linked_to discipline y (chain_of s chain)) in
      let came : OneCame s m chain (chain_of s chain) (chain_of v chain) = record {
        discipline = discipline;
        who = y;
        was_active = (x, active, refl);
        links = (id, refl);
        members =
            subst (λ (c : UserChain). IsPlacedBy discipline y (on_chain s chain) c.members) (sym here) (joined_is discipline y (on_chain s chain));
        entries = ap (λ (c : UserChain). c.entries) here;
      } in
      elim (cases_Bool (key_eq key chain)) [
        | inl is ↦ inr (inr (inl (subst (λ k. OneCame s m k (chain_of s k) (chain_of v k)) (sym (key_same key chain is)) came)))
        | inr other ↦ inl (chain_there s.linked key chain _ other)
      ]

  entered_served : (x : Transaction) (id : ℕ) (change : Change) (fate : Fate) → s.active ≡ Some x → IsDecidedFate s change fate →
      IsServed (moves.Enter id change fate) (entering s x id change fate)
  entered_served x id change fates.Active active decided' = stays_served x id change
  entered_served x id change fates.Current active nothing =
      subst (λ c. IsServed (moves.Enter id c fates.Current) (entering s x id c fates.Current)) (sym nothing) (inl refl)
  entered_served x id change (fates.Delayed until) active decided' =
      subst (λ c. IsServed (moves.Enter id c (fates.Delayed until)) (entering s x id c (fates.Delayed until))) (sym decided'.0) (inl refl)
  entered_served x id change (fates.Linked chain discipline) active nothing =
      subst (λ c. IsServed (moves.Enter id c (fates.Linked chain discipline)) (entering s x id c (fates.Linked chain discipline))) (sym nothing)
      (link_served x id chain discipline active)
  entered_served x id change (fates.Destroyed count) active nothing =
      subst (λ c. IsServed (moves.Enter id c (fates.Destroyed count)) (entering s x id c (fates.Destroyed count))) (sym nothing) (inl refl)

  moved_served : (t : Listing) (m : Move) → IsDecided t s m → IsServed m (moved s m)
  moved_served t moves.Reset decided' =
      inr (inr (inr (inl (record { resets = tt; members = chain_members s key; entries = chain_entries s key }))))
  moved_served t moves.Clear decided' = inr (inr (inr (inr (record { clears = tt; empty = refl }))))
  moved_served t (moves.Enter id change fate) decided' =
      with_active_has (IsServed (moves.Enter id change fate)) s.active (λ x. entering s x id change fate) s (inl refl)
      (λ x is. entered_served x id change fate is decided'.2)
  moved_served t (moves.Refuse id chain units) decided' =
      with_active_has (IsServed (moves.Refuse id chain units)) s.active (λ x. refused s x id chain units) s (inl refl) (λ x is. inl refl)
  moved_served t (moves.Watch read) decided' =
      with_active_has (IsServed (moves.Watch read)) s.active (λ x. watching s x read) s (inl refl) (λ x is. inl refl)
  moved_served t moves.Pick decided' = picked_has (IsServed moves.Pick) s s.current (inl refl) (λ x xs is. inl refl)
  moved_served t m decided' = inl refl

pub same_behind : (t : Listing) (seed : ℕ) (s v : Machine) (m : Move) (streams : List Stream) → result_of t seed (decide s) ≡ Ok (m, streams) →
    step t seed s ≡ Ok v → decided s m streams ≡ v
same_behind t seed s v m streams goes is = let both : Ok (decided s m streams) ≡ Ok v = sym (goes_on t seed s (m, streams) goes) ∙ is in cc

pub user_chains_change_by_link_and_unlink : UserChainsChangeByLinkAndUnlink
user_chains_change_by_link_and_unlink t seed s v m streams goes is key =
    subst (IsServed s key m) (same_behind t seed s v m streams goes is) (moved_served s key t m (is_decided t seed s (m, streams) goes))

one_more : (discipline : Discipline) (x : Transaction) (xs ys : List Transaction) → IsPlacedBy discipline x xs ys → length ys ≡ length xs + 1
one_more disciplines.Fifo x xs ys is = ap length is ∙ length-append xs (x ∷ [])
one_more disciplines.Lifo x xs ys is = let same = ap length is in omega arith

pub fewer_by_unlink_alone : FewerByUnlinkAlone
fewer_by_unlink_alone t seed s v m streams goes is apart key fewer =
    elim (user_chains_change_by_link_and_unlink t seed s v m streams goes is key) [
      | inl same ↦ absurd (let alike = ap (λ (c : UserChain). length c.members) same in omega (arith, fewer, alike))
      | inr (inl took) ↦ took
      | inr (inr (inr (inl anew))) ↦ absurd (let alike = ap length anew.members in omega (arith, fewer, alike))
      | inr (inr (inr (inr emptied))) ↦ absurd (apart emptied.clears)
      | inr (inr (inl came)) ↦ absurd (
          let more = one_more came.discipline came.who (on_chain s key) (on_chain v key) came.members in
          omega (arith, fewer, more))
    ]

-- ---- whoever leaves

stays_beside : (discipline : Discipline) (y : Transaction) (xs ys : List Transaction) (x : Transaction) → IsPlacedBy discipline y xs ys →
    Contains xs x →
    Contains ys x
stays_beside disciplines.Fifo y xs ys x is there = subst (λ zs. Contains zs x) (sym is) (Contains-append_left xs (y ∷ []) x there)
stays_beside disciplines.Lifo y xs ys x is there = subst (λ zs. Contains zs x) (sym is) (suc there.0, omega (arith, there.1), there.2)

-- whom an UNLINK takes it sends to the current chain
taken_stands : (s : Machine) (id count : ℕ) (key : Key) (to : Option ℕ) (x y : Transaction) → s.active ≡ Some y →
    Contains (take count (on_chain s key)) x → Contains (moved s (moves.Enter id (changes.Unlink key count to) fates.Active)).current (sent to x)
taken_stands s id count key to x y active there =
    let f : Transaction → Machine = λ z. entering s z id (changes.Unlink key count to) fates.Active in
    subst (λ o. Contains (with_active o f s).current (sent to x)) (sym active)
    (unlinked_stands count key to (on_chain s key) (settled s y id (changes.Unlink key count to) fates.Active) x refl there)

pub who_is_active : (t : Listing) (seed : ℕ) (s : Machine) (m : Move) (streams : List Stream) (id : ℕ) (change : Change) (fate : Fate) →
    result_of t seed (decide s) ≡ Ok (m, streams) → m ≡ moves.Enter id change fate → (y : Transaction) × (s.active ≡ Some y)
who_is_active t seed s m streams id change fate goes is =
    let step = subst (IsStep t seed s) is (move_is_step t seed s s.streams (m, streams) goes) in (step.1.who, step.1.active)

pub who_leaves_is_unlinked : WhoLeavesIsUnlinked
who_leaves_is_unlinked t seed s v m streams goes is apart key x there =
    let same = same_behind t seed s v m streams goes is in
    elim (user_chains_change_by_link_and_unlink t seed s v m streams goes is key) [
      | inl stays ↦ inl (subst (λ (c : UserChain). Contains c.members x) (sym stays) there)
      | inr (inl took) ↦
          let count = took.count in
          let to = took.to in
          let whole = subst (λ xs. Contains xs x) (sym (take-append-drop count (on_chain s key))) there in
          elim (Contains-append_cases (take count (on_chain s key)) (drop count (on_chain s key)) x whole) [
            | inl front ↦
                let y = who_is_active t seed s m streams took.unlinks.0 (changes.Unlink key count to) fates.Active goes took.unlinks.1 in
                let stands = taken_stands s took.unlinks.0 count key to x y.0 y.1 front in
                let here : Contains (moved s m).current (sent to x) =
                subst (λ n. Contains (moved s n).current (sent to x)) (sym took.unlinks.1) stands in
                let now = all_lined_keeps (transactions_of (filter (is_woken (written s m)) (moved s m).retry)) (moved s m).current (sent to x) here in
                inr (count, to, took.unlinks, subst (λ (u : Machine). Contains u.current (sent to x)) same now)
            | inr behind ↦ inl (subst (λ xs. Contains xs x) (sym took.members) behind)
          ]
      | inr (inr (inr (inl anew))) ↦ inl (subst (λ xs. Contains xs x) (sym anew.members) there)
      | inr (inr (inr (inr emptied))) ↦ absurd (apart emptied.clears)
      | inr (inr (inl came)) ↦ inl (stays_beside came.discipline came.who (on_chain s key) (on_chain v key) x came.members there)
    ]

-- ---- first in, first out

of_link : (b : Block) (verb : BlockVerb) (discipline : Discipline) → b.verb ≡ verb → LinksAtVerb b verb discipline →
    (b.verb ≡ blocks.Link) × (operand b B ≡ Some (Order discipline))
of_link b blocks.Link discipline is links = (is, links)
of_link b verb discipline is links = absurd links

-- a LINK is that of a block with this order
linked_by : (t : Listing) (seed : ℕ) (s : Machine) (m : Move) (streams : List Stream) (key : Key) (discipline : Discipline) →
    result_of t seed (decide s) ≡ Ok (m, streams) → IsLink key discipline m →
    (id : ℕ) × (b : Block) × (block_at t id ≡ Some b) × (b.verb ≡ blocks.Link) × (operand b B ≡ Some (Order discipline))
linked_by t seed s m streams key discipline goes link =
    let step = subst (IsStep t seed s) link.1 (move_is_step t seed s s.streams (m, streams) goes) in
    let a = step.1 in
    let both = of_link a.block a.block.verb discipline refl a.tried.1 in
    (a.id, a.block, a.there, both.0, both.1)

is_fifo : (t : Listing) → EachLinkIsFifo t → (discipline : Discipline) (id : ℕ) (b : Block) → block_at t id ≡ Some b → b.verb ≡ blocks.Link →
    operand b B ≡ Some (Order discipline) → discipline ≡ disciplines.Fifo
is_fifo t each discipline id b there verb order =
    let both : Some (Order discipline) ≡ Some (Order disciplines.Fifo) = sym order ∙ each id b there verb in cc

pub user_chains_are_first_in_first_out : UserChainsAreFirstInFirstOut
user_chains_are_first_in_first_out t seed s v each is key =
    let went = went_on t seed s v is in
    elim (user_chains_change_by_link_and_unlink t seed s v went.0.0 went.0.1 went.1 is key) [
      | inl same ↦ (0, [], ap (λ (c : UserChain). c.members) same ∙ sym (append-nil (on_chain s key)), inl refl)
      | inr (inl took) ↦ (took.count, [], took.members ∙ sym (append-nil (drop took.count (on_chain s key))), inl refl)
      | inr (inr (inr (inl anew))) ↦ (0, [], anew.members ∙ sym (append-nil (on_chain s key)), inl refl)
      | inr (inr (inr (inr emptied))) ↦
          (length (on_chain s key), [], ap (λ (c : UserChain). c.members) emptied.empty ∙ all_dropped (on_chain s key), inl refl)
      | inr (inr (inl came)) ↦
          let link = linked_by t seed s went.0.0 went.0.1 key came.discipline went.1 came.links in
          let fifo = is_fifo t each came.discipline link.0 link.1 link.2 link.3 link.4 in
          let now : on_chain v key ≡ on_chain s key ++ came.who ∷ [] =
          subst (λ d. IsPlacedBy d came.who (on_chain s key) (on_chain v key)) fifo came.members in
          (0, came.who ∷ [], now, inr (came.who, refl, came.was_active))
    ]
