-- The user chains of a state: who is on each, under a move, and where each of them has a property. Beside the delay
-- chains, a user chain counts who was linked to it, too: for those who are on it, the laws of delay chains hold.
use Rattle.std.proofs.Common.{◌≡◌, ℕ, Bool, true, false, cond, List, [], ◌∷◌, map, length, Option, Some, None, option_map, unwrap_or, refl, ap, sym, ◌∙◌}
use Rattle.std.proofs.lemmas.List.{map-append, length-map}
use Rattle.std.specs.List.{AllByRecursion}
use Rattle.gw_names.specs.declared.key.Key.{Key}
use Rattle.gw_names.specs.Keys.{key_eq}
use Rattle.gw_expr.specs.declared.expr.Discipline.{Discipline}
use Rattle.gw_expr.specs.declared.expr.Discipline.TheVariants as disciplines
use Rattle.gw_meaning.specs.Tables.{value_of, with_value}
use Rattle.gw_entities.proofs.TableLaws.{key_eq_equiv}
use Rattle.gw_meaning.specs.declared.transaction.Transaction.{Transaction}
use Rattle.gw_meaning.specs.Machine.{UserChain, no_chain, user_chain_at, members_of, delay_at, waiting}
use Rattle.gw_meaning.specs.Changes.{linked_to, with_members}
use Rattle.gw_frame.specs.Moved.{moved_transaction, moved_delay, moved_chain, moved_linked}
use Rattle.gw_frame.proofs.MovedLists.{cond_under}
use Rattle.gw_frame.proofs.Delays.{waiting_moved}

-- the chain that was set, and each other one
pub chain_set : (cs : List (Key × UserChain)) (key : Key) (c : UserChain) → user_chain_at (with_value cs key c) key ≡ c
chain_set [] key c = rw (key_eq_equiv.refl key) refl
chain_set (d ∷ ds) key c = go (key_eq key d.0) refl (chain_set ds key c) where
  go : (b : Bool) → key_eq key d.0 ≡ b → user_chain_at (with_value ds key c) key ≡ c →
      user_chain_at (cond b ((d.0, c) ∷ ds) (d ∷ with_value ds key c)) key ≡ c
  go true is rest = rw is refl
  go false is rest = rw is rest

pub members_set : (cs : List (Key × UserChain)) (key : Key) (xs : List Transaction) → (user_chain_at (with_members cs key xs) key).members ≡ xs
members_set cs key xs = ap (λ (c : UserChain). c.members) (chain_set cs key _)

-- who is on a user chain, as who is on a delay chain
pub members_at : (cs : List (Key × UserChain)) (key : Key) → delay_at (members_of cs) key ≡ (user_chain_at cs key).members
members_at [] key = refl
members_at (d ∷ ds) key = go (key_eq key d.0) (members_at ds key) where
  go : (b : Bool) → delay_at (members_of ds) key ≡ (user_chain_at ds key).members →
      unwrap_or (cond b (Some d.1.members) (value_of (members_of ds) key)) [] ≡ (unwrap_or (cond b (Some d.1) (value_of ds key)) no_chain).members
  go true rest = refl
  go false rest = rest

pub members_with : (cs : List (Key × UserChain)) (key : Key) (c : UserChain) →
    members_of (with_value cs key c) ≡ with_value (members_of cs) key c.members
members_with [] key c = refl
members_with (d ∷ ds) key c =
    sym (cond_under members_of (key_eq key d.0) _ _ _ _ refl (ap (λ es. (d.0, d.1.members) ∷ es) (sym (members_with ds key c))))

module _ (move : ℕ → ℕ) where
  value_of_moved : (cs : List (Key × UserChain)) (key : Key) →
      value_of (map (moved_linked move) cs) key ≡ option_map (moved_chain move) (value_of cs key)
  value_of_moved [] key = refl
  value_of_moved (c ∷ cs) key = cond_under (option_map (moved_chain move)) (key_eq key c.0) _ _ _ _ refl (value_of_moved cs key)

  or_none_moved : (o : Option UserChain) → unwrap_or (option_map (moved_chain move) o) no_chain ≡ moved_chain move (unwrap_or o no_chain)
  or_none_moved None = refl
  or_none_moved (Some c) = refl

  pub user_chain_moved : (cs : List (Key × UserChain)) (key : Key) →
      user_chain_at (map (moved_linked move) cs) key ≡ moved_chain move (user_chain_at cs key)
  user_chain_moved cs key = ap (λ o. unwrap_or o no_chain) (value_of_moved cs key) ∙ or_none_moved (value_of cs key)

  pub content_moved : (cs : List (Key × UserChain)) (key : Key) →
      length (user_chain_at (map (moved_linked move) cs) key).members ≡ length (user_chain_at cs key).members
  content_moved cs key =
      ap (λ (c : UserChain). length c.members) (user_chain_moved cs key) ∙ length-map (user_chain_at cs key).members (moved_transaction move)

  pub entries_moved : (cs : List (Key × UserChain)) (key : Key) →
      (user_chain_at (map (moved_linked move) cs) key).entries ≡ (user_chain_at cs key).entries
  entries_moved cs key = ap (λ (c : UserChain). c.entries) (user_chain_moved cs key)

  pub linked_to_moved : (discipline : Discipline) (x : Transaction) (c : UserChain) →
      linked_to discipline (moved_transaction move x) (moved_chain move c) ≡ moved_chain move (linked_to discipline x c)
  linked_to_moved disciplines.Fifo x c = rw (map-append (moved_transaction move) c.members) refl
  linked_to_moved disciplines.Lifo x c = refl

  pub with_chain_moved : (cs : List (Key × UserChain)) (key : Key) (c : UserChain) →
      with_value (map (moved_linked move) cs) key (moved_chain move c) ≡ map (moved_linked move) (with_value cs key c)
  with_chain_moved [] key c = refl
  with_chain_moved (d ∷ ds) key c = cond_under (map (moved_linked move)) (key_eq key d.0) _ _ _ _ refl
      (ap (λ es. moved_linked move d ∷ es) (with_chain_moved ds key c))

  pub with_members_moved : (cs : List (Key × UserChain)) (key : Key) (xs : List Transaction) →
      with_members (map (moved_linked move) cs) key (map (moved_transaction move) xs) ≡ map (moved_linked move) (with_members cs key xs)
  with_members_moved cs key xs =
      rw (entries_moved cs key) (with_chain_moved cs key (record { entries = (user_chain_at cs key).entries; members = xs }))

  members_moved : (cs : List (Key × UserChain)) → members_of (map (moved_linked move) cs) ≡ map (moved_delay move) (members_of cs)
  members_moved [] = refl
  members_moved (c ∷ cs) = ap (λ ds. moved_delay move (c.0, c.1.members) ∷ ds) (members_moved cs)

  pub linked_moved : (cs : List (Key × UserChain)) →
      waiting (members_of (map (moved_linked move) cs)) ≡ map (moved_transaction move) (waiting (members_of cs))
  linked_moved cs = ap waiting (members_moved cs) ∙ waiting_moved move (members_of cs)

-- where those on each chain have a property, so have those on the one of a key, and so have all with another one in its
-- place
module _ (P : List Transaction → Type 0) where
  abbrev Each : List (Key × UserChain) → Type 0
  Each = AllByRecursion (λ (c : Key × UserChain). P c.1.members)

  pub members_have : (cs : List (Key × UserChain)) (key : Key) → P [] → Each cs → P (user_chain_at cs key).members
  members_have [] key none all = none
  members_have (c ∷ cs) key none all = go (key_eq key c.0) (members_have cs key none all.1) where
    go : (b : Bool) → P (user_chain_at cs key).members → P (unwrap_or (cond b (Some c.1) (value_of cs key)) no_chain).members
    go true rest = all.0
    go false rest = rest

  pub with_chain_has : (cs : List (Key × UserChain)) (key : Key) (d : UserChain) → P d.members → Each cs → Each (with_value cs key d)
  with_chain_has [] key d one all = (one, tt)
  with_chain_has (c ∷ cs) key d one all = go (key_eq key c.0) (with_chain_has cs key d one all.1) where
    go : (b : Bool) → Each (with_value cs key d) → Each (cond b ((c.0, d) ∷ cs) (c ∷ with_value cs key d))
    go true rest = (one, all.1)
    go false rest = (all.0, rest)
