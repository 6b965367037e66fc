-- The delay chains of a state: under a move, and where each of them has a property.
use Rattle.std.proofs.Common.{◌≡◌, ℕ, Bool, true, false, cond, List, [], ◌∷◌, ◌++◌, map, Option, Some, None, option_map, unwrap_or, refl, ap, sym, ◌∙◌}
use Rattle.std.proofs.lemmas.List.{map-append}
use Rattle.std.specs.List.{AllByRecursion}
use Rattle.gw_names.specs.declared.key.Key.{Key}
use Rattle.gw_names.specs.Keys.{key_eq}
use Rattle.gw_meaning.specs.Tables.{value_of, with_value}
use Rattle.gw_entities.proofs.TableLaws.{key_eq_equiv}
use Rattle.gw_meaning.specs.declared.transaction.Transaction.{Transaction}
use Rattle.gw_meaning.specs.Machine.{delay_at, waiting}
use Rattle.gw_frame.specs.Moved.{moved_transaction, moved_delay}
use Rattle.gw_frame.proofs.MovedLists.{cond_under}

module _ (move : ℕ → ℕ) where
  value_of_moved : (ds : List (Key × List Transaction)) (key : Key) →
      value_of (map (moved_delay move) ds) key ≡ option_map (map (moved_transaction move)) (value_of ds key)
  value_of_moved [] key = refl
  value_of_moved (d ∷ ds) key = cond_under (option_map (map (moved_transaction move))) (key_eq key d.0) _ _ _ _ refl (value_of_moved ds key)

  or_nobody_moved : (chain : Option (List Transaction)) →
      unwrap_or (option_map (map (moved_transaction move)) chain) [] ≡ map (moved_transaction move) (unwrap_or chain [])
  or_nobody_moved None = refl
  or_nobody_moved (Some xs) = refl

  pub delay_at_moved : (ds : List (Key × List Transaction)) (key : Key) →
      delay_at (map (moved_delay move) ds) key ≡ map (moved_transaction move) (delay_at ds key)
  delay_at_moved ds key = ap (λ o. unwrap_or o []) (value_of_moved ds key) ∙ or_nobody_moved (value_of ds key)

  pub with_delay_moved : (ds : List (Key × List Transaction)) (key : Key) (xs : List Transaction) →
      with_value (map (moved_delay move) ds) key (map (moved_transaction move) xs) ≡ map (moved_delay move) (with_value ds key xs)
  with_delay_moved [] key xs = refl
  with_delay_moved (d ∷ ds) key xs = cond_under (map (moved_delay move)) (key_eq key d.0) _ _ _ _ refl
      (ap (λ es. moved_delay move d ∷ es) (with_delay_moved ds key xs))

  pub waiting_moved : (ds : List (Key × List Transaction)) → waiting (map (moved_delay move) ds) ≡ map (moved_transaction move) (waiting ds)
  waiting_moved [] = refl
  waiting_moved (d ∷ ds) = ap (λ xs. map (moved_transaction move) d.1 ++ xs) (waiting_moved ds) ∙ sym (map-append (moved_transaction move) d.1 (waiting ds))

-- the chain that was set
pub delay_set : (ds : List (Key × List Transaction)) (key : Key) (xs : List Transaction) → delay_at (with_value ds key xs) key ≡ xs
delay_set [] key xs = rw (key_eq_equiv.refl key) refl
delay_set (d ∷ ds) key xs = go (key_eq key d.0) refl (delay_set ds key xs) where
  go : (b : Bool) → key_eq key d.0 ≡ b → delay_at (with_value ds key xs) key ≡ xs → delay_at (cond b ((d.0, xs) ∷ ds) (d ∷ with_value ds key xs)) key ≡ xs
  go true is rest = rw is refl
  go false is rest = rw is rest

-- where each chain has a property, so has the one of a key, and so have all with another one in its place
module _ (P : List Transaction → Type 0) where
  abbrev Each : List (Key × List Transaction) → Type 0
  Each = AllByRecursion (λ (d : Key × List Transaction). P d.1)

  pub delay_has : (ds : List (Key × List Transaction)) (key : Key) → P [] → Each ds → P (delay_at ds key)
  delay_has [] key none all = none
  delay_has (d ∷ ds) key none all = go (key_eq key d.0) (delay_has ds key none all.1) where
    go : (b : Bool) → P (delay_at ds key) → P (unwrap_or (cond b (Some d.1) (value_of ds key)) [])
    go true rest = all.0
    go false rest = rest

  pub with_delay_has : (ds : List (Key × List Transaction)) (key : Key) (xs : List Transaction) → P xs → Each ds → Each (with_value ds key xs)
  with_delay_has [] key xs one all = (one, tt)
  with_delay_has (d ∷ ds) key xs one all = go (key_eq key d.0) (with_delay_has ds key xs one all.1) where
    go : (b : Bool) → Each (with_value ds key xs) → Each (cond b ((d.0, xs) ∷ ds) (d ∷ with_value ds key xs))
    go true rest = (one, all.1)
    go false rest = (all.0, rest)
