-- What is watched, and who waits for a change of it, under a move.
use Rattle.std.proofs.Common.{◌≡◌, Bool, not, ◌||◌, ℕ, List, [], ◌∷◌, ◌++◌, map, filter, length, Option, Some, None, option_map, refl, ap, ap₂, sym, ◌∙◌}
use Rattle.std.proofs.lemmas.List.{map-append, length-map}
use Rattle.std.specs.List.{list_any}
use Rattle.gw_meaning.specs.declared.transaction.Transaction.{Transaction}
use Rattle.gw_meaning.specs.declared.watched.Watched.{Watched}
use Rattle.gw_meaning.specs.declared.watched.Watched.TheVariants as watched
use Rattle.gw_meaning.specs.Watching.{Waiter, same_watched, is_watched, with_watched, with_all_watched, transactions_of}
use Rattle.gw_meaning.specs.Evaluation.{counts_of}
use Rattle.gw_meaning.specs.Machine.{Machine}
use Rattle.gw_meaning.specs.Changes.{crossing, crossings, is_woken, retries, woken}
use Rattle.gw_frame.specs.Moved.{IsMove, moved_transaction, moved_watched, moved_waiter, moved_machine}
use Rattle.gw_frame.proofs.MovedLists.{cond_under, eq_moved, all_lined_up_moved}

-- a choice among the moved is the choice, moved
filter_moved : {X : Type 0} (f : X → X) (p q : X → Bool) → ((x : X) → p (f x) ≡ q x) → (xs : List X) → filter p (map f xs) ≡ map f (filter q xs)
filter_moved f p q same [] = refl
filter_moved f p q same (x ∷ xs) = rw (same x) (cond_under (map f) (q x) _ _ _ _ (ap (λ ys. f x ∷ ys) (filter_moved f p q same xs)) (filter_moved f p q same xs))

module _ (move : ℕ → ℕ) where
  pub transactions_of_moved : (ws : List Waiter) → transactions_of (map (moved_waiter move) ws) ≡ map (moved_transaction move) (transactions_of ws)
  transactions_of_moved [] = refl
  transactions_of_moved (w ∷ ws) = ap (λ xs. moved_transaction move w.transaction ∷ xs) (transactions_of_moved ws)

  pub counts_of_moved : (id : Option ℕ) → counts_of (option_map move id) ≡ map (moved_watched move) (counts_of id)
  counts_of_moved None = refl
  counts_of_moved (Some id) = refl

  crossing_moved : (x : Transaction) (to : Option ℕ) →
      crossing (moved_transaction move x) (option_map move to) ≡ map (moved_watched move) (crossing x to)
  crossing_moved x None = refl
  crossing_moved x (Some id) = refl

  pub crossings_moved : (grants : List (Option ℕ)) (xs : List Transaction) →
      crossings grants (map (moved_transaction move) xs) ≡ map (moved_watched move) (crossings grants xs)
  crossings_moved [] xs = refl
  crossings_moved (grant ∷ grants) [] = refl
  crossings_moved (None ∷ grants) (x ∷ xs) = crossings_moved grants xs
  crossings_moved (Some units ∷ grants) (x ∷ xs) =
      ap₂ (λ ws vs. ws ++ vs) (crossing_moved x x.destination) (crossings_moved grants xs) ∙
      sym (map-append (moved_watched move) (crossing x x.destination) (crossings grants xs))

module _ (move : ℕ → ℕ) (is : IsMove move) where
  same_watched_moved : (v w : Watched) → same_watched (moved_watched move v) (moved_watched move w) ≡ same_watched v w
  same_watched_moved (watched.Entity kind key) (watched.Entity other name) = refl
  same_watched_moved (watched.Entity kind key) (watched.Counts id) = refl
  same_watched_moved (watched.Counts id) (watched.Entity kind key) = refl
  same_watched_moved (watched.Counts p) (watched.Counts q) = eq_moved move is p q

  is_watched_moved : (list : List Watched) (w : Watched) → is_watched (map (moved_watched move) list) (moved_watched move w) ≡ is_watched list w
  is_watched_moved [] w = refl
  is_watched_moved (v ∷ vs) w = ap₂ (λ b c. b || c) (same_watched_moved w v) (is_watched_moved vs w)

  pub with_watched_moved : (list : List Watched) (w : Watched) →
      with_watched (map (moved_watched move) list) (moved_watched move w) ≡ map (moved_watched move) (with_watched list w)
  with_watched_moved list w = rw (is_watched_moved list w)
      (cond_under (map (moved_watched move)) (is_watched list w) _ _ _ _ refl (sym (map-append (moved_watched move) list (w ∷ []))))

  pub with_all_watched_moved : (list more : List Watched) →
      with_all_watched (map (moved_watched move) list) (map (moved_watched move) more) ≡ map (moved_watched move) (with_all_watched list more)
  with_all_watched_moved list [] = refl
  with_all_watched_moved list (w ∷ ws) =
      ap (λ vs. with_all_watched vs (map (moved_watched move) ws)) (with_watched_moved list w) ∙ with_all_watched_moved (with_watched list w) ws

  any_watched_moved : (list read : List Watched) →
      list_any (is_watched (map (moved_watched move) list)) (map (moved_watched move) read) ≡ list_any (is_watched list) read
  any_watched_moved list [] = refl
  any_watched_moved list (w ∷ ws) = ap₂ (λ b c. b || c) (is_watched_moved list w) (any_watched_moved list ws)

  is_woken_moved : (list : List Watched) (w : Waiter) → is_woken (map (moved_watched move) list) (moved_waiter move w) ≡ is_woken list w
  is_woken_moved list w = any_watched_moved list w.read

  pub woken_moved : (list : List Watched) (s : Machine) →
      woken (map (moved_watched move) list) (moved_machine move s) ≡ moved_machine move (woken list s)
  woken_moved list s =
      let ws = filter (is_woken list) s.retry in
      rw (
        filter_moved (moved_waiter move) (is_woken (map (moved_watched move) list)) (is_woken list) (is_woken_moved list) s.retry,
        filter_moved (moved_waiter move) (λ w. not (is_woken (map (moved_watched move) list) w)) (λ w. not (is_woken list w))
            (λ w. ap not (is_woken_moved list w)) s.retry,
        transactions_of_moved move ws,
        all_lined_up_moved move (transactions_of ws) s.current,
      )
      refl

  -- as many wait for a change of something
  pub retries_moved : (s : Machine) (w : Watched) → retries (moved_machine move s) (moved_watched move w) ≡ retries s w
  retries_moved s w =
      ap length (filter_moved (moved_waiter move) (λ v. is_watched v.read (moved_watched move w)) (λ v. is_watched v.read w)
      (λ v. is_watched_moved v.read w) s.retry) ∙ length-map (filter (λ (v : Waiter). is_watched v.read w) s.retry) (moved_waiter move)
